use Rattle.macro_script.proofs.Names.{◌≡◌, ◌++◌, ◌∷◌, ℤ, pos, get_or, subst, SFits, w64, to_z-of_z, rules, spelled_int, AppendsPart}
use Rattle.macro_script.proofs.Pieces.{stopped, field_stopped, one_field_more}
use Rattle.macro_script.proofs.appending.append_fields.Goals as goal

pub returns-in_err-append_field : goal.returns-in_err-append_field
returns-in_err-append_field c =
    let fits : SFits w64 (get_or c.args.numbers.now c.loop-number.number-index (pos 0)) = search rules in
    let P : ℤ → Type 0 = λ z. AppendsPart c.loop-number.out.items c.append_field.new.out.items (32 ∷ spelled_int z) in
    stopped _ _ _ c.from_residual.result c.from_residual.ensures.0
    (field_stopped c.args.numbers.now c.loop-number.number-index _ c.loop-number.out.items _ c.loop-number-test.true c.loop-number.invariant (subst P (to_z-of_z fits) c.in_err-append_field.ensures))

pub loop-number-preserved : goal.loop-number-preserved
loop-number-preserved c =
    let fits : SFits w64 (get_or c.args.numbers.now c.loop-number.number-index (pos 0)) = search rules in
    let P : ℤ → Type 0 = λ z. c.append_field.new.out.items ≡ c.loop-number.out.items ++ (32 ∷ spelled_int z) in
    one_field_more c.args.numbers.now c.loop-number.number-index _ c.loop-number.out.items _ c.loop-number-test.true c.loop-number.invariant (subst P (to_z-of_z fits) c.in_ok-append_field.ensures)
