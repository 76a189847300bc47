use Rattle.macro_script.proofs.Names.{ℤ, List, ℕ, subst, ◌∙◌, ◌≡◌, ◌++◌, flat_map, SFits, w64, to_z-of_z, rules, printed_answer, printed_note, AppendsPart}
use Rattle.macro_script.proofs.Pieces.{stopped, first_part, then_all}
use Rattle.macro_script.proofs.printing.append_reply.Goals as goal

pub returns-in_err-append_answer : goal.returns-in_err-append_answer
returns-in_err-append_answer c =
    let fits : SFits w64 c.value.result = search rules in
    let P : ℤ → Type 0 = λ value. AppendsPart c.args.out.now.items c.append_answer.new.out.items (printed_answer value c.text.result.now) in
    let Q : List ℕ → Type 0 = λ text. AppendsPart c.args.out.now.items c.append_answer.new.out.items (printed_answer c.args.reply.now.value text) in
    stopped _ _ _ c.from_residual.result c.from_residual.ensures.0
    (first_part _ _ (printed_answer c.args.reply.now.value c.args.reply.now.text) (flat_map printed_note c.args.reply.now.notes) (subst Q c.text.ensures (subst P (to_z-of_z fits ∙ c.value.ensures) c.in_err-append_answer.ensures)))

pub returns : goal.returns
returns c =
    let fits : SFits w64 c.value.result = search rules in
    let P : ℤ → Type 0 = λ value. c.append_answer.new.out.items ≡ c.args.out.now.items ++ printed_answer value c.text.result.now in
    let Q : List ℕ → Type 0 = λ text. c.append_answer.new.out.items ≡ c.args.out.now.items ++ printed_answer c.args.reply.now.value text in
    then_all _ _ _ (printed_answer c.args.reply.now.value c.args.reply.now.text) (flat_map printed_note c.args.reply.now.notes) c.append_notes.result
    (subst Q c.text.ensures (subst P (to_z-of_z fits ∙ c.value.ensures) c.in_ok-append_answer.ensures)) c.append_notes.ensures
