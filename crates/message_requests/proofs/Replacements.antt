-- The plan of a replacement does not depend on which bytes are deleted and inserted, but only on how many.
use Rattle.std.proofs.Common.{◌≡◌, ℕ, ℤ, suc, ◌+◌, ◌-◌, ◌≤◌, ◌<◌, ◌==◌, ◌||◌, ◌&&◌, nat_le, Bool, true, false, List, [], ◌∷◌, ◌++◌, length, refl, ap, sym, ◌∙◌, arith, slice_range}
use Rattle.std.proofs.lemmas.List.{length-map}
use Rattle.std.proofs.lemmas.Bool.Decides.{nat_tests}
use Rattle.std.proofs.Math.Bool.{and-true, and-false}
use Rattle.std.specs.Prelude.{nat_lt}
use Rattle.ed_model.specs.declared.plan.Source.{Source}
use Rattle.ed_model.specs.declared.plan.Edit.TheVariants as edit
use Rattle.ed_model.specs.declared.plan.Plan.{Plan}
use Rattle.ed_model.specs.declared.plan.Plan.TheVariants as plan
use Rattle.ed_model.specs.declared.plan.Follow.{Follow}
use Rattle.ed_model.specs.Text.{Cell}
use Rattle.ed_model.specs.Steps.{deletion, insertion}
use Rattle.ed_model.specs.Session.{limit_of}
use Rattle.ed_model.specs.Requests.{Request, text, size}
use Rattle.ed_model.specs.Edits.{stays_within, has_steps, edit_of_steps, source_bytes, steps_of, edit_plan}
use Rattle.ed_model.specs.proved.Lists.{length_slice}
use Rattle.message_requests.specs.Replacing.{edit_if, keeps_limit}

some_is_not_none : (n : ℕ) → (suc n == 0) ≡ false
some_is_not_none n = grind (arith, nat_tests)

some_is_more : (n : ℕ) → nat_lt 0 (suc n) ≡ true
some_is_more n = grind (arith, nat_tests)

has : (start : ℕ) (gone come : List ℕ) → has_steps (deletion start gone ++ insertion start come) ≡ (nat_lt 0 (length gone) || nat_lt 0 (length come))
has start [] [] = refl
has start [] (b ∷ bs) = sym (some_is_more (length bs))
has start (g ∷ gs) come = ap (λ some. some || nat_lt 0 (length come)) (sym (some_is_more (length gs)))

keeps : (limit n start : ℕ) (gone come : List ℕ) → stays_within limit n (deletion start gone ++ insertion start come) ≡ keeps_limit limit n (length gone) (length come)
keeps limit n start [] [] = refl
keeps limit n start [] (b ∷ bs) =
    let added = length (b ∷ bs) in
    let whole : n ≡ n - 0 = omega arith in
    and-true (nat_le (n + added) limit)
    ∙ ap (λ left. nat_le (left + added) limit) whole
    ∙ ap (λ none. none || nat_le (n - 0 + added) limit) (sym (some_is_not_none (length bs)))
keeps limit n start (g ∷ gs) [] =
    let one = nat_le (n - length (g ∷ gs)) limit in
    ap (λ none. (none || one) && true) (sym (some_is_not_none (length gs)))
keeps limit n start (g ∷ gs) (b ∷ bs) =
    let one = nat_le (n - length (g ∷ gs)) limit in
    let two = nat_le (n - length (g ∷ gs) + length (b ∷ bs)) limit in
    ap (λ last. one && last) (and-true two)
    ∙ ap (λ none. (none || one) && two) (sym (some_is_not_none (length gs)))
    ∙ ap (λ none. (length (g ∷ gs) == 0 || one) && (none || two)) (sym (some_is_not_none (length bs)))

replacement_planned : (r : Request) (start count : ℕ) (from : Source) (added : ℕ) (done : Plan) → start + count ≤ size r → added ≡ length (source_bytes r from) →
    edit_if (r.document.read_only && (nat_lt 0 count || nat_lt 0 added)) (keeps_limit (limit_of r.session.limits r.document) (size r) count added) done
    ≡ edit_of_steps r done (steps_of r (edit.Replace start count from))
replacement_planned r start count from added done within is =
    let gone = slice_range (text r) start (start + count) in
    let as_long : length (text r) ≡ size r = length-map r.document.cells (λ (c : Cell). c.byte) in
    let counted : length gone ≡ count = length_slice (text r) start count (omega (arith, as_long)) in
    let limit = limit_of r.session.limits r.document in
    ap (λ n. edit_if (r.document.read_only && (nat_lt 0 n || nat_lt 0 added)) (keeps_limit limit (size r) n added) done) (sym counted)
    ∙ ap (λ n. edit_if (r.document.read_only && (nat_lt 0 (length gone) || nat_lt 0 n)) (keeps_limit limit (size r) (length gone) n) done) is
    ∙ ap (λ some. edit_if (r.document.read_only && some) (keeps_limit limit (size r) (length gone) (length (source_bytes r from))) done) (sym (has start gone (source_bytes r from)))
    ∙ ap (λ fits. edit_if (r.document.read_only && has_steps (steps_of r (edit.Replace start count from))) fits done) (sym (keeps limit (size r) start gone (source_bytes r from)))

-- the same, with both decisions as arguments
pub replacement_decided : (r : Request) (start count : ℕ) (from : Source) (added : ℕ) (done : Plan) (kept_out within : Bool) → start + count ≤ size r → added ≡ length (source_bytes r from) →
    kept_out ≡ (r.document.read_only && (nat_lt 0 count || nat_lt 0 added)) → within ≡ keeps_limit (limit_of r.session.limits r.document) (size r) count added →
    edit_if kept_out within done ≡ edit_of_steps r done (steps_of r (edit.Replace start count from))
replacement_decided r start count from added done kept_out within range is out_is within_is =
    ap (λ out. edit_if out within done) out_is
    ∙ ap (λ keeps. edit_if (r.document.read_only && (nat_lt 0 count || nat_lt 0 added)) keeps done) within_is
    ∙ replacement_planned r start count from added done range is

beyond : (limit n start count added : ℕ) → start + count ≤ n → 0 < added → limit < start + added → keeps_limit limit n count added ≡ false
beyond limit n start count added within some far =
    let none : (added == 0) ≡ false = grind (arith, nat_tests) in
    let more : nat_le (n - count + added) limit ≡ false = grind (arith, nat_tests) in
    rw none (rw more (and-false (count == 0 || nat_le (n - count) limit)))

-- if the text would pass its limit, it does not matter what the edit does after its steps
pub passed_over : (r : Request) (start count : ℕ) (from : Source) (added : ℕ) (value : ℤ) (one other : Follow) → start + count ≤ size r → added ≡ length (source_bytes r from)
    → 0 < added → limit_of r.session.limits r.document < start + added → edit_plan r (edit.Replace start count from) value one ≡ edit_plan r (edit.Replace start count from) value other
passed_over r start count from added value one other within is some far =
    let change = edit.Replace start count from in
    let out = r.document.read_only && (nat_lt 0 count || nat_lt 0 added) in
    let over = beyond (limit_of r.session.limits r.document) (size r) start count added within some far in
    sym (replacement_planned r start count from added (plan.Edit change value one) within is)
    ∙ ap (λ fits. edit_if out fits (plan.Edit change value one)) over
    ∙ ap (λ fits. edit_if out fits (plan.Edit change value other)) (sym over)
    ∙ replacement_planned r start count from added (plan.Edit change value other) within is
