-- The smallest range that holds all changes is that of the model.
use Rattle.decorations.proofs.Names.{◌≡◌, ◌≢◌, ℕ, zero, suc, ◌+◌, ◌-◌, ◌<◌, ◌≤◌, List, length, get_or, Option, Some, None, IfNone, IfSome, sym, ap, ◌∙◌, arith, slice_get, slice_get-get_or, get_or-take, get_or-drop, changed_range, nothing_changed, filled, length_filled, IsChangedRange}
use Rattle.ed_model.specs.proved.Indicators.{changed_between}

apart : (old new : List ℕ) (k : ℕ) → k < length old → length new ≡ length old → slice_get new k ≢ slice_get old k → get_or old k 0 ≢ get_or new k 0
apart old new k h e other = λ same. other (slice_get-get_or new k 0 (omega arith) ∙ ap Some (sym same) ∙ sym (slice_get-get_or old k 0 h))

pub changed_is : (old new : List ℕ) (range : ℕ × ℕ) → length new ≡ length old → IsChangedRange old new range → changed_range old new ≡ Some range
changed_is old new (a, zero) e range = absurd (omega (arith, range.some))
changed_is old new (a, suc n) e range =
    let past : a + suc n - a ≡ suc n = omega arith in
    changed_between old new a (a + suc n) e (omega arith) range.within
    (apart old new a (omega (arith, range.within)) e range.first)
    (apart old new (a + suc n - 1) (omega (arith, range.within)) e range.last)
    (λ k l. sym (get_or-take a new k 0 l) ∙ ap (λ xs. get_or xs k 0) range.before ∙ get_or-take a old k 0 l)
    (λ k l. let j : a + suc n + (k - (a + suc n)) ≡ k = omega arith in
    ap (λ i. get_or new i 0) (sym j) ∙ sym (get_or-drop (a + suc n) new (k - (a + suc n)) 0) ∙ ap (λ xs. get_or xs (k - (a + suc n)) 0) range.behind ∙ get_or-drop (a + suc n) old (k - (a + suc n)) 0 ∙ ap (λ i. get_or old i 0) j)
    ∙ ap (λ m. Some (a, m)) past

-- what a fill of runs returns
answer_is : (answer : Option (ℕ × ℕ)) (old new : List ℕ) → length new ≡ length old → IfNone answer (new ≡ old) → IfSome answer (IsChangedRange old new) → answer ≡ changed_range old new
answer_is None old new e none some = sym (ap (changed_range old) none ∙ nothing_changed old)
answer_is (Some range) old new e none some = sym (changed_is old new range e some)

pub fill_answer :
    (answer : Option (ℕ × ℕ)) (old new before : List ℕ) (start count value : ℕ) → old ≡ before → new ≡ filled start count value before → start + count ≤ length before
    → IfNone answer (new ≡ old) → IfSome answer (IsChangedRange old new) → answer ≡ changed_range before (filled start count value before)
fill_answer answer old new before start count value o n inside none some =
    answer_is answer old new (ap length n ∙ length_filled start count value before inside ∙ ap length (sym o)) none some ∙ ap (λ vs. changed_range vs new) o ∙ ap (changed_range before) n
