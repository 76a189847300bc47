-- The effect of a step on the values of one indicator, whether it has runs or is 0 everywhere.
use Rattle.decorations.proofs.Names.{◌≡◌, ℕ, ◌+◌, ◌-◌, ◌<◌, ◌≤◌, ◌==◌, nat_eq, ◌||◌, Bool, true, false, if◌then◌else◌, List, ◌++◌, length, take, drop, replicate, get_or, Option, Some, None, is_some, IfSome, true≢false, refl, sym, ap, ◌∙◌, subst, arith, inl, inr, take-append-drop, append_assoc, cond_both, cases_lt, length-append, length-take, length-drop, length-replicate, take-replicate, drop-replicate, replicate-append-replicate, get_or-replicate, get_or_past, get_or_append_left, get_or-append-add, ext_get_or, All-append, All-replicate, inserted_value, indicator_after, filled, Insert, Delete, Runs, inserted, deleted, IsClear, shown, AreKept, IsKept, TookIn, InBoth, GaveAway}
use Rattle.std.specs.Bool.{IsTrue}
use Rattle.run_styles.specs.Runs.{filled as runs_filled, inserted_value as runs_value}

-- Zeros.

pub zeros_at : (n k : ℕ) → get_or (replicate {A = ℕ} n 0) k 0 ≡ 0
zeros_at n k = elim (cases_lt k n) [ inl inside ↦ get_or-replicate n k 0 0 inside | inr past ↦ get_or_past (replicate n 0) k 0 (omega (arith, length-replicate {A = ℕ} n 0)) ]

pub zeros_clear : (n : ℕ) → IsClear (replicate n 0)
zeros_clear n = All-replicate (λ v. v ≡ 0) n 0 refl

pub clear_zeros : (values : List ℕ) → IsClear values → values ≡ replicate (length values) 0
clear_zeros values clear = ext_get_or 0 values (replicate (length values) 0) (sym (length-replicate (length values) 0)) (λ k h. clear k 0 h ∙ sym (zeros_at (length values) k))

zeros_inserted_value : (n p : ℕ) → inserted_value (replicate n 0) p ≡ 0
zeros_inserted_value n p =
    cond_both (p == 0 || p == length (replicate n 0) || get_or (replicate n 0) p 0 == 0) 0 (get_or (replicate n 0) (p - 1) 0) (λ v. v ≡ 0) (λ _. refl) (λ _. zeros_at n (p - 1))

zeros_inserted : (n p : ℕ) (bytes : List ℕ) → p ≤ n → indicator_after (Insert p bytes) (replicate n 0) ≡ replicate (n + length bytes) 0
zeros_inserted n p bytes h =
    let count : p + length bytes + (n - p) ≡ n + length bytes = omega arith in
    rw (zeros_inserted_value n p, take-replicate {X = ℕ} p n 0 h, drop-replicate {X = ℕ} p n 0, replicate-append-replicate {A = ℕ} p (length bytes) 0, replicate-append-replicate {A = ℕ} (p + length bytes) (n - p) 0, count)

zeros_deleted : (n p : ℕ) (bytes : List ℕ) → p + length bytes ≤ n → indicator_after (Delete p bytes) (replicate n 0) ≡ replicate (n - length bytes) 0
zeros_deleted n p bytes h =
    let inside : p ≤ n = omega arith in
    let count : p + (n - (p + length bytes)) ≡ n - length bytes = omega arith in
    rw (take-replicate {X = ℕ} p n 0 inside, drop-replicate {X = ℕ} (p + length bytes) n 0, replicate-append-replicate {A = ℕ} p (n - (p + length bytes)) 0, count)

-- An insertion.

clear_left : (xs ys : List ℕ) → IsClear (xs ++ ys) → IsClear xs
clear_left xs ys clear k d h = sym (get_or_append_left xs ys d k h) ∙ clear k d (omega (arith, length-append {A = ℕ} xs ys))

clear_right : (xs ys : List ℕ) → IsClear (xs ++ ys) → IsClear ys
clear_right xs ys clear k d h = sym (get_or-append-add xs ys k d) ∙ clear (length xs + k) d (omega (arith, length-append {A = ℕ} xs ys))

inserted_clear : (values : List ℕ) (place count v : ℕ) → IsClear (inserted values place count v) → IsClear values
inserted_clear values place count v clear =
    let P : ℕ → Type 0 = λ x. x ≡ 0 in
    let Q : List ℕ → Type 0 = IsClear in
    let front = clear_left (take place values) (replicate count v ++ drop place values) clear in
    let back = clear_right (replicate count v) (drop place values) (clear_right (take place values) (replicate count v ++ drop place values) clear) in
    subst Q (take-append-drop place values) (All-append P (take place values) (drop place values) front back)

inserted_length : (values : List ℕ) (place count v : ℕ) → place ≤ length values → length (inserted values place count v) ≡ length values + count
inserted_length values place count v h = simp (length-append, length-take, length-drop, length-replicate) (omega arith)

pub took_kept : (size place count : ℕ) (old new : Runs ℕ) → place ≤ size → AreKept size old → TookIn place count old new → AreKept (size + count) new
took_kept size place count old new h kept took = record {
  sized = ap (λ (r : Runs ℕ). length r.values) took.0 ∙ inserted_length old.values place count _ (omega (arith, kept.sized)) ∙ ap (λ n. n + count) kept.sized;
  default = ap (λ (r : Runs ℕ). r.default) took.0 ∙ kept.default;
  used = rw (ap (λ (r : Runs ℕ). r.values) took.0) (λ clear. kept.used (inserted_clear old.values place count _ clear));
}

or_joined : (a b c : Bool) → ((a || b) || c) ≡ (a || (b || c))
or_joined true b c = refl
or_joined false b c = refl

-- the inserted values are those of the model
inserted_same : (values : List ℕ) (p : ℕ) → runs_value nat_eq 0 values p ≡ inserted_value values p
inserted_same values p =
    ap (λ (t : Bool). if t then 0 else get_or values (p - 1) 0) (sym (or_joined (p == 0) (p == length values) (get_or values p 0 == 0)))

pub took_shown : (size place count : ℕ) (bytes : List ℕ) (old new : Option (Runs ℕ)) → place ≤ size → length bytes ≡ count → IsKept size old → InBoth (TookIn place count) old new →
    shown (size + count) new ≡ indicator_after (Insert place bytes) (shown size old)
took_shown size place count bytes None new h e kept took = rw (took, ← e) (sym (zeros_inserted size place bytes h))
took_shown size place count bytes (Some old) None h e kept took = absurd took
took_shown size place count bytes (Some old) (Some new) h e kept took =
    rw (ap (λ (r : Runs ℕ). r.values) took.0, kept.default, inserted_same old.values place, ← e) (sym (append_assoc (take place old.values) (replicate (length bytes) (inserted_value old.values place)) (drop place old.values)))

-- A deletion.

pub gave_shown : (size place count : ℕ) (bytes : List ℕ) (old new : Option (Runs ℕ)) → place + count ≤ size → length bytes ≡ count → IsKept size old → GaveAway place count old new →
    shown (size - count) new ≡ indicator_after (Delete place bytes) (shown size old)
gave_shown size place count bytes None new h e kept gave = rw (gave, ← e) (sym (zeros_deleted size place bytes (omega arith)))
gave_shown size place count bytes (Some old) None h e kept gave =
    let long : length (deleted old.values place count) ≡ size - count = simp (length-append, length-take, length-drop) (omega (arith, kept.sized)) in
    rw e (sym (clear_zeros (deleted old.values place count) gave ∙ ap (λ n. replicate n 0) long))
gave_shown size place count bytes (Some old) (Some new) h e kept gave = rw (ap (λ (r : Runs ℕ). r.values) gave.0, ← e)

-- A slot.

pub shown_length : (size : ℕ) (slot : Option (Runs ℕ)) → IsKept size slot → length (shown size slot) ≡ size
shown_length size None kept = length-replicate {A = ℕ} size 0
shown_length size (Some runs) kept = kept.sized

-- a place of the text is a place of the runs
pub kept_place : (size place : ℕ) (slot : Option (Runs ℕ)) → place < size → IsKept size slot → IfSome slot (λ (runs : Runs ℕ). place < length runs.values)
kept_place size place None h kept = tt
kept_place size place (Some runs) h kept = omega (arith, kept.sized)

-- so the indicator is used exactly if it has runs
pub tells_used : (size : ℕ) (slot : Option (Runs ℕ)) (values : List ℕ) (b : Bool) → IsKept size slot → b ≡ is_some slot → values ≡ shown size slot → (IsTrue b → IsClear values → ⊥) × ((IsClear values → ⊥) → IsTrue b)
tells_used size None values b kept e f =
    let Q : List ℕ → Type 0 = IsClear in (λ yes clear. true≢false (sym yes ∙ e), λ unclear. absurd (unclear (subst Q (sym f) (zeros_clear size))))
tells_used size (Some runs) values b kept e f = let Q : List ℕ → Type 0 = IsClear in (λ yes clear. kept.used (subst Q f clear), λ unclear. e)

-- A fill.

filled_same : (values : List ℕ) (start count value : ℕ) → runs_filled values start count value ≡ filled start count value values
filled_same values start count value = sym (append_assoc (take start values) (replicate count value) (drop (start + count) values))

-- what a fill of runs leaves
pub fill_is :
    (new old : Runs ℕ) (before : List ℕ) (start count value : ℕ) → new ≡ record old { values = runs_filled old.values start count value } → old.values ≡ before
    → new.values ≡ filled start count value before
fill_is new old before start count value e f =
    ap (λ (r : Runs ℕ). r.values) e ∙ ap (λ vs. runs_filled vs start count value) f ∙ filled_same before start count value

pub default_of : (size : ℕ) (slot : Option (Runs ℕ)) → IsKept size slot → IfSome slot (λ (runs : Runs ℕ). runs.default ≡ 0)
default_of size None kept = tt
default_of size (Some runs) kept = kept.default
