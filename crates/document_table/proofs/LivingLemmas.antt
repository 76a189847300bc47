-- The documents that are left after one has lost a reference, and the model's change of all documents.
use Rattle.std.proofs.Common.{◌≡◌, ℕ, ◌+◌, ◌<◌, ◌==◌, Bool, true, false, cond, List, [], ◌∷◌, map, Option, Some, None, refl, arith, option_map}
use Rattle.std.specs.Prelude.{nat_lt}
use Rattle.std.specs.List.{AllByRecursion}
use Rattle.std.proofs.lemmas.Bool.{eqb-true, eqb-false, ne_eqb, lt-ltb}
use Rattle.ed_model.specs.Session.{Document, references, living}
use Rattle.id_table.specs.Entries.{Entry, Rise, id_of, value_of, value_at, with_value_at, without_id}
use Rattle.document_table.specs.Leaving.{let_go, left_over, left_over_of, IsChangedAlike, LeavesTheLiving}

abbrev pub is_referenced : Entry Document → Type 0
is_referenced e = 0 < references e.value

-- Above the id nothing changes.

with_above : (id low next : ℕ) (d : Document) (es : List (Entry Document)) → id < low → Rise low next (map (id_of {V = Document}) es) → with_value_at id d es ≡ es
with_above id low next d [] lt rise = refl
with_above id low next d (e ∷ es) lt rise =
    rw (ne_eqb e.id id (λ k. omega (arith, k, lt, rise.0)), with_above id (e.id + 1) next d es (omega (arith, lt, rise.0)) rise.2) refl

without_above : (id low next : ℕ) (es : List (Entry Document)) → id < low → Rise low next (map (id_of {V = Document}) es) → without_id id es ≡ es
without_above id low next [] lt rise = refl
without_above id low next (e ∷ es) lt rise =
    rw (ne_eqb e.id id (λ k. omega (arith, k, lt, rise.0)), without_above id (e.id + 1) next es (omega (arith, lt, rise.0)) rise.2) refl

living_above : (id low next : ℕ) (change each : Document → Document) (es : List (Entry Document)) → id < low → Rise low next (map (id_of {V = Document}) es) → AllByRecursion is_referenced es → AllByRecursion (IsChangedAlike id change each) es
    → living (map each (map (value_of {V = Document}) es)) ≡ map (value_of {V = Document}) es
living_above id low next change each [] lt rise held alike = refl
living_above id low next change each (e ∷ es) lt rise held alike =
    rw (alike.0.1 (λ k. omega (arith, k, lt, rise.0)), lt-ltb 0 (references e.value) held.0, living_above id (e.id + 1) next change each es (omega (arith, lt, rise.0)) rise.2 held.1 alike.1) refl

-- At the id.

left_first : (b : Bool) (id : ℕ) (d : Document) (e : Entry Document) (es : List (Entry Document)) (rest : List Document)
    → nat_lt 0 (references d) ≡ b → (e.id == id) ≡ true → with_value_at id d es ≡ es → without_id id es ≡ es → rest ≡ map (value_of {V = Document}) es
    → map (value_of {V = Document}) (left_over id d (e ∷ es)) ≡ cond b (d ∷ rest) rest
left_first true id d e es rest held here with_same without_same same = rw (held, here, with_same, same) refl
left_first false id d e es rest held here with_same without_same same = rw (held, here, without_same, same) refl

-- Before it.

left_later : (id : ℕ) (e : Entry Document) (es : List (Entry Document)) (o : Option Document) → (e.id == id) ≡ false → left_over_of id (e ∷ es) o ≡ e ∷ left_over_of id es o
left_later id e es None other = refl
left_later id e es (Some d) other = by_test (nat_lt 0 (references d))
  where
    by_test : (b : Bool) → cond b (with_value_at id d (e ∷ es)) (without_id id (e ∷ es)) ≡ e ∷ cond b (with_value_at id d es) (without_id id es)
    by_test true = rw other refl
    by_test false = rw other refl

pub living_left : LeavesTheLiving
living_left id low next change each [] rise held alike = refl
living_left id low next change each (e ∷ es) rise held alike = by_test (e.id == id) refl (living_left id (e.id + 1) next change each es rise.2 held.1 alike.1)
  where
    by_test : (b : Bool) → (e.id == id) ≡ b → map (value_of {V = Document}) (let_go id change es) ≡ living (map each (map (value_of {V = Document}) es))
        → map (value_of {V = Document}) (let_go id change (e ∷ es)) ≡ living (map each (map (value_of {V = Document}) (e ∷ es)))
    by_test true t more =
        let here : e.id ≡ id = eqb-true e.id id t in
        let d = change e.value in
        let below : id < e.id + 1 = omega (arith, here) in
        rw (t, alike.0.0 here) (left_first (nat_lt 0 (references d)) id d e es _ refl t (with_above id (e.id + 1) next d es below rise.2) (without_above id (e.id + 1) next es below rise.2) (living_above id (e.id + 1) next change each es below rise.2 held.1 alike.1))
    by_test false t more =
        rw (t, left_later id e es (option_map change (value_at es id)) t, alike.0.1 (eqb-false e.id id t), lt-ltb 0 (references e.value) held.0, ← more) refl
