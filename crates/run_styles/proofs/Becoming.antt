-- What each step makes of a table: the list that it stands for then, and how many runs it has.
use Rattle.run_styles.proofs.Names.{◌≡◌, ℕ, ◌+◌, ◌-◌, ◌<◌, ◌≤◌, ◌⊎◌, Bool, List, [], ◌∷◌, ◌++◌, Some, length, take, drop, map, refl, sym, ap, ◌∙◌, arith, get_or, get_or_default, get_or_past, ⊎_elim, length-append, length-take-le, length-drop, length-map, set, slice_get, inserted, deleted}
use Rattle.run_styles.proofs.ByIndex.{cleared, drop_stands, length_table, run_top, runs_some, shrink_stands, split_stands}
use Rattle.run_styles.proofs.Filling.{joined, replaced}
use Rattle.run_styles.proofs.Inserting.{first_places}
use Rattle.run_styles.specs.Runs.{with_space}
use Rattle.run_styles.proofs.Steps.{first_parts, last_parts}
use Rattle.run_styles.specs.Table.{Becomes, IsSound, Table, deleted_from_run, end_of_run, grown, list_of, runs_filled, shrunk, split_at, start_of_run, united, with_first, with_last, without_run}

-- the starts behind a run, moved
pub length-moved : (f : ℕ → ℕ) (S : List ℕ) (i : ℕ) → i ≤ length S → length (take i S ++ map f (drop i S)) ≡ length S
length-moved f S i h = omega (arith, length-append (take i S) (map f (drop i S)), length-take-le i S h, length-map (drop i S) f, length-drop i S)

module _ {V : Type 0} {xs : List V} {old new last : Table V} where
  -- a step that leaves the list as it is comes last
  pub then_recut : Becomes 0 xs old new → Becomes 0 (list_of new) new last → Becomes 0 xs old last
  then_recut b c = record { list = c.list ∙ b.list; few = omega (arith, b.few, c.few); capacity = c.capacity ∙ b.capacity }

module _ {V : Type 0} {t : Table V} where
  united_becomes : (from to : ℕ) (v : V) {xs : List V} → from < to → to ≤ length t.starts → list_of (united from to v t) ≡ xs → Becomes 0 xs t (united from to v t)
  united_becomes from to v o h e = record {
    list = e;
    few = omega (arith, length-append (take (from + 1) t.starts) (drop to t.starts), length-take-le (from + 1) t.starts (omega arith), length-drop to t.starts);
    capacity = refl;
  }

  pub grown_becomes : (more i k : ℕ) {xs : List V} → i < length t.starts → list_of (grown i k t) ≡ xs → Becomes more xs t (grown i k t)
  grown_becomes more i k h e = record { list = e; few = omega (arith, length-moved (λ s. s + k) t.starts (i + 1) (omega arith)); capacity = refl }

module _ {V : Type 0} {eq : V → V → Bool} {t : Table V} where
  pub split_becomes : (i q : ℕ) → IsSound eq t → i < length t.starts → start_of_run t i < q → q < end_of_run t i → Becomes 1 (list_of t) t (split_at i q t)
  split_becomes i q s h low high = record {
    list = (split_stands i q s.table (omega (arith, run_top i s.table h)) h low high).list;
    few = omega (arith, length-append (take (i + 1) t.starts) (q ∷ drop (i + 1) t.starts), length-take-le (i + 1) t.starts (omega arith), length-drop (i + 1) t.starts);
    capacity = refl;
  }

  pub replaced_becomes : (first last from to : ℕ) (v : V) → IsSound eq t → 0 < length (list_of t) → first < last → last ≤ length t.starts
      → (from ≡ first) ⊎ ((from + 1 ≡ first) × (slice_get t.values from ≡ Some v)) → (to ≡ last) ⊎ ((to ≡ last + 1) × (slice_get t.values last ≡ Some v)) → to ≤ length t.starts
      → Becomes 0 (runs_filled t first last v) t (united from to v t)
  replaced_becomes first last from to v s pos o h near_first near_last within =
      let low : from ≤ first = ⊎_elim (λ e. omega (arith, e)) (λ p. omega (arith, p.0)) near_first in
      let high : last ≤ to = ⊎_elim (λ e. omega (arith, e)) (λ p. omega (arith, p.0)) near_last in
      united_becomes from to v (omega arith) within (replaced first last from to v s.table (omega (arith, length_table s.table)) o h near_first near_last within)

  pub joined_becomes : (k : ℕ) (v : V) → IsSound eq t → 0 < k → k < length t.starts → slice_get t.values (k - 1) ≡ Some v → slice_get t.values k ≡ Some v → Becomes 0 (list_of t) t (united (k - 1) (k + 1) v t)
  joined_becomes k v s some h before here = united_becomes (k - 1) (k + 1) v (omega arith) (omega arith) (joined k v s.table some h before here)

  pub shrunk_becomes : (i q k : ℕ) → IsSound eq t → i < length t.starts → start_of_run t i + k < end_of_run t i → start_of_run t i ≤ q → q + k ≤ end_of_run t i → Becomes 0 (deleted (list_of t) q k) t (shrunk i k t)
  shrunk_becomes i q k s h stays low high = record {
    list = (shrink_stands i q k s.table h stays low high).list;
    few = omega (arith, length-moved (λ s. s - k) t.starts (i + 1) (omega arith));
    capacity = refl;
  }

  pub cleared_becomes : (i k : ℕ) → IsSound eq t → length t.starts ≡ 1 → i < length t.starts → end_of_run t i ≤ start_of_run t i + k → Becomes 0 (deleted_from_run t i k) t (record t { end = 0 })
  cleared_becomes i k s one h all =
      let past : end_of_run t i ≡ t.end = get_or_past t.starts (i + 1) t.end (omega arith) in
      let same : get_or t.starts i t.end ≡ get_or t.starts i 0 = get_or_default t.starts i t.end 0 h in
      record { list = cleared i k s.table one h (omega arith); few = omega arith; capacity = refl }

  pub dropped_becomes : (i k : ℕ) → IsSound eq t → 0 < length (list_of t) → i < length t.starts → 1 < length t.starts → start_of_run t i + k ≡ end_of_run t i → Becomes 0 (deleted_from_run t i k) t (without_run i k t)
  dropped_becomes i k s pos h more whole = record {
    list = (drop_stands i k s.table (omega (arith, length_table s.table)) h more whole).list ∙ ap (λ p. deleted (list_of t) p k) (get_or_default t.starts i 0 t.end h);
    few = omega (arith, length-append (take i t.starts) (map (λ s. s - k) (drop (i + 1) t.starts)), length-take-le i t.starts (omega arith), length-map (drop (i + 1) t.starts) (λ s. s - k), length-drop (i + 1) t.starts);
    capacity = refl;
  }

  pub first_becomes : (k : ℕ) (v : V) → IsSound eq t → 0 < k → 0 < length (list_of t) → Becomes 1 (inserted (list_of t) 0 k v) t (with_first k v t)
  first_becomes k v s more pos = record {
    list = (first_parts v k s.table (omega (arith, length_table s.table)) more).list;
    few = omega (arith, length-map t.starts (λ s. s + k));
    capacity = refl;
  }

  pub last_becomes : (k : ℕ) (v : V) → IsSound eq t → 0 < k → 0 < length (list_of t) → Becomes 1 (inserted (list_of t) (length (list_of t)) k v) t (with_last k v t)
  last_becomes k v s more pos = record {
    list = (last_parts v k s.table (omega (arith, length_table s.table)) more).list ∙ ap (λ p. inserted (list_of t) p k v) (sym (length_table s.table));
    few = omega (arith, length-append t.starts (t.end ∷ []));
    capacity = refl;
  }

  pub first_places_become : (place k : ℕ) (d : V) → IsSound eq t → length (list_of t) ≡ 0 → place ≤ length (list_of t) → 0 < k → Becomes 1 (with_space eq d (list_of t) place k) t (grown 0 k (record t { values = set t.values 0 d }))
  first_places_become place k d s none within more = record {
    list = first_places place k d s none within more;
    few = omega (arith, length-moved (λ s. s + k) t.starts 1 (runs_some s.table));
    capacity = refl;
  }
