-- The rule for inserted values, and the run that absorbs the inserted places.
use Rattle.run_styles.proofs.Names.{◌≡◌, ◌≢◌, ◌⊎◌, ℕ, ◌+◌, ◌-◌, ◌<◌, ◌≤◌, suc, Bool, true, false, cond, List, [], ◌∷◌, ◌++◌, Some, length, get_or, take, drop, refl, sym, ap, ◌∙◌, arith, ⊎_elim, ne_eqb, eq-eqb, true≢false, replicate, length-append, cases_lt, get_or_default, get_or_past, slice_get, slice_get-get_or, get_or_from_slice_get, length-take-le, length-replicate, length-drop, length-set, get_or-set_same, nil_from_length, set, IsEquivalence, IsTable, expansion, inserted, filled, inserted_value}
use Rattle.run_styles.proofs.Pieces.{fill_middle}
use Rattle.run_styles.proofs.Neighbours.{unequal}
use Rattle.run_styles.proofs.ByIndex.{grow_stands, length_table, run_order, run_some, run_top, runs_some, value_in_run, zero_start}
use Rattle.run_styles.specs.Runs.{with_space}
use Rattle.run_styles.specs.Table.{Table, IsRunOf, IsSound, end_of_run, grown, list_of, start_of_run}

module _ {V : Type 0} where
  value_inside : (eq : V → V → Bool) (d : V) (xs : List V) (place : ℕ) (b : Bool) → 0 < place → place < length xs → eq (get_or xs place d) d ≡ b → inserted_value eq d xs place ≡ cond b d (get_or xs (place - 1) d)
  value_inside eq d xs place b h1 h2 e =
      let n1 : place ≢ 0 = omega arith in
      let n2 : place ≢ length xs = omega arith in
      rw (ne_eqb place 0 n1, ne_eqb place (length xs) n2, e) refl

  pub value_at_end : (eq : V → V → Bool) (d : V) (xs : List V) → inserted_value eq d xs (length xs) ≡ d
  value_at_end eq d [] = refl
  value_at_end eq d (x ∷ xs) = rw (eq-eqb (length (x ∷ xs)) (length (x ∷ xs)) refl, ne_eqb (suc (length xs)) 0 (λ e. absurd (omega (arith, e)))) refl

  -- where a value other than the default begins, the run before absorbs the places
  pub space_before : {eq : V → V → Bool} {t : Table V} {place i : ℕ} (k : ℕ) (d : V) → IsRunOf eq t place i → 0 < k → 0 < place → start_of_run t i ≡ place → slice_get t.values i ≢ Some d
      → list_of (grown (i - 1) k t) ≡ with_space eq d (list_of t) place k
  space_before {eq} {t} {place} {i} k d r more later at other =
      let s : IsSound eq t = r.sound in
      let paired : length t.starts ≡ length t.values = s.table.paired in
      let within : i < length t.starts = r.within in
      let high : place < end_of_run t i = r.to in
      let full : length (list_of t) ≡ t.end = length_table s.table in
      let top : end_of_run t i ≤ t.end = run_top i s.table within in
      let some : 0 < i = ⊎_elim (λ o. o) (λ z. let e : i ≡ 0 = omega arith in let first : get_or t.starts i 0 ≡ 0 = ap (λ q. get_or t.starts q 0) e ∙ zero_start s.table in absurd (omega arith)) (cases_lt 0 i) in
      let n : i - 1 + 1 ≡ i = omega arith in
      let next : get_or t.starts (i - 1 + 1) t.end ≡ place = ap (λ q. get_or t.starts q t.end) n ∙ get_or_default t.starts i t.end 0 within ∙ at in
      let low : get_or t.starts (i - 1) 0 < get_or t.starts (i - 1 + 1) t.end = run_some (i - 1) s.table (omega arith) (omega arith) in
      let there : get_or (list_of t) place d ≡ get_or t.values i d = value_in_run i place d s.table within r.from high in
      let apart : get_or t.values i d ≢ d = λ e. other (slice_get-get_or t.values i d (omega arith) ∙ ap Some e) in
      let v : inserted_value eq d (list_of t) place ≡ get_or t.values (i - 1) d
      = value_inside eq d (list_of t) place false later (omega arith) (ap (λ x. eq x d) there ∙ unequal s.exact (get_or t.values i d) d apart) ∙ value_in_run (i - 1) (place - 1) d s.table (omega arith) (omega arith) (omega arith) in
      rw v (grow_stands (i - 1) place k (get_or t.values (i - 1) d) s.table (omega arith) more (omega arith) (omega arith) (slice_get-get_or t.values (i - 1) d (omega arith))).list

  -- elsewhere the run that holds the place absorbs them
  pub space_in : {eq : V → V → Bool} {t : Table V} {place i : ℕ} (k : ℕ) (d : V) → IsEquivalence eq → IsRunOf eq t place i → 0 < k → 0 < place → (start_of_run t i ≢ place) ⊎ (slice_get t.values i ≡ Some d)
      → list_of (grown i k t) ≡ with_space eq d (list_of t) place k
  space_in {eq} {t} {place} {i} k d laws r more later cause =
      let s : IsSound eq t = r.sound in
      let paired : length t.starts ≡ length t.values = s.table.paired in
      let within : i < length t.starts = r.within in
      let high : place < end_of_run t i = r.to in
      let v : inserted_value eq d (list_of t) place ≡ get_or t.values i d = by_value (eq (get_or t.values i d) d) refl in
      rw v (grow_stands i place k (get_or t.values i d) s.table within more r.from (omega arith) (slice_get-get_or t.values i d (omega arith))).list
    where
      there : get_or (list_of t) place d ≡ get_or t.values i d
      there = value_in_run i place d r.sound.table r.within r.from r.to

      by_value : (b : Bool) → eq (get_or t.values i d) d ≡ b → inserted_value eq d (list_of t) place ≡ get_or t.values i d
      by_value true e = value_inside eq d (list_of t) place true later (omega (arith, length_table r.sound.table, run_top i r.sound.table r.within, r.to)) (ap (λ x. eq x d) there ∙ e) ∙ sym (r.sound.exact (get_or t.values i d) d e)
      by_value false e =
          let apart : start_of_run t i ≢ place = ⊎_elim (λ n. n) (λ here. absurd (true≢false (sym (ap (λ x. eq x d) (get_or_from_slice_get t.values i d d here) ∙ laws.refl d) ∙ e))) cause in
          let from : start_of_run t i ≤ place = r.from in
          value_inside eq d (list_of t) place false later (omega (arith, length_table r.sound.table, run_top i r.sound.table r.within, r.to)) (ap (λ x. eq x d) there ∙ e) ∙ value_in_run i (place - 1) d r.sound.table r.within (omega arith) (omega (arith, r.to))

  -- at an end of the list that has the value already, its run absorbs them
  pub start_grown : {eq : V → V → Bool} {t : Table V} (k : ℕ) (v : V) → IsSound eq t → 0 < k → slice_get t.values 0 ≡ Some v → list_of (grown 0 k t) ≡ inserted (list_of t) 0 k v
  start_grown k v s more here = (grow_stands 0 0 k v s.table (runs_some s.table) more (omega (arith, zero_start s.table)) (omega arith) here).list

  pub end_grown : {eq : V → V → Bool} {t : Table V} (i k : ℕ) (v : V) → IsSound eq t → i + 1 ≡ length t.starts → 0 < k → slice_get t.values i ≡ Some v → list_of (grown i k t) ≡ inserted (list_of t) (length (list_of t)) k v
  end_grown {t = t} i k v s last more here =
      let past : get_or t.starts (i + 1) t.end ≡ t.end = get_or_past t.starts (i + 1) t.end (omega arith) in
      let order : get_or t.starts i 0 ≤ get_or t.starts (i + 1) t.end = run_order i s.table (omega arith) in
      rw (length_table s.table) (grow_stands i t.end k v s.table (omega arith) more (omega arith) (omega arith) here).list

  -- the first places of an empty list
  pub first_places : {eq : V → V → Bool} {t : Table V} (place k : ℕ) (d : V) → IsSound eq t → length (list_of t) ≡ 0 → place ≤ length (list_of t) → 0 < k → list_of (grown 0 k (record t { values = set t.values 0 d })) ≡ with_space eq d (list_of t) place k
  first_places {t = t} place k d s none within more =
      let some : 0 < length t.starts = runs_some s.table in
      let size : length (set t.values 0 d) ≡ length t.values = length-set t.values 0 d in
      let paired : length t.starts ≡ length t.values = s.table.paired in
      let table : IsTable t.starts (set t.values 0 d) t.end = record { paired = omega arith; from_zero = s.table.from_zero; rise = s.table.rise; single = s.table.single } in
      let here : slice_get (set t.values 0 d) 0 ≡ Some d = slice_get-get_or (set t.values 0 d) 0 d (omega arith) ∙ ap Some (get_or-set_same t.values 0 d d (omega arith)) in
      let old : list_of t ≡ [] = nil_from_length (list_of t) none in
      let new : expansion t.starts (set t.values 0 d) t.end ≡ [] = nil_from_length (expansion t.starts (set t.values 0 d) t.end) (length_table table ∙ sym (length_table s.table) ∙ none) in
      let z : place ≡ 0 = omega arith in
      (grow_stands 0 0 k d table some more (omega (arith, zero_start table)) (omega arith) here).list ∙ rw (new, old, z) refl

  -- places inserted into a run have its value
  pub grown_anywhere : {eq : V → V → Bool} {t : Table V} (i q k : ℕ) (d : V) → IsSound eq t → i < length t.starts → 0 < k → start_of_run t i ≤ q → q ≤ end_of_run t i → list_of (grown i k t) ≡ inserted (list_of t) q k (get_or t.values i d)
  grown_anywhere {t = t} i q k d s h more low high = (grow_stands i q k (get_or t.values i d) s.table h more low high (slice_get-get_or t.values i d (omega (arith, s.table.paired)))).list

  -- places that are inserted, and then set
  pub filled-inserted : (xs : List V) (p k : ℕ) (v w : V) → p ≤ length xs → filled (inserted xs p k v) p k w ≡ inserted xs p k w
  filled-inserted xs p k v w h = fill_middle (take p xs) (replicate k v) (drop p xs) p k w (length-take-le p xs h) (length-replicate k v)

  pub length-inserted : (xs : List V) (p k : ℕ) (v : V) → p ≤ length xs → length (inserted xs p k v) ≡ length xs + k
  length-inserted xs p k v h = omega (arith, length-append (take p xs) (replicate k v ++ drop p xs), length-append (replicate k v) (drop p xs), length-take-le p xs h, length-replicate k v, length-drop p xs)
