-- Reads of the runs: where a run of the list begins and ends, how many there are, and whether all values are equal.
use Rattle.run_styles.proofs.Names.{◌≡◌, ℕ, ◌+◌, ◌-◌, ◌<◌, ◌≤◌, zero, suc, Bool, List, [], ◌∷◌, ◌++◌, Some, length, get_or, replicate, refl, sym, ap, ◌∙◌, arith, get_or_default, get_or_past, nil_from_length, slice_get-get_or, get_or_from_slice_get, slice_get, IsEquivalence, expansion, Rise, IsTable, IsExact, NeighboursDiffer, IsRunStart, IsRunEnd, run_count}
use Rattle.run_styles.proofs.Steps.{At, at}
use Rattle.run_styles.proofs.ByIndex.{grow_table, length_table, value_in_run, run_some, run_top}
use Rattle.run_styles.specs.Table.{Table, IsRunOf, IsSound, grown, list_of, start_of_run, end_of_run}
use Rattle.std.specs.Prelude.{All}
use Rattle.run_styles.proofs.Filling.{slice_get_in_run, other_behind, other_before}
use Rattle.run_styles.proofs.Neighbours.{differ_next, unequal}
use Rattle.run_styles.proofs.Tables.{run_before}

module _ {V : Type 0} {eq : V → V → Bool} {t : Table V} {place i : ℕ} where
  -- a place of a run has the run's value
  pub value_of_run : IsRunOf eq t place i → slice_get (list_of t) place ≡ slice_get t.values i
  value_of_run r = slice_get_in_run i place r.sound.table r.within r.from r.to

  pub run_start_is : NeighboursDiffer t.values → IsRunOf eq t place i → IsRunStart (list_of t) place (start_of_run t i)
  run_start_is d r =
      let s : IsTable t.starts t.values t.end = r.sound.table in
      let a : At t.values i = at t.values i (omega (arith, s.paired, r.within)) in
      let here : slice_get t.values i ≡ Some a.item = slice_get-get_or t.values i a.item (omega (arith, s.paired, r.within)) ∙ ap Some (a.read a.item) in
      record {
        from = r.from;
        one_value = λ k from to. slice_get_in_run i k s r.within from (omega (arith, r.to)) ∙ sym (value_of_run r);
        longest = λ some same. other_before i a.item s (omega (arith, r.to, run_top i s r.within)) r.within some d here (same ∙ value_of_run r ∙ here);
      }

  pub run_end_is : NeighboursDiffer t.values → IsRunOf eq t place i → IsRunEnd (list_of t) place (end_of_run t i)
  run_end_is d r =
      let s : IsTable t.starts t.values t.end = r.sound.table in
      let a : At t.values i = at t.values i (omega (arith, s.paired, r.within)) in
      let here : slice_get t.values i ≡ Some a.item = slice_get-get_or t.values i a.item (omega (arith, s.paired, r.within)) ∙ ap Some (a.read a.item) in
      record {
        behind = r.to;
        within = omega (arith, length_table s, run_top i s r.within);
        one_value = λ k from to. slice_get_in_run i k s r.within (omega (arith, r.from)) to ∙ sym (value_of_run r);
        longest = λ same. other_behind i a.item s (omega (arith, r.to, run_top i s r.within)) r.within d here (same ∙ value_of_run r ∙ here);
      }

  -- a run that holds a place before the end of another one does not come behind it
  pub not_behind : (last : ℕ) → IsRunOf eq t place i → last < length t.starts → place < end_of_run t last → i ≤ last
  not_behind last r h low =
      let top : end_of_run t i ≤ t.end = run_top i r.sound.table r.within in
      let before : i < last + 1 = run_before t.starts t.end i (last + 1) (r.sound.table.rise (omega (arith, r.to))) r.within (omega (arith, r.from)) in
      omega arith

module _ {V : Type 0} {eq : V → V → Bool} where
  count_replicate : IsEquivalence eq → (m : ℕ) (w : V) (rest : List V) → run_count eq (replicate (suc m) w ++ rest) ≡ run_count eq (w ∷ rest)
  count_replicate laws zero w rest = refl
  count_replicate laws (suc m) w rest = rw (laws.refl w) (count_replicate laws m w rest)

  count_of : IsEquivalence eq → IsExact eq → (s : ℕ) (S : List ℕ) (w : V) (W : List V) (end : ℕ) → length S ≡ length W → Rise (s ∷ S) end → NeighboursDiffer (w ∷ W) → run_count eq (expansion (s ∷ S) (w ∷ W) end) ≡ suc (length S)
  count_of laws exact s [] w [] end e h d =
      let n : end - s ≡ suc (end - s - 1) = omega (arith, h.0) in
      rw n (count_replicate laws (end - s - 1) w [])
  count_of laws exact s [] w (w' ∷ W) end e h d = absurd (omega (arith, e))
  count_of laws exact s (s' ∷ S) w [] end e h d = absurd (omega (arith, e))
  count_of laws exact s (s' ∷ S) w (w' ∷ W) end e h d =
      let n : s' - s ≡ suc (s' - s - 1) = omega (arith, h.0) in
      let ih = count_of laws exact s' S w' W end (omega (arith, e)) h.1 d.1 in
      let m : get_or S 0 end - s' ≡ suc (get_or S 0 end - s' - 1) = omega (arith, h.1.0) in
      let step : run_count eq (w ∷ (replicate (get_or S 0 end - s') w' ++ expansion S W end)) ≡ run_count eq (replicate (get_or S 0 end - s') w' ++ expansion S W end) + 1 = rw (m, unequal exact w w' d.0) refl in
      let all : run_count eq (replicate (s' - s) w ++ (replicate (get_or S 0 end - s') w' ++ expansion S W end)) ≡ run_count eq (w ∷ (replicate (get_or S 0 end - s') w' ++ expansion S W end))
      = rw n (count_replicate laws (s' - s - 1) w (replicate (get_or S 0 end - s') w' ++ expansion S W end)) in
      let last : suc (length S) + 1 ≡ suc (suc (length S)) = omega arith in
      all ∙ step ∙ ap (λ c. c + 1) ih ∙ last

  pub count_runs : IsEquivalence eq → IsExact eq → {S : List ℕ} {W : List V} {end : ℕ} → IsTable S W end → NeighboursDiffer W → length S ≡ run_count eq (expansion S W end)
  count_runs laws exact {S = []} {W} {end} t d = absurd (omega (arith, t.from_zero))
  count_runs laws exact {S = s ∷ S} {W = []} {end} t d = absurd (omega (arith, t.paired))
  count_runs laws exact {S = s ∷ S} {W = w ∷ W} {end = zero} t d =
      let one : suc (length S) ≡ 1 = t.single refl in
      let none : expansion (s ∷ S) (w ∷ W) zero ≡ [] = nil_from_length (expansion (s ∷ S) (w ∷ W) zero) (length_table t) in
      one ∙ sym (ap (λ l. run_count eq l) none)
  count_runs laws exact {S = s ∷ S} {W = w ∷ W} {end = suc n} t d =
      let paired : suc (length S) ≡ suc (length W) = t.paired in
      sym (count_of laws exact s S w W (suc n) (omega arith) (t.rise (omega arith)) d)

module _ {V : Type 0} {eq : V → V → Bool} {t : Table V} where
  -- places inserted into a run make no other
  pub count_grown : (i k : ℕ) → IsEquivalence eq → IsSound eq t → NeighboursDiffer t.values → i < length t.starts → 0 < k → run_count eq (list_of (grown i k t)) ≡ run_count eq (list_of t)
  count_grown i k laws s d h more =
      let table = grow_table i k s.table h more in
      sym (count_runs laws s.exact table d) ∙ table.paired ∙ sym s.table.paired ∙ count_runs laws s.exact s.table d

-- one run of one value, and the list that has that value alone
module _ {V : Type 0} where
  pub single_all : {S : List ℕ} {W : List V} {end : ℕ} (v : V) → IsTable S W end → length S ≡ 1 → slice_get W 0 ≡ Some v → All (λ x. x ≡ v) (expansion S W end)
  single_all {S} {W} {end} v t one read k d h =
      let full : length (expansion S W end) ≡ end = length_table t in
      let first : get_or S 0 0 ≡ 0 = get_or_default S 0 0 1 (omega arith) ∙ t.from_zero in
      let past : get_or S (0 + 1) end ≡ end = get_or_past S (0 + 1) end (omega arith) in
      value_in_run 0 k d t (omega arith) (omega arith) (omega arith) ∙ get_or_from_slice_get W 0 v d read

  -- each run of such a list has the value
  pub all_single : {S : List ℕ} {W : List V} {end : ℕ} (i : ℕ) (v : V) → IsTable S W end → 0 < end → i < length S → All (λ x. x ≡ v) (expansion S W end) → slice_get W i ≡ Some v
  all_single {S} {W} {end} i v t pos h all =
      let some : get_or S i 0 < get_or S (i + 1) end = run_some i t pos h in
      let top : get_or S (i + 1) end ≤ end = run_top i t h in
      sym (slice_get_in_run i (get_or S i 0) t h (omega arith) some)
      ∙ slice_get-get_or (expansion S W end) (get_or S i 0) v (omega (arith, length_table t)) ∙ ap Some (all (get_or S i 0) v (omega (arith, length_table t)))

  pub several_not_all : {S : List ℕ} {W : List V} {end : ℕ} (v : V) → IsTable S W end → NeighboursDiffer W → 0 < end → 1 < length S → All (λ x. x ≡ v) (expansion S W end) → ⊥
  several_not_all {S} {W} v t d pos h all = differ_next W 0 v d (all_single 0 v t pos (omega arith) all) (all_single 1 v t pos h all)
