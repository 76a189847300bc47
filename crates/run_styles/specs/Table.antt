-- A table of runs: where each run starts and its value, where the last one ends, and how many runs fit in.
use Rattle.std.specs.Prelude.{◌≡◌, ℕ, ◌+◌, ◌-◌, ◌^◌, ◌<◌, ◌≤◌, Bool, List, [], ◌∷◌, ◌++◌, length, map, take, drop, slice_index, slice_index_or, insert, refl}
use Rattle.std.specs.Coded.{Coded, code_by, coded×, coded_list, coded_ℕ}
use Rattle.split_vector.specs.Split.{Split}
use Rattle.partitioning.specs.Partitions.{Partitions, raised_behind}
use Rattle.run_styles.specs.Expansion.{IsExact, IsTable, expansion}
use Rattle.run_styles.specs.Runs.{Fit, RunCapacity, run_capacity, deleted, filled}

pub record Table (V : Type 0) : Type 0 where
  pub starts : List ℕ
  pub values : List V
  pub end : ℕ
  pub capacity : RunCapacity

module _ {V : Type 0} where
  abbrev pub table : List ℕ → List V → ℕ → RunCapacity → Table V
  table starts values end capacity = record { starts = starts; values = values; end = end; capacity = capacity }

  abbrev pub table_code : Coded V → Coded (Table V)
  table_code c =
      code_by (List ℕ × (List V × (ℕ × (ℕ × ℕ)))) (coded× (coded_list coded_ℕ) (coded× (coded_list c) (coded× coded_ℕ (coded× coded_ℕ coded_ℕ))))
      (λ t. (t.starts, (t.values, (t.end, (t.capacity.starts, t.capacity.values)))))
      (λ p. table p.0 p.1.0 p.1.1.0 (run_capacity p.1.1.1.0 p.1.1.1.1)) (λ _. refl)

  -- the table that the two containers hold
  abbrev pub table_of : Partitions → Split V → Table V
  table_of starts values = table starts.starts values.items starts.length (run_capacity starts.capacity values.capacity)

  -- what is true of every table
  pub record IsSound (eq : V → V → Bool) (t : Table V) : Type 0 where
    pub table : IsTable t.starts t.values t.end
    pub exact : IsExact eq
    pub fits : Fit (length t.starts) t.capacity
    pub few : t.capacity.starts < 2 ^ 63

  -- the list that the runs stand for
  abbrev pub list_of : Table V → List V
  list_of t = expansion t.starts t.values t.end

  -- so many more runs fit in
  abbrev pub RunsFit : ℕ → Table V → Type 0
  RunsFit count t = Fit (length t.starts + count) t.capacity

  -- where the run starts
  abbrev pub start_of_run : Table V → ℕ → ℕ
  start_of_run t index = slice_index t.starts index

  -- where the run starts, or the end if it comes behind the last
  abbrev pub start_or_end : Table V → ℕ → ℕ
  start_or_end t index = slice_index_or t.starts index t.end

  -- where the run ends
  abbrev pub end_of_run : Table V → ℕ → ℕ
  end_of_run t index = start_or_end t (index + 1)

  -- the table is sound, and its run with this index holds the place
  pub record IsRunOf (eq : V → V → Bool) (t : Table V) (place index : ℕ) : Type 0 where
    pub sound : IsSound eq t
    pub within : index < length t.starts
    pub from : start_of_run t index ≤ place
    pub to : place < end_of_run t index

  -- the new table stands for xs. It has the old capacity, and at most so many runs more.
  pub record Becomes (more : ℕ) (xs : List V) (old new : Table V) : Type 0 where
    pub list : list_of new ≡ xs
    pub few : length new.starts ≤ length old.starts + more
    pub capacity : new.capacity ≡ old.capacity

  -- the table with a run cut in two at the place
  abbrev pub split_at : (index place : ℕ) → Table V → Table V
  split_at index place t = record t { starts = insert t.starts (index + 1) place; values = take (index + 1) t.values ++ drop index t.values }

  -- the table with one run of the value in place of those from `from` up to `to`
  abbrev pub united : (from to : ℕ) → V → Table V → Table V
  united from to v t = record t { starts = take (from + 1) t.starts ++ drop to t.starts; values = take from t.values ++ v ∷ drop to t.values }

  -- the table with `count` places more in a run
  abbrev pub grown : (index count : ℕ) → Table V → Table V
  grown index count t = record t { starts = raised_behind t.starts index count; end = t.end + count }

  -- the table with `count` places less in a run
  abbrev pub shrunk : (index count : ℕ) → Table V → Table V
  shrunk index count t = record t { starts = take (index + 1) t.starts ++ map (λ s. s - count) (drop (index + 1) t.starts); end = t.end - count }

  -- the table without a run, and without its `count` places
  abbrev pub without_run : (index count : ℕ) → Table V → Table V
  without_run index count t =
      record t { starts = take index t.starts ++ map (λ s. s - count) (drop (index + 1) t.starts); values = take index t.values ++ drop (index + 1) t.values; end = t.end - count }

  -- the table with a run of `count` places before the first
  abbrev pub with_first : ℕ → V → Table V → Table V
  with_first count v t = record t { starts = 0 ∷ map (λ s. s + count) t.starts; values = v ∷ t.values; end = t.end + count }

  -- the table with a run of `count` places behind the last
  abbrev pub with_last : ℕ → V → Table V → Table V
  with_last count v t = record t { starts = t.starts ++ t.end ∷ []; values = t.values ++ v ∷ []; end = t.end + count }

  -- the list with the value x in the runs from the first up to the end
  abbrev pub runs_filled : Table V → (first end : ℕ) → V → List V
  runs_filled t first end x = filled (list_of t) (start_of_run t first) (start_or_end t end - start_of_run t first) x

  -- the list without the first `count` places from the run on
  abbrev pub deleted_from_run : Table V → (index count : ℕ) → List V
  deleted_from_run t index count = deleted (list_of t) (start_or_end t index) count
