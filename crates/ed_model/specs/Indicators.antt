-- Indicators: 32 lists, each with a value for each byte. [Scintilla: indicators; the value of inserted bytes: own]
use Rattle.std.specs.Prelude.{ℕ, ◌+◌, ◌-◌, ◌||◌, ◌==◌, not, if◌then◌else◌, List, [], ◌∷◌, ◌++◌, length, take, drop, map, filter, replicate, slice_index, Option, Some, None, unwrap_or}
use Rattle.std.specs.List.{range_with_len, last_or}
use Rattle.ed_model.specs.Steps.{Step, Insert, Delete}

-- the value of bytes inserted at p: 0 at either end of the text and where the byte at p has 0, otherwise the value of the byte before p
abbrev pub inserted_value : List ℕ → ℕ → ℕ
inserted_value values p = if p == 0 || p == length values || slice_index values p == 0 then 0 else slice_index values (p - 1)

abbrev pub indicator_after : Step → List ℕ → List ℕ
indicator_after (Insert p bytes) values = take p values ++ replicate (length bytes) (inserted_value values p) ++ drop p values
indicator_after (Delete p bytes) values = take p values ++ drop (p + length bytes) values

abbrev pub indicators_after : Step → List (List ℕ) → List (List ℕ)
indicators_after step lists = map (indicator_after step) lists

abbrev pub filled : ℕ → ℕ → ℕ → List ℕ → List ℕ
filled start count value values = take start values ++ replicate count value ++ drop (start + count) values

-- the places at which two lists of the same length differ, in rising order
abbrev pub changed_places : List ℕ → List ℕ → List ℕ
changed_places old new = filter (λ k. not (slice_index old k == slice_index new k)) (range_with_len 0 (length old))

-- the range from the first of some rising places to the last: its start and its length
abbrev pub extent : List ℕ → Option (ℕ × ℕ)
extent [] = None
extent (p ∷ ps) = Some (p, unwrap_or (last_or None (p ∷ ps)) p + 1 - p)

-- the smallest range that contains all changed places, if any changed
abbrev pub changed_range : List ℕ → List ℕ → Option (ℕ × ℕ)
changed_range old new = extent (changed_places old new)
