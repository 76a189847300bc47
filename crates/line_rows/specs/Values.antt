-- What a contract sees of `LineValues`.
use Rattle.std.specs.Prelude.{◌≡◌, ℕ, ◌+◌, ◌-◌, ◌<◌, ◌≤◌, ◌==◌, nat_le, if◌then◌else◌, min, max, List, [], ◌∷◌, ◌++◌, length, replicate, fold, slice_set, refl}
use Rattle.std.specs.Coded.{Coded, code_by, coded×, coded_list, coded_ℕ}
use Rattle.split_vector.specs.Split.{Split, most_held}
use Rattle.line_index.specs.Edits.{with_fresh, with_joined, after_edits}
use Rattle.line_index.specs.declared.edit.LineEdit.{LineEdit}
use Rattle.line_index.specs.declared.edit.LineEdit.TheVariants.{Come, Join, Restart}

-- The value of a line for which none was set, and the value of each line. For how many lines, from the first on, the values
-- are stored, and for how many there is memory.
pub record Valued (V : Type 0) : Type 0 where
  pub default : V
  pub values : List V
  pub stored : ℕ
  pub capacity : ℕ

-- so many values need memory, or none as long as none is stored
abbrev pub wanted_if : (stored all : ℕ) → ℕ
wanted_if stored all = if stored == 0 then 0 else all

module _ {V : Type 0} where
  abbrev pub valued : V → List V → ℕ → ℕ → Valued V
  valued value values stored capacity = record { default = value; values = values; stored = stored; capacity = capacity }

  abbrev pub valued_code : Coded V → Coded (Valued V)
  valued_code c =
      code_by (V × (List V × (ℕ × ℕ))) (coded× c (coded× (coded_list c) (coded× coded_ℕ coded_ℕ))) (λ r. (r.default, (r.values, (r.stored, r.capacity)))) (λ p. valued p.0 p.1.0 p.1.1.0 p.1.1.1) (λ _. refl)

  -- the value of joined lines: that of the first
  abbrev pub first_or : V → List V → V
  first_or value [] = value
  first_or value (v ∷ vs) = v

  -- the stored values of the first lines, and the default of the others
  abbrev pub padded : V → ℕ → List V → List V
  padded value lines stored = stored ++ replicate (lines - length stored) value

  -- the values of all lines are those of the two halves, and the default of the lines behind them
  abbrev pub AreInHalves : Valued V → List V → List V → Type 0
  AreInHalves v first second = v.values ≡ first ++ second ++ replicate (length v.values - (length first + length second)) v.default

  -- what a contract sees of the stored values, the default and the number of lines
  abbrev pub values_in : Split V → V → ℕ → Valued V
  values_in stored value lines = valued value (padded value lines stored.items) (length stored.items) stored.capacity

  -- the vector has these items, and its capacity is as before
  abbrev pub HasItems : List V → Split V → Split V → Type 0
  HasItems items old new = (new.items ≡ items) × (new.capacity ≡ old.capacity)

  -- the values of all lines, however many there are, get `count` defaults before the line
  abbrev pub HaveFresh : V → (old new : List V) → (line count : ℕ) → Type 0
  HaveFresh value old new line count =
      (lines : ℕ) → length old ≤ lines → line ≤ lines → padded value (lines + count) new ≡ with_fresh (first_or value) line count (padded value lines old)

  -- the values of all lines, however many there are and whatever the default is, lose those of the `count` lines behind the
  -- line
  abbrev pub AreJoined : (old new : List V) → (line count : ℕ) → Type 0
  AreJoined old new line count =
      (value : V) (lines : ℕ) → length old ≤ lines → line + count < lines → padded value (lines - count) new ≡ with_joined (first_or value) line count (padded value lines old)

  -- The values of `count` more lines fit in. As long as no value is stored, none of theirs is.
  abbrev pub HasRoomForLines : ℕ → Valued V → Type 0
  HasRoomForLines count v = 0 < v.stored → v.stored + count ≤ v.capacity

  -- the value of the line fits in, with those of the lines before it
  abbrev pub HasRoomForValue : ℕ → Valued V → Type 0
  HasRoomForValue line v = line < v.capacity

  -- Nothing but the capacity has changed, which is no less, and no more than what is asked for. Memory for the value of a line
  -- is asked for with that of all lines.
  abbrev pub GrowsForLines : ℕ → Valued V → Valued V → Type 0
  GrowsForLines count old new =
      (new ≡ record old { capacity = new.capacity }) × (old.capacity ≤ new.capacity) × (new.capacity ≤ most_held old.capacity (wanted_if old.stored (old.stored + count)))

  abbrev pub GrowsForValue : ℕ → Valued V → Valued V → Type 0
  GrowsForValue line old new =
      (new ≡ record old { capacity = new.capacity }) × (old.capacity ≤ new.capacity) × (new.capacity ≤ most_held old.capacity (max (line + 1) (length old.values)))

  -- the values after that of a line was set: those of the lines up to it are stored
  abbrev pub with_value : Valued V → ℕ → V → Valued V
  with_value v line value = record v { values = slice_set v.values line value; stored = max v.stored (line + 1) }

-- How many values are stored after an edit. Fresh lines behind the stored ones are not stored, and lines that are
-- joined lose theirs.
abbrev pub stored_after_edit : ℕ → LineEdit → ℕ
stored_after_edit stored (Come line count) = if nat_le stored line then stored else stored + count
stored_after_edit stored (Join line count) = stored - min count (stored - (line + 1))
stored_after_edit stored Restart = 0

abbrev pub stored_after : List LineEdit → ℕ → ℕ
stored_after edits stored = fold stored_after_edit stored edits

-- the values after edits of lines: fresh lines have the default
abbrev pub values_after : {V : Type 0} → List LineEdit → Valued V → Valued V
values_after edits v = record v { values = after_edits (first_or v.default) edits v.values; stored = stored_after edits v.stored }
