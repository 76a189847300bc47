-- What a contract sees of a `Contraction`.
use Rattle.std.specs.Prelude.{◌≡◌, ◌≤◌, ◌<◌, ℕ, ◌+◌, ◌*◌, max, not, List, length, map, count_by}
use Rattle.std.specs.List.{range_with_len}
use Rattle.ed_model.specs.Rows.{Flags}
use Rattle.rising_numbers.specs.Numbers.{Numbers}
use Rattle.contraction.specs.LineSets.{holds}

-- how many lines in all may be hidden, and how many in all may be contracted, without an allocation
pub record FoldCapacity : Type 0 where
  pub hidden : ℕ
  pub contracted : ℕ

-- the flags of each line, and the capacity
pub record ViewLines : Type 0 where
  pub flags : List Flags
  pub capacity : FoldCapacity

abbrev pub fold_capacity : (hidden contracted : ℕ) → FoldCapacity
fold_capacity hidden contracted = record { hidden = hidden; contracted = contracted }

-- the flags of so many lines, by the set of hidden lines and that of contracted ones
unfoldable pub flags_kept : List ℕ → List ℕ → ℕ → List Flags
flags_kept hidden contracted lines =
    map (λ line. record { visible = not (holds hidden line); expanded = not (holds contracted line) }) (range_with_len 0 lines)

abbrev pub view_lines : Numbers → Numbers → ViewLines
view_lines hidden contracted =
    record { flags = flags_kept hidden.numbers contracted.numbers hidden.length; capacity = fold_capacity hidden.capacity contracted.capacity }

-- how many lines are contracted
abbrev pub contracted_lines : List Flags → ℕ
contracted_lines flags = count_by (λ (f : Flags). not f.expanded) flags

-- so many lines in all may be hidden, and so many in all contracted
abbrev pub FoldsFit : (hidden contracted : ℕ) → FoldCapacity → Type 0
FoldsFit hidden contracted capacity = (hidden ≤ capacity.hidden) × (contracted ≤ capacity.contracted)

-- a capacity that is enough stays; otherwise it does not shrink, and is at most what is wanted or about twice what it was
abbrev pub GrowsFor : (wanted old new : ℕ) → Type 0
GrowsFor wanted old new = (wanted ≤ old → new ≡ old) × (old ≤ new) × (new ≤ max wanted (2 * old + 1))

-- both capacities have grown so
abbrev pub HaveGrown : (hidden contracted : ℕ) → (old new : FoldCapacity) → Type 0
HaveGrown hidden contracted old new = GrowsFor hidden old.hidden new.hidden × GrowsFor contracted old.contracted new.contracted

-- what folding at a line requires: a level for each line, that the line exists, and that all lines may be hidden
abbrev pub CanFold : (levels : List ℕ) → (line : ℕ) → List Flags → FoldCapacity → Type 0
CanFold levels line flags capacity = (length levels ≡ length flags) × (line < length flags) × (length flags ≤ capacity.hidden)
