-- What a contract sees of the flags of a view's lines.
use Rattle.std.specs.Prelude.{◌≡◌, ℕ, ◌^◌, ◌<◌, Bool, true, false, List}
use Rattle.ed_model.specs.Rows.{Flags}
use Rattle.contraction.specs.ViewLines.{FoldCapacity, fold_capacity}
use Rattle.ed_view.specs.declared.line_flags.FlagsByWidth.{FlagsByWidth}
use Rattle.ed_view.specs.declared.line_flags.FlagsByWidth.TheVariants as lines

-- the flags of each line, whether line numbers have 64 bits, and not 32, and the capacity
pub record KeptFlags : Type 0 where
  pub flags : List Flags
  pub large : Bool
  pub capacity : FoldCapacity

abbrev pub flags_by_width : FlagsByWidth → KeptFlags
flags_by_width (lines.Small kept) = record { flags = kept.flags; large = false; capacity = kept.capacity }
flags_by_width (lines.Large kept) = record { flags = kept.flags; large = true; capacity = kept.capacity }

-- numbers of the width can count so many lines
abbrev pub AreFewLines : Bool → ℕ → Type 0
AreFewLines large lines = (lines < 2 ^ 64) × (large ≡ false → lines < 2 ^ 32)

-- the capacity after line numbers got another width: that of new flags, or the same if the width is
abbrev pub kept_capacity : (old new : Bool) → FoldCapacity → FoldCapacity
kept_capacity false false capacity = capacity
kept_capacity true true capacity = capacity
kept_capacity false true capacity = fold_capacity 0 0
kept_capacity true false capacity = fold_capacity 0 0
