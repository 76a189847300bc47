-- A step as it is handed to an index: by its place and its length.
use Rattle.std.specs.Prelude.{◌≡◌, ℕ, ◌+◌, ◌-◌, ◌<◌, ◌≤◌, ◌++◌, length, take, drop}
use Rattle.ed_model.specs.declared.plan.LineEndTypes.{LineEndTypes}
use Rattle.ed_model.specs.Lines.{line_of}
use Rattle.ed_model.specs.Steps.{Step}
use Rattle.partitioning.specs.Partitions.{Partitions, CanLose, map_from}
use Rattle.partitioning.specs.Stored.{stepped_to}
use Rattle.line_index.specs.Change.{lines_about}
use Rattle.line_index.specs.Index.{Inserts, Deletes, last_touched}
use Rattle.line_index.specs.declared.steps.Cleared.{Cleared}
use Rattle.line_index.specs.declared.steps.TextStep.{TextStep}
use Rattle.line_index.specs.declared.steps.TextStep.TheVariants.{Insertion, Deletion}

abbrev pub IsStep : TextStep → Step → Type 0
IsStep (Insertion place count) = Inserts place count
IsStep (Deletion place count) = Deletes place count

-- its place, the end of what it deletes, and the end of what it inserts
abbrev pub step_place : TextStep → ℕ
step_place (Insertion place count) = place
step_place (Deletion place count) = place

abbrev pub old_end : TextStep → ℕ
old_end (Insertion place count) = place
old_end (Deletion place count) = place + count

abbrev pub new_end : TextStep → ℕ
new_end (Insertion place count) = place + count
new_end (Deletion place count) = place

-- where a place behind it moves, also the end of the text
abbrev pub moved_behind : TextStep → ℕ → ℕ
moved_behind (Insertion place count) start = start + count
moved_behind (Deletion place count) start = start - count

-- the length of the text is at most this afterwards
abbrev pub StaysWithin : ℕ → TextStep → ℕ → Type 0
StaysWithin greatest (Insertion place count) length = length + count ≤ greatest
StaysWithin greatest (Deletion place count) length = Unit {0}

-- the text of line `line` can be longer, or shorter, by the step
abbrev pub CanMove : ℕ → ℕ → TextStep → Partitions → Type 0
CanMove greatest line (Insertion place count) was = was.length + count ≤ greatest
CanMove greatest line (Deletion place count) was = CanLose was.starts was.length line count

-- the starts of a text once that line is longer, or shorter
abbrev pub with_moved : TextStep → ℕ → Partitions → Partitions
with_moved step line was =
    record was { starts = map_from (moved_behind step) (line + 1) was.starts; length = moved_behind step was.length; stepped = stepped_to line was; step_at = line }

-- The starts that may depend on a step from `place` up to `end` were removed, and what is needed of them was looked up.
pub record IsCleared (types : LineEndTypes) (place end : ℕ) (was now : Partitions) (c : Cleared) : Type 0 where
  pub about : c.about ≡ lines_about place end was.starts
  pub first : c.first ≡ line_of was.starts (place - 1) + 1
  pub behind : c.first + c.removed ≡ line_of was.starts (last_touched types end) + 1
  pub within : (0 < c.first) × (c.first + c.removed ≤ length was.starts)
  pub lines : c.lines ≡ length was.starts
  pub old_lines : c.about.old_lines.two_behind < c.lines
  pub starts : now.starts ≡ take c.first was.starts ++ drop (c.first + c.removed) was.starts
  pub length : now.length ≡ was.length
  pub capacity : now.capacity ≡ was.capacity
