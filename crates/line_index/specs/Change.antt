-- The effect of a step on lines: to which new line each old one moves.
use Rattle.std.specs.Prelude.{◌≡◌, ℕ, ◌+◌, ◌-◌, ◌<◌, nat_lt, nat_le, if◌then◌else◌, List, length, slice_index}
use Rattle.ed_model.specs.declared.plan.LineEndTypes.{LineEndTypes}
use Rattle.ed_model.specs.declared.plan.LineEndTypes.TheVariants.{Default, Unicode}
use Rattle.ed_model.specs.Lines.{line_of}
use Rattle.ed_model.specs.NeighbourLaws.{count_before}
use Rattle.line_index.specs.Index.{Index}
use Rattle.line_index.specs.declared.change.NearLines.{NearLines}
use Rattle.line_index.specs.declared.change.LinesAbout.{LinesAbout}
use Rattle.line_index.specs.declared.change.LineChange.{LineChange}

-- the lines of a place and of the two places behind it
abbrev pub near_lines : List ℕ → ℕ → NearLines
near_lines starts place =
    record { at = line_of starts place; one_behind = line_of starts (place + 1); two_behind = line_of starts (place + 2) }

-- of these lines, that of the last place whose line start may depend on the step
abbrev pub last_line : LineEndTypes → NearLines → ℕ
last_line Default lines = lines.at
last_line Unicode lines = lines.two_behind

-- the lines around a step, before it: how many start before its place, and those at the end of what it deletes
abbrev pub lines_about : ℕ → ℕ → List ℕ → LinesAbout
lines_about place end starts = record { before = count_before place starts; old_lines = near_lines starts end }

-- the effect of the step on lines, by those and by the new ones at the end of what it inserted; the text now has this length
abbrev pub change_since : LinesAbout → ℕ → List ℕ → ℕ → LineChange
change_since about new_end starts length =
    record { before = about.before; old_lines = about.old_lines; new_lines = near_lines starts new_end; length = length }

-- the effect of a step at `place` that replaced text up to `old_end` by text up to `new_end`
abbrev pub change_about : ℕ → ℕ → ℕ → List ℕ → List ℕ → ℕ → LineChange
change_about place old_end new_end old new length = change_since (lines_about place old_end old) new_end new length

-- that of an insertion of `count` bytes
abbrev pub change_by_insertion : ℕ → ℕ → Index → Index → LineChange
change_by_insertion place count old new = change_about place place (place + count) old.starts new.starts new.length

-- that of a deletion of `count` bytes
abbrev pub change_by_deletion : ℕ → ℕ → Index → Index → LineChange
change_by_deletion place count old new = change_about place (place + count) place old.starts new.starts new.length

-- it names old lines and new ones that exist
abbrev pub NamesLines : List ℕ → List ℕ → LineChange → Type 0
NamesLines old new change = (change.old_lines.two_behind < length old) × (change.new_lines.two_behind < length new)

-- the new line to which an old one moves
abbrev pub line_after : LineChange → ℕ → ℕ
line_after change line =
    if nat_lt line change.before then line
    else (if nat_le line change.old_lines.at then change.new_lines.at
    else (if nat_le line change.old_lines.one_behind then change.new_lines.one_behind
    else (if nat_le line change.old_lines.two_behind then change.new_lines.two_behind
    else line - change.old_lines.two_behind + change.new_lines.two_behind)))

-- each old line moves to the new line of its start, moved by the step
abbrev pub MovesLines : (ℕ → ℕ) → List ℕ → List ℕ → LineChange → Type 0
MovesLines moved old new change =
    (line : ℕ) → line < length old → line_after change line ≡ line_of new (moved (slice_index old line))
