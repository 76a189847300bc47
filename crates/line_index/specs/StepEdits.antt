-- The effect of a step on lines, as edits: which old lines become which new ones.
use Rattle.std.specs.Prelude.{◌≡◌, ℕ, ◌+◌, ◌-◌, ◌≤◌, ◌==◌, ◌&&◌, ◌||◌, not, Bool, nat_lt, if◌then◌else◌, List, [], ◌∷◌, ◌++◌, length}
use Rattle.ed_model.specs.declared.plan.LineEndTypes.{LineEndTypes}
use Rattle.ed_model.specs.Lines.{line_starts, line_count}
use Rattle.ed_model.specs.Steps.{Step, place_of, edited, moved_start}
use Rattle.ed_model.specs.Carry.{carried_by}
use Rattle.ed_model.specs.MergeLaws.{JoinsRows, end_of, put_in}
use Rattle.line_index.specs.declared.change.NearLines.{NearLines}
use Rattle.line_index.specs.declared.change.LineChange.{LineChange}
use Rattle.line_index.specs.declared.edit.LineEdit.{LineEdit}
use Rattle.line_index.specs.declared.edit.LineEdit.TheVariants.{Come, Join, Restart}
use Rattle.line_index.specs.Edits.{after_edits, FitLines, fresh_lines}
use Rattle.line_index.specs.Change.{change_about, MovesLines, NamesLines}
use Rattle.line_index.specs.RoomLaws.{lines_for_step}

-- edits of no lines are left out
abbrev pub joined : ℕ → ℕ → List LineEdit
joined line count = if count == 0 then [] else Join line count ∷ []

abbrev pub came : ℕ → ℕ → List LineEdit
came line count = if count == 0 then [] else Come line count ∷ []

-- The next `count` old lines move to the new line `line`; all new lines before `next` are done. If `line` is done, they
-- are joined to it. Otherwise the first of them becomes `line`, the others are joined to that one, and fresh lines are
-- inserted before it. If no old line moves to it, it is fresh, too.
abbrev pub settled : ℕ → ℕ → ℕ → List LineEdit
settled next line count =
    if nat_lt line next then joined line count
    else (if count == 0 then came next (line + 1 - next) else joined next (count - 1) ++ came next (line - next))

-- the last old line that moves to the new line of the step's end, and to that of the place one byte behind it
abbrev pub last_at : NearLines → NearLines → ℕ
last_at old new = if new.two_behind == new.at then old.two_behind else (if new.one_behind == new.at then old.one_behind else old.at)

abbrev pub last_one_behind : NearLines → NearLines → ℕ
last_one_behind old new = if new.two_behind == new.one_behind then old.two_behind else old.one_behind

-- the edits of the lines around a step
abbrev pub settling : ℕ → NearLines → NearLines → List LineEdit
settling before old new =
    settled before new.at (last_at old new + 1 - before)
    ++ settled (new.at + 1) new.one_behind (last_one_behind old new - last_at old new)
    ++ settled (new.one_behind + 1) new.two_behind (old.two_behind - last_one_behind old new)

-- the effect of a step on lines, as edits in order
abbrev pub edits_of : LineChange → List LineEdit
edits_of change = if change.length == 0 then Restart ∷ [] else settling change.before change.old_lines change.new_lines

-- the second line is the first, or the one behind it
abbrev pub follows : ℕ → ℕ → Bool
follows line other = other == line || other == line + 1

abbrev pub are_same_lines : NearLines → NearLines → Bool
are_same_lines old new = old.at == new.at && old.one_behind == new.one_behind && old.two_behind == new.two_behind

-- The lines around the step keep their numbers, and each is the one before it, or follows it: no line is inserted, and
-- none is joined.
abbrev pub leaves_lines : LineChange → Bool
leaves_lines change =
    are_same_lines change.old_lines change.new_lines
    && not (change.length == 0)
    && follows change.old_lines.at change.before
    && follows change.old_lines.at change.old_lines.one_behind
    && follows change.old_lines.one_behind change.old_lines.two_behind

-- the effect of a step on the lines of a text
abbrev pub change_of : LineEndTypes → Step → List ℕ → LineChange
change_of types step text =
    change_about (place_of step) (end_of step) (place_of step + length (put_in step)) (line_starts types text) (line_starts types (edited step text)) (length (edited step text))

-- each old line moves to the new line of its start, moved by the step, and the change names lines that exist
abbrev pub StepsMoveLines : Type 0
StepsMoveLines =
    (types : LineEndTypes) (step : Step) (text : List ℕ) → end_of step ≤ length text
    → MovesLines (moved_start step) (line_starts types text) (line_starts types (edited step text)) (change_of types step text)

abbrev pub StepsNameLines : Type 0
StepsNameLines =
    (types : LineEndTypes) (step : Step) (text : List ℕ) → end_of step ≤ length text → NamesLines (line_starts types text) (line_starts types (edited step text)) (change_of types step text)

-- the edits carry what is kept of each line as the step does
abbrev pub EditsCarryRows : Type 0 → Type 0
EditsCarryRows R =
    (together : List R → R) → JoinsRows together → (types : LineEndTypes) (step : Step) (text : List ℕ) (rows : List R)
    → end_of step ≤ length text → length rows ≡ line_count types text
    → carried_by together types step text rows ≡ after_edits together (edits_of (change_of types step text)) rows

-- the edits name lines that exist
abbrev pub EditsFitLines : Type 0
EditsFitLines =
    (types : LineEndTypes) (step : Step) (text : List ℕ) → end_of step ≤ length text → FitLines (line_count types text) (edits_of (change_of types step text))

-- the edits insert at most as many fresh lines as room is required for
abbrev pub EditsBringFewLines : Type 0
EditsBringFewLines =
    (types : LineEndTypes) (step : Step) (text : List ℕ) → end_of step ≤ length text
    → fresh_lines (edits_of (change_of types step text)) ≤ lines_for_step types step
