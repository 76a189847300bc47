-- The effect on lines when line ends of Unicode begin to count, or no longer count, as edits.
use Rattle.std.specs.Prelude.{◌≡◌, ℕ, ◌+◌, ◌≤◌, List, [], ◌∷◌, ◌++◌, length, slice_get, unwrap_or}
use Rattle.ed_model.specs.declared.plan.LineEndTypes.{LineEndTypes}
use Rattle.ed_model.specs.declared.plan.LineEndTypes.TheVariants.{Default, Unicode}
use Rattle.ed_model.specs.Lines.{line_starts, line_count}
use Rattle.ed_model.specs.Carry.{regrouped}
use Rattle.ed_model.specs.MergeLaws.{JoinsRows}
use Rattle.line_index.specs.declared.edit.LineEdit.{LineEdit}
use Rattle.line_index.specs.Edits.{after_edits, FitLines, fresh_lines}
use Rattle.line_index.specs.Index.{Index, starts_within}
use Rattle.line_index.specs.StepEdits.{joined, came}

-- where the next of these lines starts; behind the last one, the place past the end of the text
abbrev pub next_of : List ℕ → List ℕ → ℕ
next_of text starts = unwrap_or (slice_get starts 0) (length text + 1)

-- how many lines start inside each of these, behind its own start and before the next one, if line ends of Unicode count
abbrev pub lines_inside : List ℕ → List ℕ → List ℕ
lines_inside text [] = []
lines_inside text (start ∷ starts) = length (starts_within Unicode text (start + 1) (next_of text starts)) ∷ lines_inside text starts

-- Line `line` has so many others inside. If they begin to count, they are inserted behind it; if they no longer count,
-- they are joined to it.
abbrev pub inside_edits : LineEndTypes → ℕ → ℕ → List LineEdit
inside_edits Default line count = joined line count
inside_edits Unicode line count = came (line + 1) count

-- the line behind it and those, afterwards
abbrev pub line_past : LineEndTypes → ℕ → ℕ → ℕ
line_past Default line count = line + 1
line_past Unicode line count = line + count + 1

-- the edits of several lines, of which the first is `line`
abbrev pub all_inside_edits : LineEndTypes → ℕ → List ℕ → List LineEdit
all_inside_edits new line [] = []
all_inside_edits new line (count ∷ counts) = inside_edits new line count ++ all_inside_edits new (line_past new line count) counts

-- the edits of all lines of a text when the setting becomes this one
abbrev pub edits_to : LineEndTypes → List ℕ → List LineEdit
edits_to new text = all_inside_edits new 0 (lines_inside text (line_starts Default text))

-- the effect of another setting on the lines of a text, as edits in order; the same setting has none
abbrev pub edits_of_setting : LineEndTypes → LineEndTypes → List ℕ → List LineEdit
edits_of_setting Default Default text = []
edits_of_setting Unicode Unicode text = []
edits_of_setting Default Unicode text = edits_to Unicode text
edits_of_setting Unicode Default text = edits_to Default text

-- the effect of another setting than that of an index
abbrev pub edits_for_types : LineEndTypes → Index → List ℕ → List LineEdit
edits_for_types new i text = edits_of_setting i.types new text

-- the edits carry what is kept of each line as the setting does
abbrev pub SettingsCarryRows : Type 0 → Type 0
SettingsCarryRows R =
    (together : List R → R) → JoinsRows together → (old new : LineEndTypes) (text : List ℕ) (rows : List R) → length rows ≡ line_count old text
    → regrouped together old new text rows ≡ after_edits together (edits_of_setting old new text) rows

-- the edits name lines that exist
abbrev pub SettingsFitLines : Type 0
SettingsFitLines = (old new : LineEndTypes) (text : List ℕ) → FitLines (line_count old text) (edits_of_setting old new text)

-- afterwards there are at most as many lines as before and fresh ones together
abbrev pub SettingsBringAll : Type 0
SettingsBringAll = (old new : LineEndTypes) (text : List ℕ) → line_count new text ≤ line_count old text + fresh_lines (edits_of_setting old new text)

-- these are at most as many as the text has bytes, and one
abbrev pub SettingsBringFewLines : Type 0
SettingsBringFewLines = (old new : LineEndTypes) (text : List ℕ) → line_count old text + fresh_lines (edits_of_setting old new text) ≤ length text + 1
