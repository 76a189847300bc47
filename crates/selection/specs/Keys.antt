-- Keys: the caret moves to a place, with or without the anchor. [Scintilla: keyboard commands]
use Rattle.std.specs.Prelude.{ℕ, ◌==◌, min, max, if◌then◌else◌, Bool, true, false, List, length}
use Rattle.ed_model.specs.declared.plan.LineEndTypes.{LineEndTypes}
use Rattle.ed_model.specs.Characters.{cut_before, cut_after}
use Rattle.ed_model.specs.Lines.{line_starts, line_of, start_of_line, end_of_line}
use Rattle.selection.specs.declared.keys.Motion.{Motion}
use Rattle.selection.specs.declared.keys.Motion.TheVariants.{CharacterLeft, CharacterRight, Home, LineEnd, DocumentStart, DocumentEnd}
use Rattle.selection.specs.declared.selections.Selection.{Selection}

-- where a key moves the caret alone
abbrev pub place_after : Motion → LineEndTypes → List ℕ → ℕ → ℕ
place_after CharacterLeft types text caret = cut_before text caret
place_after CharacterRight types text caret = cut_after text caret
place_after Home types text caret = start_of_line types text (line_of (line_starts types text) caret)
place_after LineEnd types text caret = end_of_line types text (line_of (line_starts types text) caret)
place_after DocumentStart types text caret = 0
place_after DocumentEnd types text caret = length text

-- where it moves caret and anchor: the key for one character moves to that end of the selection, if something is selected
abbrev pub place_of_both : Motion → LineEndTypes → List ℕ → Selection → ℕ
place_of_both CharacterLeft types text s = if s.anchor == s.caret then cut_before text s.caret else min s.anchor s.caret
place_of_both CharacterRight types text s = if s.anchor == s.caret then cut_after text s.caret else max s.anchor s.caret
place_of_both Home types text s = place_after Home types text s.caret
place_of_both LineEnd types text s = place_after LineEnd types text s.caret
place_of_both DocumentStart types text s = 0
place_of_both DocumentEnd types text s = length text

abbrev pub selection_at : ℕ → Selection
selection_at place = record { anchor = place; caret = place }

-- the selection after the key: the anchor stays if it is extended
abbrev pub selection_after : Motion → Bool → LineEndTypes → List ℕ → Selection → Selection
selection_after motion true types text s = record s { caret = place_after motion types text s.caret }
selection_after motion false types text s = selection_at (place_of_both motion types text s)
