-- Display lines: the visible lines, counted from 0. [Scintilla: folding]
use Rattle.std.specs.Prelude.{ℕ, ◌+◌, ◌-◌, Bool, List, length, filter, count_by, take, slice_get, unwrap_or}
use Rattle.std.specs.List.{range_with_len, list_all}
use Rattle.ed_model.specs.Rows.{Flags}
use Rattle.ed_model.specs.Folding.{is_visible}

-- the number of visible lines before the line
abbrev pub visible_before : List Flags → ℕ → ℕ
visible_before flags line = count_by (λ (f : Flags). f.visible) (take line flags)

-- the display line of a line; a hidden line has that of the visible line before it (SCI_VISIBLEFROMDOCLINE)
abbrev pub display_line : List Flags → ℕ → ℕ
display_line flags line = visible_before flags (line + 1) - 1

abbrev pub visible_lines : List Flags → List ℕ
visible_lines flags = filter (is_visible flags) (range_with_len 0 (length flags))

-- the line at the display line; past the last display line, the number of lines (SCI_DOCLINEFROMVISIBLE)
abbrev pub line_shown : List Flags → ℕ → ℕ
line_shown flags display = unwrap_or (slice_get (visible_lines flags) display) (length flags)

abbrev pub all_visible : List Flags → Bool
all_visible flags = list_all (λ (f : Flags). f.visible) flags
