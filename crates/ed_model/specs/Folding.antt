-- Folding, by the fold levels of all lines of a document and the flags of a view. [Scintilla: folding; what expanding shows: own]
use Rattle.std.specs.Prelude.{ℕ, ◌+◌, ◌-◌, nat_le, nat_lt, not, ◌&&◌, ◌||◌, if◌then◌else◌, Bool, true, false, List, [], ◌∷◌, length, map, find, reverse, fold, slice_index, slice_index_or, slice_set, bit_and, Option, Some, None}
use Rattle.std.specs.List.{range_with_len, list_all}
use Rattle.ed_model.specs.Numbers.{meets}
use Rattle.ed_model.specs.Rows.{Flags, fresh_flags}

-- SC_FOLDLEVELNUMBERMASK and SC_FOLDLEVELHEADERFLAG
abbrev pub level_number : ℕ → ℕ
level_number level = bit_and level 0xFFF

abbrev pub is_header_level : ℕ → Bool
is_header_level level = meets level 0x2000

abbrev pub number_at : List ℕ → ℕ → ℕ
number_at levels line = level_number (slice_index levels line)

abbrev pub is_header : List ℕ → ℕ → Bool
is_header levels line = is_header_level (slice_index levels line)

abbrev pub line_before : ℕ → Option ℕ → ℕ
line_before lines None = lines - 1
line_before lines (Some line) = line - 1

-- the line before the next line whose number is at most `number`, or the last line if there is no such line
abbrev pub last_child_at : List ℕ → ℕ → ℕ → ℕ
last_child_at levels line number =
    line_before (length levels) (find (λ j. nat_le (number_at levels j) number) (range_with_len (line + 1) (length levels - (line + 1))))

abbrev pub last_child : List ℕ → ℕ → ℕ
last_child levels line = last_child_at levels line (number_at levels line)

-- whether the line is a child of the header: a later line, up to the header's last child for its own number
abbrev pub is_child : List ℕ → ℕ → ℕ → Bool
is_child levels header line = nat_lt header line && nat_le line (last_child levels header)

-- whether the line `earlier` is a header with a smaller number than the line `line`
abbrev pub is_parent_of : List ℕ → ℕ → ℕ → Bool
is_parent_of levels line earlier = is_header levels earlier && nat_lt (number_at levels earlier) (number_at levels line)

-- the chain of fold parents of a line among these earlier lines, the nearest first
abbrev pub parents_among : List ℕ → ℕ → List ℕ → List ℕ
parents_among levels line [] = []
parents_among levels line (j ∷ js) =
    if is_parent_of levels line j then j ∷ parents_among levels j js else parents_among levels line js

-- the fold parent of the line, the fold parent of that one, and so on
abbrev pub fold_parents : List ℕ → ℕ → List ℕ
fold_parents levels line = parents_among levels line (reverse (range_with_len 0 line))

-- the nearest earlier header with a smaller number (SCI_GETFOLDPARENT)
abbrev pub fold_parent : List ℕ → ℕ → Option ℕ
fold_parent levels line = find (is_parent_of levels line) (reverse (range_with_len 0 line))

-- the chain that begins with this parent: the parent, and then its own fold parents
abbrev pub parents_from : List ℕ → Option ℕ → List ℕ
parents_from levels None = []
parents_from levels (Some parent) = parent ∷ fold_parents levels parent

-- the line itself if it is a header, otherwise its fold parent
abbrev pub fold_header : List ℕ → ℕ → Option ℕ
fold_header levels line = if is_header levels line then Some line else fold_parent levels line

-- Flags.

abbrev pub flags_at : List Flags → ℕ → Flags
flags_at flags line = slice_index_or flags line fresh_flags

abbrev pub is_visible : List Flags → ℕ → Bool
is_visible flags line = (flags_at flags line).visible

abbrev pub is_expanded : List Flags → ℕ → Bool
is_expanded flags line = (flags_at flags line).expanded

-- the flags in which each line that passes the test is visible as `shown` says, and the other lines stay as they are
abbrev pub with_visible : (ℕ → Bool) → (ℕ → Bool) → List Flags → List Flags
with_visible passes shown flags =
    map (λ line. let f = flags_at flags line in if passes line then record f { visible = shown line } else f) (range_with_len 0 (length flags))

abbrev pub with_expanded : ℕ → Bool → List Flags → List Flags
with_expanded line on flags = let f = flags_at flags line in slice_set flags line (record f { expanded = on })

abbrev pub is_between : ℕ → ℕ → ℕ → Bool
is_between first past line = nat_le first line && nat_lt line past

abbrev pub lines_shown : ℕ → ℕ → List Flags → List Flags
lines_shown first past flags = with_visible (is_between first past) (λ _. true) flags

-- line 0 is never hidden
abbrev pub lines_hidden : ℕ → ℕ → List Flags → List Flags
lines_hidden first past flags = with_visible (λ line. nat_lt 0 line && is_between first past line) (λ _. false) flags

-- contracting a header hides its children
abbrev pub contracted : List ℕ → ℕ → List Flags → List Flags
contracted levels header flags = with_visible (is_child levels header) (λ _. false) (with_expanded header false flags)

-- whether each header between `header` and the line that has the line as a child is expanded
abbrev pub is_open_between : List ℕ → List Flags → ℕ → ℕ → Bool
is_open_between levels flags header line =
    list_all (λ inner. not (is_header levels inner && is_child levels inner line) || is_expanded flags inner) (range_with_len (header + 1) (line - (header + 1)))

-- expanding a header shows each child, except the children of contracted headers between; these it hides
abbrev pub expanded : List ℕ → ℕ → List Flags → List Flags
expanded levels header flags =
    with_visible (is_child levels header) (is_open_between levels flags header) (with_expanded header true flags)

-- the flags after the header is made visible, and expanded if it is contracted
abbrev pub header_opened : List ℕ → List Flags → ℕ → List Flags
header_opened levels flags header =
    let shown = lines_shown header (header + 1) flags in
    if is_expanded flags header then shown else expanded levels header shown

-- the flags after a hidden line is made visible: its fold parents are opened first, the outermost before the others (SCI_ENSUREVISIBLE)
abbrev pub revealed : List ℕ → ℕ → List Flags → List Flags
revealed levels line flags =
    if is_visible flags line then flags
    else lines_shown line (line + 1) (fold (header_opened levels) flags (reverse (fold_parents levels line)))
