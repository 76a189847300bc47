-- The effect of a pass over the children of a header at one of them, and of opening the fold parents of a line.
use Rattle.std.specs.Prelude.{ℕ, ◌+◌, ◌&&◌, not, if◌then◌else◌, Bool, List, fold, reverse}
use Rattle.ed_model.specs.Rows.{Flags}
use Rattle.ed_model.specs.Folding.{is_header, is_expanded, last_child, lines_hidden, header_opened, fold_parents}

-- whether the line is a contracted header
abbrev pub is_closed : List ℕ → List Flags → ℕ → Bool
is_closed levels flags line = is_header levels line && not (is_expanded flags line)

-- its children are hidden if it is one
abbrev pub closed_at : List ℕ → ℕ → List Flags → List Flags
closed_at levels line flags = if is_closed levels flags line then lines_hidden (line + 1) (last_child levels line + 1) flags else flags

-- the next line of the pass: behind those children, or else behind the line
abbrev pub behind_closed : List ℕ → ℕ → List Flags → ℕ
behind_closed levels line flags = if is_closed levels flags line then last_child levels line + 1 else line + 1

-- the flags after the fold parents of the line are opened, the outermost before the others
abbrev pub parents_opened : List ℕ → ℕ → List Flags → List Flags
parents_opened levels line flags = fold (header_opened levels) flags (reverse (fold_parents levels line))
