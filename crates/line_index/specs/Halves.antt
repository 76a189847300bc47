-- A text in two halves.
use Rattle.std.specs.Prelude.{ℕ, List, ◌++◌}
use Rattle.line_index.specs.declared.halves.Halves.{Halves}

-- the bytes of both halves
abbrev pub bytes_in : Halves → List ℕ
bytes_in text = text.before.now ++ text.after.now
