-- Copies to a buffer.
use Rattle.std.specs.Prelude.{ℕ, List, length, take, drop, ◌++◌, min}

-- how many of the bytes from `start` on are copied to the buffer
abbrev pub count_copied : List ℕ → ℕ → List ℕ → ℕ
count_copied bytes start into = min (length (drop start bytes)) (length into)

-- the buffer with these bytes at its front
abbrev pub copied : List ℕ → ℕ → List ℕ → List ℕ
copied bytes start into = take (count_copied bytes start into) (drop start bytes) ++ drop (count_copied bytes start into) into
