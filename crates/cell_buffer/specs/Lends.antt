-- How `Cells` end, once bytes that they lent have come back.
use Rattle.std.specs.Prelude.{◌≡◌, ℕ, ◌+◌, ⊤}
use Rattle.std.specs.Borrow.{Fml, MutBor, follows_so}
use mathlib.Core.Option.{none}
use Rattle.split_vector.specs.Split.{gap_beside}
use Rattle.cell_buffer.specs.Buffer.{Buffer}
use Rattle.cell_buffer.specs.contracts.cells.Cells.{the_row}

-- nothing has changed, except that the gap of the bytes lies outside the lent range
abbrev pub lent_and_back : MutBor Buffer → ℕ → ℕ → Fml
lent_and_back c start count =
    let now = c.now in
    follows_so the_row the_row c.ghost_name none (λ _ _. ⊤) (λ n. n ≡ record now { gaps = (gap_beside start (start + count) now.gaps.0, now.gaps.1) })
