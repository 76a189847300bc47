use Rattle.document.proofs.Names.{◌≡◌, ◌≤◌, numbers_of, with_more_markers}
use Rattle.document.proofs.MarkerNumbers.{numbers_from}
use Rattle.document.proofs.row_changes.add_markers.Given as goal

abbrev pub invariant-adding : goal.invariant-adding
invariant-adding l =
    record {
      all : with_more_markers l.line (numbers_from l.mask l.number) l.rows ≡ with_more_markers l.line (numbers_of l.mask) l.initial.rows;
      within : l.number ≤ 32;
    }
