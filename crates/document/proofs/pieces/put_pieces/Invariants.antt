use Rattle.document.proofs.Names.{◌≤◌, ◌-◌, length, take, Insert, WereEdited}
use Rattle.document.proofs.pieces.put_pieces.Given as goal

abbrev pub invariant-putting : goal.invariant-putting
invariant-putting g l =
    record {
      within : l.done ≤ length l.bytes;
      put : WereEdited (Insert l.place (take l.done l.bytes)) l.initial.cells l.cells l.initial.lines l.lines;
    }

abbrev pub decreases-putting : goal.decreases-putting
decreases-putting g l = length l.bytes - l.done
