use Rattle.contraction.proofs.Names.{◌≡◌, ◌+◌, ◌≤◌, length, drop, flags_together, after_edits, FitLines, fresh_lines}
use Rattle.contraction.proofs.contraction.Contraction.carry.Given as goal

abbrev pub invariant-loop-edit : goal.invariant-loop-edit
invariant-loop-edit g l =
    record {
      done : after_edits flags_together (drop l.edit-index l.edits) l.self.flags ≡ after_edits flags_together l.edits l.initial.self.flags;
      fit : FitLines (length l.self.flags) (drop l.edit-index l.edits);
      few : length l.self.flags + fresh_lines (drop l.edit-index l.edits) ≤ g.P.Place.GREATEST;
      capacity : l.self.capacity ≡ l.initial.self.capacity;
    }
