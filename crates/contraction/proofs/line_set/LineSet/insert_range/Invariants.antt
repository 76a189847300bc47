use Rattle.contraction.proofs.Names.{◌≡◌, ◌≤◌, true, holds_after, Becomes}
use Rattle.contraction.proofs.line_set.LineSet.insert_range.Given as goal

abbrev pub invariant-loop-line : goal.invariant-loop-line
invariant-loop-line g l =
    record {
      set : Becomes l.initial.self.length (holds_after true l.initial.self.numbers l.first l.line) l.initial.self l.self;
      empty : l.past ≤ l.first → l.line ≡ l.first;
    }
