use Rattle.contraction.proofs.Names.{◌≡◌, ◌+◌, ◌-◌, ◌<◌, length}
use Rattle.contraction.proofs.Expanding.{Passed}
use Rattle.contraction.proofs.contraction.Contraction.expand.Given as goal

abbrev pub invariant-children : goal.invariant-children
invariant-children g l =
    record {
      flags : Passed l.levels l.fn.self.flags l.header l.line l.self.flags;
      behind : l.header < l.line;
      lines : length l.self.flags ≡ length l.fn.self.flags;
      capacity : l.self.capacity ≡ l.fn.self.capacity;
    }

abbrev pub decreases-children : goal.decreases-children
decreases-children g l = l.last + 1 - l.line
