use Rattle.contraction.proofs.Names.{◌≡◌, ◌≤◌, length}
use Rattle.contraction.proofs.AnyOrder.{opened_up}
use Rattle.contraction.proofs.contraction.Contraction.open_parents.Given as goal

-- the fold parents that are left lead to the same flags as all of them
abbrev pub invariant-parents : goal.invariant-parents
invariant-parents g l =
    record {
      flags : opened_up l.levels l.inner l.self.flags ≡ opened_up l.levels l.line l.initial.self.flags;
      within : l.inner ≤ l.line;
      lines : length l.self.flags ≡ length l.initial.self.flags;
      capacity : l.self.capacity ≡ l.initial.self.capacity;
    }

abbrev pub decreases-parents : goal.decreases-parents
decreases-parents g l = l.inner
