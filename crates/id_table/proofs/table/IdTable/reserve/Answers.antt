-- Values and places are unchanged.
use Rattle.id_table.proofs.Names.{ap, Slab}
use Rattle.id_table.proofs.EntryLemmas.{wider_table}
use Rattle.id_table.proofs.table.IdTable.reserve.Goals as goal

pub invariant_of-self : goal.invariant_of-self
invariant_of-self g c = (wider_table _ _ _ c.self.invariant c.reserve.new.self (ap (λ (s : Slab g.row.T.Denot). s.slots) c.reserve.ensures.rest_kept)).1

pub invariant_of-self-2 : goal.invariant_of-self-2
invariant_of-self-2 g c = rw c.reserve-2.ensures.items (wider_table _ _ _ c.self.invariant c.reserve.new.self (ap (λ (s : Slab g.row.T.Denot). s.slots) c.reserve.ensures.rest_kept)).1
