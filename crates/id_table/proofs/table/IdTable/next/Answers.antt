use Rattle.id_table.proofs.EntryLemmas.{ids_rise}
use Rattle.id_table.proofs.table.IdTable.next.Goals as goal

pub returns-clause-ids : goal.returns-clause-ids
returns-clause-ids g c = rw (← c.self.view_is) (ids_rise _ _ _ c.self.invariant)
