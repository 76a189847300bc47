use Rattle.std.proofs.Common.{◌∙◌}
use Rattle.id_table.proofs.EntryLemmas.{table_ordered, is_there_of}
use Rattle.id_table.proofs.table.IdTable.contains.Goals as goal

pub position_of-requires : goal.position_of-requires
position_of-requires g c = rw c.deref.ensures.value (table_ordered _ _ _ c.self.invariant)

pub returns : goal.returns
returns g c = rw (← c.self.view_is) (c.is_some.ensures ∙ is_there_of _ _ _ c.self.invariant c.args.id c.position_of.result (rw (← c.deref.ensures.value) c.position_of.ensures.found) (rw (← c.deref.ensures.value) c.position_of.ensures.missing))
