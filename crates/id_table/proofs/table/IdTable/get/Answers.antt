use Rattle.std.proofs.Common.{rules}
use Rattle.id_table.proofs.EntryLemmas.{table_ordered, value_found, value_missing}
use Rattle.id_table.proofs.table.IdTable.get.Goals as goal

pub position_of-requires : goal.position_of-requires
position_of-requires g c = rw c.deref.ensures.value (table_ordered _ _ _ c.self.invariant)

pub returns-in_err-at : goal.returns-in_err-at
returns-in_err-at g c = rw (← c.self.view_is, value_missing _ _ _ c.self.invariant c.args.id (rw (← c.deref.ensures.value) c.in_err-at.ensures.missing)) (search rules)

pub returns : goal.returns
returns g c = rw (← c.self.view_is, value_found _ _ _ c.self.invariant c.args.id c.in_ok-at.at c.index.result.now (rw (← c.deref.ensures.value) c.in_ok-at.ensures.found) c.index.ensures) c.get.ensures
