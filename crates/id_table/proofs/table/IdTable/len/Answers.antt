use Rattle.std.proofs.Common.{rules}
use Rattle.id_table.proofs.EntryLemmas.{length_table}
use Rattle.id_table.proofs.table.IdTable.len.Goals as goal

pub returns : goal.returns
returns g c = rw (← c.self.view_is, length_table _ _ _ c.self.invariant) (search rules)
