use Rattle.std.proofs.Common.{arith}
use Rattle.run_styles.proofs.ByIndex.{first_starts, length_table}
use Rattle.run_styles.proofs.Steps.{first_parts}
use Rattle.run_styles.proofs.table.RunTable.insert_first.Goals as goal

pub invariant_of-self : goal.invariant_of-self
invariant_of-self g c =
    let some = rw (← c.self.view_is) at c.requires.some in
    let first = first_parts c.args.value c.args.count c.self.invariant.0 (omega (arith, some, length_table c.self.invariant.0)) some.0 in
    (rw (c.insert_reserved.ensures.inserted, c.insert_text.ensures.raised, c.insert_reserved-2.ensures, first_starts c.args.count c.self.invariant.0) first.table, c.self.invariant.1)
