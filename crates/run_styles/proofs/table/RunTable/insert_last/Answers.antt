use Rattle.std.proofs.Common.{arith}
use Rattle.run_styles.proofs.ByIndex.{can_start_last, last_starts, last_values, length_table}
use Rattle.run_styles.proofs.Steps.{last_parts}
use Rattle.run_styles.proofs.table.RunTable.insert_last.Goals as goal

pub insert_reserved-requires-clause-start : goal.insert_reserved-requires-clause-start
insert_reserved-requires-clause-start g c =
    let some = rw (← c.self.view_is) at c.requires.some in
    rw (c.insert_text.ensures.raised, c.count-index.ensures.count, c.length-place.ensures.length)
    (can_start_last c.args.count c.self.invariant.0 (omega (arith, some, length_table c.self.invariant.0)))

pub invariant_of-self : goal.invariant_of-self
invariant_of-self g c =
    let some = rw (← c.self.view_is) at c.requires.some in
    let last = last_parts c.args.value c.args.count c.self.invariant.0 (omega (arith, some, length_table c.self.invariant.0)) some.0 in
    (rw (c.insert_reserved.ensures.inserted, c.insert_text.ensures.raised, c.insert_reserved-2.ensures, c.count-index.ensures.count, c.length-place.ensures.length, last_starts c.args.count c.self.invariant.0, last_values c.args.value c.self.invariant.0) last.table, c.self.invariant.1)
