use Rattle.std.proofs.Common.{arith}
use Rattle.run_styles.proofs.ByIndex.{run_top, split_stands, split_values}
use Rattle.run_styles.proofs.table.RunTable.split.Goals as goal

pub invariant_of-self : goal.invariant_of-self
invariant_of-self g c =
    let inside = rw (← c.self.view_is) at c.requires.inside in
    let paired = c.self.invariant.0.paired in
    let top = run_top c.args.index c.self.invariant.0 inside.0 in
    let stands = split_stands c.args.index c.args.place c.self.invariant.0 (omega (arith, inside)) inside.0 inside.1 inside.2 in
    let values = split_values c.self.inside.values.items c.args.index c.get-value.result (omega (arith, inside)) c.get-value.ensures in
    (rw (c.insert_reserved.ensures.inserted, c.insert_reserved-2.ensures, values) stands.table, c.self.invariant.1)
