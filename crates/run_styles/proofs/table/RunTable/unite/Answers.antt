use Rattle.std.proofs.Common.{arith, refl}
use Rattle.run_styles.proofs.ByIndex.{fill_stands, length_table, united_values}
use Rattle.run_styles.proofs.table.RunTable.unite.Goals as goal

pub invariant_of-self : goal.invariant_of-self
invariant_of-self g c =
    let range = rw (← c.self.view_is) at c.requires in
    let paired = c.self.invariant.0.paired in
    let values = united_values c.self.inside.values.items c.args.from c.args.to c.args.value (omega arith) (omega arith) in
    (rw (c.remove_starts.ensures, c.delete.ensures, c.set.ensures, values) (fill_stands c.args.from c.args.to c.args.value c.self.invariant.0 (omega (arith, range, length_table c.self.invariant.0)) range.0 range.1).table, c.self.invariant.1)

pub returns : goal.returns
returns g c =
    let range = rw (← c.self.view_is) at c.requires in
    let paired = c.self.invariant.0.paired in
    let values = united_values c.self.inside.values.items c.args.from c.args.to c.args.value (omega arith) (omega arith) in
    rw (← c.self.view_is, c.remove_starts.ensures, c.delete.ensures, c.set.ensures, values) refl
