use Rattle.std.proofs.Common.{arith, refl}
use Rattle.run_styles.proofs.Deleting.{lowered-drop, can_lose_run}
use Rattle.run_styles.proofs.ByIndex.{drop_stands, length_table}
use Rattle.run_styles.proofs.table.RunTable.drop_run.Goals as goal

pub delete_text-requires-clause-count : goal.delete_text-requires-clause-count
delete_text-requires-clause-count g c =
    let range = rw (← c.self.view_is) at c.requires.range in
    let whole = rw (← c.self.view_is) at c.requires.whole in
    rw c.remove.ensures.removed
    (can_lose_run c.args.index c.max-joined.result c.args.count c.self.invariant.0 (omega (arith, range, length_table c.self.invariant.0)) c.max-joined.ensures (omega (arith, range)) (omega (arith, range)) whole)

pub invariant_of-self : goal.invariant_of-self
invariant_of-self g c =
    let range = rw (← c.self.view_is) at c.requires.range in
    let whole = rw (← c.self.view_is) at c.requires.whole in
    let starts = lowered-drop c.self.inside.starts.starts c.self.inside.starts.length c.args.index c.max-joined.result c.args.count c.max-joined.ensures (omega (arith, range)) (omega (arith, range)) c.self.invariant.0.from_zero whole in
    (rw (c.delete_text.ensures.lowered, c.remove.ensures.removed, starts, c.delete.ensures) (drop_stands c.args.index c.args.count c.self.invariant.0 (omega (arith, range, length_table c.self.invariant.0)) range.0 range.1 whole).table, c.self.invariant.1)

pub returns : goal.returns
returns g c =
    let range = rw (← c.self.view_is) at c.requires.range in
    let whole = rw (← c.self.view_is) at c.requires.whole in
    let starts = lowered-drop c.self.inside.starts.starts c.self.inside.starts.length c.args.index c.max-joined.result c.args.count c.max-joined.ensures (omega (arith, range)) (omega (arith, range)) c.self.invariant.0.from_zero whole in
    rw (← c.self.view_is, c.delete_text.ensures.lowered, c.remove.ensures.removed, starts, c.delete.ensures) refl
