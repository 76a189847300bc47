use Rattle.std.proofs.Common.{arith, get_or}
use Rattle.run_styles.proofs.Deleting.{can_lose_part}
use Rattle.run_styles.proofs.ByIndex.{shrink_stands}
use Rattle.run_styles.proofs.table.RunTable.shrink.Goals as goal

pub delete_text-requires-clause-count : goal.delete_text-requires-clause-count
delete_text-requires-clause-count g c = let part = rw (← c.self.view_is) at c.requires in can_lose_part c.args.index c.args.count c.self.invariant.0 part.0 part.1

pub invariant_of-self : goal.invariant_of-self
invariant_of-self g c =
    let part = rw (← c.self.view_is) at c.requires in
    (rw c.delete_text.ensures.lowered (shrink_stands c.args.index (get_or c.self.inside.starts.starts c.args.index 0) c.args.count c.self.invariant.0 part.0 part.1 (omega arith) (omega (arith, part))).table, c.self.invariant.1)
