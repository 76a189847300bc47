use Rattle.std.proofs.Common.{◌++◌}
use Rattle.target_search.proofs.Finding.{some_bytes, found_forwards, found_backwards}
use Rattle.target_search.proofs.find.Goals as goal

pub returns-then-from-to : goal.returns-then-from-to
returns-then-from-to c =
    found_forwards c.args.flags (c.args.before.now ++ c.args.after.now) c.args.pattern.now c.args.from c.args.to c.first.result (some_bytes _ _ c.is_empty.ensures c.if-is_empty.false) c.if-from-to.true c.first.ensures

pub returns-else-from-to : goal.returns-else-from-to
returns-else-from-to c =
    found_backwards c.args.flags (c.args.before.now ++ c.args.after.now) c.args.pattern.now c.args.from c.args.to c.last.result (some_bytes _ _ c.is_empty.ensures c.if-is_empty.false) c.if-from-to.false c.last.ensures
