use Rattle.std.proofs.Common.{arith}
use Rattle.script_ends.proofs.Writing.{written_from, front_written, front_kept, still_fresh, failed_write}
use Rattle.script_ends.proofs.output.write_all.Goals as goal

pub returns-in_err-count-clause-written : goal.returns-in_err-count-clause-written
returns-in_err-count-clause-written g c = failed_write c.from_residual.result _ _ _ c.from_residual.ensures.0 (front_kept _ _ _ c.args.bytes.now c.loop-at.at c.loop-at.invariant.written c.in_err-count.ensures.bytes)

pub returns-then-count-eq0-clause-written : goal.returns-then-count-eq0-clause-written
returns-then-count-eq0-clause-written g c = front_written _ _ c.args.bytes.now _ (written_from _ _ _ c.args.bytes.now c.loop-at.at c.in_ok-count.count c.loop-at.invariant.written c.in_ok-count.ensures.bytes)

pub loop-at-preserved : goal.loop-at-preserved
loop-at-preserved g c = record {
  within = omega (arith, c.in_ok-count.ensures.bound);
  written = written_from _ _ _ c.args.bytes.now c.loop-at.at c.in_ok-count.count c.loop-at.invariant.written c.in_ok-count.ensures.bytes;
  fresh = still_fresh _ _ c.in_ok-count.count _ c.if-count-eq0.false c.in_ok-count.ensures.failed c.loop-at.invariant.fresh;
}
