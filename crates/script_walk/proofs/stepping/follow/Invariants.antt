use Rattle.std.proofs.Common.{◌≡◌, false}
use Rattle.script_walk.proofs.stepping.follow.Given as goal

abbrev pub invariant-orders : goal.invariant-orders
invariant-orders g l = g.W.Sink.has_failed l.sink ≡ false
