use Rattle.script_ends.proofs.Names.{◌≡◌, ◌≤◌, ◌-◌, length, take, false, Appends}
use Rattle.script_ends.proofs.output.write_all.Given as goal

abbrev pub invariant-loop-at : goal.invariant-loop-at
invariant-loop-at g l = record {
  within : l.at ≤ length l.bytes;
  written : Appends (g.W.Sink.contents l.fn.sink) (g.W.Sink.contents l.sink) (take l.at l.bytes);
  fresh : g.W.Sink.has_failed l.sink ≡ false;
}

abbrev pub decreases-loop-at : goal.decreases-loop-at
decreases-loop-at g l = length l.bytes - l.at
