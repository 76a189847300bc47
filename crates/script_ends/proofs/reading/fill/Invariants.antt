use Rattle.script_ends.proofs.Names.{◌≡◌, ◌≤◌, ◌+◌, ◌-◌, length, false, Consumes}
use Rattle.script_ends.proofs.reading.fill.Given as goal

abbrev pub invariant-loop-text : goal.invariant-loop-text
invariant-loop-text g l = record {
  consumed : Consumes (g.S.Source.remaining l.fn.source) (g.S.Source.remaining l.source) l.text.items;
  few : length l.text.items ≤ l.limit + 1;
  fresh : g.S.Source.has_failed l.source ≡ false;
}

abbrev pub decreases-loop-text : goal.decreases-loop-text
decreases-loop-text g l = l.limit + 1 - length l.text.items
