use Rattle.contraction.proofs.Names.{◌≡◌, ◌≤◌, last_heading}
use Rattle.contraction.proofs.folds.last_among.Given as goal

abbrev pub invariant-seeking : goal.invariant-seeking
invariant-seeking l =
    record {
      left : last_heading l.number l.levels l.high ≡ last_heading l.number l.levels l.end;
      low : l.low ≤ l.end;
      high : l.end ≤ l.high;
    }

abbrev pub decreases-seeking : goal.decreases-seeking
decreases-seeking l = l.end
