use Rattle.std.proofs.Common.{◌+◌, ◌++◌, ◌∙◌, sym, arith, length-append}
use Rattle.line_ends.proofs.Missing.{missing_on, missing_along, missing_end}
use Rattle.line_ends.proofs.finding.next_lone.Goals as goal

pub looking-init : goal.looking-init
looking-init c =
    let a = c.args in
    let n = c.next_end-place.ensures in
    record {
      low = n.within.0;
      high = n.within.1;
      none = missing_along a.to (a.first.now ++ a.second.now) a.from c.next_end-place.result n.within.0 (omega (arith, n.within.1, length-append a.first.now a.second.now)) n.quiet;
    }

pub looking-preserved : goal.looking-preserved
looking-preserved c =
    let a = c.args in
    let n = c.next_end-place-in-looking.ensures in
    let text = a.first.now ++ a.second.now in
    record {
      low = (let low = c.looking.invariant.low in omega (arith, n.within.0));
      high = n.within.1;
      none =
          c.looking.invariant.none
          ∙ missing_on a.to text c.looking.place (omega (arith, length-append a.first.now a.second.now)) (sym c.is_lone.ensures ∙ c.if-is_lone.false)
          ∙ missing_along a.to text (c.looking.place + 1) c.next_end-place-in-looking.result n.within.0 (omega (arith, n.within.1, length-append a.first.now a.second.now)) n.quiet;
    }

pub returns-then-is_lone : goal.returns-then-is_lone
returns-then-is_lone c =
    let a = c.args in
    record {
      behind = c.looking.invariant.low;
      within = omega (arith, length-append a.first.now a.second.now);
      lone = sym c.is_lone.ensures ∙ c.if-is_lone.true;
      none_between = c.looking.invariant.none;
    }

pub returns : goal.returns
returns c =
    let a = c.args in
    c.looking.invariant.none ∙ missing_end a.to (a.first.now ++ a.second.now) c.looking.place (omega (arith, length-append a.first.now a.second.now))
