use Rattle.line_ends.proofs.Names.{◌+◌, ◌++◌, ◌∙◌, false, sym, ap, drop, arith, length-append, unwanted_from}
use Rattle.line_ends.proofs.Completed.{none_unwanted}
use Rattle.line_ends.proofs.Unwanted.{unwanted_on, unwanted_along, unwanted_first, unwanted_end, next_spare}
use Rattle.line_ends.proofs.finding.next_unwanted.Goals as goal

pub returns-in-CrLf : goal.returns-in-CrLf
returns-in-CrLf c =
    let a = c.args in
    let rest = drop a.from (a.first.now ++ a.second.now) in
    ap (λ to. unwanted_from a.from false to rest) c.in-CrLf.is ∙ none_unwanted rest false a.from

pub looking-init : goal.looking-init
looking-init c =
    let a = c.args in
    let text = a.first.now ++ a.second.now in
    let n = c.next_end-place.ensures in
    record {
      low = n.within.0;
      high = n.within.1;
      none =
          unwanted_first a.to text a.from
          ∙ unwanted_along a.from a.to text a.from c.next_end-place.result (omega arith) n.within.0 (omega (arith, n.within.1, length-append a.first.now a.second.now)) n.quiet;
    }

pub looking-preserved : goal.looking-preserved
looking-preserved c =
    let a = c.args in
    let n = c.next_end-place-in-looking.ensures in
    let low = c.looking.invariant.low in
    let text = a.first.now ++ a.second.now in
    record {
      low = omega (arith, n.within.0);
      high = n.within.1;
      none =
          c.looking.invariant.none
          ∙ unwanted_on a.from a.to text c.looking.place low (omega (arith, length-append a.first.now a.second.now)) (sym c.is_spare.ensures ∙ c.if-is_spare.false)
          ∙ unwanted_along a.from a.to text (c.looking.place + 1) c.next_end-place-in-looking.result (omega arith) n.within.0 (omega (arith, n.within.1, length-append a.first.now a.second.now)) n.quiet;
    }

pub returns-then-is_spare : goal.returns-then-is_spare
returns-then-is_spare c =
    let a = c.args in
    next_spare a.to (a.first.now ++ a.second.now) a.from c.looking.place c.looking.invariant.low (omega (arith, length-append a.first.now a.second.now)) c.looking.invariant.none
    (sym c.is_spare.ensures ∙ c.if-is_spare.true)

pub returns : goal.returns
returns c =
    let a = c.args in
    c.looking.invariant.none ∙ unwanted_end a.from a.to (a.first.now ++ a.second.now) c.looking.place (omega (arith, length-append a.first.now a.second.now))
