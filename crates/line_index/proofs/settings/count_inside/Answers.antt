use Rattle.line_index.proofs.Names.{◌+◌, ◌++◌, length, sym, ap, ◌∙◌, arith, Unicode}
use Rattle.line_index.proofs.SettingLists.{none_starts, one_more_inside}
use Rattle.line_index.proofs.StartLists.{one_if, count_at, count_apart, no_starts}
use Rattle.line_index.proofs.settings.count_inside.Goals as goal

pub counting-init : goal.counting-init
counting-init c =
    let text = c.args.before.now ++ c.args.after.now in
    let first = c.next_start-place in
    record {
      lines = sym (ap length (no_starts Unicode text (c.args.start + 1) first.result first.ensures.none));
      low = omega (arith, first.ensures.within);
      high = first.ensures.within.1;
      few = omega (arith, first.ensures.within);
      none = λ k a b. none_starts text k (first.ensures.none k (omega arith) b);
      found = first.ensures.start;
    }

pub counting-preserved : goal.counting-preserved
counting-preserved c =
    let text = c.args.before.now ++ c.args.after.now in
    let inv = c.counting.invariant in
    let next = c.next_start-place-in-counting in
    let place = c.counting.place in
    record {
      lines = omega (
        arith,
        inv.lines,
        count_apart Unicode text (c.args.start + 1) place next.result (omega (arith, inv.low)) (omega (arith, next.ensures.within)),
        count_apart Unicode text place (place + 1) next.result (omega arith) (omega (arith, next.ensures.within)),
        count_at Unicode text place,
        ap one_if (inv.found c.counting-test.true),
        ap length (no_starts Unicode text (place + 1) next.result next.ensures.none),
      );
      low = omega (arith, inv.low, next.ensures.within);
      high = next.ensures.within.1;
      few = omega (arith, inv.few, next.ensures.within);
      none = one_more_inside text c.args.start place next.result inv.low (sym c.starts_by_default.ensures ∙ c.if-starts_by_default.false) inv.none next.ensures.none;
      found = next.ensures.start;
    }
