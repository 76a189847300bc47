use Rattle.std.proofs.Common.{◌++◌, sym, ◌∙◌, arith}
use Rattle.line_index.proofs.TextBytes.{none_on}
use Rattle.line_index.proofs.halves.next_start.Goals as goal

pub looking-preserved : goal.looking-preserved
looking-preserved c =
    record {
      low = omega (arith, c.next_place-place.ensures.within);
      high = c.next_place-place.ensures.within.1;
      none = none_on c.args.text.types (c.args.text.before.now ++ c.args.text.after.now) c.args.from c.looking.place c.next_place-place.result c.looking.invariant.none
          (sym c.starts_at.ensures ∙ c.if-starts_at.false)
          c.next_place-place.ensures.none;
    }
