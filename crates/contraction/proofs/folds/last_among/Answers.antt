use Rattle.std.proofs.Common.{◌-◌, slice_index, sym, ◌∙◌, arith}
use Rattle.contraction.specs.Headings.{heads as heads_by}
use Rattle.contraction.proofs.FoldLines.{last_here, last_earlier}
use Rattle.contraction.proofs.folds.last_among.Goals as goal

pub returns-then-heads-clause-found : goal.returns-then-heads-clause-found
returns-then-heads-clause-found c =
    let xs = c.args.levels.now in let inv = c.seeking.invariant in (
      omega (arith, inv.high, c.seeking-test.true),
      inv.left ∙ last_here (λ k. heads_by c.args.number (slice_index xs k)) c.seeking.end (c.seeking.end - 1) (omega (arith, c.seeking-test.true)) (sym c.heads.ensures ∙ c.if-heads.true),
    )

pub seeking-preserved : goal.seeking-preserved
seeking-preserved c =
    let xs = c.args.levels.now in let inv = c.seeking.invariant in
    record {
      left = inv.left ∙ last_earlier (λ k. heads_by c.args.number (slice_index xs k)) c.seeking.end (c.seeking.end - 1) (omega (arith, c.seeking-test.true)) (sym c.heads.ensures ∙ c.if-heads.false);
      low = omega (arith, inv.low, c.seeking-test.true);
      high = omega (arith, inv.high);
    }
