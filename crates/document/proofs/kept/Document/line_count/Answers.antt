use Rattle.document.proofs.Names.{arith, length}
use Rattle.document.proofs.SteppedParts.{few_starts, narrow_lines}
use Rattle.document.proofs.kept.Document.line_count.Goals as goal

pub returns-clause-few : goal.returns-clause-few
returns-clause-few c = rw (← c.self.view_is) (omega (arith, c.line_count.ensures.count, few_starts _ _ c.self.invariant))

pub returns-clause-narrow : goal.returns-clause-narrow
returns-clause-narrow c =
    rw (← c.self.view_is) (narrow_lines _ (length c.self.inside.parts.cells.cells) c.line_count.result c.self.invariant.fits (omega (arith, c.line_count.ensures.count, few_starts _ _ c.self.invariant)))
