-- The end of a line lies in the text.
use Rattle.document.proofs.Names.{length, ap, arith, Kept, meets}
use Rattle.document.proofs.LineSteps.{end_in_cells}
use Rattle.document.proofs.SteppedParts.{small_bound}
use Rattle.document.proofs.kept.Document.line_end.Goals as goal

pub returns-then-line-line_count-clause-within : goal.returns-then-line-line_count-clause-within
returns-then-line-line_count-clause-within c =
    let inside = end_in_cells c.self.inside.parts.cells.cells c.self.inside.parts.places.index.types _ c.args.line c.halves.ensures.joined in
    omega (arith, inside, c.line_end.ensures, ap (λ (k : Kept). length k.document.cells) c.self.view_is)

pub returns-then-line-line_count-clause-small : goal.returns-then-line-line_count-clause-small
returns-then-line-line_count-clause-small c =
    let inside = end_in_cells c.self.inside.parts.cells.cells c.self.inside.parts.places.index.types _ c.args.line c.halves.ensures.joined in
    omega (arith, inside, c.line_end.ensures, c.self.invariant.fits, small_bound (meets c.self.inside.options 0x100))
