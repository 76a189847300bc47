-- A text has at most as many lines as bytes, and one.
use Rattle.document.proofs.Names.{arith, meets}
use Rattle.document.proofs.SteppedParts.{few_starts, small_bound}
use Rattle.document.proofs.kept.Document.line_of.Goals as goal

pub returns-clause-small : goal.returns-clause-small
returns-clause-small c = omega (arith, c.line_of.ensures.within, few_starts _ _ c.self.invariant, c.self.invariant.fits, small_bound (meets c.self.inside.options 0x100))
