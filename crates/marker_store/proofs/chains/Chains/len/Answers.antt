use Rattle.marker_store.proofs.Names.{ap, arith, Chained}
use Rattle.marker_store.proofs.Deeds.{held_is}
use Rattle.marker_store.proofs.chains.Chains.len.Goals as goal

pub overflow_sub-result : goal.overflow_sub-result
overflow_sub-result g c = omega (arith, c.len.ensures.len, held_is _ c.self.invariant _ c.self.view_is)

pub returns-clause-len : goal.returns-clause-len
returns-clause-len g c = omega (arith, c.len.ensures.len, held_is _ c.self.invariant _ c.self.view_is)

pub returns-clause-fits : goal.returns-clause-fits
returns-clause-fits g c =
    let had = ap (λ (x : Chained). x.capacity) c.self.view_is in
    (omega (arith, c.len.ensures.fits, held_is _ c.self.invariant _ c.self.view_is, had), omega (arith, c.len.ensures.fits, had))
