use Rattle.marker_store.proofs.Names.{length, ap, refl, ◌∙◌, arith, Chained}
use Rattle.marker_store.proofs.Deeds.{held_is, larger}
use Rattle.marker_store.proofs.chains.Chains.reserve.Goals as goal

pub returns-clause-reserved : goal.returns-clause-reserved
returns-clause-reserved g c =
    let d = c.self.inside in
    let was = held_is d c.self.invariant _ c.self.view_is in
    let had = ap (λ (x : Chained). x.capacity) c.self.view_is in
    rw (larger d c.self.invariant _ c.self.view_is c.reserve.new.self c.reserve.ensures.grown.0) (
      grind (arith, c.reserve.ensures.reserved.0, ap (λ s. length s.items) c.reserve.ensures.grown.0, was, had),
      λ fits.
          let same = c.reserve.ensures.reserved.1 (omega (arith, fits, was, had, c.len.ensures.fits)) in
          (same.0, ap (λ n. record c.args.self.now { capacity = n }) (ap (λ s. s.capacity) same.1 ∙ had)),
    )

pub returns-clause-grown : goal.returns-clause-grown
returns-clause-grown g c =
    let d = c.self.inside in
    let was = held_is d c.self.invariant _ c.self.view_is in
    let had = ap (λ (x : Chained). x.capacity) c.self.view_is in
    rw (larger d c.self.invariant _ c.self.view_is c.reserve.new.self c.reserve.ensures.grown.0)
    (refl, (omega (arith, c.reserve.ensures.grown, had), grind (arith, c.reserve.ensures.grown, was, had, c.len.ensures.fits)))
