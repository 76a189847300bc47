use Rattle.marker_store.proofs.Names.{[], length, get_or, ap, ◌∙◌, arith, length-set, Chained}
use Rattle.marker_store.proofs.Changes.{laid_more, laid_all}
use Rattle.marker_store.proofs.Deeds.{zero_told}
use Rattle.marker_store.proofs.chains.Chains.lay_all.Goals as goal

pub laying-preserved : goal.laying-preserved
laying-preserved g c =
    let l = c.lay.ensures in (
      omega (arith, c.laying.invariant.0, ap (λ (x : Chained). length x.rows) l.is, length-set c.laying.self.rows c.args.line l.front),
      laid_more c.args.line c.laying.self c.lay.new.self c.laying.invariant.0 l ∙ c.laying.invariant.1,
    )

pub returns : goal.returns
returns g c = laid_all c.args.line c.laying.self (zero_told (length (get_or c.laying.self.rows c.args.line [])) c.is_bare.result c.is_bare.ensures c.laying-test.false) ∙ c.laying.invariant.1
