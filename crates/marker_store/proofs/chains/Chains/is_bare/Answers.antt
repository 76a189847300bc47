use Rattle.marker_store.proofs.Names.{◌==◌, ap, ◌∙◌, arith, get_or_read}
use Rattle.marker_store.proofs.Deeds.{lines_seen, bare_line}
use Rattle.marker_store.proofs.chains.Chains.is_bare.Goals as goal

pub returns : goal.returns
returns g c =
    let d = c.self.inside in
    let at = get_or_read d.heads.items c.args.line c.get.result (omega (arith, lines_seen d c.self.invariant _ c.self.view_is)) c.get.ensures 0 in
    ap (λ n. n == 0) at ∙ bare_line d c.self.invariant _ c.self.view_is c.args.line c.requires
