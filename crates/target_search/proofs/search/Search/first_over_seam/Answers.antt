use Rattle.target_search.proofs.Names.{◌+◌, sym, ◌∙◌, is_match_of}
use Rattle.target_search.proofs.Finding.{none_then, none_at}
use Rattle.target_search.proofs.search.Search.first_over_seam.Goals as goal

pub loop-place-preserved : goal.loop-place-preserved
loop-place-preserved c =
    let test = is_match_of c.args.self.now in
    none_then test c.args.from c.loop-place.place (c.loop-place.place + 1) c.loop-place.invariant
    (none_at test c.loop-place.place (sym c.is_match_over_seam.ensures ∙ c.if-is_match_over_seam.false))
