use Rattle.target_search.proofs.Names.{◌+◌, ◌-◌, ◌≡◌, Some, subst, arith, FindsLast, IsLastOf, size_of, is_match_of}
use Rattle.target_search.proofs.Finding.{last_then, last_wider}
use Rattle.target_search.proofs.search.Search.last.Goals as goal

pub returns-in-Some-last_over_seam : goal.returns-in-Some-last_over_seam
returns-in-Some-last_over_seam c =
    let test = is_match_of c.args.self.now in
    let place = c.in-Some-last_over_seam.place in
    let others = size_of c.args.self.now - 1 in
    let end : c.args.to - others ≡ c.args.to + 1 - size_of c.args.self.now = omega arith in
    subst (λ e. IsLastOf test c.args.from e place) end
    (last_wider test c.args.from c.borders-seam.result.0 (c.args.to - others) place c.borders-seam.ensures.order.0
    (last_then test c.borders-seam.result.0 c.borders-seam.result.1 (c.args.to - others) c.borders-seam.ensures.order.2 c.in_default.ensures (Some place) c.in-Some-last_over_seam.ensures))

pub returns : goal.returns
returns c =
    let test = is_match_of c.args.self.now in
    let others = size_of c.args.self.now - 1 in
    let end : c.args.to - others ≡ c.args.to + 1 - size_of c.args.self.now = omega arith in
    subst (λ e. FindsLast test c.args.from e c.last_before.result) end
    (last_then test c.args.from c.borders-seam.result.1 (c.args.to - others) c.borders-seam.ensures.order.2 c.in_default.ensures c.last_before.result
    (last_then test c.args.from c.borders-seam.result.0 c.borders-seam.result.1 c.borders-seam.ensures.order.1 c.in_default-last_over_seam.ensures c.last_before.result c.last_before.ensures))
