use Rattle.target_search.proofs.Names.{◌+◌, ◌-◌, ◌≡◌, Some, subst, arith, FindsFirst, size_of, is_match_of}
use Rattle.target_search.proofs.Finding.{first_then, first_wider}
use Rattle.target_search.proofs.search.Search.first.Goals as goal

pub returns-in-Some-first_over_seam : goal.returns-in-Some-first_over_seam
returns-in-Some-first_over_seam c =
    let test = is_match_of c.args.self.now in
    let place = c.in-Some-first_over_seam.place in
    first_wider test c.args.from c.borders-seam.result.1 (c.args.to + 1 - size_of c.args.self.now) place (omega arith)
    (first_then test c.args.from c.borders-seam.result.0 c.borders-seam.result.1 c.borders-seam.ensures.order.0 c.in_default.ensures (Some place) c.in-Some-first_over_seam.ensures)

pub returns : goal.returns
returns c =
    let test = is_match_of c.args.self.now in
    let others = size_of c.args.self.now - 1 in
    let end : c.args.to - others ≡ c.args.to + 1 - size_of c.args.self.now = omega arith in
    subst (λ e. FindsFirst test c.args.from e c.first_behind.result) end
    (first_then test c.args.from c.borders-seam.result.0 (c.args.to - others) c.borders-seam.ensures.order.0 c.in_default.ensures c.first_behind.result
    (first_then test c.borders-seam.result.0 c.borders-seam.result.1 (c.args.to - others) c.borders-seam.ensures.order.1 c.in_default-first_over_seam.ensures c.first_behind.result c.first_behind.ensures))
