use Rattle.target_search.proofs.Names.{◌+◌, sym, ◌∙◌, arith, is_match_of}
use Rattle.target_search.proofs.Finding.{none_then, none_at}
use Rattle.target_search.proofs.search.Search.first_of_few.Goals as goal

pub loop-at-preserved : goal.loop-at-preserved
loop-at-preserved c =
    let test = is_match_of c.args.self.now in
    let place = c.args.offset + c.loop-at.at in
    let here = none_at test place (sym c.is_match_in.ensures ∙ c.if-is_match_in.false) in
    none_then test (c.args.offset + c.args.start) place (c.args.offset + (c.loop-at.at + 1)) c.loop-at.invariant (λ k a b. here k a (omega arith))
