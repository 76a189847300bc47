use Rattle.target_search.proofs.Names.{◌+◌, ◌-◌, sym, ◌∙◌, arith, is_match_of}
use Rattle.target_search.proofs.Finding.{none_then, none_at}
use Rattle.target_search.proofs.search.Search.last_of_few.Goals as goal

pub looking-preserved : goal.looking-preserved
looking-preserved c =
    let test = is_match_of c.args.self.now in
    let place = c.args.offset + (c.looking.at - 1) in
    let here = none_at test place (sym c.is_match_in.ensures ∙ c.if-is_match_in.false) in
    record {
      high = omega (arith, c.looking.invariant.high);
      none = none_then test place (c.args.offset + c.looking.at) (c.args.offset + c.args.end) (λ k a b. here k a (omega arith)) c.looking.invariant.none;
    }
