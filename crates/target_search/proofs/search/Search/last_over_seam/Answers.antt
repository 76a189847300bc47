use Rattle.target_search.proofs.Names.{◌-◌, sym, ◌∙◌, arith, is_match_of}
use Rattle.target_search.proofs.Finding.{none_then, none_at}
use Rattle.target_search.proofs.search.Search.last_over_seam.Goals as goal

pub looking-preserved : goal.looking-preserved
looking-preserved c =
    let test = is_match_of c.args.self.now in
    let here = none_at test (c.looking.place - 1) (sym c.is_match_over_seam.ensures ∙ c.if-is_match_over_seam.false) in
    record {
      high = omega (arith, c.looking.invariant.high);
      none = none_then test (c.looking.place - 1) c.looking.place c.args.end (λ k a b. here k a (omega arith)) c.looking.invariant.none;
    }
