use Rattle.target_search.proofs.Names.{◌≡◌, ◌+◌, true, false, subst, sym, ◌∙◌, arith, is_match_of}
use Rattle.target_search.proofs.MarkedBytes.{still_marks, none_below, none_unmarked}
use Rattle.target_search.proofs.search.Search.first_marked.Goals as goal

pub returns-then-is_match_in : goal.returns-then-is_match_in
returns-then-is_match_in c =
    let test = is_match_of c.args.self.now in
    let base = c.args.offset + c.args.start in
    let bit = c.lowest-bit.result in
    let place : c.args.offset + (c.args.start + bit) ≡ base + bit = omega arith in
    record {
      low = omega arith;
      high = omega (arith, c.lowest-bit.ensures.within);
      passes = subst (λ p. test p ≡ true) place (sym c.is_match_in.ensures ∙ c.if-is_match_in.true);
      before = none_below test base c.looking.left bit c.looking.invariant c.lowest-bit.ensures.within c.lowest-bit.ensures.below;
    }

pub looking-preserved : goal.looking-preserved
looking-preserved c =
    let test = is_match_of c.args.self.now in
    let base = c.args.offset + c.args.start in
    let bit = c.lowest-bit.result in
    let place : c.args.offset + (c.args.start + bit) ≡ base + bit = omega arith in
    still_marks test base c.looking.left c.without-left.result bit c.looking.invariant
    (subst (λ p. test p ≡ false) place (sym c.is_match_in.ensures ∙ c.if-is_match_in.false)) c.without-left.ensures.kept

pub returns : goal.returns
returns c = none_unmarked (is_match_of c.args.self.now) (c.args.offset + c.args.start) c.looking.left c.looking.invariant c.looking-test.false
