use Rattle.target_search.proofs.Names.{◌≡◌, ◌+◌, ◌-◌, length, Some, subst, arith, IsLastOf, size_of, is_match_of}
use Rattle.target_search.proofs.Finding.{none_then, last_then, last_wider}
use Rattle.target_search.proofs.search.Search.last_by_rare_bytes.Goals as goal

pub returns-in-Some : goal.returns-in-Some
returns-in-Some c =
    let test = is_match_of c.args.self.now in
    let base = c.args.offset + (c.searching.end - 64) in
    let end = c.args.offset + c.searching.end in
    let to = c.args.offset + length c.args.part.now + 1 - size_of c.args.self.now in
    let same : base + 64 ≡ end = omega arith in
    last_wider test c.args.offset base to c.in-Some.place (omega arith)
    (last_then test base end to (omega (arith, c.searching.invariant.within)) c.searching.invariant.none (Some c.in-Some.place) (subst (λ e. IsLastOf test base e c.in-Some.place) same c.in-Some.ensures))

pub searching-preserved : goal.searching-preserved
searching-preserved c =
    let test = is_match_of c.args.self.now in
    let base = c.args.offset + (c.searching.end - 64) in
    record {
      within = omega (arith, c.searching.invariant.within);
      none = none_then test base (c.args.offset + c.searching.end) (c.args.offset + length c.args.part.now + 1 - size_of c.args.self.now)
          (λ k a b. c.in_default.ensures k a (omega arith)) c.searching.invariant.none;
    }

pub returns : goal.returns
returns c =
    let test = is_match_of c.args.self.now in
    last_then test c.args.offset (c.args.offset + c.searching.end) (c.args.offset + length c.args.part.now + 1 - size_of c.args.self.now) (omega (arith, c.searching.invariant.within))
    c.searching.invariant.none c.last_of_few.result c.last_of_few.ensures
