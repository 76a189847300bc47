use Rattle.target_search.proofs.Names.{◌≡◌, ◌+◌, ◌-◌, length, Some, subst, arith, FindsFirst, size_of, is_match_of}
use Rattle.target_search.proofs.Finding.{none_then, first_then, first_wider}
use Rattle.target_search.proofs.search.Search.first_by_rare_bytes.Goals as goal

pub returns-in-Some : goal.returns-in-Some
returns-in-Some c =
    let test = is_match_of c.args.self.now in
    let base = c.args.offset + c.searching.start in
    first_wider test c.args.offset (base + 64) (c.args.offset + length c.args.part.now + 1 - size_of c.args.self.now) c.in-Some.place (omega (arith, c.requires.room))
    (first_then test c.args.offset base (base + 64) (omega arith) c.searching.invariant.none (Some c.in-Some.place) c.in-Some.ensures)

pub searching-preserved : goal.searching-preserved
searching-preserved c =
    let test = is_match_of c.args.self.now in
    let base = c.args.offset + c.searching.start in
    record {
      within = omega arith;
      none = none_then test c.args.offset base (c.args.offset + (c.searching.start + 64)) c.searching.invariant.none (λ k a b. c.in_default.ensures k a (omega arith));
    }

pub returns : goal.returns
returns c =
    let test = is_match_of c.args.self.now in
    let end = c.args.offset + (length c.args.part.now - (size_of c.args.self.now - 1)) in
    let same : end ≡ c.args.offset + length c.args.part.now + 1 - size_of c.args.self.now = omega (arith, c.requires.room, c.requires.some) in
    subst (λ e. FindsFirst test c.args.offset e c.first_of_few.result) same
    (first_then test c.args.offset (c.args.offset + c.searching.start) end (omega arith) c.searching.invariant.none c.first_of_few.result c.first_of_few.ensures)
