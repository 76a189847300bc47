use Rattle.target_search.proofs.Names.{◌≡◌, ◌+◌, ◌-◌, length, None, slice_range, refl, subst, sym, arith, FindsFirst, text_of, size_of, is_match_of}
use Rattle.target_search.proofs.Matching.{length_part, part_of_part, not_where_not_found, stands_where_found, words_allowed, is_match_at}
use Rattle.target_search.proofs.search.Search.first_from.Goals as goal

pub returns-in_err-found : goal.returns-in_err-found
returns-in_err-found c =
    let s = c.args.self.now in
    let part = c.args.part.now in
    let base = c.args.offset + c.args.start in
    let rest = slice_range part c.args.start (length part) in
    let size = length_part part c.args.start (length part) c.requires.within (omega arith) in
    let is = part_of_part (text_of s) part c.args.offset c.args.start (length part) base refl c.requires.within (omega arith) c.requires.part in
    let nothing : c.from_residual.result ≡ None = cc in
    subst (λ r. FindsFirst (is_match_of s) base (c.args.offset + length part + 1 - size_of s) r) (sym nothing)
    (λ k a b.
    not_where_not_found s.flags (text_of s) s.pattern.now c.requires.case rest base is k a (omega arith)
    (c.in_err-found.ensures (k - base) (omega arith) (omega arith)))

pub returns : goal.returns
returns c =
    let s = c.args.self.now in
    let part = c.args.part.now in
    let base = c.args.offset + c.args.start in
    let rest = slice_range part c.args.start (length part) in
    let size = length_part part c.args.start (length part) c.requires.within (omega arith) in
    let is = part_of_part (text_of s) part c.args.offset c.args.start (length part) base refl c.requires.within (omega arith) c.requires.part in
    let found = c.in_ok-found.ensures in
    let fits = found.1.fits in
    let place = base + c.in_ok-found.found in
    record {
      low = omega arith;
      high = omega arith;
      passes = is_match_at s.flags (text_of s) s.pattern.now place
          (stands_where_found s.flags (text_of s) s.pattern.now c.requires.case rest base is _ found.1)
          (words_allowed s.flags (text_of s) place (place + size_of s) c.requires.words);
      before = λ k a b.
          not_where_not_found s.flags (text_of s) s.pattern.now c.requires.case rest base is k a (omega arith)
          (found.0.before (k - base) (omega arith) (omega arith));
    }
