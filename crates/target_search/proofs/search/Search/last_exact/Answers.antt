use Rattle.target_search.proofs.Names.{◌≡◌, ◌+◌, ◌-◌, length, None, subst, sym, arith, FindsLast, text_of, size_of, is_match_of}
use Rattle.target_search.proofs.Matching.{not_where_not_found, stands_where_found, words_allowed, is_match_at}
use Rattle.target_search.proofs.search.Search.last_exact.Goals as goal

pub returns-in_err-found : goal.returns-in_err-found
returns-in_err-found c =
    let s = c.args.self.now in
    let nothing : c.from_residual.result ≡ None = cc in
    subst (λ r. FindsLast (is_match_of s) c.args.offset (c.args.offset + length c.args.part.now + 1 - size_of s) r) (sym nothing)
    (λ k a b.
    not_where_not_found s.flags (text_of s) s.pattern.now c.requires.case c.args.part.now c.args.offset c.requires.part k a (omega arith)
    (c.in_err-found.ensures (k - c.args.offset) (omega arith) (omega arith)))

pub returns : goal.returns
returns c =
    let s = c.args.self.now in
    let found = c.in_ok-found.ensures in
    let fits = found.1.fits in
    let place = c.args.offset + c.in_ok-found.found in
    record {
      low = omega arith;
      high = omega arith;
      passes = is_match_at s.flags (text_of s) s.pattern.now place
          (stands_where_found s.flags (text_of s) s.pattern.now c.requires.case c.args.part.now c.args.offset c.requires.part _ found.1)
          (words_allowed s.flags (text_of s) place (place + size_of s) c.requires.words);
      behind = λ k a b.
          not_where_not_found s.flags (text_of s) s.pattern.now c.requires.case c.args.part.now c.args.offset c.requires.part k (omega arith) (omega arith)
          (found.0.after (k - c.args.offset) (omega arith) (omega arith));
    }
