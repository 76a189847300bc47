use Rattle.target_search.proofs.Names.{◌≡◌, ◌+◌, get_or, false, inl, inr, subst, arith, is_either, text_of, is_match_of}
use Rattle.target_search.proofs.Fronts.{one_fails}
use Rattle.target_search.proofs.Matching.{not_where_other_byte}
use Rattle.target_search.proofs.search.Search.marks.Goals as goal

pub returns : goal.returns
returns c k l clear =
    let s = c.args.self.now in
    let part = c.args.part.now in
    let rare = c.args.rare.now in
    let other = c.args.other.now in
    let at = c.args.start + k in
    let place : c.args.offset + at ≡ c.args.offset + c.args.start + k = omega arith in
    let first : c.args.start + rare.place + k ≡ at + rare.place = omega arith in
    let second : c.args.start + other.place + k ≡ at + other.place = omega arith in
    subst (λ p. is_match_of s p ≡ false) place
    (elim (one_fails _ _ (c.marks_with.ensures k l clear)) [
      | inl fails ↦
          not_where_other_byte s.flags (text_of s) s.pattern.now rare part c.args.offset at c.requires.rare c.requires.part (omega (arith, c.requires.rare.within, c.requires.room))
          (subst (λ i. is_either rare.cases (get_or part i 0) ≡ false) first fails)
      | inr fails ↦
          not_where_other_byte s.flags (text_of s) s.pattern.now other part c.args.offset at c.requires.other c.requires.part (omega (arith, c.requires.other.within, c.requires.room))
          (subst (λ i. is_either other.cases (get_or part i 0) ≡ false) second fails)
    ])
