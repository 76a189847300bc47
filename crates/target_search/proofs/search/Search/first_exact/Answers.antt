use Rattle.target_search.proofs.Names.{◌≡◌, ◌+◌, ◌-◌, length, None, slice_range, subst, sym, refl, arith, FindsFirst, NonePasses, text_of, size_of, is_match_of}
use Rattle.target_search.proofs.Finding.{none_then, none_at}
use Rattle.target_search.proofs.Matching.{length_part, none_without_byte}
use Rattle.target_search.proofs.search.Search.first_exact.Goals as goal

pub returns-in_err-start : goal.returns-in_err-start
returns-in_err-start c =
    let s = c.args.self.now in
    let part = c.args.part.now in
    let test = is_match_of s in
    let rare = c.rarest-rare.result in
    let start = c.passing.start in
    let end = length part - (length s.pattern.now - 1 - rare) in
    let bytes = slice_range part (start + rare) end in
    let size = length_part part (start + rare) end (omega (arith, c.rarest-rare.ensures)) (omega arith) in
    let last : c.args.offset + (start + length bytes) ≡ c.args.offset + length part + 1 - size_of s = omega (arith, c.rarest-rare.ensures) in
    subst (λ r. FindsFirst test c.args.offset (c.args.offset + length part + 1 - size_of s) r) (sym c.from_residual.ensures)
    (subst (λ e. FindsFirst test c.args.offset e None) last
    (none_then test c.args.offset (c.args.offset + start) (c.args.offset + (start + length bytes)) c.passing.invariant.none
    (none_without_byte s.flags (text_of s) s.pattern.now c.requires.case part c.args.offset c.requires.part rare start end (length bytes) c.rarest-rare.ensures (omega arith) refl (omega arith) (omega arith)
    c.in_err-start.ensures)))

pub returns-then-is_match_in : goal.returns-then-is_match_in
returns-then-is_match_in c =
    let s = c.args.self.now in
    let part = c.args.part.now in
    let test = is_match_of s in
    let rare = c.rarest-rare.result in
    let start = c.passing.start in
    let end = length part - (length s.pattern.now - 1 - rare) in
    let size = length_part part (start + rare) end (omega (arith, c.rarest-rare.ensures)) (omega arith) in
    let found = c.in_ok-start.ensures in
    let high = found.0.high in
    record {
      low = omega arith;
      high = omega (arith, c.rarest-rare.ensures);
      passes = sym c.if-is_match_in.ensures;
      before = none_then test c.args.offset (c.args.offset + start) (c.args.offset + (start + c.in_ok-start.field-0)) c.passing.invariant.none
          (none_without_byte s.flags (text_of s) s.pattern.now c.requires.case part c.args.offset c.requires.part rare start end c.in_ok-start.field-0 c.rarest-rare.ensures (omega arith) refl
          (omega arith) (omega arith) found.0.before);
    }

pub passing-preserved : goal.passing-preserved
passing-preserved c =
    let s = c.args.self.now in
    let part = c.args.part.now in
    let test = is_match_of s in
    let rare = c.rarest-rare.result in
    let start = c.passing.start in
    let end = length part - (length s.pattern.now - 1 - rare) in
    let size = length_part part (start + rare) end (omega (arith, c.rarest-rare.ensures)) (omega arith) in
    let found = c.in_ok-start.ensures in
    let high = found.0.high in
    let place = c.args.offset + (start + c.in_ok-start.field-0) in
    let next : place + 1 ≡ c.args.offset + (start + c.in_ok-start.field-0 + 1) = omega arith in
    record {
      within = omega (arith, c.rarest-rare.ensures);
      few = omega arith;
      none = subst (NonePasses test c.args.offset) next
          (none_then test c.args.offset place (place + 1)
          (none_then test c.args.offset (c.args.offset + start) place c.passing.invariant.none
          (none_without_byte s.flags (text_of s) s.pattern.now c.requires.case part c.args.offset c.requires.part rare start end c.in_ok-start.field-0 c.rarest-rare.ensures (omega arith) refl
          (omega arith) (omega arith) found.0.before))
          (none_at test place (sym c.if-is_match_in.ensures)));
    }
