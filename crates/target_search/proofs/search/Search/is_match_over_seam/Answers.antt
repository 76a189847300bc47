use Rattle.target_search.proofs.Names.{◌-◌, ◌&&◌, eqb, length, map, take, sym, ap, ◌∙◌, arith, starts_with, folded, text_of}
use Rattle.std.proofs.Common.{length-append}
use Rattle.target_search.proofs.Matching.{stands_over_seam, told_by_bytes, words_refuse}
use Rattle.target_search.proofs.search.Search.is_match_over_seam.Goals as goal

pub returns-then-not-words_allow : goal.returns-then-not-words_allow
returns-then-not-words_allow c =
    let s = c.args.self.now in
    sym (words_refuse s.flags (text_of s) s.pattern.now c.args.place (sym c.words_allow.ensures ∙ c.if-not-words_allow.true))

pub returns-then-are_same : goal.returns-then-are_same
returns-then-are_same c =
    let s = c.args.self.now in
    let behind = c.split_at.result.1.now in
    let second = starts_with eqb (map (folded s.flags) (take (length behind) s.after.now)) (map (folded s.flags) behind) in
    let whole = stands_over_seam s.flags s.before.now s.after.now s.pattern.now c.split_at.result.0.now behind c.args.place (length s.before.now - c.args.place)
    c.split_at.ensures.front c.split_at.ensures.back (omega arith) (omega arith) (omega (arith, length-append s.before.now s.after.now)) in
    told_by_bytes s.flags (text_of s) s.pattern.now c.args.place c.are_same-then-are_same.result (sym c.words_allow.ensures ∙ c.if-not-words_allow.false)
    (c.are_same-then-are_same.ensures ∙ ap (λ b. b && second) (sym c.if-are_same.true ∙ c.are_same.ensures) ∙ whole)

pub returns-else-are_same : goal.returns-else-are_same
returns-else-are_same c =
    let s = c.args.self.now in
    let behind = c.split_at.result.1.now in
    let second = starts_with eqb (map (folded s.flags) (take (length behind) s.after.now)) (map (folded s.flags) behind) in
    let whole = stands_over_seam s.flags s.before.now s.after.now s.pattern.now c.split_at.result.0.now behind c.args.place (length s.before.now - c.args.place)
    c.split_at.ensures.front c.split_at.ensures.back (omega arith) (omega arith) (omega (arith, length-append s.before.now s.after.now)) in
    told_by_bytes s.flags (text_of s) s.pattern.now c.args.place c.are_same.result (sym c.words_allow.ensures ∙ c.if-not-words_allow.false)
    (c.if-are_same.false ∙ ap (λ b. b && second) (sym c.if-are_same.false ∙ c.are_same.ensures) ∙ whole)
