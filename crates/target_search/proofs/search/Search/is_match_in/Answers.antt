use Rattle.target_search.proofs.Names.{◌+◌, eqb, map, sym, ap, ◌∙◌, starts_with, folded, text_of, size_of}
use Rattle.target_search.proofs.Matching.{same_slice, told_by_bytes, words_refuse}
use Rattle.target_search.proofs.search.Search.is_match_in.Goals as goal

pub returns-then-words_allow : goal.returns-then-words_allow
returns-then-words_allow c =
    let s = c.args.self.now in
    told_by_bytes s.flags (text_of s) s.pattern.now (c.args.offset + c.args.at) c.are_same.result (sym c.words_allow.ensures ∙ c.if-words_allow.true)
    (c.are_same.ensures ∙ ap (λ xs. starts_with eqb (map (folded s.flags) xs) (map (folded s.flags) s.pattern.now)) (same_slice (text_of s) c.args.part.now c.args.offset c.args.at (size_of s) c.requires.part c.requires.within))

pub returns-else-words_allow : goal.returns-else-words_allow
returns-else-words_allow c =
    let s = c.args.self.now in
    c.if-words_allow.false ∙ sym (words_refuse s.flags (text_of s) s.pattern.now (c.args.offset + c.args.at) (sym c.words_allow.ensures ∙ c.if-words_allow.false))
