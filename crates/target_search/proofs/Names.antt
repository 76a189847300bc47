-- The names of the crates below, and of this crate's definitions, that several proofs cite. Declares nothing.
pub use Rattle.std.proofs.Common.{◌≡◌, ℕ, zero, suc, ◌+◌, ◌-◌, ◌<◌, ◌≤◌, Bool, true, false, eqb, List, [], ◌∷◌, ◌++◌, length, reverse, Option, Some, None, refl, sym, ap, ◌∙◌, subst, arith, inl, inr, ◌&&◌, map, get_or, ◌⊎◌, ◌%◌, ◌^◌, ◌≢◌, cond, replicate, bit_and, bit_or, ◌||◌, pow_pos, min, not, take, drop, slice_range, below_more}
pub use Rattle.std.proofs.lemmas.Bool.{cases_Bool, cases_eq, cases_lt, cond-true, cond-false, false≢true, le-leb, lt-leb, eqb-true, eq-eqb}
pub use Rattle.std.proofs.lemmas.List.{reverse-append, length-map, length-take, length-drop, length-append, length-take-le, get_or-take, get_or_append_left, get_or-append_right, ext_get_or, take-append-drop}
pub use Rattle.std.proofs.lemmas.Simd.{length-zip2, get_or-zip2, length-replicate, get_or-replicate, bit_mask_l, mask_l-mod, length-chunk, get_or-chunk}
pub use Rattle.std.specs.List.{range_with_len, find, starts_with}
pub use Rattle.ed_model.specs.Matches.{is_match, match_in, folded, match_case, whole_word, word_start, word_before, word_after}
pub use Rattle.target_search.specs.Cases.{is_either}
pub use Rattle.target_search.specs.Found.{NonePasses, IsFirstOf, IsLastOf, FindsFirst, FindsLast, stands_at, words_pass, IsPart}
pub use Rattle.target_search.specs.Searches.{size_of, is_match_of, text_of, MarksMatches}
