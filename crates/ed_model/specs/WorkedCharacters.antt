-- Worked examples of single definitions: characters, matches and line starts.
use Rattle.std.specs.Prelude.{◌≡◌, ℕ, ◌+◌, List, [], ◌∷◌, map, length, replicate, codes, Some, None}
use Rattle.ed_model.specs.declared.plan.LineEndTypes.TheVariants.{Default, Unicode}
use Rattle.ed_model.specs.Lines.{line_starts, end_of_line, line_of}
use Rattle.ed_model.specs.Matches.{match_in, whole_word, match_case, word_start}
use Rattle.ed_model.specs.Characters.{cuts, cut_before, cut_after, character_length}

-- `a`, U+00E9, CRLF, and a byte that begins no well-formed sequence
abbrev pub mixed_text : List ℕ
mixed_text = 0x61 ∷ 0xC3 ∷ 0xA9 ∷ 0x0D ∷ 0x0A ∷ 0x80 ∷ []

pub record CutsOfAMixedText : Type 0 where
  pub all : cuts mixed_text ≡ 0 ∷ 1 ∷ 3 ∷ 5 ∷ 6 ∷ []
  pub after : map (cut_after mixed_text) (1 ∷ 3 ∷ 5 ∷ 6 ∷ []) ≡ 3 ∷ 5 ∷ 6 ∷ 6 ∷ []
  pub before : map (cut_before mixed_text) (3 ∷ 2 ∷ 1 ∷ 0 ∷ []) ≡ 1 ∷ 1 ∷ 0 ∷ 0 ∷ []

-- each of these texts begins with a character of n bytes
abbrev pub AllBeginWith : ℕ → List (List ℕ) → Type 0
AllBeginWith n texts = map character_length texts ≡ replicate (length texts) n

-- The least and the greatest sequence of each row in Unicode's table of well-formed sequences.
pub record WellFormedSequences : Type 0 where
  pub ascii : AllBeginWith 1 ((0x00 ∷ []) ∷ (0x7F ∷ []) ∷ [])
  pub from_c2 : AllBeginWith 2 ((0xC2 ∷ 0x80 ∷ []) ∷ (0xDF ∷ 0xBF ∷ []) ∷ [])
  pub of_e0 : AllBeginWith 3 ((0xE0 ∷ 0xA0 ∷ 0x80 ∷ []) ∷ (0xE0 ∷ 0xBF ∷ 0xBF ∷ []) ∷ [])
  pub from_e1 : AllBeginWith 3 ((0xE1 ∷ 0x80 ∷ 0x80 ∷ []) ∷ (0xEC ∷ 0xBF ∷ 0xBF ∷ []) ∷ [])
  pub of_ed : AllBeginWith 3 ((0xED ∷ 0x80 ∷ 0x80 ∷ []) ∷ (0xED ∷ 0x9F ∷ 0xBF ∷ []) ∷ [])
  pub from_ee : AllBeginWith 3 ((0xEE ∷ 0x80 ∷ 0x80 ∷ []) ∷ (0xEF ∷ 0xBF ∷ 0xBF ∷ []) ∷ [])
  pub of_f0 : AllBeginWith 4 ((0xF0 ∷ 0x90 ∷ 0x80 ∷ 0x80 ∷ []) ∷ (0xF0 ∷ 0xBF ∷ 0xBF ∷ 0xBF ∷ []) ∷ [])
  pub from_f1 : AllBeginWith 4 ((0xF1 ∷ 0x80 ∷ 0x80 ∷ 0x80 ∷ []) ∷ (0xF3 ∷ 0xBF ∷ 0xBF ∷ 0xBF ∷ []) ∷ [])
  pub of_f4 : AllBeginWith 4 ((0xF4 ∷ 0x80 ∷ 0x80 ∷ 0x80 ∷ []) ∷ (0xF4 ∷ 0x8F ∷ 0xBF ∷ 0xBF ∷ []) ∷ [])
  pub crlf : AllBeginWith 2 ((0x0D ∷ 0x0A ∷ []) ∷ [])

-- If a later byte is just outside its range, the first byte is a character of its own.
pub record IllFormedSequences : Type 0 where
  pub alone : AllBeginWith 1 ((0x7F ∷ 0x80 ∷ []) ∷ (0x80 ∷ 0x80 ∷ []) ∷ (0xBF ∷ []) ∷ (0xC1 ∷ 0xBF ∷ []) ∷ (0xC2 ∷ 0x7F ∷ []) ∷ (0xDF ∷ 0xC0 ∷ []) ∷ [])
  pub after_e0 : AllBeginWith 1 ((0xE0 ∷ 0x9F ∷ 0x80 ∷ []) ∷ (0xE0 ∷ 0xC0 ∷ 0x80 ∷ []) ∷ (0xE0 ∷ 0xA0 ∷ 0x7F ∷ []) ∷ (0xE0 ∷ 0xBF ∷ 0xC0 ∷ []) ∷ [])
  pub after_e1 : AllBeginWith 1 ((0xE1 ∷ 0x7F ∷ 0x80 ∷ []) ∷ (0xEC ∷ 0xC0 ∷ 0x80 ∷ []) ∷ (0xE1 ∷ 0x80 ∷ 0x7F ∷ []) ∷ (0xEC ∷ 0xBF ∷ 0xC0 ∷ []) ∷ [])
  pub after_ed : AllBeginWith 1 ((0xED ∷ 0x7F ∷ 0x80 ∷ []) ∷ (0xED ∷ 0xA0 ∷ 0x80 ∷ []) ∷ (0xED ∷ 0x80 ∷ 0x7F ∷ []) ∷ (0xED ∷ 0x9F ∷ 0xC0 ∷ []) ∷ [])
  pub after_ee : AllBeginWith 1 ((0xEE ∷ 0x7F ∷ 0x80 ∷ []) ∷ (0xEF ∷ 0xC0 ∷ 0x80 ∷ []) ∷ (0xEE ∷ 0x80 ∷ 0x7F ∷ []) ∷ (0xEF ∷ 0xBF ∷ 0xC0 ∷ []) ∷ [])
  pub after_f0 : AllBeginWith 1 ((0xF0 ∷ 0x8F ∷ 0x80 ∷ 0x80 ∷ []) ∷ (0xF0 ∷ 0xC0 ∷ 0x80 ∷ 0x80 ∷ []) ∷ (0xF0 ∷ 0x90 ∷ 0x7F ∷ 0x80 ∷ []) ∷ (0xF0 ∷ 0x90 ∷ 0x80 ∷ 0xC0 ∷ []) ∷ [])
  pub after_f1 : AllBeginWith 1 ((0xF1 ∷ 0x7F ∷ 0x80 ∷ 0x80 ∷ []) ∷ (0xF3 ∷ 0xC0 ∷ 0x80 ∷ 0x80 ∷ []) ∷ (0xF1 ∷ 0x80 ∷ 0xC0 ∷ 0x80 ∷ []) ∷ (0xF3 ∷ 0x80 ∷ 0x80 ∷ 0x7F ∷ []) ∷ [])
  pub after_f4 : AllBeginWith 1 ((0xF4 ∷ 0x7F ∷ 0x80 ∷ 0x80 ∷ []) ∷ (0xF4 ∷ 0x90 ∷ 0x80 ∷ 0x80 ∷ []) ∷ (0xF4 ∷ 0x80 ∷ 0x7F ∷ 0x80 ∷ []) ∷ (0xF4 ∷ 0x8F ∷ 0xBF ∷ 0xC0 ∷ []) ∷ [])
  pub past_f4 : AllBeginWith 1 ((0xF5 ∷ 0x80 ∷ 0x80 ∷ 0x80 ∷ []) ∷ (0xFF ∷ []) ∷ [])
  pub cut_short : AllBeginWith 1 ((0xC2 ∷ []) ∷ (0xE1 ∷ 0x80 ∷ []) ∷ (0xF1 ∷ 0x80 ∷ 0x80 ∷ []) ∷ (0x0D ∷ []) ∷ (0x0D ∷ 0x0D ∷ []) ∷ (0x0A ∷ 0x0D ∷ []) ∷ [])

pub record MatchesInATextOfWords : Type 0 where
  pub whole_words : match_in whole_word (codes "ab_ab ab") (codes "ab") 0 8 ≡ Some 6
  pub any : match_in 0 (codes "ab_ab ab") (codes "ab") 0 8 ≡ Some 0
  pub word_starts : match_in word_start (codes "xab abx") (codes "ab") 0 7 ≡ Some 4
  pub whole_words_only : match_in whole_word (codes "xab abx") (codes "ab") 0 7 ≡ None
  pub bytes_outside_count : match_in whole_word (codes "ab_ab ab") (codes "ab") 3 5 ≡ None

pub record MatchesBackwards : Type 0 where
  pub the_last : match_in 0 (codes "abab") (codes "ab") 4 0 ≡ Some 2
  pub the_empty_text : match_in 0 (codes "abab") [] 4 0 ≡ Some 0
  pub the_empty_text_forwards : match_in 0 (codes "abab") [] 1 4 ≡ Some 1
  pub none : match_in 0 (codes "abab") (codes "x") 0 4 ≡ None
  pub none_backwards : match_in 0 (codes "abab") (codes "x") 4 0 ≡ None
  pub within_the_range : match_in 0 (codes "abab") (codes "ab") 3 1 ≡ None

pub record MatchesOfBothCases : Type 0 where
  pub either_case : match_in 0 (codes "xAbZ") (codes "aBz") 0 4 ≡ Some 1
  pub case_counts : match_in match_case (codes "xAbZ") (codes "aBz") 0 4 ≡ None
  pub same_case : match_in match_case (codes "abAB") (codes "AB") 0 4 ≡ Some 2
  pub letters_alone : map (λ byte. match_in 0 ((byte + 32) ∷ []) (byte ∷ []) 0 1) (64 ∷ 65 ∷ 90 ∷ 91 ∷ 0xC9 ∷ []) ≡ None ∷ Some 0 ∷ Some 0 ∷ None ∷ None ∷ []

-- `a`, CRLF, `b`, CR, `c`, LF, `d`
abbrev pub text_of_four_lines : List ℕ
text_of_four_lines = 0x61 ∷ 0x0D ∷ 0x0A ∷ 0x62 ∷ 0x0D ∷ 0x63 ∷ 0x0A ∷ 0x64 ∷ []

-- `a`, U+0085, `b`, U+2028, `c`
abbrev pub text_of_unicode_lines : List ℕ
text_of_unicode_lines = 0x61 ∷ 0xC2 ∷ 0x85 ∷ 0x62 ∷ 0xE2 ∷ 0x80 ∷ 0xA8 ∷ 0x63 ∷ []

pub record LinesOfATextWithEachLineEnd : Type 0 where
  pub starts : line_starts Default text_of_four_lines ≡ 0 ∷ 3 ∷ 5 ∷ 7 ∷ []
  pub ends : map (end_of_line Default text_of_four_lines) (0 ∷ 1 ∷ 2 ∷ 3 ∷ []) ≡ 1 ∷ 4 ∷ 6 ∷ 8 ∷ []
  pub lines : map (line_of (line_starts Default text_of_four_lines)) (0 ∷ 1 ∷ 2 ∷ 3 ∷ 4 ∷ 5 ∷ 6 ∷ 7 ∷ 8 ∷ []) ≡ 0 ∷ 0 ∷ 0 ∷ 1 ∷ 1 ∷ 2 ∷ 2 ∷ 3 ∷ 3 ∷ []

pub record LinesOfATextWithUnicodeLineEnds : Type 0 where
  pub unknown : line_starts Default text_of_unicode_lines ≡ 0 ∷ []
  pub known : line_starts Unicode text_of_unicode_lines ≡ 0 ∷ 3 ∷ 7 ∷ []
  pub ends : map (end_of_line Unicode text_of_unicode_lines) (0 ∷ 1 ∷ 2 ∷ []) ≡ 1 ∷ 4 ∷ 8 ∷ []
