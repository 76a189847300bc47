-- Matches of a pattern in a range of the document (SCI_SEARCHINTARGET). [Scintilla: searching]
use Rattle.std.specs.Prelude.{ℕ, ◌+◌, ◌-◌, ◌==◌, nat_le, nat_lt, not, ◌&&◌, ◌||◌, if◌then◌else◌, Bool, false, List, [], ◌∷◌, length, map, find, reverse, slice_get, slice_range, min, Option, Some, None}
use Rattle.std.specs.List.{range_with_len, starts_with}
use Rattle.ed_model.specs.Numbers.{meets}

-- SCFIND_WHOLEWORD, SCFIND_MATCHCASE and SCFIND_WORDSTART
abbrev pub whole_word : ℕ
whole_word = 0x2

abbrev pub match_case : ℕ
match_case = 0x4

abbrev pub word_start : ℕ
word_start = 0x100000

abbrev pub is_from_to : ℕ → ℕ → ℕ → Bool
is_from_to low high b = nat_le low b && nat_le b high

-- the byte that is compared: without SCFIND_MATCHCASE, a to z stand for A to Z
abbrev pub folded : ℕ → ℕ → ℕ
folded flags b = if meets flags match_case then b else (if is_from_to 65 90 b then b + 32 else b)

-- whether the byte belongs to words: ASCII letters and digits, `_`, and all bytes from 0x80 on
abbrev pub is_word_byte : ℕ → Bool
is_word_byte b = is_from_to 65 90 b || is_from_to 97 122 b || is_from_to 48 57 b || b == 95 || nat_le 0x80 b

abbrev pub is_some_word_byte : Option ℕ → Bool
is_some_word_byte None = false
is_some_word_byte (Some b) = is_word_byte b

abbrev pub word_before : List ℕ → ℕ → Bool
word_before text p = nat_lt 0 p && is_some_word_byte (slice_get text (p - 1))

abbrev pub word_after : List ℕ → ℕ → Bool
word_after text p = is_some_word_byte (slice_get text p)

-- whether the pattern matches at the place and passes the tests of words, which look at bytes outside the range too
abbrev pub is_match : ℕ → List ℕ → List ℕ → ℕ → Bool
is_match flags text pattern place =
    starts_with ◌==◌ (map (folded flags) (slice_range text place (place + length pattern))) (map (folded flags) pattern)
    && not ((meets flags whole_word || meets flags word_start) && word_before text place)
    && not (meets flags whole_word && word_after text (place + length pattern))

-- the places from which `size` bytes lie between `low` and `high`
abbrev pub starts_within : ℕ → ℕ → ℕ → List ℕ
starts_within low high size = range_with_len low ((high + 1) - (low + size))

-- the first match between `from` and `to`, or the last one if `from` is greater; an empty pattern matches at the lesser of the two
abbrev pub match_in : ℕ → List ℕ → List ℕ → ℕ → ℕ → Option ℕ
match_in flags text [] from to = Some (min from to)
match_in flags text (b ∷ bs) from to =
    if nat_le from to then find (is_match flags text (b ∷ bs)) (starts_within from to (length (b ∷ bs)))
    else find (is_match flags text (b ∷ bs)) (reverse (starts_within to from (length (b ∷ bs))))
