-- Characters: a text is cut from left to right into CRLF, the well-formed sequences of UTF-8, and single bytes where neither
-- begins. [Unicode's table of well-formed byte sequences of UTF-8; CRLF as one character: own]
use Rattle.std.specs.Prelude.{ℕ, zero, suc, ◌+◌, ◌-◌, nat_lt, ◌&&◌, Bool, true, false, List, [], ◌∷◌, length, find, reverse, unwrap_or, Option, Some, None}
use Rattle.ed_model.specs.Matches.{is_from_to}

-- CRLF, then the well-formed sequences: for each byte of a sequence the least and the greatest value
abbrev pub sequences : List (List (ℕ × ℕ))
sequences =
    ((13, 13) ∷ (10, 10) ∷ [])
    ∷ ((0x00, 0x7F) ∷ [])
    ∷ ((0xC2, 0xDF) ∷ (0x80, 0xBF) ∷ [])
    ∷ ((0xE0, 0xE0) ∷ (0xA0, 0xBF) ∷ (0x80, 0xBF) ∷ [])
    ∷ ((0xE1, 0xEC) ∷ (0x80, 0xBF) ∷ (0x80, 0xBF) ∷ [])
    ∷ ((0xED, 0xED) ∷ (0x80, 0x9F) ∷ (0x80, 0xBF) ∷ [])
    ∷ ((0xEE, 0xEF) ∷ (0x80, 0xBF) ∷ (0x80, 0xBF) ∷ [])
    ∷ ((0xF0, 0xF0) ∷ (0x90, 0xBF) ∷ (0x80, 0xBF) ∷ (0x80, 0xBF) ∷ [])
    ∷ ((0xF1, 0xF3) ∷ (0x80, 0xBF) ∷ (0x80, 0xBF) ∷ (0x80, 0xBF) ∷ [])
    ∷ ((0xF4, 0xF4) ∷ (0x80, 0x8F) ∷ (0x80, 0xBF) ∷ (0x80, 0xBF) ∷ [])
    ∷ []

-- whether the text begins with bytes in these ranges
abbrev pub begins_with : List ℕ → List (ℕ × ℕ) → Bool
begins_with text [] = true
begins_with [] (r ∷ rs) = false
begins_with (b ∷ bs) (r ∷ rs) = is_from_to r.0 r.1 b && begins_with bs rs

abbrev pub sequence_length : Option (List (ℕ × ℕ)) → ℕ
sequence_length None = 1
sequence_length (Some ranges) = length ranges

-- the length of the first character of the text, in bytes
abbrev pub character_length : List ℕ → ℕ
character_length text = sequence_length (find (begins_with text) sequences)

-- the cuts of a text that begins at position p, inside a character of which `left` bytes remain
abbrev pub cuts_from : ℕ → ℕ → List ℕ → List ℕ
cuts_from p left [] = p ∷ []
cuts_from p zero (b ∷ bs) = p ∷ cuts_from (p + 1) (character_length (b ∷ bs) - 1) bs
cuts_from p (suc left) (b ∷ bs) = cuts_from (p + 1) left bs

-- the places between two characters, and both ends of the text
abbrev pub cuts : List ℕ → List ℕ
cuts text = cuts_from 0 0 text

-- the greatest cut below p, or 0
abbrev pub cut_before : List ℕ → ℕ → ℕ
cut_before text p = unwrap_or (find (λ cut. nat_lt cut p) (reverse (cuts text))) 0

-- the least cut above p, or the end of the text
abbrev pub cut_after : List ℕ → ℕ → ℕ
cut_after text p = unwrap_or (find (nat_lt p) (cuts text)) (length text)
