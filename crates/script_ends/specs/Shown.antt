-- Bytes, as they are shown to people.
use Rattle.std.specs.Prelude.{ℕ, ◌/◌, ◌%◌, ◌==◌, ◌&&◌, ◌||◌, nat_lt, if◌then◌else◌, Bool, false, List, [], ◌∷◌, ◌++◌, flat_map}
use Rattle.std.specs.Fmt.{digit_glyph}

-- a byte that is shown as the character that it is
abbrev pub is_printable : ℕ → Bool
is_printable b = nat_lt 0x1F b && nat_lt b 0x7F

-- any other byte is shown as `\xhh`
abbrev pub shown : ℕ → List ℕ
shown b = if is_printable b then b ∷ [] else 0x5C ∷ 0x78 ∷ digit_glyph false (b / 16) ∷ digit_glyph false (b % 16) ∷ []

abbrev pub shown_bytes : List ℕ → List ℕ
shown_bytes bytes = flat_map shown bytes

-- between quotes `"` and `\` have a `\` before them
abbrev pub escaped : ℕ → List ℕ
escaped b = if b == 0x22 || b == 0x5C then 0x5C ∷ shown b else shown b

abbrev pub quoted : List ℕ → List ℕ
quoted bytes = 0x22 ∷ (flat_map escaped bytes ++ 0x22 ∷ [])
