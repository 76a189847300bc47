-- How scripts and printed output spell numbers and texts. Each number and each byte has exactly one spelling. [own]
use Rattle.std.specs.Prelude.{ℕ, ◌+◌, ◌-◌, ◌/◌, ◌%◌, ◌^◌, ◌==◌, ◌&&◌, ◌||◌, nat_lt, nat_le, Bool, if◌then◌else◌, List, [], ◌∷◌, ◌++◌, ℤ, pos, negsuc, zero, suc, flat_map}

abbrev pub space : ℕ
space = 0x20

abbrev pub quote : ℕ
quote = 0x22

abbrev pub backslash : ℕ
backslash = 0x5C

-- the last `most` decimal digits of a number, without leading zeros
abbrev pub last_digits : ℕ → ℕ → List ℕ
last_digits zero n = []
last_digits (suc most) n =
    let front = last_digits most (n / 10) in
    if nat_lt n 10 then (48 + n) ∷ [] else front ++ (48 + n % 10) ∷ []

-- a number: its decimal digits without leading zeros, at most n + 1 of them
abbrev pub spelled : ℕ → List ℕ
spelled n = last_digits (n + 1) n

-- a signed number: its digits, with `-` before them if it is negative
abbrev pub spelled_int : ℤ → List ℕ
spelled_int (pos n) = spelled n
spelled_int (negsuc n) = 0x2D ∷ spelled (suc n)

-- whether a number, n or -(n + 1), fits a signed 64-bit type
abbrev pub is_64_bits : ℤ → Bool
is_64_bits (pos n) = nat_lt n (2 ^ 63)
is_64_bits (negsuc n) = nat_lt n (2 ^ 63)

-- a hexadecimal digit: `0` to `9`, `a` to `f`
abbrev pub hex_digit : ℕ → ℕ
hex_digit d = if nat_lt d 10 then 48 + d else 87 + d

-- the value of a hexadecimal digit
abbrev pub hex_value : ℕ → ℕ
hex_value c = if nat_lt c 0x61 then c - 48 else c - 87

-- A byte of a text. `"` and `\` are spelled with a backslash before them, the other bytes from space to `~` as themselves, and
-- each other byte as `\x` and two hexadecimal digits.
abbrev pub spelled_byte : ℕ → List ℕ
spelled_byte b =
    if b == quote || b == backslash then backslash ∷ b ∷ [] else
    (if nat_le 0x20 b && nat_le b 0x7E then b ∷ [] else
    backslash ∷ 0x78 ∷ hex_digit (b / 16) ∷ hex_digit (b % 16) ∷ [])

abbrev pub spelled_bytes : List ℕ → List ℕ
spelled_bytes text = flat_map spelled_byte text

-- a text: the spellings of its bytes, between quotes
abbrev pub spelled_text : List ℕ → List ℕ
spelled_text text = quote ∷ spelled_bytes text ++ quote ∷ []
