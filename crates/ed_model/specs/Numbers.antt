-- Numbers in arguments and answers.
use Rattle.std.specs.Prelude.{ℕ, ◌-◌, ◌/◌, ◌%◌, ◌^◌, ◌==◌, nat_le, nat_lt, int_le, min, not, ◌&&◌, if◌then◌else◌, Bool, true, false, ℤ, pos, negsuc, ◌-ℤ◌, Option, Some, None, bit_and}

-- whether there is a number, and it is n
abbrev pub is_number : ℕ → Option ℕ → Bool
is_number n None = false
is_number n (Some m) = m == n

-- a flag as an answer: 1 or 0
abbrev pub flag : Bool → ℤ
flag true = pos 1
flag false = pos 0

-- a flag as an argument: 0 is off, all else on
abbrev pub is_on : ℤ → Bool
is_on (pos n) = not (n == 0)
is_on (negsuc n) = true

-- whether two integers are the same
abbrev pub is_same : ℤ → ℤ → Bool
is_same a b = int_le a b && int_le b a

abbrev pub is_negative : ℤ → Bool
is_negative (pos n) = false
is_negative (negsuc n) = true

abbrev pub is_minus_one : ℤ → Bool
is_minus_one (pos n) = false
is_minus_one (negsuc n) = n == 0

-- the number, or 0 if it is negative
abbrev pub at_least_zero : ℤ → ℕ
at_least_zero (pos n) = n
at_least_zero (negsuc n) = 0

-- x brought into 0 to n
abbrev pub clamped : ℕ → ℤ → ℕ
clamped n x = min (at_least_zero x) n

-- x, if it is in low..high, both included
abbrev pub within : ℕ → ℕ → ℤ → Option ℕ
within low high (pos n) = if nat_le low n && nat_le n high then Some n else None
within low high (negsuc n) = None

-- x, if it is in 0..high; -1 stands for all
abbrev pub some_or_all : ℕ → ℤ → Option (Option ℕ)
some_or_all high (pos n) = if nat_le n high then Some (Some n) else None
some_or_all high (negsuc n) = if n == 0 then Some None else None

-- the line x, if it is one of `lines` lines, which count from 0
abbrev pub line_among : ℕ → ℤ → Option ℕ
line_among lines (pos n) = if nat_lt n lines then Some n else None
line_among lines (negsuc n) = None

-- the low 32 bits of the number in two's complement
abbrev pub low_bits : ℤ → ℕ
low_bits (pos n) = n % 2 ^ 32
low_bits (negsuc n) = (2 ^ 32 - 1) - n % 2 ^ 32

abbrev pub has_bit : ℕ → ℕ → Bool
has_bit mask k = (mask / 2 ^ k) % 2 == 1

-- whether two masks have a bit in common
abbrev pub meets : ℕ → ℕ → Bool
meets a b = not (bit_and a b == 0)

-- by how much a number grew
abbrev pub growth : ℕ → ℕ → ℤ
growth old new = pos new -ℤ pos old
