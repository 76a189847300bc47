-- The words that spell numbers.
use Rattle.macro_script.proofs.Names.{◌≡◌, ℕ, zero, suc, ◌+◌, ◌-◌, ◌*◌, ◌^◌, ◌<◌, ◌≤◌, List, ◌∷◌, length, get_or, take, refl, sym, length-take, ◌∙◌, ap, subst, arith, pos, negsuc, Option, Some, None, decimal, SomeIff, IfSome, digits_value, AllDigits, numerals_by_value, tells_digits, digit_at, digits_value_short, decimal-digits_value, length-decimal-le, first_decimal, IsAsciiDigit, IsNotAsciiDigit, digit_value, spelled, natural, integer, spelled-decimal, digits_value-spelled, AllDigits-spelled, length-spelled-pos, natural-spelled, integer-spelled}
use Rattle.std.proofs.Common.{lt-ltb}
use Rattle.std.proofs.lemmas.Str.{digit_value_digit}
use Rattle.std.proofs.lemmas.Int.Digits.{digits_more, digits_value_more}

-- A word of digits, the first of them no zero unless it is the only one, is the spelling of its value.
pub spelled-digits : (word : List ℕ) → AllDigits 10 word → 0 < length word → length word ≤ 19 → (get_or word 0 0 ≡ 48 → length word ≤ 1) → word ≡ spelled (digits_value 10 word)
spelled-digits word all some short lone =
    let own = numerals_by_value (AllDigits 10) tells_digits in
    let low : digits_value 10 word < 2 ^ 64 = omega (arith, digits_value_short own word 19 all short) in
    sym (decimal-digits_value own word all some (λ h. omega (arith, lone h)) low) ∙ sym (spelled-decimal (digits_value 10 word) low)

pub length-spelled : (n : ℕ) → n < 10 ^ 19 → (0 < length (spelled n)) × (length (spelled n) ≤ 19)
length-spelled n h =
    let wide : n < 2 ^ 64 = omega arith in
    let P : List ℕ → Type 0 = λ ds. length ds ≤ 19 in
    (length-spelled-pos n wide, subst P (sym (spelled-decimal n wide)) (length-decimal-le 19 n (omega arith) h wide))

-- a number that begins with a zero is 0
pub first_spelled : (n : ℕ) → n < 10 ^ 19 → get_or (spelled n) 0 0 ≡ 48 → length (spelled n) ≡ 1
first_spelled zero h begins = refl
first_spelled (suc n) h begins =
    let wide : suc n < 2 ^ 64 = omega arith in
    let above = first_decimal (suc n) (omega arith) wide in
    let begin : get_or (decimal (suc n)) 0 0 ≡ 48 = ap (λ ds. get_or ds 0 0) (sym (spelled-decimal (suc n) wide)) ∙ begins in
    absurd (omega arith)

-- A word that spells a number below 10 ^ 19.
pub record IsSpelling (word : List ℕ) (n : ℕ) : Type 0 where
  pub some : 0 < length word
  pub short : length word ≤ 19
  pub lone : get_or word 0 0 ≡ 48 → length word ≡ 1
  pub digits : AllDigits 10 word
  pub value : digits_value 10 word ≡ n

pub spelling_of : (word : List ℕ) (n : ℕ) → n < 10 ^ 19 → word ≡ spelled n → IsSpelling word n
spelling_of word n h is =
    let wide : n < 2 ^ 64 = omega arith in
    let long = length-spelled n h in
    let of : IsSpelling (spelled n) n = record { some = long.0; short = long.1; lone = first_spelled n h; digits = AllDigits-spelled n wide; value = digits_value-spelled n wide } in
    subst (λ w. IsSpelling w n) (sym is) of

-- Digits from the left.
pub not_all_digits : (ds : List ℕ) (i : ℕ) → i < length ds → IsNotAsciiDigit (get_or ds i 0) → AllDigits 10 ds → ⊥
not_all_digits ds i h other all = let range = digit_at ds i all h in omega arith

pub value_below : (ds : List ℕ) (i : ℕ) → length ds ≤ 19 → i < length ds → AllDigits 10 (take i ds) → digits_value 10 (take i ds) < 10 ^ 18
value_below ds i short h all =
    let own = numerals_by_value (AllDigits 10) tells_digits in
    digits_value_short own (take i ds) 18 all (omega (arith, length-take i ds))

pub one_digit_more : (ds : List ℕ) (i value digit : ℕ) → i < length ds → IsAsciiDigit (get_or ds i 0) → digit ≡ get_or ds i 0 - 48 → AllDigits 10 (take i ds) → value ≡ digits_value 10 (take i ds) → AllDigits 10 (take (i + 1) ds) × (value * 10 + digit ≡ digits_value 10 (take (i + 1) ds))
one_digit_more ds i value digit h range is all so_far =
    let one = digit_value_digit (get_or ds i 0) range in
    let same : digit ≡ digit_value (get_or ds i 0) = omega arith in
    (digits_more 10 ds i h all (omega arith), ap (λ v. v * 10 + digit) so_far ∙ ap (λ d. digits_value 10 (take i ds) * 10 + d) same ∙ sym (digits_value_more 10 ds i h))

-- The result of `magnitude` for a word that is short and has no needless zero.
pub magnitude_only : (word : List ℕ) (r : Option ℕ) → SomeIff r (AllDigits 10 word) (digits_value 10 word) → 0 < length word → length word ≤ 19 → (get_or word 0 0 ≡ 48 → length word ≤ 1) → IfSome r (λ n. word ≡ spelled n)
magnitude_only word None h some short lone = tt
magnitude_only word (Some n) h some short lone = spelled-digits word h.0 some short lone ∙ ap spelled (sym h.1)

pub magnitude_each : (word : List ℕ) (r : Option ℕ) → SomeIff r (AllDigits 10 word) (digits_value 10 word) → (n : ℕ) → n < 10 ^ 19 → word ≡ spelled n → r ≡ Some n
magnitude_each word None h n low is = absurd (h (spelling_of word n low is).digits)
magnitude_each word (Some m) h n low is = ap Some (h.1 ∙ (spelling_of word n low is).value)

-- The numbers that scripts have.
pub natural_some : (word : List ℕ) (n : ℕ) → word ≡ spelled n → n < 2 ^ 32 → natural word ≡ Some n
natural_some word n is h = ap natural is ∙ natural-spelled n h

pub integer_some : (word : List ℕ) (n : ℕ) → word ≡ spelled n → n < 2 ^ 63 → integer word ≡ Some (pos n)
integer_some word n is h = ap integer is ∙ integer-spelled (pos n) (lt-ltb n (2 ^ 63) h)

-- after a sign
pub negative_some : (digits : List ℕ) (n : ℕ) → digits ≡ spelled (suc n) → n < 2 ^ 63 → integer (45 ∷ digits) ≡ Some (negsuc n)
negative_some digits n is h = ap (λ ds. integer (45 ∷ ds)) is ∙ integer-spelled (negsuc n) (lt-ltb n (2 ^ 63) h)
