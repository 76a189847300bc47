-- How numbers are spelled, and read back.
use Rattle.std.proofs.Common.{◌≡◌, ℕ, suc, ◌+◌, ◌^◌, ◌<◌, Bool, true, false, cond, List, [], ◌∷◌, length, refl, sym, ◌∙◌, ap, subst, arith, rules, ℤ, pos, negsuc, Some, None, lt-ltb, SFits, w64}
use Rattle.std.specs.Fmt.{signed_decimal}
use Rattle.std.specs.Prelude.{decimal, bytes_eq, nat_lt, ◌==◌, ◌&&◌, slice_index}
use Rattle.std.specs.Str.Parse.{digits_value, AllDigits}
use Rattle.std.proofs.lemmas.Fmt.{AppendsLastDigit, decimal_from_appends, length-decimal-le_succ, decimal_is_IsNumeral}
use Rattle.std.proofs.lemmas.Str.Parse.{digit_from_value}
use Rattle.std.proofs.lemmas.Bool.{cond-true, and_from, and_parts, ltb-true, ne_eqb}
use Rattle.std.proofs.lemmas.Slice.Eq.{bytes_eq-Decides}
use Rattle.ed_model.specs.Spelling.{spelled, spelled_int, last_digits, is_64_bits}
use Rattle.ed_model.specs.Reading.{natural, integer, signed_value}

-- spelling appends the last digit to the others
pub last_digits-appends : AppendsLastDigit last_digits
last_digits-appends = search rules

-- a number below 2 ^ 64 is spelled in decimal, as std writes it
pub spelled-decimal : (n : ℕ) → n < 2 ^ 64 → spelled n ≡ decimal n
spelled-decimal n h = decimal_from_appends last_digits last_digits-appends (n + 1) n h (length-decimal-le_succ n h)

-- .. and the value of its digits is the number
pub digits_value-spelled : (n : ℕ) → n < 2 ^ 64 → digits_value 10 (spelled n) ≡ n
digits_value-spelled n h = ap (digits_value 10) (spelled-decimal n h) ∙ (decimal_is_IsNumeral n h).1

-- .. and it is spelled by digits alone
pub AllDigits-spelled : (n : ℕ) → n < 2 ^ 64 → AllDigits 10 (spelled n)
AllDigits-spelled n h = let e = sym (spelled-decimal n h) in subst (AllDigits 10) e (decimal_is_IsNumeral n h).0.1

-- .. of which there is at least one
pub length-spelled-pos : (n : ℕ) → n < 2 ^ 64 → 0 < length (spelled n)
length-spelled-pos n h = let e = sym (spelled-decimal n h) in let P : List ℕ → Type 0 = λ ds. 0 < length ds in subst P e (decimal_is_IsNumeral n h).0.0

-- each list of bytes passes the test of equality with itself
pub bytes_eq-same : (bytes : List ℕ) → bytes_eq bytes bytes ≡ true
bytes_eq-same [] = refl
bytes_eq-same (b ∷ bs) = and_from (b == b) (bytes_eq bs bs) (search rules) (bytes_eq-same bs)

-- lists of bytes that pass the test of equality are equal
pub bytes_eq-true : (xs ys : List ℕ) → bytes_eq xs ys ≡ true → xs ≡ ys
bytes_eq-true xs ys h = search (rules, bytes_eq-Decides)

-- if the test passes, the choice between a value and None is the value
pub passing : {X : Type 0} (t : Bool) (x : X) → t ≡ true → cond t (Some x) None ≡ Some x
passing t x h = cond-true t (Some x) None h

-- if the choice between a value and None is a value, the test passed and the value is that one
pub passed : {X : Type 0} (t : Bool) (x y : X) → cond t (Some x) None ≡ Some y → (t ≡ true) × (x ≡ y)
passed true x y h = (refl, cc)
passed false x y h = cc

-- the spelling of a number below 2 ^ 32 is read as that number
pub natural-spelled : (n : ℕ) → n < 2 ^ 32 → natural (spelled n) ≡ Some n
natural-spelled n h =
    let wide : n < 2 ^ 64 = omega arith in
    let value = digits_value-spelled n wide in
    let P : ℕ → Type 0 = λ m. cond (nat_lt m (2 ^ 32) && bytes_eq (spelled n) (spelled m)) (Some m) None ≡ Some n in
    subst P (sym value) (passing _ n (and_from _ _ (lt-ltb n (2 ^ 32) h) (bytes_eq-same (spelled n))))

-- a word that is read as a number is the spelling of that number
pub natural-is : (word : List ℕ) (n : ℕ) → natural word ≡ Some n → (n < 2 ^ 32) × (word ≡ spelled n)
natural-is word n h =
    let parts = passed _ (digits_value 10 word) n h in
    let tests = and_parts _ _ parts.0 in
    let P : ℕ → Type 0 = λ m. (m < 2 ^ 32) × (word ≡ spelled m) in
    subst P parts.1 (ltb-true _ _ tests.0, bytes_eq-true word _ tests.1)

-- digits do not begin with `-`
pub no_minus : (ds : List ℕ) → AllDigits 10 ds → slice_index ds 0 == 0x2D ≡ false
no_minus [] all = refl
no_minus (d ∷ ds) all = let range = digit_from_value d all.0 in ne_eqb d 0x2D (λ e. absurd (omega arith))

-- the value of the spelling of a signed number is that number
pub signed_value-spelled : (z : ℤ) → is_64_bits z ≡ true → signed_value (spelled_int z) ≡ z
signed_value-spelled (pos n) h =
    let wide : n < 2 ^ 64 = omega (arith, ltb-true n (2 ^ 63) h) in
    rw (no_minus (spelled n) (AllDigits-spelled n wide)) (ap pos (digits_value-spelled n wide))
signed_value-spelled (negsuc n) h =
    let wide : suc n < 2 ^ 64 = omega (arith, ltb-true n (2 ^ 63) h) in
    rw (digits_value-spelled (suc n) wide)

-- the spelling of a signed 64-bit number is read as that number
pub integer-spelled : (z : ℤ) → is_64_bits z ≡ true → integer (spelled_int z) ≡ Some z
integer-spelled z h =
    let P : ℤ → Type 0 = λ y. cond (is_64_bits y && bytes_eq (spelled_int z) (spelled_int y)) (Some y) None ≡ Some z in
    subst P (sym (signed_value-spelled z h)) (passing _ z (and_from _ _ h (bytes_eq-same (spelled_int z))))

-- a word that is read as a signed number is the spelling of that number
pub integer-is : (word : List ℕ) (z : ℤ) → integer word ≡ Some z → (is_64_bits z ≡ true) × (word ≡ spelled_int z)
integer-is word z h =
    let parts = passed _ (signed_value word) z h in
    let tests = and_parts _ _ parts.0 in
    let P : ℤ → Type 0 = λ y. (is_64_bits y ≡ true) × (word ≡ spelled_int y) in
    subst P parts.1 (tests.0, bytes_eq-true word _ tests.1)

-- a signed number is spelled as std writes it
pub spelled_int-signed : (z : ℤ) → is_64_bits z ≡ true → spelled_int z ≡ signed_decimal z
spelled_int-signed (pos n) h = spelled-decimal n (omega (arith, ltb-true n (2 ^ 63) h))
spelled_int-signed (negsuc n) h = ap (λ ds. 0x2D ∷ ds) (spelled-decimal (suc n) (omega (arith, ltb-true n (2 ^ 63) h)))

-- the values of signed 64-bit types fit
pub is_64_bits-fits : (z : ℤ) → SFits w64 z → is_64_bits z ≡ true
is_64_bits-fits (pos n) h = lt-ltb n (2 ^ 63) (omega (arith, h))
is_64_bits-fits (negsuc n) h = lt-ltb n (2 ^ 63) (omega (arith, h))
