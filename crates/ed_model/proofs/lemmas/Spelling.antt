-- The spelling of a number consists of bytes of words.
use Rattle.ed_model.proofs.Names.{ℕ, suc, ◌≡◌, ◌^◌, ◌<◌, true, List, [], ◌∷◌, arith, ℤ, pos, negsuc, AllByRecursion, ltb-true, spelled, spelled_int, is_64_bits, AllDigits-spelled}
use Rattle.std.specs.Str.Parse.{AllDigits}
use Rattle.std.proofs.lemmas.Str.Parse.{digit_from_value}

-- bytes greater than the space can be in words; the line feed and the space cannot
abbrev pub AreWordBytes : List ℕ → Type 0
AreWordBytes bytes = AllByRecursion (λ b. 32 < b) bytes

pub AreWordBytes-digits : (ds : List ℕ) → AllDigits 10 ds → AreWordBytes ds
AreWordBytes-digits [] all = tt
AreWordBytes-digits (d ∷ ds) all = (omega (arith, digit_from_value d all.0), AreWordBytes-digits ds all.1)

pub AreWordBytes-spelled : (n : ℕ) → n < 2 ^ 64 → AreWordBytes (spelled n)
AreWordBytes-spelled n h = AreWordBytes-digits (spelled n) (AllDigits-spelled n h)

pub AreWordBytes-spelled_int : (z : ℤ) → is_64_bits z ≡ true → AreWordBytes (spelled_int z)
AreWordBytes-spelled_int (pos n) h = AreWordBytes-spelled n (omega (arith, ltb-true n (2 ^ 63) h))
AreWordBytes-spelled_int (negsuc n) h = (omega arith, AreWordBytes-spelled (suc n) (omega (arith, ltb-true n (2 ^ 63) h)))
