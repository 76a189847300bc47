-- Numbers read at the front of a line.
use Rattle.macro_script.proofs.Names.{◌≡◌, ℕ, suc, ◌+◌, ◌-◌, ◌*◌, ◌<◌, ◌≤◌, List, [], ◌∷◌, length, get_or, take, drop, refl, sym, ◌∙◌, ap, arith, length-take, Result, Ok, Option, Some, slice_range, ◌==◌, digits_value, AllDigits, cond-true, eq-eqb, get_or-take, take_rest, digit_at, IsAsciiDigit, Cause, space, spelled, ◌>>=◌, word_of, behind_word, not_empty, word_field, number_field, not_empty-some}
use Rattle.macro_script.specs.Fields.{IsNumberAtFront}
use Rattle.macro_script.proofs.SpelledNumbers.{spelled-digits, one_digit_more}
use Rattle.macro_script.proofs.Words.{NoSpaceBefore, ends_at}

no_space : (ds : List ℕ) (len : ℕ) → len ≤ length ds → AllDigits 10 (take len ds) → NoSpaceBefore ds len
no_space ds len h all k low is =
    let range = digit_at (take len ds) k all (omega (arith, length-take len ds)) in
    let same = get_or-take len ds k 0 low in
    omega arith

-- The first `len` bytes are a whole word of digits without a needless zero, and have this value.
pub record IsWholeNumber (bytes : List ℕ) (n len : ℕ) : Type 0 where
  pub within : len ≤ length bytes
  pub few : len ≤ 19
  pub digits : AllDigits 10 (take len bytes)
  pub value : n ≡ digits_value 10 (take len bytes)
  pub some : 0 < len
  pub ended : len < length bytes → get_or bytes len 0 ≡ 32
  pub lone : get_or bytes 0 0 ≡ 48 → len ≡ 1

-- they are the word at the front, and spell their value
whole_word : (bytes : List ℕ) (n len : ℕ) → IsWholeNumber bytes n len → (word_of bytes ≡ spelled n) × (behind_word bytes ≡ drop len bytes)
whole_word bytes n len h =
    let ends = ends_at bytes len h.within (no_space bytes len h.within h.digits) h.ended in
    let long : length (take len bytes) ≡ len = omega (arith, h.within, length-take len bytes) in
    let first : get_or (take len bytes) 0 0 ≡ get_or bytes 0 0 = get_or-take len bytes 0 0 h.some in
    let number = spelled-digits (take len bytes) h.digits (omega (arith, h.some)) (omega (arith, h.few)) (λ is. omega (arith, h.lone (sym first ∙ is))) in
    (ap (λ k. take k bytes) (sym ends.0) ∙ number ∙ ap spelled (sym h.value), ap (λ k. drop k bytes) (sym ends.1))

-- a word with the rest of the line
abbrev with_rest : List ℕ → List ℕ → Result (List ℕ × List ℕ) Cause
with_rest rest word = Ok (word, rest)

-- what `word_field` returns after its space
abbrev word_behind : List ℕ → Result (List ℕ × List ℕ) Cause
word_behind bytes = not_empty (word_of bytes) >>= with_rest (behind_word bytes)

word_is : (bytes : List ℕ) (n len : ℕ) → IsWholeNumber bytes n len → word_behind bytes ≡ Ok (spelled n, drop len bytes)
word_is bytes n len h =
    let word = whole_word bytes n len h in
    let ends = ends_at bytes len h.within (no_space bytes len h.within h.digits) h.ended in
    let long : length (word_of bytes) ≡ length (spelled n) = ap length word.0 in
    let some : 0 < length (spelled n) = omega (arith, h.some, ends.1) in
    ap (λ w. not_empty w >>= with_rest (behind_word bytes)) word.0 ∙ ap (λ r. r >>= with_rest (behind_word bytes)) (not_empty-some (spelled n) some) ∙
    ap (λ rest. Ok (spelled n, rest)) word.1

behind_space : (b : ℕ) (bs : List ℕ) → b ≡ space → word_field (b ∷ bs) ≡ word_behind bs
behind_space b bs is = ap (λ r. r >>= word_behind) (cond-true (b == space) _ _ (eq-eqb b space is))

number_behind : (line : List ℕ) (n len : ℕ) → 0 < length line → get_or line 0 0 ≡ space → IsWholeNumber (drop 1 line) n len → IsNumberAtFront line n (len + 1)
number_behind [] n len some is h = absurd (omega arith)
number_behind (b ∷ bs) n len some is h =
    let count : suc len ≡ len + 1 = omega arith in
    (behind_space b bs is ∙ word_is bs n len h ∙ ap (λ k. Ok (spelled n, drop k (b ∷ bs))) count, omega (arith, h.within))

-- a digit after a space, before a space or the end of the line
pub digit_at_front : (line : List ℕ) (d : ℕ) → 2 ≤ length line → get_or line 0 0 ≡ space → IsAsciiDigit (get_or line 1 0) → d ≡ get_or line 1 0 - 48 → (2 < length line → get_or line 2 0 ≡ 32) → IsNumberAtFront line d 2
digit_at_front [] d long begins range is ended = absurd (omega arith)
digit_at_front (a ∷ []) d long begins range is ended = absurd (omega arith)
digit_at_front (a ∷ b ∷ rest) d long begins range is ended =
    let digit = one_digit_more (b ∷ rest) 0 0 d (omega arith) range is tt refl in
    let value : d ≡ 0 * 10 + d = omega arith in
    number_behind (a ∷ b ∷ rest) d 1 (omega arith) begins (record {
      within = omega arith;
      few = omega arith;
      digits = digit.0;
      value = value ∙ digit.1;
      some = omega arith;
      ended = λ more. ended (omega arith);
      lone = λ zero. refl;
    })

-- a field whose word has this value
field_is : {T : Type 0} (number : List ℕ → Option T) (line word rest : List ℕ) (value : T) → word_field line ≡ Ok (word, rest) → number word ≡ Some value → number_field number line ≡ Ok (value, rest)
field_is number line word rest value field reads = rw (field, reads)

pub field_read : {T : Type 0} (number : List ℕ → Option T) (line old : List ℕ) (n len : ℕ) (value : T) → old ≡ line → word_field line ≡ Ok (spelled n, drop len line) → number (spelled n) ≡ Some value → Ok (value, slice_range line len (length line)) ≡ number_field number old
field_read number line old n len value same field reads =
    ap (λ rest. Ok (value, rest)) (take_rest line len) ∙ sym (field_is number line (spelled n) (drop len line) value field reads) ∙ ap (number_field number) (sym same)
