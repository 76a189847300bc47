-- The cuts of a text, found by the bytes around a place.
--
-- The proof walks a text from its start, character by character. A place inside a character is found by looking back:
-- the byte there belongs to the character that begins one, two or three bytes before it and reaches past it, or
-- otherwise is the first of one. This holds since no byte inside a character is the first of a longer one
-- (`first_character`).
use Rattle.std.proofs.Common.{◌≡◌, ℕ, zero, suc, ◌+◌, ◌-◌, ◌<◌, ◌≤◌, Bool, nat_lt, nat_le, drop, reverse, unwrap_or, List, [], ◌∷◌, length, Some, None, inl, inr, refl, sym, ap, ◌∙◌, arith, zero-add}
use Rattle.std.specs.List.{find}
use Rattle.std.specs.Option.{option_or}
use Rattle.std.proofs.lemmas.Bool.{cases_Bool, cases_lt, cases_eq, and_parts, and_left, and_right, leb-true, le-leb, lt-leb, lt-ltb, le-ltb}
use Rattle.std.proofs.lemmas.List.{drop-drop, length-drop, reverse-append}
use Rattle.std.proofs.lemmas.List.Folds.{find-append}
use Rattle.ed_model.specs.Characters.{character_length, cuts_from, cut_before, cut_after}
use Rattle.char_cut.specs.Places.{reaches, bytes_back, start_of, end_of}
use Rattle.char_cut.proofs.Followers.{IsCharacter, first_character}

-- Looking back.

pub back_within : (text : List ℕ) (p : ℕ) → bytes_back text p ≤ p
back_within text p =
    elim (cases_Bool (reaches text p 1)) [
      | inl one ↦ rw one (leb-true 1 p (and_parts (nat_le 1 p) (nat_lt 1 (character_length (drop (p - 1) text))) one).0)
      | inr not_one ↦
          rw not_one (
          elim (cases_Bool (reaches text p 2)) [
            | inl two ↦ rw two (leb-true 2 p (and_parts (nat_le 2 p) (nat_lt 2 (character_length (drop (p - 2) text))) two).0)
            | inr not_two ↦
                rw not_two (
                elim (cases_Bool (reaches text p 3)) [
                  | inl three ↦ rw three (leb-true 3 p (and_parts (nat_le 3 p) (nat_lt 3 (character_length (drop (p - 3) text))) three).0)
                  | inr not_three ↦ rw not_three (omega arith)
                ])
          ])
    ]

-- a byte inside the first character, or its first one, looks back to its start
back_in_first : (text : List ℕ) (i : ℕ) → IsCharacter (character_length text) text → i < character_length text → bytes_back text i ≡ i
back_in_first text zero is l = refl
back_in_first text (suc zero) is l = rw (lt-ltb 1 (character_length text) l) refl
back_in_first text (suc (suc zero)) is l =
    rw (is.alone 1 (omega arith) (omega arith), lt-ltb 2 (character_length text) l) refl
back_in_first text (suc (suc (suc zero))) is l =
    rw (is.alone 2 (omega arith) (omega arith), is.alone 1 (omega arith) (omega arith), lt-ltb 3 (character_length text) l) refl
back_in_first text (suc (suc (suc (suc i)))) is l = absurd (omega (arith, is.short))

-- a character behind the first one depends only on what is behind the first one
reaches_behind : (text : List ℕ) (i n k : ℕ) → IsCharacter n text → n ≡ character_length text → n ≤ i → 0 < k → reaches text i k ≡ reaches (drop n text) (i - n) k
reaches_behind text i n k is e h some =
    elim (cases_lt (i - n) k) [
      | inr behind ↦
          let here : n + (i - n - k) ≡ i - k = omega arith in
          rw (le-leb k i (omega arith), le-leb k (i - n) behind, drop-drop (i - n - k) n text, here) refl
      | inl across ↦
          rw (lt-leb k (i - n) across) (
          elim (cases_lt i k) [
            | inl before ↦ and_left (nat_le k i) (nat_lt k (character_length (drop (i - k) text))) (lt-leb k i before)
            | inr within ↦
                and_right (nat_le k i) (nat_lt k (character_length (drop (i - k) text))) (
                elim (cases_eq i k) [
                  | inl same ↦
                      let z : i - k ≡ 0 = omega arith in
                      rw (z, ← e) (le-ltb k n (omega arith))
                  | inr other ↦ rw (is.alone (i - k) (omega arith) (omega arith)) (le-ltb k 1 (omega arith))
                ])
          ])
    ]

back_behind : (text : List ℕ) (i n : ℕ) → IsCharacter n text → n ≡ character_length text → n ≤ i → bytes_back text i ≡ bytes_back (drop n text) (i - n)
back_behind text i n is e h =
    rw (reaches_behind text i n 1 is e h (omega arith), reaches_behind text i n 2 is e h (omega arith), reaches_behind text i n 3 is e h (omega arith)) refl

start_in_first : (text : List ℕ) (i : ℕ) → IsCharacter (character_length text) text → i < character_length text → start_of text i ≡ 0
start_in_first text i is l = omega (arith, back_in_first text i is l)

start_behind : (text : List ℕ) (i n : ℕ) → IsCharacter n text → n ≡ character_length text → n ≤ i → start_of text i ≡ n + start_of (drop n text) (i - n)
start_behind text i n is e h = omega (arith, back_behind text i n is e h, back_within (drop n text) (i - n))

end_in_first : (text : List ℕ) (i : ℕ) → IsCharacter (character_length text) text → i < character_length text → end_of text i ≡ character_length text
end_in_first text i is l = rw (start_in_first text i is l) (zero-add (character_length text))

end_behind : (text : List ℕ) (i n : ℕ) → IsCharacter n text → n ≡ character_length text → n ≤ i → end_of text i ≡ n + end_of (drop n text) (i - n)
end_behind text i n is e h =
    let start : ℕ = start_of (drop n text) (i - n) in
    rw (start_behind text i n is e h, ← (drop-drop start n text)) (omega arith)

-- The walk.

-- the walk continues behind the rest of a character
skipped : (p left : ℕ) (text : List ℕ) → left ≤ length text → cuts_from p left text ≡ cuts_from (p + left) 0 (drop left text)
skipped p zero text l = let e : p + 0 ≡ p = omega arith in rw e refl
skipped p (suc left) [] l = absurd (omega arith)
skipped p (suc left) (b ∷ bs) l =
    let e : (p + 1) + left ≡ p + suc left = omega arith in
    rw (← e) (skipped (p + 1) left bs (omega arith))

-- the first cut, and then the walk from behind the first character
walked : (p b : ℕ) (bs : List ℕ) (n : ℕ) → n ≡ character_length (b ∷ bs) → cuts_from p 0 (b ∷ bs) ≡ p ∷ cuts_from (p + n) 0 (drop n (b ∷ bs))
walked p b bs zero e = absurd (omega (arith, first_character b bs))
walked p b bs (suc m) e =
    let is = first_character b bs in
    let left : character_length (b ∷ bs) - 1 ≡ m = omega arith in
    let next : (p + 1) + m ≡ p + suc m = omega arith in
    rw (left, skipped (p + 1) m bs (omega (arith, is.within)), next) refl

-- Cuts above and below a place.

-- no cut is past the end
none_above : (p left q : ℕ) (text : List ℕ) → p + length text ≤ q → find (nat_lt q) (cuts_from p left text) ≡ None
none_above p left q [] h = rw (le-ltb q p (omega arith)) refl
none_above p zero q (b ∷ bs) h = rw (le-ltb q p (omega arith)) (none_above (p + 1) (character_length (b ∷ bs) - 1) q bs (omega arith))
none_above p (suc left) q (b ∷ bs) h = none_above (p + 1) left q bs (omega arith)

last_of : (test : ℕ → Bool) (cut : ℕ) (later : List ℕ) → find test (reverse (cut ∷ later)) ≡ option_or (find test (reverse later)) (find test (cut ∷ []))
last_of test cut later = ap (find test) (reverse-append (cut ∷ []) later) ∙ find-append test (reverse later) (cut ∷ [])

-- no cut is before the start
none_below : (p left q : ℕ) (text : List ℕ) → q ≤ p → find (λ cut. nat_lt cut q) (reverse (cuts_from p left text)) ≡ None
none_below p left q [] h = rw (le-ltb p q h) refl
none_below p zero q (b ∷ bs) h =
    last_of (λ cut. nat_lt cut q) p (cuts_from (p + 1) (character_length (b ∷ bs) - 1) bs)
    ∙ rw (none_below (p + 1) (character_length (b ∷ bs) - 1) q bs (omega arith), le-ltb p q h) refl
none_below p (suc left) q (b ∷ bs) h = none_below (p + 1) left q bs (omega arith)

-- the first cut is where the walk begins
first_cut : (p q : ℕ) (text : List ℕ) → q < p → find (nat_lt q) (cuts_from p 0 text) ≡ Some p
first_cut p q [] h = rw (lt-ltb q p h) refl
first_cut p q (b ∷ bs) h = rw (lt-ltb q p h) refl

-- the next cut is the end of the character at the place; `fuel` bounds the length of the text
next_cut : (fuel p i q : ℕ) (text : List ℕ) → length text ≤ fuel → q ≡ p + i → i < length text → find (nat_lt q) (cuts_from p 0 text) ≡ Some (p + end_of text i)
next_cut zero p i q text f e l = absurd (omega arith)
next_cut (suc fuel) p i q [] f e l = absurd (omega arith)
next_cut (suc fuel) p i q (b ∷ bs) f e l =
    let n : ℕ = character_length (b ∷ bs) in
    let rest : List ℕ = drop n (b ∷ bs) in
    let is = first_character b bs in
    let size : length rest ≡ length (b ∷ bs) - n = length-drop n (b ∷ bs) in
    ap (find (nat_lt q)) (walked p b bs n refl) ∙ rw (le-ltb q p (omega arith)) (
    elim (cases_lt i n) [
      | inl inside ↦ first_cut (p + n) q rest (omega arith) ∙ ap (λ m. Some (p + m)) (sym (end_in_first (b ∷ bs) i is inside))
      | inr behind ↦
          let past : p + n + end_of rest (i - n) ≡ p + end_of (b ∷ bs) i = omega (arith, end_behind (b ∷ bs) i n is refl behind) in
          next_cut fuel (p + n) (i - n) q rest (omega (arith, is.some)) (omega arith) (omega arith) ∙ ap Some past
    ])

-- the last cut before a place is the start of the character that the byte before it belongs to
last_cut : (fuel p i q : ℕ) (text : List ℕ) → length text ≤ fuel → q ≡ p + i + 1 → i < length text → find (λ cut. nat_lt cut q) (reverse (cuts_from p 0 text)) ≡ Some (p + start_of text i)
last_cut zero p i q text f e l = absurd (omega arith)
last_cut (suc fuel) p i q [] f e l = absurd (omega arith)
last_cut (suc fuel) p i q (b ∷ bs) f e l =
    let n : ℕ = character_length (b ∷ bs) in
    let rest : List ℕ = drop n (b ∷ bs) in
    let is = first_character b bs in
    let size : length rest ≡ length (b ∷ bs) - n = length-drop n (b ∷ bs) in
    ap (λ all. find (λ cut. nat_lt cut q) (reverse all)) (walked p b bs n refl)
    ∙ last_of (λ cut. nat_lt cut q) p (cuts_from (p + n) 0 rest)
    ∙ elim (cases_lt i n) [
      | inl inside ↦
          let here : p ≡ p + start_of (b ∷ bs) i = omega (arith, start_in_first (b ∷ bs) i is inside) in
          rw (none_below (p + n) 0 q rest (omega arith), lt-ltb p q (omega arith)) (ap Some here)
      | inr behind ↦
          let here : p + n + start_of rest (i - n) ≡ p + start_of (b ∷ bs) i = omega (arith, start_behind (b ∷ bs) i n is refl behind) in
          rw (last_cut fuel (p + n) (i - n) q rest (omega (arith, is.some)) (omega arith) (omega arith)) (ap Some here)
    ]

-- the end of a character is in the text
pub end_within : (fuel i : ℕ) (text : List ℕ) → length text ≤ fuel → i < length text → end_of text i ≤ length text
end_within zero i text f l = absurd (omega arith)
end_within (suc fuel) i [] f l = absurd (omega arith)
end_within (suc fuel) i (b ∷ bs) f l =
    let n : ℕ = character_length (b ∷ bs) in
    let rest : List ℕ = drop n (b ∷ bs) in
    let is = first_character b bs in
    let size : length rest ≡ length (b ∷ bs) - n = length-drop n (b ∷ bs) in
    elim (cases_lt i n) [
      | inl inside ↦ omega (arith, is.within, end_in_first (b ∷ bs) i is inside)
      | inr behind ↦
          let later : end_of rest (i - n) ≤ length rest = end_within fuel (i - n) rest (omega (arith, is.some)) (omega arith) in
          omega (arith, is.within, end_behind (b ∷ bs) i n is refl behind)
    ]

-- that end is behind each place in the character
pub end_behind_place : (fuel i : ℕ) (text : List ℕ) → length text ≤ fuel → i < length text → i < end_of text i
end_behind_place zero i text f l = absurd (omega arith)
end_behind_place (suc fuel) i [] f l = absurd (omega arith)
end_behind_place (suc fuel) i (b ∷ bs) f l =
    let n : ℕ = character_length (b ∷ bs) in
    let rest : List ℕ = drop n (b ∷ bs) in
    let is = first_character b bs in
    let size : length rest ≡ length (b ∷ bs) - n = length-drop n (b ∷ bs) in
    elim (cases_lt i n) [
      | inl inside ↦ omega (arith, end_in_first (b ∷ bs) i is inside)
      | inr behind ↦
          let later : i - n < end_of rest (i - n) = end_behind_place fuel (i - n) rest (omega (arith, is.some)) (omega arith) in
          omega (arith, end_behind (b ∷ bs) i n is refl behind)
    ]

-- What the bytes around a place determine.

pub cut_after_is : (text : List ℕ) (p : ℕ) → p < length text → cut_after text p ≡ end_of text p
cut_after_is text p l =
    let e : 0 + end_of text p ≡ end_of text p = zero-add (end_of text p) in
    ap (λ found. unwrap_or found (length text)) (next_cut (length text) 0 p p text (omega arith) (omega arith) l) ∙ e

pub cut_after_end : (text : List ℕ) (p : ℕ) → length text ≤ p → cut_after text p ≡ length text
cut_after_end text p h = ap (λ found. unwrap_or found (length text)) (none_above 0 0 p text (omega arith))

pub cut_before_is : (text : List ℕ) (p i : ℕ) → p ≡ i + 1 → i < length text → cut_before text p ≡ start_of text i
cut_before_is text p i e l =
    let same : 0 + start_of text i ≡ start_of text i = zero-add (start_of text i) in
    ap (λ found. unwrap_or found 0) (last_cut (length text) 0 i p text (omega arith) (omega arith) l) ∙ same

pub cut_before_start : (text : List ℕ) → cut_before text 0 ≡ 0
cut_before_start text = ap (λ found. unwrap_or found 0) (none_below 0 0 0 text (omega arith))
