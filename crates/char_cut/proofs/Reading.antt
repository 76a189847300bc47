-- Reads of a text in two halves.
use Rattle.std.proofs.Common.{◌≡◌, ℕ, zero, suc, ◌+◌, ◌-◌, ◌<◌, ◌≤◌, Bool, true, false, ◌&&◌, drop, List, [], ◌∷◌, ◌++◌, length, slice_get, Some, None, refl, sym, ap, ◌∙◌, arith, length-append, add-one}
use Rattle.std.proofs.lemmas.List.{length-replicate}
use Rattle.std.proofs.lemmas.Option.{none-some}
use Rattle.ed_model.specs.Characters.{begins_with, character_length, cut_before, cut_after}
use Rattle.ed_model.specs.proved.Lists.{drop_at_index}
use Rattle.char_cut.specs.Following.{following_of, so_many, is_some_from_to, follows_at}
use Rattle.char_cut.specs.Places.{start_of, end_of}
use Rattle.char_cut.proofs.Followers.{sized, by_first_byte}
use Rattle.char_cut.proofs.Walk.{end_within, end_behind_place, cut_after_is, cut_after_end, cut_before_is, cut_before_start}

-- Bytes that must follow.

rest_nowhere : (text : List ℕ) (p : ℕ) → slice_get text p ≡ None → drop p text ≡ []
rest_nowhere [] zero h = refl
rest_nowhere [] (suc p) h = refl
rest_nowhere (x ∷ xs) zero h = absurd (none-some x (sym h))
rest_nowhere (x ∷ xs) (suc p) h = rest_nowhere xs p h

-- the byte at the place, and those behind it
one_test : (text : List ℕ) (p q low high : ℕ) (rs : List (ℕ × ℕ)) → q ≡ p + 1 → begins_with (drop p text) ((low, high) ∷ rs) ≡ (is_some_from_to low high (slice_get text p) && begins_with (drop q text) rs)
one_test [] zero q low high rs e = refl
one_test [] (suc p) q low high rs e = refl
one_test (x ∷ xs) zero q low high rs e = rw e refl
one_test (x ∷ xs) (suc p) zero low high rs e = absurd (omega arith)
one_test (x ∷ xs) (suc p) (suc q) low high rs e = one_test xs p q low high rs (omega arith)

and_first : (a : Bool) → (a && true) ≡ (a && true && true)
and_first true = refl
and_first false = refl

and_two : (a b : Bool) → (a && (b && true)) ≡ (a && b && true)
and_two true b = refl
and_two false b = refl

and_three : (a b c : Bool) → (a && (b && (c && true))) ≡ (a && b && c)
and_three true true true = refl
and_three true true false = refl
and_three true false c = refl
and_three false b c = refl

pub all_tests : (text : List ℕ) (p n least greatest : ℕ) → n ≤ 3 → begins_with (drop (p + 1) text) (so_many n (least, greatest)) ≡ (follows_at n least greatest text p 1 && follows_at n least greatest text p 2 && follows_at n least greatest text p 3)
all_tests text p zero least greatest h = refl
all_tests text p (suc zero) least greatest h =
    rw (one_test text (p + 1) (p + 2) least greatest [] (omega arith)) (and_first (is_some_from_to least greatest (slice_get text (p + 1))))
all_tests text p (suc (suc zero)) least greatest h =
    rw (one_test text (p + 1) (p + 2) least greatest ((0x80, 0xBF) ∷ []) (omega arith), one_test text (p + 2) (p + 3) 0x80 0xBF [] (omega arith))
    (and_two (is_some_from_to least greatest (slice_get text (p + 1))) (is_some_from_to 0x80 0xBF (slice_get text (p + 2))))
all_tests text p (suc (suc (suc zero))) least greatest h =
    rw (one_test text (p + 1) (p + 2) least greatest ((0x80, 0xBF) ∷ (0x80, 0xBF) ∷ []) (omega arith), one_test text (p + 2) (p + 3) 0x80 0xBF ((0x80, 0xBF) ∷ []) (omega arith), one_test text (p + 3) (p + 4) 0x80 0xBF [] (omega arith))
    (and_three (is_some_from_to least greatest (slice_get text (p + 1))) (is_some_from_to 0x80 0xBF (slice_get text (p + 2))) (is_some_from_to 0x80 0xBF (slice_get text (p + 3))))
all_tests text p (suc (suc (suc (suc n)))) least greatest h = absurd (omega arith)

-- The length of a character.

pub length_nowhere : (text : List ℕ) (p : ℕ) → slice_get text p ≡ None → character_length (drop p text) ≡ 1
length_nowhere text p h = rw (rest_nowhere text p h) refl

length_read : (text : List ℕ) (p b : ℕ) (rs : List (ℕ × ℕ)) → slice_get text p ≡ Some b → rs ≡ following_of b → character_length (drop p text) ≡ sized rs (drop (p + 1) text)
length_read text p b rs h e = rw (drop_at_index p text b h, add-one, by_first_byte b (drop (suc p) text), e) refl

pub length_alone : (text : List ℕ) (p b : ℕ) (rs : List (ℕ × ℕ)) → slice_get text p ≡ Some b → rs ≡ following_of b → begins_with (drop (p + 1) text) rs ≡ false → character_length (drop p text) ≡ 1
length_alone text p b rs h e none = length_read text p b rs h e ∙ rw none refl

length_of_many : (n : ℕ) (first : ℕ × ℕ) → length (so_many n first) ≡ n
length_of_many zero first = refl
length_of_many (suc n) first = ap suc (length-replicate n (0x80, 0xBF))

pub length_followed : (text : List ℕ) (p b n : ℕ) (first : ℕ × ℕ) → slice_get text p ≡ Some b → so_many n first ≡ following_of b → begins_with (drop (p + 1) text) (so_many n first) ≡ true → character_length (drop p text) ≡ 1 + n
length_followed text p b n first h e all = length_read text p b (so_many n first) h e ∙ rw all (omega (arith, length_of_many n first))

-- The cuts.

pub after_in_halves : (xs ys : List ℕ) (p : ℕ) → p < length xs + length ys → cut_after (xs ++ ys) p ≡ end_of (xs ++ ys) p
after_in_halves xs ys p l = cut_after_is (xs ++ ys) p (omega (arith, length-append xs ys))

pub after_end : (xs ys : List ℕ) (p : ℕ) → p ≡ length xs + length ys → cut_after (xs ++ ys) p ≡ p
after_end xs ys p e = cut_after_end (xs ++ ys) p (omega (arith, length-append xs ys)) ∙ (omega (arith, length-append xs ys))

pub before_in_halves : (xs ys : List ℕ) (p : ℕ) → 0 < p → p ≤ length xs + length ys → cut_before (xs ++ ys) p ≡ start_of (xs ++ ys) (p - 1)
before_in_halves xs ys p a l = cut_before_is (xs ++ ys) p (p - 1) (omega arith) (omega (arith, length-append xs ys))

pub before_start : (text : List ℕ) (p : ℕ) → p ≡ 0 → cut_before text p ≡ 0
before_start text p e = rw e (cut_before_start text)

-- the end of a character, by where it starts and how long it is: behind the place, and in the text
pub record IsEndBehind (p end whole : ℕ) : Type 0 where
  pub behind : p < end
  pub within : end ≤ whole

pub end_about : (xs ys : List ℕ) (p start count : ℕ) → p < length xs + length ys → start ≡ start_of (xs ++ ys) p → count ≡ character_length (drop start (xs ++ ys)) → IsEndBehind p (start + count) (length xs + length ys)
end_about xs ys p start count l s e =
    let text : List ℕ = xs ++ ys in
    let size : length text ≡ length xs + length ys = length-append xs ys in
    let within : end_of text p ≤ length text = end_within (length text) p text (omega arith) (omega arith) in
    let behind : p < end_of text p = end_behind_place (length text) p text (omega arith) (omega arith) in
    let same : count ≡ character_length (drop (start_of text p) text) = rw (← s) e in
    record { behind = omega arith; within = omega arith }
