-- The arguments of messages: the numbers that they give are in range for the request.
use Rattle.ed_model.proofs.Names.{◌≡◌, ℕ, zero, suc, ◌+◌, ◌-◌, ◌<◌, ◌≤◌, min, Bool, true, false, cond, List, [], ◌∷◌, length, get_or, reverse, refl, arith, ℤ, pos, negsuc, ◌&&◌, nat_lt, nat_le, Option, Some, None, if◌then◌else◌, find, slice_get, unwrap_or, range_with_len, AllByRecursion, cond_both, leb-true, ltb-true, and_parts, within, clamped, line_among, line_starts, start_of_line, start_after_line, cuts, cuts_from, cut_before, cut_after, character_length, match_in, is_match, starts_within, LineEndTypes, Request, Planned, text, size, line_total, with_argument, argument, text_length, text_range, counted_range, with_line, line_argument, end_or_size, Rise, IsFitPlanned, found_test, found_all, all_reverse}
use Rattle.ed_model.proofs.SoundLists.{starts_rise}

-- Numbers.

pub within_bounds : (low high : ℕ) (x : ℤ) (n : ℕ) → within low high x ≡ Some n → (low ≤ n) × (n ≤ high)
within_bounds low high (pos m) n e = go (nat_le low m && nat_le m high) refl e
  where
    go : (b : Bool) → (nat_le low m && nat_le m high) ≡ b → cond b (Some m) None ≡ Some n → (low ≤ n) × (n ≤ high)
    go true t e =
        let same : m ≡ n = cc in
        let both = and_parts (nat_le low m) (nat_le m high) t in
        let a = leb-true low m both.0 in
        let b = leb-true m high both.1 in
        (omega arith, omega arith)
    go false t e = absurd (cc)
within_bounds low high (negsuc m) n e = absurd (cc)

pub line_bound : (count : ℕ) (x : ℤ) (n : ℕ) → line_among count x ≡ Some n → n < count
line_bound count (pos m) n e = go (nat_lt m count) refl e
  where
    go : (b : Bool) → nat_lt m count ≡ b → cond b (Some m) None ≡ Some n → n < count
    go true t e = let same : m ≡ n = cc in let a = ltb-true m count t in omega arith
    go false t e = absurd (cc)
line_bound count (negsuc m) n e = absurd (cc)

pub clamped_bound : (n : ℕ) (x : ℤ) → clamped n x ≤ n
clamped_bound n x = omega arith

-- Combinators.

pub with_argument_fits : {A : Type 0} (r : Request) (o : Option A) (plan : A → Planned) → ((a : A) → o ≡ Some a → IsFitPlanned r (plan a)) → IsFitPlanned r (with_argument o plan)
with_argument_fits r None plan h = λ e. absurd (cc)
with_argument_fits r (Some a) plan h = h a refl

pub argument_fits : (r : Request) (low high : ℕ) (x : ℤ) (plan : ℕ → Planned) → ((n : ℕ) → low ≤ n → n ≤ high → IsFitPlanned r (plan n)) → IsFitPlanned r (argument low high x plan)
argument_fits r low high x plan h = with_argument_fits r (within low high x) plan (λ n e. let b = within_bounds low high x n e in h n b.0 b.1)

pub text_length_fits : (r : Request) (plan : ℕ → Planned) → ((count : ℕ) → count ≤ length r.message.text → IsFitPlanned r (plan count)) → IsFitPlanned r (text_length r plan)
text_length_fits r plan h = argument_fits r 0 (length r.message.text) r.message.w plan (λ n a b. h n b)

pub text_range_fits : (r : Request) (plan : ℕ → ℕ → Planned) → ((start past : ℕ) → start ≤ past → past ≤ size r → IsFitPlanned r (plan start past)) → IsFitPlanned r (text_range r plan)
text_range_fits r plan h =
    argument_fits r 0 (size r) r.message.w (λ start. argument start (size r) (end_or_size (size r) r.message.l) (λ past. plan start past))
    (λ start a b. argument_fits r start (size r) (end_or_size (size r) r.message.l) (λ past. plan start past) (λ past c d. h start past c d))

pub counted_range_fits : (r : Request) (plan : ℕ → ℕ → Planned) → ((start count : ℕ) → start + count ≤ size r → IsFitPlanned r (plan start count)) → IsFitPlanned r (counted_range r plan)
counted_range_fits r plan h =
    argument_fits r 0 (size r) r.message.w (λ start. argument 0 (size r - start) r.message.l (λ count. plan start count))
    (λ start a b. argument_fits r 0 (size r - start) r.message.l (λ count. plan start count) (λ count c d. h start count (omega arith)))

with_line_fits : (r : Request) (o : Option ℕ) (bad : Planned) (plan : ℕ → Planned) → IsFitPlanned r bad → ((line : ℕ) → o ≡ Some line → IsFitPlanned r (plan line)) → IsFitPlanned r (with_line o bad plan)
with_line_fits r None bad plan b h = b
with_line_fits r (Some line) bad plan b h = h line refl

pub line_fits : (r : Request) (bad : Planned) (plan : ℕ → Planned) → IsFitPlanned r bad → ((line : ℕ) → line < line_total r → IsFitPlanned r (plan line)) → IsFitPlanned r (line_argument r bad plan)
line_fits r bad plan b h = with_line_fits r (line_among (line_total r) r.message.w) bad plan b (λ line e. h line (line_bound (line_total r) r.message.w line e))

pub if_fits : (r : Request) (b : Bool) (x y : Planned) → (b ≡ true → IsFitPlanned r x) → (b ≡ false → IsFitPlanned r y) → IsFitPlanned r (if b then x else y)
if_fits r b x y f g = cond_both b x y (IsFitPlanned r) f g

-- Places of lines.

rise_get : (low high : ℕ) (xs : List ℕ) (i : ℕ) → 0 < high → Rise low high xs → get_or xs i 0 < high
rise_get low high [] i h r = h
rise_get low high (x ∷ xs) zero h r = r.1
rise_get low high (x ∷ xs) (suc i) h r = rise_get (x + 1) high xs i h r.2

rise_slice : (low n : ℕ) (xs : List ℕ) (i : ℕ) → Rise low (n + 1) xs → unwrap_or (slice_get xs i) n ≤ n
rise_slice low n [] i r = omega arith
rise_slice low n (x ∷ xs) zero r = let a : x < n + 1 = r.1 in omega arith
rise_slice low n (x ∷ xs) (suc i) r = rise_slice (x + 1) n xs i r.2

pub start_bound : (types : LineEndTypes) (text : List ℕ) (line : ℕ) → start_of_line types text line ≤ length text
start_bound types text line = let a = rise_get 0 (length text + 1) (line_starts types text) line (omega arith) (starts_rise types text) in omega arith

pub past_bound : (types : LineEndTypes) (text : List ℕ) (line : ℕ) → start_after_line types text line ≤ length text
past_bound types text line = rise_slice 0 (length text) (line_starts types text) (line + 1) (starts_rise types text)

-- Cuts.

cuts_bound : (n p left : ℕ) (text : List ℕ) → p + length text ≤ n → AllByRecursion (λ c. c ≤ n) (cuts_from p left text)
cuts_bound n p left [] h = (omega arith, tt)
cuts_bound n p zero (b ∷ bs) h = (omega arith, cuts_bound n (p + 1) (character_length (b ∷ bs) - 1) bs (omega arith))
cuts_bound n p (suc left) (b ∷ bs) h = cuts_bound n (p + 1) left bs (omega arith)

pub cut_after_bound : (text : List ℕ) (p : ℕ) → cut_after text p ≤ length text
cut_after_bound text p = go (find (nat_lt p) (cuts text)) refl
  where
    go : (o : Option ℕ) → find (nat_lt p) (cuts text) ≡ o → unwrap_or o (length text) ≤ length text
    go None e = omega arith
    go (Some c) e = found_all (λ c. c ≤ length text) (nat_lt p) (cuts text) c (cuts_bound (length text) 0 0 text (omega arith)) e

pub cut_before_bound : (text : List ℕ) (p : ℕ) → cut_before text p ≤ p
cut_before_bound text p = go (find (λ cut. nat_lt cut p) (reverse (cuts text))) refl
  where
    go : (o : Option ℕ) → find (λ cut. nat_lt cut p) (reverse (cuts text)) ≡ o → unwrap_or o 0 ≤ p
    go None e = omega arith
    go (Some c) e = let a = ltb-true c p (found_test (λ cut. nat_lt cut p) (reverse (cuts text)) c e) in omega arith

-- Ranges of numbers.

pub all_range : (a n : ℕ) → AllByRecursion (λ k. (a ≤ k) × (k < a + n)) (range_with_len a n)
all_range a n = go a n a (a + n) (omega arith) (omega arith)
  where
    go : (low high b : ℕ) (top : ℕ) → low ≤ b → b + high ≤ top → AllByRecursion (λ k. (low ≤ k) × (k < top)) (range_with_len b high)
    go low zero b top h g = tt
    go low (suc m) b top h g = ((omega arith, omega arith), go low m (b + 1) top (omega arith) (omega arith))

-- a match is within the text
pub match_bound : (flags : ℕ) (text pattern : List ℕ) (from to n place : ℕ) → from ≤ n → to ≤ n → match_in flags text pattern from to ≡ Some place → place + length pattern ≤ n
match_bound flags text [] from to n place f t e = let same : min from to ≡ place = cc in omega arith
match_bound flags text (b ∷ bs) from to n place f t e = go (nat_le from to) refl e
  where
    inside : (low high : ℕ) → high ≤ n → (low ≤ place) × (place < low + ((high + 1) - (low + length (b ∷ bs)))) → place + length (b ∷ bs) ≤ n
    inside low high h p = let a : low ≤ place = p.0 in let c : place < low + ((high + 1) - (low + length (b ∷ bs))) = p.1 in omega arith

    go : (c : Bool) → nat_le from to ≡ c
        → cond c (find (is_match flags text (b ∷ bs)) (starts_within from to (length (b ∷ bs)))) (find (is_match flags text (b ∷ bs)) (reverse (starts_within to from (length (b ∷ bs))))) ≡ Some place
        → place + length (b ∷ bs) ≤ n
    go true c e = inside from to t
        (found_all (λ k. (from ≤ k) × (k < from + ((to + 1) - (from + length (b ∷ bs))))) (is_match flags text (b ∷ bs)) (starts_within from to (length (b ∷ bs))) place
        (all_range from ((to + 1) - (from + length (b ∷ bs)))) e)
    go false c e = inside to from f
        (found_all (λ k. (to ≤ k) × (k < to + ((from + 1) - (to + length (b ∷ bs))))) (is_match flags text (b ∷ bs)) (reverse (starts_within to from (length (b ∷ bs)))) place
        (all_reverse (λ k. (to ≤ k) × (k < to + ((from + 1) - (to + length (b ∷ bs))))) (starts_within to from (length (b ∷ bs))) (all_range to ((from + 1) - (to + length (b ∷ bs))))) e)
