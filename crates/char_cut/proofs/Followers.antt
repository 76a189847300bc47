-- The first byte of a text determines what must follow for its first character to be longer than a byte.
use Rattle.std.proofs.Common.{◌≡◌, ℕ, zero, suc, ◌<◌, ◌≤◌, Bool, true, false, ◌==◌, ◌||◌, ◌&&◌, cond, nat_lt, nat_le, if◌then◌else◌, drop, List, [], ◌∷◌, length, Some, None, inl, inr, refl, sym, arith}
use Rattle.std.specs.List.{find}
use Rattle.std.proofs.lemmas.Bool.{true≢false, cases_Bool, and_parts, and_from, and_left, and_right, or_cases, or_left, or_right, eqb-true, eq-eqb, leb-true, le-leb, lt-leb, ltb-true}
use Rattle.ed_model.specs.Matches.{is_from_to}
use Rattle.ed_model.specs.Characters.{sequences, begins_with, sequence_length, character_length}
use Rattle.char_cut.specs.Following.{following_among, following_of}

-- the length of the first character of a text, if its first byte demands these ranges
abbrev pub sized : List (ℕ × ℕ) → List ℕ → ℕ
sized rs bs = if begins_with bs rs then suc (length rs) else 1

-- the first ranges of these rows are above m, and above one another
abbrev pub rises_from : ℕ → List (List (ℕ × ℕ)) → Bool
rises_from m [] = true
rises_from m ([] ∷ rows) = false
rises_from m ((r ∷ rs) ∷ rows) = nat_lt m r.0 && rises_from r.1 rows && nat_le r.0 r.1

below_range : (low high m b : ℕ) → nat_lt m low ≡ true → b ≤ m → is_from_to low high b ≡ false
below_range low high m b l h = and_left (nat_le low b) (nat_le b high) (lt-leb low b (omega (arith, ltb-true m low l)))

-- a byte that is below all rows begins none of them
none_found : (m b : ℕ) (bs : List ℕ) (rows : List (List (ℕ × ℕ))) → rises_from m rows ≡ true → b ≤ m → find (begins_with (b ∷ bs)) rows ≡ None
none_found m b bs [] rise h = refl
none_found m b bs ([] ∷ rows) rise h = absurd (true≢false (sym rise))
none_found m b bs ((r ∷ rs) ∷ rows) rise h =
    let parts = and_parts (nat_lt m r.0 && rises_from r.1 rows) (nat_le r.0 r.1) rise in
    let front = and_parts (nat_lt m r.0) (rises_from r.1 rows) parts.0 in
    rw (below_range r.0 r.1 m b front.0 h) (none_found r.1 b bs rows front.1 (omega (arith, ltb-true m r.0 front.0, leb-true r.0 r.1 parts.1)))

pub none_follow : (m b : ℕ) (rows : List (List (ℕ × ℕ))) → rises_from m rows ≡ true → b ≤ m → following_among b rows ≡ []
none_follow m b [] rise h = refl
none_follow m b ([] ∷ rows) rise h = absurd (true≢false (sym rise))
none_follow m b ((r ∷ rs) ∷ rows) rise h =
    let parts = and_parts (nat_lt m r.0 && rises_from r.1 rows) (nat_le r.0 r.1) rise in
    let front = and_parts (nat_lt m r.0) (rises_from r.1 rows) parts.0 in
    rw (below_range r.0 r.1 m b front.0 h) (none_follow r.1 b rows front.1 (omega (arith, ltb-true m r.0 front.0, leb-true r.0 r.1 parts.1)))

row_or_byte : (t : Bool) (row : List (ℕ × ℕ)) (n : ℕ) → length row ≡ n → sequence_length (cond t (Some row) None) ≡ cond t n 1
row_or_byte true row n e = e
row_or_byte false row n e = refl

row_or_ascii : (t : Bool) → sequence_length (cond t (Some ((13, 13) ∷ (10, 10) ∷ [])) (Some ((0x00, 0x7F) ∷ []))) ≡ cond t 2 1
row_or_ascii true = refl
row_or_ascii false = refl

-- in rows that rise, the first row whose first range has the byte is the only one
sized_rising : (m b : ℕ) (bs : List ℕ) (rows : List (List (ℕ × ℕ))) → rises_from m rows ≡ true → sequence_length (find (begins_with (b ∷ bs)) rows) ≡ sized (following_among b rows) bs
sized_rising m b bs [] rise = refl
sized_rising m b bs ([] ∷ rows) rise = absurd (true≢false (sym rise))
sized_rising m b bs ((r ∷ rs) ∷ rows) rise =
    let parts = and_parts (nat_lt m r.0 && rises_from r.1 rows) (nat_le r.0 r.1) rise in
    let front = and_parts (nat_lt m r.0) (rises_from r.1 rows) parts.0 in
    elim (cases_Bool (is_from_to r.0 r.1 b)) [
      | inl has ↦
          let high = (and_parts (nat_le r.0 b) (nat_le b r.1) has).1 in
          rw (has, none_found r.1 b bs rows front.1 (leb-true b r.1 high)) (row_or_byte (begins_with bs rs) (r ∷ rs) (suc (length rs)) refl)
      | inr hasnt ↦ rw hasnt (sized_rising r.1 b bs rows front.1)
    ]

-- the rows behind those of CRLF and of ASCII
abbrev pub long_rows : List (List (ℕ × ℕ))
long_rows = drop 2 sequences

-- the first character is as long as the first byte and what follows it say
pub by_first_byte : (b : ℕ) (bs : List ℕ) → character_length (b ∷ bs) ≡ sized (following_of b) bs
by_first_byte b bs =
    elim (cases_Bool (is_from_to 13 13 b)) [
      | inl return ↦
          let parts = and_parts (nat_le 13 b) (nat_le b 13) return in
          let e : b ≡ 13 = omega (arith, leb-true 13 b parts.0, leb-true b 13 parts.1) in
          rw e (row_or_ascii (begins_with bs ((10, 10) ∷ [])))
      | inr other ↦
          rw other (
          elim (cases_Bool (is_from_to 0x00 0x7F b)) [
            | inl ascii ↦ rw ascii refl
            | inr past ↦ rw past (sized_rising 0x7F b bs long_rows refl)
          ])
    ]

-- What follows.

-- a test that holds for what follows in each row, and for nothing
abbrev pub in_each_row : (List (ℕ × ℕ) → Bool) → List (List (ℕ × ℕ)) → Bool
in_each_row test [] = true
in_each_row test ([] ∷ rows) = in_each_row test rows
in_each_row test ((r ∷ rs) ∷ rows) = test rs && in_each_row test rows

follows_any : (test : List (ℕ × ℕ) → Bool) (b : ℕ) (rows : List (List (ℕ × ℕ))) → test [] ≡ true → in_each_row test rows ≡ true → test (following_among b rows) ≡ true
follows_any test b [] none each = none
follows_any test b ([] ∷ rows) none each = follows_any test b rows none each
follows_any test b ((r ∷ rs) ∷ rows) none each =
    let parts = and_parts (test rs) (in_each_row test rows) each in
    elim (cases_Bool (is_from_to r.0 r.1 b)) [
      | inl has ↦ rw has parts.0
      | inr hasnt ↦ rw hasnt (follows_any test b rows none parts.1)
    ]

-- LF and the bytes from 0x80 to 0xBF are those that may follow; nothing must follow them
abbrev pub is_follower : ℕ → Bool
is_follower b = b == 10 || is_from_to 0x80 0xBF b

abbrev pub has_followers : ℕ × ℕ → Bool
has_followers r = (r.0 == 10 && r.1 == 10) || (nat_le 0x80 r.0 && nat_le r.1 0xBF)

abbrev pub all_have_followers : List (ℕ × ℕ) → Bool
all_have_followers [] = true
all_have_followers (r ∷ rs) = has_followers r && all_have_followers rs

pub followers_follow : (b : ℕ) → all_have_followers (following_of b) ≡ true
followers_follow b = follows_any all_have_followers b sequences refl refl

pub three_follow : (b : ℕ) → nat_le (length (following_of b)) 3 ≡ true
three_follow b = follows_any (λ rs. nat_le (length rs) 3) b sequences refl refl

follower_in : (r : ℕ × ℕ) (b : ℕ) → has_followers r ≡ true → is_from_to r.0 r.1 b ≡ true → is_follower b ≡ true
follower_in r b some within =
    let parts = and_parts (nat_le r.0 b) (nat_le b r.1) within in
    let low = leb-true r.0 b parts.0 in
    let high = leb-true b r.1 parts.1 in
    elim (or_cases (r.0 == 10 && r.1 == 10) (nat_le 0x80 r.0 && nat_le r.1 0xBF) some) [
      | inl feed ↦
          let both = and_parts (r.0 == 10) (r.1 == 10) feed in
          or_left (b == 10) (is_from_to 0x80 0xBF b) (eq-eqb b 10 (omega (arith, eqb-true r.0 10 both.0, eqb-true r.1 10 both.1)))
      | inr far ↦
          let both = and_parts (nat_le 0x80 r.0) (nat_le r.1 0xBF) far in
          or_right (b == 10) (is_from_to 0x80 0xBF b)
          (and_from (nat_le 0x80 b) (nat_le b 0xBF) (le-leb 0x80 b (omega (arith, leb-true 0x80 r.0 both.0))) (le-leb b 0xBF (omega (arith, leb-true r.1 0xBF both.1))))
    ]

-- the text begins with a byte that may follow
pub record BeginsWithFollower (text : List ℕ) : Type 0 where
  pub first : ℕ
  pub rest : List ℕ
  pub is : text ≡ first ∷ rest
  pub follows : is_follower first ≡ true

-- if these ranges follow, there are as many bytes, and each is one that may follow
pub enough_follow : (bs : List ℕ) (rs : List (ℕ × ℕ)) → begins_with bs rs ≡ true → length rs ≤ length bs
enough_follow bs [] h = omega arith
enough_follow [] (r ∷ rs) h = absurd (true≢false (sym h))
enough_follow (b ∷ bs) (r ∷ rs) h =
    let rest = enough_follow bs rs (and_parts (is_from_to r.0 r.1 b) (begins_with bs rs) h).1 in
    omega arith

pub each_follows : (bs : List ℕ) (rs : List (ℕ × ℕ)) (j : ℕ) → begins_with bs rs ≡ true → all_have_followers rs ≡ true → j < length rs → BeginsWithFollower (drop j bs)
each_follows bs [] j h some l = absurd (omega arith)
each_follows [] (r ∷ rs) j h some l = absurd (true≢false (sym h))
each_follows (b ∷ bs) (r ∷ rs) zero h some l =
    record {
      first = b;
      rest = bs;
      is = refl;
      follows = follower_in r b (and_parts (has_followers r) (all_have_followers rs) some).0 (and_parts (is_from_to r.0 r.1 b) (begins_with bs rs) h).0;
    }
each_follows (b ∷ bs) (r ∷ rs) (suc j) h some l =
    each_follows bs rs j (and_parts (is_from_to r.0 r.1 b) (begins_with bs rs) h).1 (and_parts (has_followers r) (all_have_followers rs) some).1 (omega arith)

-- a byte that may follow is a character of its own, or the last of one
follower_alone : (b : ℕ) → is_follower b ≡ true → following_of b ≡ []
follower_alone b h =
    elim (or_cases (b == 10) (is_from_to 0x80 0xBF b) h) [
      | inl feed ↦ rw (eqb-true b 10 feed) refl
      | inr far ↦
          let both = and_parts (nat_le 0x80 b) (nat_le b 0xBF) far in
          let low = leb-true 0x80 b both.0 in
          let one : is_from_to 13 13 b ≡ false = and_right (nat_le 13 b) (nat_le b 13) (lt-leb b 13 (omega arith)) in
          let two : is_from_to 0x00 0x7F b ≡ false = and_right (nat_le 0x00 b) (nat_le b 0x7F) (lt-leb b 0x7F (omega arith)) in
          rw (one, two) (none_follow 0xBF b long_rows refl (leb-true b 0xBF both.1))
    ]

-- The first character of a text: no other character of more than a byte begins inside it.
pub record IsCharacter (n : ℕ) (text : List ℕ) : Type 0 where
  pub some : 0 < n
  pub within : n ≤ length text
  pub short : n ≤ 4
  pub alone : (j : ℕ) → 0 < j → j < n → character_length (drop j text) ≡ 1

single : (b : ℕ) (bs : List ℕ) → IsCharacter 1 (b ∷ bs)
single b bs = record { some = omega arith; within = omega arith; short = omega arith; alone = λ j a l. absurd (omega arith) }

inside_alone : (bs : List ℕ) (rs : List (ℕ × ℕ)) (j : ℕ) → begins_with bs rs ≡ true → all_have_followers rs ≡ true → j < length rs → character_length (drop j bs) ≡ 1
inside_alone bs rs j h some l =
    let at = each_follows bs rs j h some l in
    rw (at.is, by_first_byte at.first at.rest, follower_alone at.first at.follows) refl

later_alone : (b : ℕ) (bs : List ℕ) → begins_with bs (following_of b) ≡ true → (j : ℕ) → 0 < j → j < suc (length (following_of b)) → character_length (drop j (b ∷ bs)) ≡ 1
later_alone b bs h zero a l = absurd (omega arith)
later_alone b bs h (suc j) a l = inside_alone bs (following_of b) j h (followers_follow b) (omega arith)

long : (b : ℕ) (bs : List ℕ) → begins_with bs (following_of b) ≡ true → IsCharacter (suc (length (following_of b))) (b ∷ bs)
long b bs h = record {
  some = omega arith;
  within = omega (arith, enough_follow bs (following_of b) h);
  short = omega (arith, leb-true (length (following_of b)) 3 (three_follow b));
  alone = later_alone b bs h;
}

pub first_character : (b : ℕ) (bs : List ℕ) → IsCharacter (character_length (b ∷ bs)) (b ∷ bs)
first_character b bs =
    rw (by_first_byte b bs) (
    elim (cases_Bool (begins_with bs (following_of b))) [
      | inl follow ↦ rw follow (long b bs follow)
      | inr none ↦ rw none (single b bs)
    ])
