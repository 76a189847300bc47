-- A look-up by halving: how many numbers it may still read, and what it found.
use Rattle.rising_numbers.proofs.Names.{◌≡◌, ℕ, ◌+◌, ◌-◌, ◌*◌, ◌/◌, ◌%◌, ◌^◌, ◌<◌, ◌≤◌, zero, suc, min, List, length, get_or, ◌⊎◌, inl, inr, Bool, IsTrue, true, false, refl, arith, pow-suc, bool_byte, cases_lt, false≢true, add-one, AreRising, CountsReads, IsLastAtMost, IsFloorLog, counted}
use Rattle.std.proofs.Common.{subst}
use Rattle.std.proofs.Math.Pow.{pow_mono}
use Rattle.rising_numbers.proofs.Parts.{rising_or_same}

-- those up to now were read, `extra` of them before the first halving: so many halvings of a range with 2 ^ k to
-- 2 ^ (k + 1) numbers have left one of this width
pub record Halvings (extra old now width k : ℕ) : Type 0 where
  pub count : ℕ
  pub within : count ≤ k + 1
  pub many : counted old (extra + count) ≤ now
  pub few : now ≤ old + (extra + count)
  pub low : 2 ^ (k - count) ≤ width
  pub high : width ≤ 2 ^ (k + 1 - count)

-- the same of n numbers
abbrev pub IsHalved : (extra n old now width : ℕ) → Type 0
IsHalved extra n old now width = (k : ℕ) → IsFloorLog k n → Halvings extra old now width k

-- the greater part of a range is between the halves of its bounds
half_between : (d width : ℕ) → 1 < width → 2 ^ d ≤ width → width ≤ 2 ^ (d + 1) → (2 ^ (d - 1) ≤ width - width / 2) × (width - width / 2 ≤ 2 ^ d)
half_between zero width a b c = (omega arith, omega arith)
half_between (suc d) width a b c =
    let low : 2 ^ d * 2 ≤ width = rw pow-suc at b in
    let high : width ≤ 2 ^ (suc d) * 2 = rw (add-one, pow-suc) at c in
    let q : suc d - 1 ≡ d = omega arith in
    (rw q (omega arith), omega arith)

halved_on : (extra old now now' width k : ℕ) → 1 < width → now' ≡ counted now 1 → (h : Halvings extra old now width k) → (k < h.count) ⊎ (h.count ≤ k) → Halvings extra old now' (width - width / 2) k
halved_on extra old now now' width k a b h (inl over) =
    let q : k + 1 - h.count ≡ 0 = omega arith in
    let w : width ≤ 2 ^ 0 = rw q at h.high in absurd (omega arith)
halved_on extra old now now' width k a b h (inr more) =
    let up : k + 1 - h.count ≡ k - h.count + 1 = omega arith in
    let low : k - (h.count + 1) ≡ k - h.count - 1 = omega arith in
    let high : k + 1 - (h.count + 1) ≡ k - h.count = omega arith in
    let t = half_between (k - h.count) width a h.low (rw up at h.high) in
    record { count = h.count + 1; within = omega arith; many = omega arith; few = omega arith; low = rw low t.0; high = rw high t.1 }

-- one more number was read, and half of the range is left
pub halved :
    (extra n old now now' width width' : ℕ) → 1 < width → now' ≡ counted now 1 → width' ≡ width - width / 2 → IsHalved extra n old now width
    → IsHalved extra n old now' width'
halved extra n old now now' width width' a b c is k log =
    let h = is k log in rw c (halved_on extra old now now' width k a b h (cases_lt k h.count))

pub one_at_least : (j : ℕ) → 1 ≤ 2 ^ j
one_at_least zero = omega arith
one_at_least (suc j) = rw pow-suc (omega (arith, one_at_least j))

no_more : (j : ℕ) → 2 ^ j ≤ 1 → j ≡ 0
no_more zero h = omega arith
no_more (suc j) h = let p : 2 ^ j * 2 ≤ 1 = rw pow-suc at h in absurd (omega (arith, one_at_least j))

-- nothing is left to halve
pub reads_counted : (extra n old now width : ℕ) → width ≤ 1 → old ≤ now → IsHalved extra n old now width → CountsReads (extra + 1) n old now
reads_counted extra n old now width a b is =
    (b, λ k log. let h = is k log in let q : k - h.count ≡ 0 = no_more (k - h.count) (omega (arith, h.low)) in (omega arith, omega arith))

-- the rest of a look-up: `width` numbers from `low` on, among which is the last one that is at most the wanted place
pub record IsRange (numbers : List ℕ) (wanted low width : ℕ) : Type 0 where
  pub some : 0 < width
  pub within : low + width ≤ length numbers
  pub at_most : get_or numbers low 0 ≤ wanted
  pub above : low + width < length numbers → wanted < get_or numbers (low + width) 0

pub whole : (numbers : List ℕ) (wanted : ℕ) → 0 < length numbers → get_or numbers 0 0 ≤ wanted → IsRange numbers wanted 0 (length numbers)
whole numbers wanted some low =
    record {
      some = some;
      within = omega arith;
      at_most = low;
      above = λ b. absurd (omega arith);
    }

pub later_half :
    (numbers : List ℕ) (wanted low width half : ℕ) → IsRange numbers wanted low width → half < width → get_or numbers (low + half) 0 ≤ wanted
    → IsRange numbers wanted (low + half) (width - half)
later_half numbers wanted low width half range h at_most =
    let q : low + half + (width - half) ≡ low + width = omega arith in
    let w = range.within in
    record {
      some = omega arith;
      within = omega arith;
      at_most = at_most;
      above = rw q range.above;
    }

pub earlier_half :
    (numbers : List ℕ) (end wanted low width half : ℕ) → AreRising numbers end → IsRange numbers wanted low width → half < width → half ≤ width - half
    → wanted < get_or numbers (low + half) 0 → IsRange numbers wanted low (width - half)
earlier_half numbers end wanted low width half sound range h m above =
    let w = range.within in
    record {
      some = omega arith;
      within = omega arith;
      at_most = range.at_most;
      above = λ b. omega (arith, above, rising_or_same numbers sound.rising (low + half) (low + (width - half)) (omega arith) b);
    }

-- a range of one number is the one that was looked for
pub found : (numbers : List ℕ) (end wanted low width : ℕ) → AreRising numbers end → IsRange numbers wanted low width → width ≤ 1 → IsLastAtMost numbers wanted low
found numbers end wanted low width sound range one =
    let w = range.within in
    let s = range.some in
    record {
      within = omega arith;
      at_most = range.at_most;
      last = λ k a b. omega (arith, range.above (omega arith), rising_or_same numbers sound.rising (low + width) k (omega arith) b);
    }

-- a range of one number is the one that was looked for, also for a place behind the end
pub found_at :
    (numbers : List ℕ) (end place wanted i : ℕ) → AreRising numbers end → wanted ≡ min place end → IsLastAtMost numbers wanted i → IsLastAtMost numbers place i
found_at numbers end place wanted i sound w last =
    record {
      within = last.within;
      at_most = omega (arith, last.at_most);
      last = λ k a b. omega (arith, last.last k a b, sound.within k b);
    }

-- the comparison said no
pub below_where_not : (wanted number : ℕ) → (number ≤ wanted → false ≡ true) → wanted < number
below_where_not wanted number never =
    elim (cases_lt wanted number) [
      | inl h ↦ h
      | inr h ↦ absurd (false≢true (never h))
    ]

-- the answer as a number, times the half, is how far the range moves up
pub turned_by :
    (numbers : List ℕ) (end wanted low width middle half low' width' : ℕ) (yes : Bool) → AreRising numbers end → IsRange numbers wanted low width
    → half < width → half ≤ width - half → middle ≡ low + half → low' ≡ low + bool_byte yes * half → width' ≡ width - half
    → (IsTrue yes → get_or numbers middle 0 ≤ wanted) × (get_or numbers middle 0 ≤ wanted → IsTrue yes) → IsRange numbers wanted low' width'
turned_by numbers end wanted low width middle half low' width' true sound range h m p q r answer =
    let on : low' ≡ low + half = omega arith in
    rw (on, r) (later_half numbers wanted low width half range h (rw p at (answer.0 refl)))
turned_by numbers end wanted low width middle half low' width' false sound range h m p q r answer =
    let same : low' ≡ low = omega arith in
    rw (same, r) (earlier_half numbers end wanted low width half sound range h m (rw p at (below_where_not wanted (get_or numbers middle 0) answer.1)))

-- the answer as a number, shifted up to a power of two
pub moved_up : (yes : Bool) (power : ℕ) → power < 18446744073709551616 → bool_byte yes * power % 18446744073709551616 ≡ bool_byte yes * power
moved_up true power h = omega arith
moved_up false power h = omega arith

pub power_halved : (level : ℕ) → 0 < level → 2 ^ level ≡ 2 ^ (level - 1) * 2
power_halved zero h = absurd (omega arith)
power_halved (suc level) h = let q : suc level - 1 ≡ level = omega arith in rw q (pow-suc 2 level)

power_at_most : (level k count : ℕ) → 2 ^ level ≤ count → count < 2 ^ (k + 1) → level ≤ k
power_at_most level k count a b =
    elim (cases_lt k level) [
      | inl h ↦ absurd (omega (arith, pow_mono {i = k + 1} {j = level} (omega arith)))
      | inr h ↦ h
    ]

-- one number was read, and the greatest power of two is left
pub halved_to_power : (n old now level : ℕ) → 2 ^ level ≤ n → n < 2 * 2 ^ level → now ≡ counted old 1 → IsHalved 1 n old now (2 ^ level)
halved_to_power n old now level a b c k log =
    let p : 2 ^ (level + 1) ≡ 2 ^ level * 2 = rw add-one (pow-suc 2 level) in
    let q : k ≡ level = omega (arith, power_at_most level k n a log.1, power_at_most k level n log.0 (omega arith)) in
    let low : k - 0 ≡ level = omega arith in
    let high : k + 1 - 0 ≡ level + 1 = omega arith in
    record { count = 0; within = omega arith; many = omega arith; few = omega arith; low = rw low (omega arith); high = rw high (omega arith) }

-- A look-up by quarters.

pub one_at_most : (yes : Bool) → bool_byte yes ≤ 1
one_at_most true = omega arith
one_at_most false = omega arith

-- three answers as a number, shifted up to a power of two
pub moved_by : (one two three : Bool) (power : ℕ) → power * 4 < 18446744073709551616
    → ((bool_byte one + bool_byte two + bool_byte three) * power % 18446744073709551616 ≡ (bool_byte one + bool_byte two + bool_byte three) * power)
    × ((bool_byte one + bool_byte two + bool_byte three) * power ≤ power * 3)
moved_by true true true power h = (omega arith, omega arith)
moved_by true true false power h = (omega arith, omega arith)
moved_by true false true power h = (omega arith, omega arith)
moved_by true false false power h = (omega arith, omega arith)
moved_by false true true power h = (omega arith, omega arith)
moved_by false true false power h = (omega arith, omega arith)
moved_by false false true power h = (omega arith, omega arith)
moved_by false false false power h = (omega arith, omega arith)

-- three answers as numbers, times the quarter, are how far the range moves up
pub quartered :
    (numbers : List ℕ) (end wanted low width quarter i j k low' : ℕ) (one two three : Bool) → AreRising numbers end → IsRange numbers wanted low width
    → 0 < quarter → width ≡ quarter * 4 → low' ≡ low + (bool_byte one + bool_byte two + bool_byte three) * quarter
    → i ≡ low + quarter → j ≡ low + quarter * 2 → k ≡ low + quarter * 3
    → (IsTrue one → get_or numbers i 0 ≤ wanted) × (get_or numbers i 0 ≤ wanted → IsTrue one)
    → (IsTrue two → get_or numbers j 0 ≤ wanted) × (get_or numbers j 0 ≤ wanted → IsTrue two)
    → (IsTrue three → get_or numbers k 0 ≤ wanted) × (get_or numbers k 0 ≤ wanted → IsTrue three)
    → IsRange numbers wanted low' quarter
quartered numbers end wanted low width quarter i j k low' one two three sound range some wide moved is_i is_j is_k first second third =
    go one two three moved
    (subst (λ x. (IsTrue one → get_or numbers x 0 ≤ wanted) × (get_or numbers x 0 ≤ wanted → IsTrue one)) is_i first)
    (subst (λ x. (IsTrue two → get_or numbers x 0 ≤ wanted) × (get_or numbers x 0 ≤ wanted → IsTrue two)) is_j second)
    (subst (λ x. (IsTrue three → get_or numbers x 0 ≤ wanted) × (get_or numbers x 0 ≤ wanted → IsTrue three)) is_k third)
  where
    in_range : low + quarter * 4 ≤ length numbers
    in_range = let w = range.within in omega arith

    up : (i j : ℕ) → i ≤ j → j < length numbers → get_or numbers i 0 ≤ get_or numbers j 0
    up i j a b = rising_or_same numbers sound.rising i j a b

    at : (i : ℕ) → low' ≡ i → i + quarter ≤ length numbers → get_or numbers i 0 ≤ wanted → (i + quarter < length numbers → wanted < get_or numbers (i + quarter) 0) → IsRange numbers wanted low' quarter
    at i is within at_most above = rw is (record { some = some; within = within; at_most = at_most; above = above })

    go : (a b c : Bool) → low' ≡ low + (bool_byte a + bool_byte b + bool_byte c) * quarter
        → (IsTrue a → get_or numbers (low + quarter) 0 ≤ wanted) × (get_or numbers (low + quarter) 0 ≤ wanted → IsTrue a)
        → (IsTrue b → get_or numbers (low + quarter * 2) 0 ≤ wanted) × (get_or numbers (low + quarter * 2) 0 ≤ wanted → IsTrue b)
        → (IsTrue c → get_or numbers (low + quarter * 3) 0 ≤ wanted) × (get_or numbers (low + quarter * 3) 0 ≤ wanted → IsTrue c)
        → IsRange numbers wanted low' quarter
    go false false false m p q r =
        let w = below_where_not wanted (get_or numbers (low + quarter) 0) p.1 in
        at low (omega (arith, m)) (omega (arith, in_range)) range.at_most (λ _. w)
    go true false false m p q r =
        let w = below_where_not wanted (get_or numbers (low + quarter * 2) 0) q.1 in let next : low + quarter + quarter ≡ low + quarter * 2 = omega arith in
        at (low + quarter) (omega (arith, m)) (omega (arith, in_range)) (p.0 refl) (λ _. rw next w)
    go true true false m p q r =
        let w = below_where_not wanted (get_or numbers (low + quarter * 3) 0) r.1 in let next : low + quarter * 2 + quarter ≡ low + quarter * 3 = omega arith in
        at (low + quarter * 2) (omega (arith, m)) (omega (arith, in_range)) (q.0 refl) (λ _. rw next w)
    go true true true m p q r =
        let next : low + quarter * 3 + quarter ≡ low + width = omega (arith, wide) in
        at (low + quarter * 3) (omega (arith, m)) (omega (arith, in_range)) (r.0 refl) (λ h. rw next (range.above (rw next at h)))
    go false true c m p q r = absurd (omega (arith, q.0 refl, up (low + quarter) (low + quarter * 2) (omega arith) (omega (arith, in_range, some)), below_where_not wanted (get_or numbers (low + quarter) 0) p.1))
    go false false true m p q r = absurd (omega (arith, r.0 refl, up (low + quarter) (low + quarter * 3) (omega arith) (omega (arith, in_range, some)), below_where_not wanted (get_or numbers (low + quarter) 0) p.1))
    go true false true m p q r = absurd (omega (arith, r.0 refl, up (low + quarter * 2) (low + quarter * 3) (omega arith) (omega (arith, in_range, some)), below_where_not wanted (get_or numbers (low + quarter * 2) 0) q.1))

pub power_quartered : (level : ℕ) → 1 < level → 2 ^ level ≡ 2 ^ (level - 2) * 4
power_quartered zero h = absurd (omega arith)
power_quartered (suc zero) h = absurd (omega arith)
power_quartered (suc (suc level)) h = let q : suc (suc level) - 2 ≡ level = omega arith in rw q (rw (pow-suc 2 (suc level), pow-suc 2 level) (omega arith))
