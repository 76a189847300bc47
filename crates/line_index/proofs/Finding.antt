-- The last start at a place or before it is that of the place's line.
use Rattle.line_index.proofs.Names.{◌≡◌, ℕ, ◌+◌, ◌-◌, ◌^◌, ◌<◌, ◌≤◌, min, List, length, count_by, leb, ltb, refl, sym, ◌∙◌, inl, inr, arith, cases_lt, lt-ltb, le-ltb, le-leb, lt-leb, IsStrictlyIncreasing, slice_index, line_of, count_before, Climbs, Climbs_from_rises, count_is, count_back, rises_from_increasing, count_agree, NearLines, near_lines, ArePartitions, IsLastAtMost}
use Rattle.std.proofs.lemmas.List.Kept.{AllPairs-from_increasing}
use Rattle.line_index.proofs.StepLists.{none_below_zero}

-- of rising starts, an earlier one is not above a later one, nor above itself
not_above : (starts : List ℕ) → IsStrictlyIncreasing starts → (j k : ℕ) → j ≤ k → k < length starts → slice_index starts j ≤ slice_index starts k
not_above starts rising j k h l =
    elim (cases_lt j k) [
      | inl below ↦ omega (arith, AllPairs-from_increasing starts rising j k 0 below l)
      | inr same ↦ let e : j ≡ k = omega arith in rw e (omega arith)
    ]

-- the lines of a place and of the two behind it, as numbers
abbrev pub near_at : ℕ → ℕ → ℕ → NearLines
near_at a b c = record { at = a; one_behind = b; two_behind = c }

climbs : (starts : List ℕ) (end : ℕ) → ArePartitions starts end → Climbs 0 starts
climbs starts end sound = Climbs_from_rises 0 starts (rises_from_increasing 0 starts (λ _. omega arith) sound.rising)

pub line_of_last : {starts : List ℕ} {end place r : ℕ} → ArePartitions starts end → IsLastAtMost starts place r → line_of starts place ≡ r
line_of_last {starts} {end} {place} {r} sound last =
    let back : r + 1 - 1 ≡ r = omega arith in
    omega (arith, count_is 0 place starts (r + 1) (climbs starts end sound) (omega (arith, last.within)) (λ _. rw back last.at_most) (λ l. last.last (r + 1) (omega arith) l))

-- the lines of a place and of the two behind it, if the last was cut down to the greatest number, past which no start lies
pub line_of_last_capped :
    (starts : List ℕ) (end place capped r : ℕ) → ArePartitions starts end → end < 2 ^ 64
    → capped ≡ min place (2 ^ 64 - 1) → IsLastAtMost starts capped r → line_of starts place ≡ r
line_of_last_capped starts end place capped r sound small e last =
    line_of_last sound
    record {
      within = last.within;
      at_most = omega (arith, last.at_most);
      last = λ k a b. omega (arith, last.last k a b, sound.within k b);
    }

-- a line that starts at the place or before it, and is the last, or the next one starts behind it
pub last_of_all : (starts : List ℕ) (place line : ℕ) → slice_index starts line ≤ place → line + 1 ≡ length starts → IsLastAtMost starts place line
last_of_all starts place line low end = record {
  within = omega arith;
  at_most = low;
  last = λ k a b. absurd (omega arith);
}

pub next_behind : (starts : List ℕ) (end place line : ℕ) → ArePartitions starts end → slice_index starts line ≤ place → line + 1 < length starts → place < slice_index starts (line + 1) → IsLastAtMost starts place line
next_behind starts end place line sound low inside high = record {
  within = omega arith;
  at_most = low;
  last = λ k a b. omega (arith, not_above starts sound.rising (line + 1) k (omega arith) b);
}

-- if a line holds a place, only the next line can start at the place behind it
pub none_past_next : (starts : List ℕ) (end place line behind : ℕ) → ArePartitions starts end → IsLastAtMost starts place line → behind ≤ place + 1 → (k : ℕ) → line + 1 < k → k < length starts → behind < slice_index starts k
none_past_next starts end place line behind sound last near k a b =
    omega (arith, last.last (line + 1) (omega arith) (omega arith), sound.rising (line + 1) (omega arith), not_above starts sound.rising (line + 1 + 1) k (omega arith) b)

-- so the place behind it is on that line or on the next
pub next_holds : (starts : List ℕ) (place line : ℕ) → line + 1 < length starts → slice_index starts (line + 1) ≤ place → ((k : ℕ) → line + 1 < k → k < length starts → place < slice_index starts k) → IsLastAtMost starts place (line + 1)
next_holds starts place line within low high = record {
  within = within;
  at_most = low;
  last = λ k a b. high k a b;
}

-- a line that holds a place and one behind it holds those between
pub holds_between : (starts : List ℕ) (first place last line : ℕ) → slice_index starts line ≤ first → first ≤ place → place ≤ last → IsLastAtMost starts last line → IsLastAtMost starts place line
holds_between starts first place last line low a b holds = record {
  within = holds.within;
  at_most = omega arith;
  last = λ k c d. omega (arith, holds.last k c d);
}

-- the lines of three places
pub near_lines_are :
    {starts : List ℕ} {end place one two a b c : ℕ} → ArePartitions starts end → end < 2 ^ 64 → IsLastAtMost starts place a → IsLastAtMost starts one b → IsLastAtMost starts two c
    → one ≡ min (place + 1) (2 ^ 64 - 1) → two ≡ min (place + 2) (2 ^ 64 - 1) → near_at a b c ≡ near_lines starts place
near_lines_are {starts} {end} {place} {one} {two} {a} {b} {c} sound small p q r e f =
    three (sym (line_of_last sound p)) (sym (line_of_last_capped starts end (place + 1) one b sound small e q)) (sym (line_of_last_capped starts end (place + 2) two c sound small f r))
  where
    three : {i j k i' j' k' : ℕ} → i ≡ i' → j ≡ j' → k ≡ k' → near_at i j k ≡ near_at i' j' k'
    three {i} {j} {k} {i'} {j'} {k'} e f g = rw (e, f, g) refl

-- one line that holds all places
pub one_line :
    {starts : List ℕ} {end last line : ℕ} → ArePartitions starts end → end < 2 ^ 64 → IsLastAtMost starts last line → (front place : ℕ) → slice_index starts line ≤ front → front ≤ place → place < 2 ^ 64
    → last ≡ min (place + 2) (2 ^ 64 - 1) → near_at line line line ≡ near_lines starts place
one_line {starts} {end} {last} {line} sound small far front place low order fits e =
    near_lines_are sound small (holds_between starts place place last line (omega arith) (omega arith) (omega arith) far)
    (holds_between starts place (min (place + 1) (2 ^ 64 - 1)) last line (omega arith) (omega arith) (omega arith) far) far refl e

below_is_upto : (place s : ℕ) → 0 < place → ltb s place ≡ leb s (place - 1)
below_is_upto place s h =
    elim (cases_lt s place) [
      | inl less ↦ lt-ltb s place less ∙ sym (le-leb s (place - 1) (omega arith))
      | inr more ↦ le-ltb s place more ∙ sym (lt-leb s (place - 1) (omega arith))
    ]

-- as many lines start before a place as there are up to that of the byte before it
pub lines_in_front : (starts : List ℕ) (end place line : ℕ) → ArePartitions starts end → 0 < place → line ≡ line_of starts (place - 1) → line + 1 ≡ count_before place starts
lines_in_front starts end place line sound h e =
    let same : count_before place starts ≡ count_by (λ s. leb s (place - 1)) starts = count_agree (λ s. ltb s place) (λ s. leb s (place - 1)) starts (λ s. below_is_upto place s h) in
    elim (cases_lt 0 (count_by (λ s. leb s (place - 1)) starts)) [
      | inl some ↦ omega arith
      | inr none ↦ absurd (omega (arith, sound.first, count_back 0 (place - 1) starts 0 (climbs starts end sound) (omega arith) sound.some))
    ]

pub none_in_front : (starts : List ℕ) (place : ℕ) → place ≡ 0 → 0 ≡ count_before place starts
none_in_front starts place e = rw e (sym (none_below_zero starts))
