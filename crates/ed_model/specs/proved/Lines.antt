-- Line starts: the first is 0, they rise, and they are in the text. The line that contains a position.
use Rattle.std.proofs.Common.{ℕ, zero, suc, ◌≡◌, ◌+◌, ◌-◌, ◌<◌, ◌≤◌, Bool, true, false, cond, nat_lt, List, [], ◌∷◌, length, get_or, filter, All, Contains, eqb, append-nil, slice_get, leb, sym, refl, ◌∙◌, ◌↔◌, inl, inr, arith}
use Rattle.std.specs.Prelude.{unwrap_or}
use Rattle.std.specs.List.{range_with_len}
use Rattle.std.specs.List.Sorted.{IsStrictlyIncreasing}
use Rattle.std.proofs.Math.Bool.{and-false}
use Rattle.std.proofs.lemmas.Bool.{cases_lt, ne_eqb}
use Rattle.std.proofs.lemmas.List.Elements.{All-contains, All-filter, All-from_get_or, filter_passes, filter-append}
use Rattle.std.proofs.lemmas.List.FromFn.{length-range_with_len, get_or-range_with_len}
use Rattle.std.proofs.lemmas.List.Sums.{count_by-le-length, length-filter}
use Rattle.ed_model.specs.declared.plan.LineEndTypes.{LineEndTypes}
use Rattle.ed_model.specs.Lines.{is_line_start, unicode_end_before, line_starts, line_of, line_count, start_of_line, start_after_line, line_end_length, end_of_line, knows_unicode}
use Rattle.ed_model.specs.proved.Bytes.{stands_past}
use Rattle.ed_model.specs.proved.Rising.{Rises, Climbs, Climbs_from_rises, Rises-filter_range, increasing_from_rises, range-append, filter_range_none, count_front, count_back, count_at, count_monotone}

no_unicode_end_past : (text : List ℕ) (p : ℕ) → length text ≤ p - 1 → unicode_end_before text p ≡ false
no_unicode_end_past text p h =
    rw (stands_past 0x85 text (p - 1) h, stands_past 0xA8 text (p - 1) h, stands_past 0xA9 text (p - 1) h) refl

-- no line starts past the end of the text
pub no_start_past : (types : LineEndTypes) (text : List ℕ) (p : ℕ) → length text < p → is_line_start types text p ≡ false
no_start_past types text p h =
    let l : length text ≤ p - 1 = omega arith in
    let z : eqb p 0 ≡ false = ne_eqb p 0 (λ e. omega arith) in
    rw (z, stands_past 10 text (p - 1) l, stands_past 13 text (p - 1) l, no_unicode_end_past text p l) (and-false (knows_unicode types))

-- the line starts are the places that pass the test, in any range that goes past the end of the text
pub starts_in_range : (types : LineEndTypes) (text : List ℕ) (n : ℕ) → filter (is_line_start types text) (range_with_len 0 (length text + 1 + n)) ≡ line_starts types text
starts_in_range types text n =
    rw (
      range-append 0 (length text + 1) n,
      filter-append,
      filter_range_none (is_line_start types text) (0 + (length text + 1)) n (λ k l m. no_start_past types text k (omega arith)),
    )
    (append-nil (line_starts types text))

-- line starts rise from 0
pub line_starts_rise : (types : LineEndTypes) (text : List ℕ) → Rises 0 (line_starts types text)
line_starts_rise types text = Rises-filter_range (is_line_start types text) 0 (length text + 1)

-- line starts rise, as std states it
pub line_starts_increase : (types : LineEndTypes) (text : List ℕ) → IsStrictlyIncreasing (line_starts types text)
line_starts_increase types text = increasing_from_rises 0 (line_starts types text) (line_starts_rise types text)

starts_with_zero : (types : LineEndTypes) (text : List ℕ) → line_starts types text ≡ 0 ∷ filter (is_line_start types text) (range_with_len 1 (length text))
starts_with_zero types text =
    let e : length text + 1 ≡ suc (length text) = omega arith in
    rw e refl

-- line 0 starts at 0
pub first_line_start : (types : LineEndTypes) (text : List ℕ) → get_or (line_starts types text) 0 0 ≡ 0
first_line_start types text = rw (starts_with_zero types text) refl

-- every text has a line
pub some_line : (types : LineEndTypes) (text : List ℕ) → 0 < line_count types text
some_line types text = rw (starts_with_zero types text) (omega arith)

-- .. and at most one line more than it has bytes
pub few_lines : (types : LineEndTypes) (text : List ℕ) → line_count types text ≤ length text + 1
few_lines types text =
    let places : List ℕ = range_with_len 0 (length text + 1) in
    omega (arith, length-filter (is_line_start types text) places, count_by-le-length (is_line_start types text) places, length-range_with_len 0 (length text + 1))

-- no line starts past the end of the text
pub line_starts_in_range : (types : LineEndTypes) (text : List ℕ) → All (λ s. s ≤ length text) (line_starts types text)
line_starts_in_range types text =
    All-filter (is_line_start types text) (λ s. s ≤ length text) (range_with_len 0 (length text + 1))
    (All-from_get_or (λ s. s ≤ length text) (range_with_len 0 (length text + 1)) 0
    (λ i h. omega (arith, get_or-range_with_len 0 (length text + 1) i 0 (omega (arith, length-range_with_len 0 (length text + 1))), length-range_with_len 0 (length text + 1))))

start_or_end : (starts : List ℕ) (end : ℕ) → All (λ s. s ≤ end) starts → (k : ℕ) → unwrap_or (slice_get starts k) end ≤ end
start_or_end [] end a k = omega arith
start_or_end (s ∷ ss) end a zero = a 0 0 (omega arith)
start_or_end (s ∷ ss) end a (suc k) = start_or_end ss end (λ i d h. a (suc i) d (omega arith)) k

before_or_at : (b : Bool) (next back end : ℕ) → next ≤ end → cond b (next - back) end ≤ end
before_or_at true next back end h = omega arith
before_or_at false next back end h = omega arith

-- no line ends past the end of the text
pub end_in_range : (types : LineEndTypes) (text : List ℕ) (line : ℕ) → end_of_line types text line ≤ length text
end_in_range types text line =
    let next : ℕ = start_after_line types text line in
    before_or_at (nat_lt (line + 1) (line_count types text)) next (line_end_length text next) (length text)
    (start_or_end (line_starts types text) (length text) (line_starts_in_range types text) (line + 1))

-- each line start passes the test
pub start_from_contains : (types : LineEndTypes) (text : List ℕ) (p : ℕ) → Contains (line_starts types text) p → is_line_start types text p ≡ true
start_from_contains types text p c =
    All-contains (λ s. is_line_start types text s ≡ true) (line_starts types text) p (filter_passes (is_line_start types text) (range_with_len 0 (length text + 1))) c

-- whether a line starts at a place depends only on the four bytes around it
pub same_start : (types : LineEndTypes) (text other : List ℕ) (p q : ℕ) → eqb p 0 ≡ eqb q 0 → slice_get text (p - 3) ≡ slice_get other (q - 3) → slice_get text (p - 2) ≡ slice_get other (q - 2) → slice_get text (p - 1) ≡ slice_get other (q - 1) → slice_get text p ≡ slice_get other q → is_line_start types text p ≡ is_line_start types other q
same_start types text other p q z three two one here = rw (z, three, two, one, here) refl

-- if two texts agree on the three bytes before a place and on the one after it, they agree on whether a line starts there
pub local_start : (types : LineEndTypes) (text other : List ℕ) (p : ℕ) → ((k : ℕ) → p ≤ k + 3 → k ≤ p → slice_get text k ≡ slice_get other k) → is_line_start types text p ≡ is_line_start types other p
local_start types text other p h =
    same_start types text other p p refl (h (p - 3) (omega arith) (omega arith)) (h (p - 2) (omega arith) (omega arith)) (h (p - 1) (omega arith) (omega arith)) (h p (omega arith) (omega arith))

-- .. and so do two places with the same four bytes around them
pub moved_start_test : (types : LineEndTypes) (text other : List ℕ) (p q : ℕ) → ((k : ℕ) → k ≤ 3 → slice_get text (p + k) ≡ slice_get other (q + k)) → is_line_start types text (p + 3) ≡ is_line_start types other (q + 3)
moved_start_test types text other p q h =
    same_start types text other (p + 3) (q + 3)
    (ne_eqb (p + 3) 0 (λ e. omega arith) ∙ sym (ne_eqb (q + 3) 0 (λ e. omega arith)))
    (at 0 (omega arith) (p + 3 - 3) (q + 3 - 3) (omega arith) (omega arith))
    (at 1 (omega arith) (p + 3 - 2) (q + 3 - 2) (omega arith) (omega arith))
    (at 2 (omega arith) (p + 3 - 1) (q + 3 - 1) (omega arith) (omega arith))
    (h 3 (omega arith))
  where
    at : (k : ℕ) → k ≤ 3 → (i j : ℕ) → i ≡ p + k → j ≡ q + k → slice_get text i ≡ slice_get other j
    at k l i j e f = rw (e, f) (h k l)

-- lines of positions

-- a later position is never on an earlier line
pub line_of_monotone : (starts : List ℕ) (p q : ℕ) → p ≤ q → line_of starts p ≤ line_of starts q
line_of_monotone starts p q h = omega (arith, count_monotone starts p q h)

-- each position is on a line
pub line_of_lt : (starts : List ℕ) (p : ℕ) → 0 < length starts → line_of starts p < length starts
line_of_lt starts p h = omega (arith, count_by-le-length (λ s. leb s p) starts)

-- the start of a line is on that line
pub line_of_start : (low : ℕ) (starts : List ℕ) (k : ℕ) → Rises low starts → k < length starts → line_of starts (get_or starts k 0) ≡ k
line_of_start low starts k r h = omega (arith, count_at low starts k r h)

-- a line up to the line of p starts at or before p
pub start_from_line : (low : ℕ) (starts : List ℕ) (p k : ℕ) → Climbs low starts → get_or starts 0 0 ≤ p → k < length starts → k ≤ line_of starts p → get_or starts k 0 ≤ p
start_from_line low starts p zero r first h l = first
start_from_line low starts p (suc k) r first h l = count_front low p starts (suc k) r (omega arith)

-- .. and a line that starts at or before p is at most the line of p
pub line_from_start : (low : ℕ) (starts : List ℕ) (p k : ℕ) → Climbs low starts → k < length starts → get_or starts k 0 ≤ p → k ≤ line_of starts p
line_from_start low starts p k r h l =
    elim (cases_lt (line_of starts p) k) [
      | inl past ↦ absurd (omega (arith, count_back low p starts k r (omega arith) h))
      | inr within ↦ within
    ]

-- both, for the line starts of a text
pub line_of_last_start : (types : LineEndTypes) (text : List ℕ) (p k : ℕ) → k < line_count types text → (k ≤ line_of (line_starts types text) p) ↔ (start_of_line types text k ≤ p)
line_of_last_start types text p k h =
    let climbs : Climbs 0 (line_starts types text) = Climbs_from_rises 0 (line_starts types text) (line_starts_rise types text) in (
      λ l. start_from_line 0 (line_starts types text) p k climbs (omega (arith, first_line_start types text)) h l,
      λ l. line_from_start 0 (line_starts types text) p k climbs h l,
    )
