-- Parts of a text in two halves that have no line end.
use Rattle.line_ends.proofs.Names.{◌≡◌, ℕ, ◌+◌, ◌-◌, ◌<◌, ◌≤◌, false, List, ◌++◌, length, get_or, slice_range, inl, inr, arith, cases_lt, get_or-append-add, get_or_append_left, is_end}
use Rattle.ed_model.specs.proved.Lists.{within_part, read_part}

-- no CR or LF stands from one place up to another
abbrev pub Quiet : List ℕ → ℕ → ℕ → Type 0
Quiet text from to = (k : ℕ) → from ≤ k → k < to → is_end (get_or text k 0) ≡ false

-- a part of one half without line ends is such a part of the text
pub quiet_in_first : (xs ys : List ℕ) (from to c : ℕ) → c ≤ length (slice_range xs from to)
    → ((k : ℕ) → k < c → is_end (get_or (slice_range xs from to) k 0) ≡ false) → Quiet (xs ++ ys) from (from + c)
quiet_in_first xs ys from to c l quiet k a b =
    let i : ℕ = k - from in
    let e : k ≡ from + i = omega arith in
    let w : i < length (slice_range xs from to) = omega arith in
    rw (e, get_or_append_left xs ys 0 (from + i) (within_part xs from to i w).1, ← (read_part xs from to i w)) (quiet i (omega arith))

pub quiet_in_second : (xs ys : List ℕ) (from to c place : ℕ) → place ≡ length xs + from → c ≤ length (slice_range ys from to)
    → ((k : ℕ) → k < c → is_end (get_or (slice_range ys from to) k 0) ≡ false) → Quiet (xs ++ ys) place (place + c)
quiet_in_second xs ys from to c place p l quiet k a b =
    let i : ℕ = k - place in
    let e : k ≡ length xs + (from + i) = omega arith in
    let w : i < length (slice_range ys from to) = omega arith in
    rw (e, get_or-append-add xs ys (from + i) 0, ← (read_part ys from to i w)) (quiet i (omega arith))

-- so is the rest of the first half with a part of the second
pub quiet_across : (xs ys : List ℕ) (from c d : ℕ) → from ≤ length xs → c ≤ length (slice_range xs from (length xs)) → length xs ≤ from + c
    → ((k : ℕ) → k < c → is_end (get_or (slice_range xs from (length xs)) k 0) ≡ false)
    → d ≤ length ys → ((k : ℕ) → k < d → is_end (get_or ys k 0) ≡ false)
    → Quiet (xs ++ ys) from (length xs + d)
quiet_across xs ys from c d f l e quiet m later k a b =
    elim (cases_lt k (length xs)) [
      | inl here ↦ quiet_in_first xs ys from (length xs) c l quiet k a (omega arith)
      | inr past ↦
          let i : ℕ = k - length xs in
          let at : k ≡ length xs + i = omega arith in
          rw (at, get_or-append-add xs ys i 0) (later i (omega arith))
    ]
