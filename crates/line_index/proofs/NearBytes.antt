-- The bytes near a step determine where lines start around it.
use Rattle.line_index.proofs.Names.{◌≡◌, ℕ, ◌+◌, ◌-◌, ◌<◌, ◌≤◌, min, max, List, length, take, drop, slice_get, slice_range, refl, sym, ap, ◌∙◌, inl, inr, arith, ◌++◌, append-nil, length-append, length-take, length-drop, cases_lt, ne_eqb, take_all, take_min, take-append-le, drop-append-le, LineEndTypes, is_line_start, slice_get_take, slice_get_drop, same_start, filter_range_agree, bytes_near, starts_near, starts_within}
use Rattle.std.proofs.Math.Seq.{take-append-add, drop-append-add}

module _ (types : LineEndTypes) (place end : ℕ) (near text : List ℕ) (same : near ≡ slice_range text (place - 3) (end + 3)) where
  -- the byte at a place near the step
  stands_near : (j k : ℕ) → k ≡ place - 3 + j → j < end + 3 - (place - 3) → slice_get near j ≡ slice_get text k
  stands_near j k e h = rw same (slice_get_take (end + 3 - (place - 3)) (drop (place - 3) text) j h ∙ slice_get_drop (place - 3) text j k e)

  start_near : (k : ℕ) → max place 1 ≤ k → k < end + 3 → is_line_start types near (k - (place - 3)) ≡ is_line_start types text k
  start_near k low high =
      same_start types near text (k - (place - 3)) k
      (ne_eqb (k - (place - 3)) 0 (λ e. omega arith) ∙ sym (ne_eqb k 0 (λ e. omega arith)))
      (stands_near (k - (place - 3) - 3) (k - 3) (omega arith) (omega arith))
      (stands_near (k - (place - 3) - 2) (k - 2) (omega arith) (omega arith))
      (stands_near (k - (place - 3) - 1) (k - 1) (omega arith) (omega arith))
      (stands_near (k - (place - 3)) k (omega arith) (omega arith))

  pub found_near : (base from to : ℕ) → base ≡ place - 3 → from ≡ max place 1 → to ≤ end + 3 → starts_near types near base from to ≡ starts_within types text from to
  found_near base from to b f t =
      rw b (filter_range_agree (is_line_start types text) (λ k. is_line_start types near (k - (place - 3))) from (to - from) (λ k l h. sym (start_near k (omega arith) (omega arith))))

  pub near_reaches : (to : ℕ) → to ≤ end + 3 → to ≤ length text + 1 → place ≤ length text → to ≤ place - 3 + length near + 1
  near_reaches to a b p = omega (arith, ap length same, length-take (end + 3 - (place - 3)) (drop (place - 3) text), length-drop (place - 3) text)

-- A range of a text, from its halves.

range_in_halves :
    (xs ys : List ℕ) (a b : ℕ) → a ≤ b
    → take (min b (length xs) - min a (length xs)) (drop (min a (length xs)) xs) ++ take (max b (length xs) - length xs - (max a (length xs) - length xs)) (drop (max a (length xs) - length xs) ys)
    ≡ take (b - a) (drop a (xs ++ ys))
range_in_halves xs ys a b h =
    let m : ℕ = length xs in
    elim (cases_lt m b) [
      | inr within ↦
          let first : min a m ≡ a = omega arith in
          let last : min b m ≡ b = omega arith in
          let none : max b m - m - (max a m - m) ≡ 0 = omega arith in
          let size : b - a ≤ length (drop a xs) = omega (arith, length-drop a xs) in
          rw (first, last, none, drop-append-le a xs ys (omega arith), take-append-le (b - a) (drop a xs) ys size, append-nil (take (b - a) (drop a xs))) refl
      | inl past ↦ elim (cases_lt a m) [
        | inr behind ↦
            let none : min b m - min a m ≡ 0 = omega arith in
            let first : max a m - m ≡ a - m = omega arith in
            let size : max b m - m - (a - m) ≡ b - a = omega arith in
            let at : a ≡ m + (a - m) = omega arith in
            let rest : drop a (xs ++ ys) ≡ drop (a - m) ys = ap (λ n. drop n (xs ++ ys)) at ∙ drop-append-add xs ys (a - m) in
            rw (none, first, size, rest) refl
        | inl before ↦
            let first : min a m ≡ a = omega arith in
            let last : min b m - a ≡ length (drop a xs) = omega (arith, length-drop a xs) in
            let none : max a m - m ≡ 0 = omega arith in
            let size : max b m - m - 0 ≡ b - m = omega arith in
            let both : b - a ≡ length (drop a xs) + (b - m) = omega (arith, length-drop a xs) in
            rw (first, last, none, size, both, drop-append-le a xs ys (omega arith), take-append-add (drop a xs) ys (b - m), take_all (length (drop a xs)) (drop a xs) (omega arith)) refl
      ]
    ]

pub near_in_halves :
    (xs ys : List ℕ) (place count from to : ℕ) → from ≡ place - 3 → to ≡ min (place + count + 3) (length xs + length ys) → place + count ≤ length xs + length ys
    → slice_range xs (min from (length xs)) (min to (length xs)) ++ slice_range ys (max from (length xs) - length xs) (max to (length xs) - length xs) ≡ bytes_near place count (xs ++ ys)
near_in_halves xs ys place count from to f t h =
    let rest : List ℕ = drop (place - 3) (xs ++ ys) in
    let size : to - from ≡ min (place + count + 3 - (place - 3)) (length rest) = omega (arith, length-drop (place - 3) (xs ++ ys), length-append xs ys) in
    range_in_halves xs ys from to (omega arith) ∙ rw (size, f) (take_min (place + count + 3 - (place - 3)) rest)
