-- The lines outside a set: how many there are before a line, and which is the nth.
use Rattle.contraction.proofs.Names.{◌≡◌, ℕ, zero, suc, ◌+◌, ◌-◌, ◌<◌, ◌≤◌, Bool, true, false, not, cond, min, List, [], ◌∷◌, ◌++◌, length, get_or, filter, refl, ap, ◌∙◌, inl, inr, arith, zero-add, slice_get, unwrap_or, range_with_len, cases_lt, cases_eq, length-append, get_or_at, get_or_past, range-append, rising_to, AreBefore, AreLines, holds, lines_outside}
use Rattle.std.proofs.lemmas.List.Elements.{filter-append}
use Rattle.std.proofs.lemmas.Option.{unwrap_or-slice_get}
use Rattle.contraction.proofs.LineSets.{below, there, not_there, parted_at}

module _ (s : List ℕ) (end : ℕ) (sound : AreLines s end) where
  -- how many of the first m lines are not in the set
  abbrev pub outside : ℕ → ℕ
  outside m = length (filter (λ line. not (holds s line)) (range_with_len 0 m))

  outside_one : (m : ℕ) → outside (m + 1) ≡ outside m + length (cond (not (holds s m)) (m ∷ []) [])
  outside_one m =
      let test : ℕ → Bool = λ line. not (holds s line) in
      ap (λ l. length (filter test l)) (range-append 0 m 1) ∙ ap length (filter-append test (range_with_len 0 m) (range_with_len (0 + m) 1))
      ∙ length-append (filter test (range_with_len 0 m)) (filter test (range_with_len (0 + m) 1))
      ∙ rw (zero-add m) refl

  -- each of the lines before one is in the set or outside
  pub outside_before : (m i : ℕ) → AreBefore s m i → outside m + i ≡ m
  outside_before zero i parts = elim (cases_lt 0 i) [
    | inl some ↦ absurd (omega (arith, parts.before 0 some))
    | inr none ↦ omega arith
  ]
  outside_before (suc m) i parts =
      let next : m + 1 ≡ suc m = omega arith in
      let parts' : AreBefore s (m + 1) i = rw next parts in
      let high : (i < length s → m + 1 ≤ get_or s i 0) = λ l. parts'.behind i (omega arith) l in
      let out : holds s m ≡ false → AreBefore s m i → outside (m + 1) + i ≡ m + 1 = λ not_in before.
      let step : outside (m + 1) ≡ outside m + 1 = outside_one m ∙ rw not_in refl in omega (arith, step, outside_before m i before) in
      let all : outside (m + 1) + i ≡ m + 1 =
      elim (cases_lt 0 i) [
        | inl some ↦
            let low = parts'.before (i - 1) (omega arith) in
            elim (cases_eq (get_or s (i - 1) 0) m) [
              | inl e ↦
                  let l : i - 1 < length s = omega (arith, parts'.some) in
                  let before = parted_at m (i - 1) sound (omega arith) (λ h. omega (arith, rising_to s sound.rising (i - 1 - 1) (i - 1) (omega arith) l)) (λ _. omega arith) in
                  let step : outside (m + 1) ≡ outside m + 0 = outside_one m ∙ rw (there s (i - 1) m l e) refl in
                  omega (arith, step, outside_before m (i - 1) before)
              | inr ne ↦
                  let before = parted_at m i sound parts'.some (λ _. omega arith) (λ l. omega (arith, high l)) in
                  out (not_there sound before (λ l e. omega (arith, high l))) before
            ]
        | inr none ↦
            let before = parted_at m i sound parts'.some (λ h. absurd (omega arith)) (λ l. omega (arith, high l)) in
            out (not_there sound before (λ l e. omega (arith, high l))) before
      ] in
      rw next at all

  -- each line of the text is in the set or outside
  pub outside_all : outside end + length s ≡ end
  outside_all = outside_before end (length s) (record { some = omega arith; before = λ k h. below k sound h; behind = λ k a b. absurd (omega arith) })

  -- the nth of the lines outside, or how many lines there are
  pub nth_outside : (n i : ℕ) → i ≤ length s → (0 < i → get_or s (i - 1) 0 < n + i) → (i < length s → n + i < get_or s i 0)
      → unwrap_or (slice_get (lines_outside s end) n) end ≡ min (n + i) end
  nth_outside n i h low next =
      unwrap_or-slice_get (lines_outside s end) n end
      ∙ elim (cases_lt (n + i) end) [
        | inl inside ↦
            let test : ℕ → Bool = λ line. not (holds s line) in
            let parts = parted_at (n + i) i sound h low (λ l. omega (arith, next l)) in
            let out = not_there sound parts (λ l e. omega (arith, next l)) in
            let count : length (filter test (range_with_len 0 (n + i))) ≡ n = omega (arith, outside_before (n + i) i parts) in
            let cut : end ≡ (n + i) + suc (end - (n + i) - 1) = omega arith in
            let parts : lines_outside s end ≡ filter test (range_with_len 0 (n + i)) ++ (n + i) ∷ filter test (range_with_len (n + i + 1) (end - (n + i) - 1)) =
            ap (λ e. filter test (range_with_len 0 e)) cut ∙ ap (filter test) (range-append 0 (n + i) (suc (end - (n + i) - 1)))
            ∙ filter-append test (range_with_len 0 (n + i)) (range_with_len (0 + (n + i)) (suc (end - (n + i) - 1)))
            ∙ rw (zero-add (n + i), out) refl in
            let least : min (n + i) end ≡ n + i = omega arith in
            rw (parts, least) (get_or_at (filter test (range_with_len 0 (n + i))) (n + i) (filter test (range_with_len (n + i + 1) (end - (n + i) - 1))) end n count)
        | inr past ↦
            let least : min (n + i) end ≡ end = omega arith in
            let all : length (lines_outside s end) + length s ≡ end = outside_all in
            let top : i ≡ length s = elim (cases_lt i (length s)) [
              | inl l ↦ absurd (omega (arith, next l, below i sound l))
              | inr l ↦ omega arith
            ] in
            rw least (get_or_past (lines_outside s end) n end (omega arith))
      ]

some_pass : (p : ℕ → Bool) (a n x : ℕ) → a ≤ x → x < a + n → p x ≡ true → 0 < length (filter p (range_with_len a n))
some_pass p a zero x h l t = absurd (omega arith)
some_pass p a (suc n) x h l t =
    elim (cases_eq a x) [
      | inl e ↦ let here : p a ≡ true = rw e t in rw here (omega arith)
      | inr ne ↦ longer (p a) (some_pass p (a + 1) n x (omega arith) (omega arith) t)
    ]
  where
    longer : (b : Bool) → 0 < length (filter p (range_with_len (a + 1) n)) → 0 < length (cond b (a ∷ filter p (range_with_len (a + 1) n)) (filter p (range_with_len (a + 1) n)))
    longer true h = omega arith
    longer false h = h

-- if a line of the text is not in the set, there are fewer lines in it
pub room_for : (s : List ℕ) (end line : ℕ) → AreLines s end → line < end → holds s line ≡ false → length s < end
room_for s end line sound l out =
    let some = some_pass (λ line. not (holds s line)) 0 end line (omega arith) (omega arith) (ap not out) in
    omega (arith, outside_all s end sound)
