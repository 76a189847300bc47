-- Lemmas on rising numbers, on counting, and on line starts.
use Rattle.ed_model.proofs.Names.{◌≡◌, ℕ, zero, suc, ◌+◌, ◌<◌, ◌≤◌, Bool, true, false, cond, List, [], ◌∷◌, length, subst, arith, filter, range_with_len, LineEndTypes, line_starts, is_line_start, Rise, AreLineStarts, first_line_start, line_starts_increase, line_starts_in_range}

pub rise_from : (low low' high : ℕ) (xs : List ℕ) → low' ≤ low → Rise low high xs → Rise low' high xs
rise_from low low' high [] le r = tt
rise_from low low' high (x ∷ xs) le r = (let a : low ≤ x = r.0 in omega arith, r.1, r.2)

pub rise_range : (a n : ℕ) → Rise a (a + n) (range_with_len a n)
rise_range a zero = tt
rise_range a (suc n) =
    (omega arith, omega arith, let e : a + 1 + n ≡ a + suc n = omega arith in subst (λ h. Rise (a + 1) h (range_with_len (a + 1) n)) e (rise_range (a + 1) n))

rise_cond : (low high x : ℕ) (xs ys : List ℕ) (b : Bool) → low ≤ x → x < high → Rise (x + 1) high ys → Rise low high (cond b (x ∷ ys) ys)
rise_cond low high x xs ys true l h r = (l, h, r)
rise_cond low high x xs ys false l h r = rise_from (x + 1) low high ys (omega arith) r

pub rise_filter : (p : ℕ → Bool) (low high : ℕ) (xs : List ℕ) → Rise low high xs → Rise low high (filter p xs)
rise_filter p low high [] r = tt
rise_filter p low high (x ∷ xs) r = rise_cond low high x xs (filter p xs) (p x) r.0 r.1 (rise_filter p (x + 1) high xs r.2)

rise_range_zero : (n : ℕ) → Rise 0 n (range_with_len 0 n)
rise_range_zero n = let e : 0 + n ≡ n = omega arith in subst (λ h. Rise 0 h (range_with_len 0 n)) e (rise_range 0 n)

-- line starts rise, and none is greater than the length of the text
pub starts_rise : (types : LineEndTypes) (text : List ℕ) → Rise 0 (length text + 1) (line_starts types text)
starts_rise types text = rise_filter (is_line_start types text) 0 (length text + 1) (range_with_len 0 (length text + 1)) (rise_range_zero (length text + 1))

pub are_line_starts : (types : LineEndTypes) (text : List ℕ) → AreLineStarts (length text) (line_starts types text)
are_line_starts types text = record { first = first_line_start types text; rise = line_starts_increase types text; within = line_starts_in_range types text }
