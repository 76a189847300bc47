-- The first bytes of a text, and single bytes of it.
use Rattle.line_index.proofs.Names.{◌≡◌, ℕ, zero, suc, ◌+◌, ◌-◌, ◌<◌, ◌≤◌, ◌==◌, true, false, List, length, take, refl, ap, sym, ◌∙◌, inl, inr, arith, ne_eqb, true≢false, cases_lt, LineEndTypes, stands, is_line_start, slice_get_take, filter_range_agree, starts_within}
use Rattle.std.proofs.lemmas.Option.{slice_get_past}
use Rattle.ed_model.specs.Numbers.{is_number}

-- what stands in the first bytes
stands_at_first : (byte : ℕ) (bytes : List ℕ) (n k : ℕ) → k < n → stands byte (take n bytes) k ≡ stands byte bytes k
stands_at_first byte bytes n k h = ap (is_number byte) (slice_get_take n bytes k h)

-- a line starts at a place of both texts or of neither, if the same bytes precede it and an LF follows in both or in neither
alike : (types : LineEndTypes) (text other : List ℕ) (p : ℕ) → (0 < p → (byte k : ℕ) → k < p → stands byte text k ≡ stands byte other k) → stands 10 text p ≡ stands 10 other p
    → is_line_start types text p ≡ is_line_start types other p
alike types text other zero front here = refl
alike types text other (suc q) front here =
    let same : (byte k : ℕ) → k < suc q → stands byte text k ≡ stands byte other k = front (omega arith) in
    let p : ℕ = suc q in
    rw (
      here,
      same 10 (p - 1) (omega arith),
      same 13 (p - 1) (omega arith),
      same 0x85 (p - 1) (omega arith),
      same 0xC2 (p - 2) (omega arith),
      same 0xA8 (p - 1) (omega arith),
      same 0xA9 (p - 1) (omega arith),
      same 0x80 (p - 2) (omega arith),
      same 0xE2 (p - 3) (omega arith),
    )
    refl

-- the same lines start before the end of the first bytes
pub same_in_front : (types : LineEndTypes) (bytes : List ℕ) (n : ℕ) → n ≤ length bytes → starts_within types (take n bytes) 0 n ≡ starts_within types bytes 0 n
same_in_front types bytes n l =
    filter_range_agree (is_line_start types bytes) (is_line_start types (take n bytes)) 0 (n - 0)
    (λ k a b. sym (alike types (take n bytes) bytes k (λ some byte i h. stands_at_first byte bytes n i (omega arith)) (stands_at_first 10 bytes n k (omega arith))))

pub behind_line_feed : (types : LineEndTypes) (text : List ℕ) (p : ℕ) → stands 10 text p ≡ true → is_line_start types text (p + 1) ≡ true
behind_line_feed types text p e =
    let one : p + 1 - 1 ≡ p = omega arith in
    let some : (p + 1 == 0) ≡ false = ne_eqb (p + 1) 0 (λ z. omega arith) in
    rw (some, one, e) refl

pub stands_inside : (byte : ℕ) (text : List ℕ) (p : ℕ) → stands byte text p ≡ true → p < length text
stands_inside byte text p e =
    elim (cases_lt p (length text)) [
      | inl inside ↦ inside
      | inr past ↦ absurd (true≢false (sym e ∙ ap (is_number byte) (slice_get_past text p past)))
    ]
