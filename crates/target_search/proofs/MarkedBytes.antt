-- Marks of 64 bytes, bit by bit.
use Rattle.target_search.proofs.Names.{◌≡◌, ℕ, ◌+◌, ◌-◌, ◌%◌, ◌^◌, ◌<◌, ◌≤◌, ◌≢◌, Bool, true, false, cond, eqb, List, length, get_or, map, replicate, refl, sym, ap, ◌∙◌, arith, subst, bit_and, bit_or, ◌||◌, ◌&&◌, inl, inr, pow_pos, length-zip2, get_or-zip2, length-replicate, get_or-replicate, bit_mask_l, mask_l-mod, cases_eq, length-map, NonePasses}
use Rattle.std.specs.Int.{bit_at}
use Rattle.std.specs.Simd.Lanes.{zip2, mask_l, top}
use Rattle.std.proofs.Math.ListN.{get_or-map}
use Rattle.std.proofs.Math.Nat.{div-eq_of_lt}

-- the lanes of 64 bytes that hold one of them
abbrev holding : List ℕ → ℕ → List ℕ
holding v byte = zip2 (λ a b. cond (eqb a b) 255 0) v (replicate 64 byte)

length-holding : (v : List ℕ) (byte : ℕ) → length v ≡ 64 → length (holding v byte) ≡ 64
length-holding v byte long = length-zip2 (λ a b. cond (eqb a b) 255 0) v (replicate 64 byte) (long ∙ sym (length-replicate 64 byte)) ∙ long

get_or-holding : (v : List ℕ) (byte k : ℕ) → length v ≡ 64 → k < 64 → get_or (holding v byte) k 0 ≡ cond (eqb (get_or v k 0) byte) 255 0
get_or-holding v byte k long l =
    get_or-zip2 (λ a b. cond (eqb a b) 255 0) v (replicate 64 byte) k 0 0 0 (omega arith) (omega (arith, length-replicate 64 byte))
    ∙ ap (λ b. cond (eqb (get_or v k 0) b) 255 0) (get_or-replicate 64 k byte 0 l)

-- the lanes of 64 bytes that hold one of two bytes
abbrev holding_either : List ℕ → ℕ → ℕ → List ℕ
holding_either v a b = zip2 bit_or (holding v a) (holding v b)

length-holding_either : (v : List ℕ) (a b : ℕ) → length v ≡ 64 → length (holding_either v a b) ≡ 64
length-holding_either v a b long = length-zip2 bit_or (holding v a) (holding v b) (length-holding v a long ∙ sym (length-holding v b long)) ∙ length-holding v a long

get_or-holding_either : (v : List ℕ) (a b k : ℕ) → length v ≡ 64 → k < 64
    → get_or (holding_either v a b) k 0 ≡ bit_or (cond (eqb (get_or v k 0) a) 255 0) (cond (eqb (get_or v k 0) b) 255 0)
get_or-holding_either v a b k long l =
    get_or-zip2 bit_or (holding v a) (holding v b) k 0 0 0 (omega (arith, length-holding v a long)) (omega (arith, length-holding v b long))
    ∙ (λ i. bit_or (get_or-holding v a k long l i) (get_or-holding v b k long l i))

lane_top : (a b x y : Bool) → top 7 (bit_and (bit_or (cond a 255 0) (cond b 255 0)) (bit_or (cond x 255 0) (cond y 255 0))) ≡ ((a || b) && (x || y))
lane_top true true true true = refl
lane_top true true true false = refl
lane_top true true false true = refl
lane_top true true false false = refl
lane_top true false true true = refl
lane_top true false true false = refl
lane_top true false false true = refl
lane_top true false false false = refl
lane_top false true true true = refl
lane_top false true true false = refl
lane_top false true false true = refl
lane_top false true false false = refl
lane_top false false true true = refl
lane_top false false true false = refl
lane_top false false false true = refl
lane_top false false false false = refl

-- a bit of the mask of the lanes where both hold theirs
pub marked_lane :
    (v w : List ℕ) (a b x y k : ℕ) → length v ≡ 64 → length w ≡ 64 → k < 64
    → bit_at (mask_l (map (top 7) (zip2 bit_and (holding_either v a b) (holding_either w x y))) % 2 ^ 64) k
    ≡ cond ((eqb (get_or v k 0) a || eqb (get_or v k 0) b) && (eqb (get_or w k 0) x || eqb (get_or w k 0) y)) 1 0
marked_lane v w a b x y k p q l =
    let one = length-holding_either v a b p in
    let two = length-holding_either w x y q in
    let lanes = zip2 bit_and (holding_either v a b) (holding_either w x y) in
    let size : length lanes ≡ 64 = length-zip2 bit_and (holding_either v a b) (holding_either w x y) (one ∙ sym two) ∙ one in
    ap (λ m. bit_at m k) (mask_l-mod (map (top 7) lanes) 64 (omega (arith, length-map lanes (top 7))))
    ∙ bit_mask_l (map (top 7) lanes) k
    ∙ ap (λ t. cond t 1 0)
    (get_or-map (top 7) lanes k 0
    ∙ ap (top 7)
    (get_or-zip2 bit_and (holding_either v a b) (holding_either w x y) k 0 0 0 (omega arith) (omega arith)
    ∙ (λ i. bit_and (get_or-holding_either v a b k p l i) (get_or-holding_either w x y k q l i)))
    ∙ lane_top (eqb (get_or v k 0) a) (eqb (get_or v k 0) b) (eqb (get_or w k 0) x) (eqb (get_or w k 0) y))

bit_at_zero : (k : ℕ) → bit_at 0 k ≡ 0
bit_at_zero k = ap (λ x. x % 2) (div-eq_of_lt (pow_pos k))

-- marks that are clear at each place from one on where a test fails
module _ (test : ℕ → Bool) (base : ℕ) where
  abbrev pub MarksPassing : ℕ → Type 0
  MarksPassing marks = (k : ℕ) → k < 64 → bit_at marks k ≡ 0 → test (base + k) ≡ false

  pub still_marks : (old new bit : ℕ) → MarksPassing old → test (base + bit) ≡ false → ((k : ℕ) → k < 64 → k ≢ bit → bit_at new k ≡ bit_at old k) → MarksPassing new
  still_marks old new bit marks fails kept k l clear =
      elim (cases_eq k bit) [
        | inl same ↦ subst (λ i. test (base + i) ≡ false) (sym same) fails
        | inr other ↦ marks k l (sym (kept k l other) ∙ clear)
      ]

  none_where_clear : (marks low high : ℕ) → MarksPassing marks → high ≤ 64 → ((k : ℕ) → low ≤ k → k < high → bit_at marks k ≡ 0) → NonePasses test (base + low) (base + high)
  none_where_clear marks low high passing l clear k a b =
      subst (λ p. test p ≡ false) (let e : base + (k - base) ≡ k = omega arith in e) (passing (k - base) (omega arith) (clear (k - base) (omega arith) (omega arith)))

  pub none_below : (marks bit : ℕ) → MarksPassing marks → bit < 64 → ((k : ℕ) → k < bit → bit_at marks k ≡ 0) → NonePasses test base (base + bit)
  none_below marks bit passing l clear k a b = none_where_clear marks 0 bit passing (omega arith) (λ i _ c. clear i c) k (omega arith) b

  pub none_above : (marks bit : ℕ) → MarksPassing marks → ((k : ℕ) → bit < k → bit_at marks k ≡ 0) → NonePasses test (base + bit + 1) (base + 64)
  none_above marks bit passing clear k a b = none_where_clear marks (bit + 1) 64 passing (omega arith) (λ i c _. clear i (omega arith)) k (omega arith) b

  pub none_unmarked : (marks : ℕ) → MarksPassing marks → marks ≡ 0 → NonePasses test base (base + 64)
  none_unmarked marks passing zero k a b =
      none_where_clear marks 0 64 passing (omega arith) (λ i _ _. ap (λ m. bit_at m i) zero ∙ bit_at_zero i) k (omega arith) b
