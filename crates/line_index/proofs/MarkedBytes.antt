-- Marks of 64 bytes, bit by bit.
use Rattle.line_index.proofs.Names.{◌≡◌, ℕ, ◌+◌, ◌%◌, ◌^◌, ◌<◌, Bool, true, false, cond, eqb, ◌==◌, ◌||◌, ◌&&◌, List, length, get_or, map, replicate, refl, sym, ap, ◌∙◌, arith, w8, bit_or, bit_at, length-zip2, get_or-zip2, get_or-replicate, bit_mask_l, tops_compared, mask_l-mod, bit_at_or, LineEndTypes, Default, knows_unicode, may_end}
use Rattle.std.specs.Simd.Lanes.{zip2, mask_l, top}
use Rattle.std.proofs.lemmas.Simd.{length-replicate}

-- a bit of the mask of the lanes that hold a byte
pub marked_lane :
    (v : List ℕ) (byte k : ℕ) → length v ≡ 64 → k < 64
    → bit_at (mask_l (map (top 7) (zip2 (λ a b. cond (eqb a b) 255 0) v (replicate 64 byte))) % 2 ^ 64) k ≡ cond (eqb (get_or v k 0) byte) 1 0
marked_lane v byte k long l =
    let bits : List Bool = zip2 eqb v (replicate 64 byte) in
    let size : length bits ≡ 64 = length-zip2 eqb v (replicate 64 byte) (long ∙ sym (length-replicate 64 byte)) ∙ long in
    ap (λ m. bit_at m k) (ap (λ ms. mask_l ms % 2 ^ 64) (tops_compared w8 eqb v (replicate 64 byte)) ∙ mask_l-mod bits 64 (omega arith))
    ∙ bit_mask_l bits k
    ∙ ap (λ b. cond b 1 0) (get_or-zip2 eqb v (replicate 64 byte) k 0 0 false (omega arith) (omega (arith, length-replicate 64 byte)) ∙ ap (eqb (get_or v k 0)) (get_or-replicate 64 k byte 0 l))

-- a clear bit of the union of two marks is clear in both
pub clear_first : (a b k : ℕ) → bit_at (bit_or a b) k ≡ 0 → bit_at a k ≡ 0
clear_first a b k h = omega (arith, bit_at_or a b k)

pub clear_second : (a b k : ℕ) → bit_at (bit_or a b) k ≡ 0 → bit_at b k ≡ 0
clear_second a b k h = omega (arith, bit_at_or a b k)

-- bit k of a mark is clear unless the byte at k is the one
abbrev pub Unmarked : ℕ → List ℕ → ℕ → ℕ → Type 0
Unmarked byte bytes at marks = (k : ℕ) → k < 64 → bit_at marks k ≡ 0 → (get_or bytes (at + k) 0 == byte) ≡ false

-- if both marks are clear, no line ends there
pub no_end_unmarked :
    (types : LineEndTypes) (bytes : List ℕ) (at a b : ℕ) → types ≡ Default → Unmarked 10 bytes at a → Unmarked 13 bytes at b
    → (k : ℕ) → k < 64 → bit_at (bit_or a b) k ≡ 0 → may_end types (get_or bytes (at + k) 0) ≡ false
no_end_unmarked types bytes at a b is p q k l h = rw (is, p k l (clear_first a b k h), q k l (clear_second a b k h)) refl

none_of_five : (u a b c d e : Bool) → a ≡ false → b ≡ false → c ≡ false → d ≡ false → e ≡ false → (a || b || (u && (c || d || e))) ≡ false
none_of_five true a b c d e p q r s t = rw (p, q, r, s, t) refl
none_of_five false a b c d e p q r s t = rw (p, q) refl

pub no_unicode_end_unmarked :
    (types : LineEndTypes) (bytes : List ℕ) (at a b c d e : ℕ) → Unmarked 10 bytes at a → Unmarked 13 bytes at b → Unmarked 0x85 bytes at c
    → Unmarked 0xA8 bytes at d → Unmarked 0xA9 bytes at e
    → (k : ℕ) → k < 64 → bit_at (bit_or (bit_or (bit_or a b) c) (bit_or d e)) k ≡ 0 → may_end types (get_or bytes (at + k) 0) ≡ false
no_unicode_end_unmarked types bytes at a b c d e p q r s t k l h =
    let three = clear_first (bit_or (bit_or a b) c) (bit_or d e) k h in
    let two = clear_second (bit_or (bit_or a b) c) (bit_or d e) k h in
    let first = clear_first (bit_or a b) c k three in
    none_of_five (knows_unicode types) _ _ _ _ _ (p k l (clear_first a b k first)) (q k l (clear_second a b k first)) (r k l (clear_second (bit_or a b) c k three))
    (s k l (clear_first d e k two)) (t k l (clear_second d e k two))
