-- Which byte is at a place of a text, also of a text in two halves.
use Rattle.std.proofs.Common.{◌≡◌, ℕ, ◌+◌, ◌-◌, ◌<◌, ◌≤◌, false, ◌==◌, List, ◌++◌, length, get_or, ap, ◌∙◌, arith, length-append}
use Rattle.std.proofs.lemmas.Option.{slice_get_past, slice_get-get_or}
use Rattle.std.proofs.lemmas.List.{get_or-append-add, get_or_append_left}
use Rattle.ed_model.specs.Numbers.{is_number}
use Rattle.ed_model.specs.Text.{stands}

pub stands_at : (byte : ℕ) (text : List ℕ) (p : ℕ) → p < length text → stands byte text p ≡ (get_or text p 0 == byte)
stands_at byte text p h = ap (is_number byte) (slice_get-get_or text p 0 h)

-- past the end of the text there is no byte
pub stands_past : (byte : ℕ) (text : List ℕ) (p : ℕ) → length text ≤ p → stands byte text p ≡ false
stands_past byte text p h = ap (is_number byte) (slice_get_past text p h)

-- in the first half
pub stands_in_front : (byte : ℕ) (xs ys : List ℕ) (p : ℕ) → p < length xs → stands byte (xs ++ ys) p ≡ (get_or xs p 0 == byte)
stands_in_front byte xs ys p h = stands_at byte (xs ++ ys) p (omega (arith, length-append xs ys)) ∙ ap (λ b. b == byte) (get_or_append_left xs ys 0 p h)

-- in the second half
pub stands_behind : (byte : ℕ) (xs ys : List ℕ) (p i : ℕ) → length xs ≤ p → i ≡ p - length xs → i < length ys → stands byte (xs ++ ys) p ≡ (get_or ys i 0 == byte)
stands_behind byte xs ys p i h e l =
    let at : p ≡ length xs + i = omega arith in
    stands_at byte (xs ++ ys) p (omega (arith, length-append xs ys)) ∙ rw at (ap (λ b. b == byte) (get_or-append-add xs ys i 0))

-- past the end of both
pub stands_nowhere : (byte : ℕ) (xs ys : List ℕ) (p i : ℕ) → length xs ≤ p → i ≡ p - length xs → length ys ≤ i → stands byte (xs ++ ys) p ≡ false
stands_nowhere byte xs ys p i h e l = stands_past byte (xs ++ ys) p (omega (arith, length-append xs ys))
