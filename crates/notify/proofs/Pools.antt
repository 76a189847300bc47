-- Notes keep their texts while their pool grows.
use Rattle.std.proofs.Common.{◌≡◌, ℕ, ◌-◌, ◌≤◌, drop, List, [], ◌∷◌, ◌++◌, length, slice_range, inl, inr, refl, ap, ◌∙◌, arith}
use Rattle.std.proofs.lemmas.Bool.{cases_lt}
use Rattle.std.proofs.lemmas.List.{append_assoc, length-map, length-drop, drop-append-le, take-append-le, take_rest, map-append, drop_at}
use Rattle.ed_types.specs.declared.reply.Note.{Note}
use Rattle.ed_types.specs.Heard.{with_text, noticed, heard_in}
use Rattle.notify.specs.Ranges.{EndWithin}

-- a range stays where it was
range_stays : (xs ys : List ℕ) (i j : ℕ) → j ≤ length xs → slice_range (xs ++ ys) i j ≡ slice_range xs i j
range_stays xs ys i j h =
    elim (cases_lt j i) [
      | inl none ↦ let e : j - i ≡ 0 = omega arith in rw e refl
      | inr some ↦
          let size : length (drop i xs) ≡ length xs - i = length-drop i xs in
          rw (drop-append-le i xs ys (omega arith)) (take-append-le (j - i) (drop i xs) ys (omega arith))
    ]

pub length_heard : (pool : List ℕ) (notes : List Note) → length (heard_in pool notes) ≡ length notes
length_heard pool notes = length-map notes (noticed pool)

pub heard_stay : (xs ys : List ℕ) (notes : List Note) → EndWithin (length xs) notes → heard_in (xs ++ ys) notes ≡ heard_in xs notes
heard_stay xs ys [] h = refl
heard_stay xs ys (n ∷ ns) h = rw (range_stays xs ys n.text.start n.text.end h.0, heard_stay xs ys ns h.1) refl

pub ends_stay : (end further : ℕ) (notes : List Note) → end ≤ further → EndWithin end notes → EndWithin further notes
ends_stay end further [] l h = tt
ends_stay end further (n ∷ ns) l h = (omega (arith, h.0), ends_stay end further ns l h.1)

pub one_more_ends : (end : ℕ) (notes : List Note) (n : Note) → EndWithin end notes → n.text.end ≤ end → EndWithin end (notes ++ n ∷ [])
one_more_ends end [] n h l = (l, tt)
one_more_ends end (m ∷ ms) n h l = (h.0, one_more_ends end ms n h.1 l)

pub one_more_heard : (pool : List ℕ) (notes : List Note) (n : Note) → heard_in pool (notes ++ n ∷ []) ≡ heard_in pool notes ++ noticed pool n ∷ []
one_more_heard pool notes n = map-append (noticed pool) notes (n ∷ [])

-- what stands at the end of a pool
pub end_of_pool : (pool : List ℕ) (from : ℕ) → slice_range pool from (length pool) ≡ drop from pool
end_of_pool pool from = take_rest pool from

-- a note appended with the rest of the pool, or with none of it
pub heard_with_rest : (pool : List ℕ) (notes : List Note) (n : Note) (from : ℕ) → n.text.start ≡ from → n.text.end ≡ length pool → heard_in pool (notes ++ n ∷ []) ≡ heard_in pool notes ++ with_text n (drop from pool) ∷ []
heard_with_rest pool notes n from s e =
    let text : slice_range pool n.text.start n.text.end ≡ drop from pool = rw (s, e) (end_of_pool pool from) in
    one_more_heard pool notes n ∙ ap (λ t. heard_in pool notes ++ with_text n t ∷ []) text

pub heard_without : (pool : List ℕ) (notes : List Note) (n : Note) → n.text.start ≡ n.text.end → heard_in pool (notes ++ n ∷ []) ≡ heard_in pool notes ++ with_text n [] ∷ []
heard_without pool notes n e =
    let none : n.text.end - n.text.start ≡ 0 = omega arith in
    let text : slice_range pool n.text.start n.text.end ≡ [] = rw none refl in
    one_more_heard pool notes n ∙ ap (λ t. heard_in pool notes ++ with_text n t ∷ []) text

-- the end of a pool to which two texts were appended
pub two_behind : (pool xs ys : List ℕ) → drop (length pool) (pool ++ xs ++ ys) ≡ xs ++ ys
two_behind pool xs ys = rw (append_assoc pool xs ys) (drop_at pool (xs ++ ys) (length pool) refl)

pub heard_stay_twice : (pool xs ys : List ℕ) (notes : List Note) → EndWithin (length pool) notes → heard_in (pool ++ xs ++ ys) notes ≡ heard_in pool notes
heard_stay_twice pool xs ys notes h = rw (append_assoc pool xs ys) (heard_stay pool (xs ++ ys) notes h)
