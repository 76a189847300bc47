-- A fill of the styles between the first and the last that are others is a fill of all.
use Rattle.cell_buffer.proofs.Names.{◌≡◌, ◌<◌, ◌≤◌, ◌+◌, ◌-◌, ℕ, List, ◌++◌, ◌⊎◌, inl, inr, length, take, drop, get_or, replicate, sym, ap, ◌∙◌, arith, append_assoc, length-append, length-take-le, length-drop, length-replicate, overwritten}
use Rattle.std.proofs.lemmas.Bool.{cases_lt}
use Rattle.std.proofs.lemmas.List.{ext_get_or, get_or_append_left, get_or-append_right, get_or-take, get_or-drop, get_or-replicate}

-- an item of a list of which a part was overwritten
length_overwritten : (xs : List ℕ) (start count style : ℕ) → start + count ≤ length xs → length (overwritten xs start (replicate count style)) ≡ length xs
length_overwritten xs start count style h = simp (length-append, length-replicate, length-drop, length-take-le start xs (omega arith)) (omega arith)

in_parts : (xs : List ℕ) (start count style : ℕ) → overwritten xs start (replicate count style) ≡ take start xs ++ (replicate count style ++ drop (start + length (replicate count style)) xs)
in_parts xs start count style = simp append_assoc

before_it : (xs : List ℕ) (start count style k : ℕ) → start + count ≤ length xs → k < start → get_or (overwritten xs start (replicate count style)) k 0 ≡ get_or xs k 0
before_it xs start count style k h l =
    ap (λ t. get_or t k 0) (in_parts xs start count style)
    ∙ get_or_append_left (take start xs) (replicate count style ++ drop (start + length (replicate count style)) xs) 0 k (omega (arith, length-take-le start xs (omega arith)))
    ∙ get_or-take start xs k 0 l

inside_it : (xs : List ℕ) (start count style k : ℕ) → start + count ≤ length xs → start ≤ k → k < start + count → get_or (overwritten xs start (replicate count style)) k 0 ≡ style
inside_it xs start count style k h low high =
    ap (λ t. get_or t k 0) (in_parts xs start count style)
    ∙ get_or-append_right (take start xs) (replicate count style ++ drop (start + length (replicate count style)) xs) start k 0 (length-take-le start xs (omega arith)) low
    ∙ get_or_append_left (replicate count style) (drop (start + length (replicate count style)) xs) 0 (k - start) (omega (arith, length-replicate count style))
    ∙ get_or-replicate count (k - start) style 0 (omega arith)

behind_it : (xs : List ℕ) (start count style k : ℕ) → start + count ≤ length xs → start + count ≤ k → get_or (overwritten xs start (replicate count style)) k 0 ≡ get_or xs k 0
behind_it xs start count style k h low =
    let place : start + length (replicate count style) + (k - start - count) ≡ k = omega (arith, length-replicate count style) in
    ap (λ t. get_or t k 0) (in_parts xs start count style)
    ∙ get_or-append_right (take start xs) (replicate count style ++ drop (start + length (replicate count style)) xs) start k 0 (length-take-le start xs (omega arith)) (omega arith)
    ∙ get_or-append_right (replicate count style) (drop (start + length (replicate count style)) xs) count (k - start) 0 (length-replicate count style) (omega arith)
    ∙ get_or-drop (start + length (replicate count style)) xs (k - start - count) 0
    ∙ ap (λ i. get_or xs i 0) place

-- If all styles before `first` and from `past` on are right already, and those between are set, then all are set.
pub is_filled :
    (xs ys : List ℕ) (start count style first past : ℕ) → start + count ≤ length xs → start ≤ first → past ≤ start + count → length ys ≡ length xs
    → ((k : ℕ) → start ≤ k → k < first → get_or xs k 0 ≡ style) → ((k : ℕ) → past ≤ k → k < start + count → get_or xs k 0 ≡ style)
    → ((k : ℕ) → first ≤ k → k < past → get_or ys k 0 ≡ style)
    → ((k : ℕ) → k < first → get_or ys k 0 ≡ get_or xs k 0) → ((k : ℕ) → past ≤ k → get_or ys k 0 ≡ get_or xs k 0)
    → ys ≡ overwritten xs start (replicate count style)
is_filled xs ys start count style first past h low high e right_before right_behind set below above =
    ext_get_or 0 ys (overwritten xs start (replicate count style)) (e ∙ sym (length_overwritten xs start count style h))
    (λ k _. at k (cases_lt k start) (cases_lt k (start + count)) (cases_lt k first) (cases_lt k past))
  where
    at : (k : ℕ) → (k < start) ⊎ (start ≤ k) → (k < start + count) ⊎ (start + count ≤ k) → (k < first) ⊎ (first ≤ k) → (k < past) ⊎ (past ≤ k)
        → get_or ys k 0 ≡ get_or (overwritten xs start (replicate count style)) k 0
    at k (inl l) _ _ _ = below k (omega arith) ∙ sym (before_it xs start count style k h l)
    at k (inr l) (inl m) (inl n) _ = below k n ∙ right_before k l n ∙ sym (inside_it xs start count style k h l m)
    at k (inr l) (inl m) (inr n) (inl p) = set k n p ∙ sym (inside_it xs start count style k h l m)
    at k (inr l) (inl m) (inr n) (inr p) = above k p ∙ right_behind k p m ∙ sym (inside_it xs start count style k h l m)
    at k (inr l) (inr m) _ _ = above k (omega arith) ∙ sym (behind_it xs start count style k h m)
