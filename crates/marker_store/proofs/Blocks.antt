-- Numbers that are 0.
use Rattle.marker_store.proofs.Names.{◌≡◌, ℕ, ◌+◌, ◌-◌, ◌<◌, ◌≤◌, inl, inr, List, ◌++◌, length, get_or, take, drop, sym, ap, ◌∙◌, arith, cases_lt, get_or_append_left, length-take-le, length-drop}
use Rattle.std.proofs.Math.Seq.{get_or-append_right}
use Rattle.std.proofs.lemmas.List.{get_or-take, get_or-drop}

-- the numbers before a place and those behind it
pub joined : (numbers : List ℕ) (low mid high : ℕ) → ((k : ℕ) → low ≤ k → k < mid → get_or numbers k 0 ≡ 0) → ((k : ℕ) → mid ≤ k → k < high → get_or numbers k 0 ≡ 0) → (k : ℕ) → low ≤ k → k < high → get_or numbers k 0 ≡ 0
joined numbers low mid high before behind k l h = elim (cases_lt k mid) [ inl s ↦ before k l s | inr s ↦ behind k s h ]

-- the numbers of a block
pub in_block : (numbers : List ℕ) (low high : ℕ) → high ≤ length numbers → ((k : ℕ) → k < length (take (high - low) (drop low numbers)) → get_or (take (high - low) (drop low numbers)) k 0 ≡ 0) → (k : ℕ) → low ≤ k → k < high → get_or numbers k 0 ≡ 0
in_block numbers low high within zero k l h =
    let rest = drop low numbers in
    let j = k - low in
    let at : low + j ≡ k = omega arith in
    let here : j < length (take (high - low) rest) = omega (arith, length-take-le (high - low) rest (omega (arith, length-drop low numbers))) in
    ap (λ i. get_or numbers i 0) (sym at) ∙ sym (get_or-drop low numbers j 0) ∙ sym (get_or-take (high - low) rest j 0 (omega arith)) ∙ zero j here

-- a number of two slices that are joined
pub in_halves : (left right : List ℕ) (k : ℕ) → (k < length left → get_or left k 0 ≡ 0) → (length left ≤ k → get_or right (k - length left) 0 ≡ 0) → get_or (left ++ right) k 0 ≡ 0
in_halves left right k near far = elim (cases_lt k (length left)) [ inl s ↦ get_or_append_left left right 0 k s ∙ near s | inr s ↦ get_or-append_right left right k 0 s ∙ far s ]
