-- Lists of slots, read slot by slot.
use Rattle.decorations.proofs.Names.{◌≡◌, ◌≢◌, ℕ, ◌+◌, ◌<◌, ◌≤◌, set, List, length, take, drop, ◌++◌, get_or, sym, ◌∙◌, subst, arith, Option, Some, None, ap, inl, inr, get_or_read, get_or_default, get_or_past, get_or-set_same, get_or-set_other, take_at, cases_lt, Runs, slot_at, InBoth, InEach}

-- what holds of no runs and of related runs holds of two slots with related runs or none
pub in_both :
    (R : Runs ℕ → Runs ℕ → Type 0) (P : Option (Runs ℕ) → Option (Runs ℕ) → Type 0) → P None None → ((old new : Runs ℕ) → R old new → P (Some old) (Some new))
    → (old new : Option (Runs ℕ)) → InBoth R old new → P old new
in_both R P none some None None is = none
in_both R P none some None (Some new) is = cc
in_both R P none some (Some old) None is = absurd is
in_both R P none some (Some old) (Some new) is = some old new is

-- the slot that a loop has reached
pub slot_read : (slots : List (Option (Runs ℕ))) (i : ℕ) (slot : Option (Runs ℕ)) → i < length slots → slot ≡ get_or slots i slot → slot_at slots i ≡ slot
slot_read slots i slot h e = sym (get_or_read slots i slot h e None)

-- what holds for each slot, and for no runs, holds for all
pub in_each : (R : Option (Runs ℕ) → Option (Runs ℕ) → Type 0) (old new : List (Option (Runs ℕ))) → length new ≡ length old → R None None →
    ((k : ℕ) → k < length old → R (slot_at old k) (slot_at new k)) → InEach R old new
in_each R old new e none each k =
    elim (cases_lt k (length old)) [
      | inl inside ↦ each k inside
      | inr past ↦
          let Q : Option (Runs ℕ) → Type 0 = λ s. R s (slot_at new k) in
          let past' : length new ≤ k = omega arith in
          subst Q (sym (get_or_past old k None past)) (subst (R None) (sym (get_or_past new k None past')) none)
    ]

-- the slots behind the end of a loop over all of them
pub looped : (items old : List (Option (Runs ℕ))) (n : ℕ) → length items ≡ length old → length old ≡ n → take n (items ++ drop (length items) old) ≡ items
looped items old n e f = take_at items (drop (length items) old) n (e ∙ f)

-- a loop over all slots has ended
pub loop_done : (R : Option (Runs ℕ) → Option (Runs ℕ) → Type 0) (old initial items : List (Option (Runs ℕ))) (n : ℕ) → initial ≡ old → length items ≡ length initial → length old ≡ n → R None None →
    ((k : ℕ) → k < length old → R (slot_at initial k) (slot_at items k)) → InEach R old (take n (items ++ drop (length items) old)) × (length (take n (items ++ drop (length items) old)) ≡ length old)
loop_done R old initial items n same long all none done =
    let as_long : length items ≡ length old = long ∙ ap length same in
    let S : List (Option (Runs ℕ)) → Type 0 = λ s. (k : ℕ) → k < length old → R (slot_at s k) (slot_at items k) in
    rw (looped items old n as_long all) (in_each R old items as_long none (subst S same done), as_long)

-- what holds of a slot holds of it when a loop reaches it
pub slot_reached : (P : Option (Runs ℕ) → Type 0) (old initial items : List (Option (Runs ℕ))) (i : ℕ) (slot : Option (Runs ℕ)) → initial ≡ old → i < length items → slot_at items i ≡ slot_at initial i →
    P (slot_at old i) → P (get_or items i slot)
slot_reached P old initial items i slot value inside same holds =
    subst P (ap (λ s. slot_at s i) (sym value) ∙ sym same ∙ get_or_default items i None slot inside) holds

-- one more slot is done
pub done_more : (R : Option (Runs ℕ) → Option (Runs ℕ) → Type 0) (initial items : List (Option (Runs ℕ))) (i : ℕ) (slot new : Option (Runs ℕ)) → i < length items → slot_at items i ≡ slot_at initial i →
    R (get_or items i slot) new → ((k : ℕ) → k < i → R (slot_at initial k) (slot_at items k)) → (k : ℕ) → k < i + 1 → R (slot_at initial k) (slot_at (set items i new) k)
done_more R initial items i slot new inside same here before k h =
    elim (cases_lt k i) [
      | inl lower ↦ let apart : k ≢ i = omega arith in subst (R (slot_at initial k)) (sym (get_or-set_other items i k new None apart)) (before k lower)
      | inr upper ↦
          let at : i ≡ k = omega arith in
          let Q : ℕ → Type 0 = λ j. R (slot_at initial j) (slot_at (set items i new) j) in
          let P : Option (Runs ℕ) → Type 0 = λ s. R s new in
          let done = subst P (sym (get_or_default items i None slot inside) ∙ same) here in
          subst Q at (subst (R (slot_at initial i)) (sym (get_or-set_same items i new None inside)) done)
    ]

pub same_more : (items initial : List (Option (Runs ℕ))) (i : ℕ) (slot : Option (Runs ℕ)) → ((k : ℕ) → i ≤ k → slot_at items k ≡ slot_at initial k) →
    (k : ℕ) → i + 1 ≤ k → slot_at (set items i slot) k ≡ slot_at initial k
same_more items initial i slot same k h =
    let apart : k ≢ i = omega arith in
    let behind : i ≤ k = omega arith in
    get_or-set_other items i k slot None apart ∙ same k behind
