-- The message that is added for a reply is everything that the view recorded in it.
use Rattle.macro_script.proofs.Names.{◌≡◌, ◌≤◌, ℕ, Bool, true, false, cond, List, [], ◌∷◌, ◌++◌, length, map, drop, zero, suc, ◌+◌, refl, ap, sym, subst, arith, ◌<◌, slice_get, filter, find, Some, Message, told_message, sent_to, is_recording, sends_for, RecordsAll}
use Rattle.std.proofs.lemmas.List.{append-nil}
use Rattle.ed_types.specs.Notices.{Notice}

first_is_all : (view : ℕ) (notes : List Notice) → length (map told_message (filter (is_recording view) notes)) ≤ 1
    → map (sent_to view) (map told_message (filter (is_recording view) notes)) ≡ sends_for view (find (is_recording view) notes)
first_is_all view [] few = refl
first_is_all view (n ∷ ns) few = go (is_recording view n) few (first_is_all view ns)
  where
    none : (ms : List Message) → length ms ≤ 0 → map (sent_to view) ms ≡ []
    none [] h = refl
    none (m ∷ ms) h = absurd (omega arith)

    go : (b : Bool) → length (map told_message (cond b (n ∷ filter (is_recording view) ns) (filter (is_recording view) ns))) ≤ 1
        → (length (map told_message (filter (is_recording view) ns)) ≤ 1 → map (sent_to view) (map told_message (filter (is_recording view) ns)) ≡ sends_for view (find (is_recording view) ns))
        → map (sent_to view) (map told_message (cond b (n ∷ filter (is_recording view) ns) (filter (is_recording view) ns))) ≡ sends_for view (cond b (Some n) (find (is_recording view) ns))
    go true few rest = ap (λ ms. sent_to view (told_message n) ∷ ms) (none (map told_message (filter (is_recording view) ns)) (omega arith))
    go false few rest = rest few

pub records_all : RecordsAll
records_all view reply few =
    let same : reply.notes ++ [] ≡ reply.notes = append-nil reply.notes in
    subst (λ notes. length (map told_message (filter (is_recording view) notes)) ≤ 1 → map (sent_to view) (map told_message (filter (is_recording view) notes)) ≡ sends_for view (find (is_recording view) reply.notes)) (sym same)
    (first_is_all view reply.notes) few

-- The search for the note, place by place.

pub found_here : (view place : ℕ) (notes : List Notice) (n : Notice) → slice_get notes place ≡ Some n → is_recording view n ≡ true
    → (place < length notes) × (find (is_recording view) (drop place notes) ≡ Some n)
found_here view place [] n e t = absurd (cc)
found_here view zero (m ∷ ms) n e t =
    let same : m ≡ n = cc in
    (omega arith, subst (λ k. find (is_recording view) (k ∷ ms) ≡ Some n) (sym same) (go (is_recording view n) t))
  where
    go : (b : Bool) → b ≡ true → cond b (Some n) (find (is_recording view) ms) ≡ Some n
    go true t = refl
    go false t = absurd (cc)
found_here view (suc place) (m ∷ ms) n e t = let rest = found_here view place ms n e t in (omega arith, rest.1)

not_at : (view place : ℕ) (notes : List Notice) (n : Notice) → slice_get notes place ≡ Some n → is_recording view n ≡ false
    → find (is_recording view) (drop (suc place) notes) ≡ find (is_recording view) (drop place notes)
not_at view place [] n e t = absurd (cc)
not_at view zero (m ∷ ms) n e t =
    let same : m ≡ n = cc in
    subst (λ k. find (is_recording view) ms ≡ find (is_recording view) (k ∷ ms)) (sym same) (go (is_recording view n) t)
  where
    go : (b : Bool) → b ≡ false → find (is_recording view) ms ≡ cond b (Some n) (find (is_recording view) ms)
    go true t = absurd (cc)
    go false t = refl
not_at view (suc place) (m ∷ ms) n e t = not_at view place ms n e t

pub not_here : (view place : ℕ) (notes : List Notice) (n : Notice) → slice_get notes place ≡ Some n → is_recording view n ≡ false
    → find (is_recording view) (drop (place + 1) notes) ≡ find (is_recording view) (drop place notes)
not_here view place notes n e t =
    let next : suc place ≡ place + 1 = omega arith in
    subst (λ k. find (is_recording view) (drop k notes) ≡ find (is_recording view) (drop place notes)) next (not_at view place notes n e t)
