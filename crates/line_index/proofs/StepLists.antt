-- Line starts around a step: which of them stay, which are removed, and why the ones found in the new text are exactly
-- the missing ones.
use Rattle.line_index.proofs.Names.{◌≡◌, ℕ, ◌+◌, ◌-◌, ◌<◌, ◌≤◌, min, max, List, [], ◌∷◌, ◌++◌, length, get_or, take, drop, slice_get, map, ltb, refl, sym, ap, ◌∙◌, inl, inr, arith, append_assoc, length-append, length-drop, append-nil, cases_lt, cases_eq, le-ltb, lt-ltb, length-take-le, map-append, LineEndTypes, Default, Unicode, is_line_start, line_starts, line_of, line_count, Step, Insert, Delete, place_of, edited, moved_start, moved_back, starts_before, starts_from, count_before, end_of, put_in, count-cons, no_start_past, first_line_start, some_line, line_of_last_start, slice_get_append_left, slice_get_append_right, slice_get_take, slice_get_drop, same_start, filter_range_moved, starts_before_first, starts_from_others, starts_from_is, first_line_about_is, ne_eqb, last_touched, starts_within}
use Rattle.ed_model.specs.proved.Neighbours.{replaced, starts_after, starts_about_is}
use Rattle.line_index.proofs.StartLists.{starts_apart, no_starts, one_start, line_is_before}

-- starts up to a place's line lie at the place or before it, and the others behind it

pub at_most : (types : LineEndTypes) (text : List ℕ) (p k : ℕ) → k < line_count types text → k ≤ line_of (line_starts types text) p → get_or (line_starts types text) k 0 ≤ p
at_most types text p k h l = (line_of_last_start types text p k h).0 l

pub behind : (types : LineEndTypes) (text : List ℕ) (p k : ℕ) → k < line_count types text → line_of (line_starts types text) p < k → p < get_or (line_starts types text) k 0
behind types text p k h l =
    elim (cases_lt p (get_or (line_starts types text) k 0)) [
      | inl past ↦ past
      | inr upto ↦ absurd (omega (arith, (line_of_last_start types text p k h).1 upto))
    ]

-- the last place whose line start may depend on a step is its end, or up to two bytes behind it, and moves with it
pub touched_near : (types : LineEndTypes) (end : ℕ) → (end ≤ last_touched types end) × (last_touched types end ≤ end + 2)
touched_near Default end = (omega arith, omega arith)
touched_near Unicode end = (omega arith, omega arith)

pub touched_moves : (types : LineEndTypes) (end end' : ℕ) → last_touched types end + end' ≡ last_touched types end' + end
touched_moves Default end end' = omega arith
touched_moves Unicode end end' = omega arith

-- A step of the text `old` from `p` on: it replaces the bytes up to `e` by others, which end at `e'`. It moves line starts
-- by `moved`, and those behind its end by `f`.
pub record Replaces (types : LineEndTypes) (p e e' : ℕ) (f moved : ℕ → ℕ) (old new : List ℕ) : Type 0 where
  pub order : p ≤ e
  pub order_new : p ≤ e'
  pub within : e ≤ length old
  pub size : length new + e ≡ length old + e'
  pub moves : (k : ℕ) → e ≤ k → f k + e ≡ k + e'
  pub stays : (k : ℕ) → k < p → moved k ≡ k
  pub falls : (k : ℕ) → p ≤ k → k ≤ e → moved k ≡ e'
  pub goes : (k : ℕ) → e ≤ k → moved k + e ≡ k + e'
  pub front : (k : ℕ) → k < p → slice_get old k ≡ slice_get new k
  pub bytes : (k i j : ℕ) → i ≡ e + k → j ≡ e' + k → slice_get old i ≡ slice_get new j
  pub law : line_starts types new ≡ starts_before p (line_starts types old) ++ starts_within types new p (e' + 3) ++ map f (starts_from (e + 3) (line_starts types old))

replaces_by :
    (types : LineEndTypes) (p e : ℕ) (bytes old : List ℕ) (f moved : ℕ → ℕ) → p ≤ e → e ≤ length old → ((k : ℕ) → e ≤ k → f k + e ≡ k + (p + length bytes))
    → ((k : ℕ) → k < p → moved k ≡ k) → ((k : ℕ) → p ≤ k → k ≤ e → moved k ≡ p + length bytes) → ((k : ℕ) → e ≤ k → moved k + e ≡ k + (p + length bytes))
    → Replaces types p e (p + length bytes) f moved old (replaced p e bytes old)
replaces_by types p e bytes old f moved a l moves stays falls goes =
    let own : length (take p old) ≡ p = length-take-le p old (omega arith) in
    let front : length (take p old ++ bytes) ≡ p + length bytes = omega (arith, length-append (take p old) bytes) in
    let span : length bytes + 3 ≡ p + length bytes + 3 - p = omega arith in
    record {
      order = a;
      order_new = omega arith;
      within = l;
      size = omega (arith, front, length-append (take p old ++ bytes) (drop e old), length-drop e old);
      moves = moves;
      stays = stays;
      falls = falls;
      goes = goes;
      front = λ k h. sym (slice_get_append_left (take p old ++ bytes) (drop e old) k (omega arith) ∙ slice_get_append_left (take p old) bytes k (omega arith) ∙ slice_get_take p old k h);
      bytes = λ k i j a b. sym (slice_get_append_right (take p old ++ bytes) (drop e old) k j (omega arith) ∙ slice_get_drop e old k i a);
      law = starts_after types p e bytes old f (omega arith) (λ k. omega (arith, moves (e + 3 + k) (omega arith))) ∙ rw (starts_about_is types p e bytes old (omega arith), span) refl;
    }

pub replaces : (types : LineEndTypes) (step : Step) (old : List ℕ) (f : ℕ → ℕ) → end_of step ≤ length old → ((k : ℕ) → end_of step ≤ k → f k + end_of step ≡ k + (place_of step + length (put_in step)))
    → Replaces types (place_of step) (end_of step) (place_of step + length (put_in step)) f (moved_start step) old (edited step old)
replaces types (Insert p bytes) old f h moves =
    replaces_by types p p bytes old f (moved_start (Insert p bytes)) (omega arith) h moves
    (λ k l. rw (lt-ltb k p l) refl) (λ k l m. rw (le-ltb k p l) (omega arith)) (λ k l. rw (le-ltb k p l) (omega arith))
replaces types (Delete p bytes) old f h moves =
    rw (append-nil (take p old)) at (replaces_by types p (p + length bytes) [] old f (moved_back p (length bytes)) (omega arith) h moves
    (λ k l. rw (lt-ltb k p l) refl)
    (λ k l m. rw (le-ltb k p l) (elim (cases_lt k (p + length bytes)) [
      | inl within ↦ rw (lt-ltb k (p + length bytes) within) (omega arith)
      | inr past ↦ rw (le-ltb k (p + length bytes) past) (omega arith)
    ]))
    (λ k l. rw (le-ltb k p (omega arith), le-ltb k (p + length bytes) l) (omega arith)))

pub none_below_zero : (xs : List ℕ) → count_before 0 xs ≡ 0
none_below_zero [] = refl
none_below_zero (x ∷ xs) = rw (count-cons (λ s. ltb s 0) x xs, le-ltb x 0 (omega arith), none_below_zero xs) refl

pub first_line_is : (types : LineEndTypes) (text : List ℕ) (p : ℕ) → p ≡ 0 → line_of (line_starts types text) (p - 1) ≡ 0
first_line_is types text p e =
    let z : p - 1 ≡ 0 = omega arith in
    rw z (sym (first_line_about_is types (Insert 0 []) text) ∙ ap (λ n. n - 1) (none_below_zero (line_starts types text)))

-- the first starts of the new text: those before the step, and 0 where the step is there
front_starts :
    (types : LineEndTypes) (p : ℕ) (text new : List ℕ) (i from : ℕ) → i ≡ line_of (line_starts types text) (p - 1) + 1 → from ≡ max p 1
    → starts_before p (line_starts types text) ++ starts_within types new p from ≡ take i (line_starts types text)
front_starts types p text new i from a c =
    let starts : List ℕ = line_starts types text in
    elim (cases_eq p 0) [
      | inl none ↦
          let one : i ≡ 1 = omega (arith, first_line_is types text p none) in
          let z : from ≡ 0 + 1 = omega arith in
          rw (starts_before_first types p text, none, none_below_zero starts, z, one_start types new 0 refl, one) (sym (take_one starts (some_line types text) (first_line_start types text)))
      | inr some ↦
          let same : from ≡ p = omega arith in
          let all : count_before p starts ≡ i = line_is_before types text (p - 1) p (omega arith) ∙ sym a in
          rw (starts_before_first types p text, all, same, no_starts types new p p (λ k l m. absurd (omega arith))) (append-nil (take i starts))
    ]
  where
    take_one : (xs : List ℕ) → 0 < length xs → get_or xs 0 0 ≡ 0 → take 1 xs ≡ 0 ∷ []
    take_one [] h e = absurd (omega arith)
    take_one (x ∷ xs) h e = ap (λ y. y ∷ []) e

-- whether a line starts at a place depends on two bytes, if line ends of Unicode do not count
start_by_two : (text other : List ℕ) (p q : ℕ) → 0 < p → 0 < q → slice_get text (p - 1) ≡ slice_get other (q - 1) → slice_get text p ≡ slice_get other q → is_line_start Default text p ≡ is_line_start Default other q
start_by_two text other p q a b one here = rw (ne_eqb p 0 (λ e. omega arith), ne_eqb q 0 (λ e. omega arith), one, here) refl

module _ {types : LineEndTypes} {p e e' : ℕ} {f moved : ℕ → ℕ} {old new : List ℕ} (s : Replaces types p e e' f moved old new) where
  -- behind the third byte behind a step, a line starts in both texts or in neither
  pub same_far : (k i j : ℕ) → i ≡ e + 3 + k → j ≡ e' + 3 + k → is_line_start types old i ≡ is_line_start types new j
  same_far k i j a b =
      same_start types old new i j (ne_eqb i 0 (λ z. omega arith) ∙ sym (ne_eqb j 0 (λ z. omega arith)))
      (s.bytes k (i - 3) (j - 3) (omega arith) (omega arith)) (s.bytes (k + 1) (i - 2) (j - 2) (omega arith) (omega arith))
      (s.bytes (k + 2) (i - 1) (j - 1) (omega arith) (omega arith)) (s.bytes (k + 3) i j (omega arith) (omega arith))

  -- .. and if line ends of Unicode do not count, already behind its end
  pub same_default : (k i j : ℕ) → types ≡ Default → i ≡ e + 1 + k → j ≡ e' + 1 + k → is_line_start types old i ≡ is_line_start types new j
  same_default k i j t a b = rw t (start_by_two old new i j (omega arith) (omega arith) (s.bytes k (i - 1) (j - 1) (omega arith) (omega arith)) (s.bytes (k + 1) i j (omega arith) (omega arith)))

-- the starts behind what depends on the step only move
law_touched :
    (types : LineEndTypes) (p e e' : ℕ) (f moved : ℕ → ℕ) (old new : List ℕ) → Replaces types p e e' f moved old new
    → line_starts types new ≡ starts_before p (line_starts types old) ++ starts_within types new p (last_touched types e' + 1) ++ map f (starts_from (last_touched types e + 1) (line_starts types old))
law_touched Unicode p e e' f moved old new s =
    let a : e + 2 + 1 ≡ e + 3 = omega arith in
    let b : e' + 2 + 1 ≡ e' + 3 = omega arith in
    rw (a, b) s.law
law_touched Default p e e' f moved old new s =
    let olds : List ℕ = line_starts Default old in
    let last : ℕ = length old + 1 in
    let a : e' + 3 - (e' + 1) ≡ 2 = omega arith in
    let b : e + 3 - (e + 1) ≡ 2 = omega arith in
    let all : e + 3 + last - (e + 1) ≡ 2 + last = omega arith in
    let far : starts_from (e + 3) olds ≡ starts_within Default old (e + 3) (e + 3 + last) = let c : e + 3 + last - (e + 3) ≡ last = omega arith in rw c (starts_from_is Default old (e + 3) last (omega arith)) in
    let near : starts_from (e + 1) olds ≡ starts_within Default old (e + 1) (e + 3 + last) = rw all (starts_from_is Default old (e + 1) (2 + last) (omega arith)) in
    let apart : starts_from (e + 1) olds ≡ starts_within Default old (e + 1) (e + 3) ++ starts_from (e + 3) olds = near ∙ starts_apart Default old (e + 1) (e + 3) (e + 3 + last) (omega arith) (omega arith) ∙ ap (λ l. starts_within Default old (e + 1) (e + 3) ++ l) (sym far) in
    let moves : starts_within Default new (e' + 1) (e' + 3) ≡ map f (starts_within Default old (e + 1) (e + 3)) =
    rw (a, b) (filter_range_moved (is_line_start Default old) (is_line_start Default new) f (e + 1) (e' + 1) 2 (λ k l. (same_default s k (e + 1 + k) (e' + 1 + k) refl refl refl, omega (arith, s.moves (e + 1 + k) (omega arith))))) in
    s.law
    ∙ rw (apart, map-append f (starts_within Default old (e + 1) (e + 3)) (starts_from (e + 3) olds), ← moves, starts_apart Default new p (e' + 1) (e' + 3) (omega (arith, s.order_new)) (omega arith)) (simp append_assoc)

-- By the law of the step, the new starts are those before it, those around it and the moved ones behind it. So they are
-- the starts that were kept, with the found ones between them.
pub found_touched :
    {types : LineEndTypes} {p e e' : ℕ} {f moved : ℕ → ℕ} {old new : List ℕ} (s : Replaces types p e e' f moved old new) (i j from to : ℕ)
    → i ≡ line_of (line_starts types old) (p - 1) + 1 → j ≡ line_of (line_starts types old) (last_touched types e) + 1
    → from ≡ max p 1 → to ≡ min (last_touched types e' + 1) (length new + 1)
    → take i (line_starts types old) ++ starts_within types new from to ++ map f (drop j (line_starts types old)) ≡ line_starts types new
found_touched {types} {p} {e} {e'} {f} {moved} {old} {new} s i j from to a b c d =
    let starts : List ℕ = line_starts types old in
    let end : ℕ = last_touched types e' + 1 in
    let near = touched_near types e' in
    let some : from ≤ to = omega (arith, near, s.order_new, s.size, s.within) in
    let past : starts_within types new to end ≡ [] = no_starts types new to end (λ k l m. no_start_past types new k (omega arith)) in
    let cut : starts_within types new p end ≡ starts_within types new p from ++ starts_within types new from to =
    starts_apart types new p from end (omega arith) (omega arith)
    ∙ ap (λ l. starts_within types new p from ++ l) (starts_apart types new from to end some (omega arith) ∙ rw past (append-nil (starts_within types new from to))) in
    let last : starts_from (last_touched types e + 1) starts ≡ drop j starts =
    starts_from_others types (last_touched types e + 1) old ∙ ap (λ k. drop k starts) (line_is_before types old (last_touched types e) (last_touched types e + 1) refl ∙ sym b) in
    sym (law_touched types p e e' f moved old new s ∙ rw (cut, last, ← (append_assoc (starts_before p starts) (starts_within types new p from) (starts_within types new from to)), front_starts types p old new i from a c) refl)
