-- A text that keeps to its limit is within the width of its document's places.
use Rattle.editor_session.proofs.Names.{arith, ◌≡◌, ℕ, ◌+◌, ◌-◌, ◌≤◌, ◌<◌, ◌^◌, min, nat_le, true, false, cond, List, [], ◌∷◌, map, length, refl, ap, sym, subst, slice_range, and_parts, leb-true, length-take, length-drop, length-map, Limits, stays_within, Change, TextStep, ContainerStep, IsRoomFor, IsSoundRequest, Request, text, Document, is_allowed, is_large, limit_of, text_of, AreStepsOf, Step, Insert, Delete, edited, Cell, length-inserted, length-deleted_within, request_document, FitsWidth, bound_of, room_of_steps_beside, free_behind, rooms_beside, StepsFitWidth, ChangesFitWidth}
use Rattle.ed_model.specs.declared.plan.LineEndTypes.{LineEndTypes}
use Rattle.ed_model.specs.InverseLaws.{Fits}
use Rattle.ed_model.specs.UndoPlans.{text_steps}
use Rattle.ed_model.specs.proved.Limits.{allowed_lengths}

-- a deletion's bytes are in the text
deleted_within : (p : ℕ) (bytes text : List ℕ) → Fits (Delete p bytes) text → p + length bytes ≤ length text
deleted_within p bytes text fits =
    let cut : length (slice_range text p (p + length bytes)) ≡ min (p + length bytes - p) (length text - p) = simp (length-take, length-drop) in
    let whole : length (slice_range text p (p + length bytes)) ≡ length bytes = ap length fits.1 in
    let there : p ≤ length text = fits.0 in
    within p (length bytes) (length text) (length (slice_range text p (p + length bytes))) there cut whole
  where
    within : (p n size cut : ℕ) → p ≤ size → cut ≡ min (p + n - p) (size - p) → cut ≡ n → p + n ≤ size
    within p n size cut there is whole = omega arith

-- The text never grows past its limit, so neither does the capacity that is asked for it: earlier changes have freed `free` bytes.
grows : (types : LineEndTypes) (limit free : ℕ) (text : List ℕ) (cs : List Change) → limit < 2 ^ 64 - 1 → AreStepsOf text (text_steps cs) → stays_within limit (length text) (text_steps cs) ≡ true
    → length text + free ≤ limit → (rooms_beside types free cs).text + (length text + free) ≤ limit
grows types limit free text [] small steps within fits = omega (arith, fits)
grows types limit free text (ContainerStep token coalesce ∷ cs) small steps within fits =
    none free (length text) limit (rooms_beside types free cs).text (grows types limit free text cs small steps within fits)
  where
    none : (free len limit x : ℕ) → x + (len + free) ≤ limit → 0 - free + x + (len + free) ≤ limit
    none free len limit x h = omega arith
grows types limit free text (TextStep (Insert p bytes) ∷ cs) small steps within fits =
    let parts = and_parts (nat_le (length text + length bytes) limit) (stays_within limit (length text + length bytes) (text_steps cs)) within in
    let longer = length-inserted p bytes text in
    let now = length (edited (Insert p bytes) text) in
    put (length bytes) free (length text) now limit (rooms_beside types (free - length bytes) cs).text longer
    (grows types limit (free - length bytes) (edited (Insert p bytes) text) cs small steps.1 (subst (λ n. stays_within limit n (text_steps cs) ≡ true) (sym longer) parts.1)
    (left (length bytes) free (length text) now limit longer (leb-true (length text + length bytes) limit parts.0) fits))
  where
    left : (n free len now limit : ℕ) → now ≡ len + n → len + n ≤ limit → len + free ≤ limit → now + (free - n) ≤ limit
    left n free len now limit e h f = omega arith

    put : (n free len now limit x : ℕ) → now ≡ len + n → x + (now + (free - n)) ≤ limit → n - free + x + (len + free) ≤ limit
    put n free len now limit x e h = omega arith
grows types limit free text (TextStep (Delete p bytes) ∷ cs) small steps within fits =
    let parts = and_parts (nat_le (length text - length bytes) limit) (stays_within limit (length text - length bytes) (text_steps cs)) within in
    let there = deleted_within p bytes text steps.0.0 in let shorter = length-deleted_within p bytes text there in
    let now = length (edited (Delete p bytes) text) in
    let more = min (free + length bytes) (2 ^ 64 - 1) in
    gone p (length bytes) free (length text) now limit (2 ^ 64 - 1) (rooms_beside types more cs).text shorter there small fits
    (grows types limit more (edited (Delete p bytes) text) cs small steps.1 (subst (λ n. stays_within limit n (text_steps cs) ≡ true) (sym shorter) parts.1)
    (left p (length bytes) free (length text) now limit (2 ^ 64 - 1) shorter there fits))
  where
    left : (p n free len now limit m : ℕ) → now ≡ len - n → p + n ≤ len → len + free ≤ limit → now + min (free + n) m ≤ limit
    left p n free len now limit m e h f = omega arith

    gone : (p n free len now limit m x : ℕ) → now ≡ len - n → p + n ≤ len → limit < m → len + free ≤ limit → x + (now + min (free + n) m) ≤ limit → 0 - free + x + (len + free) ≤ limit
    gone p n free len now limit m x e h small f r = omega arith

-- The steps of an edit need as much capacity of the text as the same steps in the history.
same_text_room : (types : LineEndTypes) (free : ℕ) (steps : List Step) → (room_of_steps_beside types free steps).text ≡ (rooms_beside types free (map TextStep steps)).text
same_text_room types free [] = refl
same_text_room types free (Insert p bytes ∷ steps) = ap (λ x. length bytes - free + x) (same_text_room types (free - length bytes) steps)
same_text_room types free (Delete p bytes ∷ steps) = ap (λ x. 0 - free + x) (same_text_room types (free_behind free (TextStep (Delete p bytes))) steps)

text_steps_of : (steps : List Step) → text_steps (map TextStep steps) ≡ steps
text_steps_of [] = refl
text_steps_of (step ∷ steps) = ap (λ ss. step ∷ ss) (text_steps_of steps)

-- a limit is less than the width of places, and than the greatest `usize`
limit_below : (l : Limits) (d : Document) → is_allowed l ≡ true → (limit_of l d < bound_of (is_large d)) × (limit_of l d < 2 ^ 64 - 1)
limit_below l d h =
    let large = (allowed_lengths l h).1 in let small = (allowed_lengths l h).0 in
    elim (is_large d) as (λ b. (cond b l.large_bytes l.doc_bytes < bound_of b) × (cond b l.large_bytes l.doc_bytes < 2 ^ 64 - 1))
    [ true ↦ (omega (arith, large), omega (arith, large)) | false ↦ (omega (arith, small), omega (arith, small)) ]

module _ (r : Request) (allowed : is_allowed r.session.limits ≡ true) (sound : IsSoundRequest r) where
  -- changes whose texts keep to the limit
  pub changes_fit_width : (cs : List Change) → AreStepsOf (text r) (text_steps cs) → IsRoomFor r (text_steps cs) → ChangesFitWidth r.document cs
  changes_fit_width cs steps within =
      let d = r.document in let limit = limit_of r.session.limits d in
      let below = limit_below r.session.limits d allowed in
      let long : length (text_of d) ≡ length d.cells = length-map d.cells (λ (c : Cell). c.byte) in
      let whole = request_document r sound in
      let most = grows d.line_end_types limit 0 (text_of d) cs below.1 steps (subst (λ n. stays_within limit n (text_steps cs) ≡ true) (sym long) within) (start (length (text_of d)) (length d.cells) limit long whole.bounded) in
      short (rooms_beside d.line_end_types 0 cs).text (length (text_of d)) (length d.cells) limit (bound_of (is_large d)) long most below.0
    where
      start : (n cells limit : ℕ) → n ≡ cells → cells ≤ limit → n + 0 ≤ limit
      start n cells limit e h = omega arith

      short : (x n cells limit bound : ℕ) → n ≡ cells → x + (n + 0) ≤ limit → limit < bound → cells + x < bound
      short x n cells limit bound e h b = omega arith

  -- steps whose texts keep to the limit
  pub steps_fit_width : (steps : List Step) → AreStepsOf (text r) steps → IsRoomFor r steps → StepsFitWidth r.document steps
  steps_fit_width steps fit within =
      let d = r.document in let is = text_steps_of steps in
      subst (λ x. FitsWidth d (length d.cells + x)) (sym (same_text_room d.line_end_types 0 steps))
      (changes_fit_width (map TextStep steps) (subst (λ ss. AreStepsOf (text r) ss) (sym is) fit) (subst (λ ss. IsRoomFor r ss) (sym is) within))
