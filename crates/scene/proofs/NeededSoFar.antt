-- What the changes so far need in undo or redo, and what the remaining ones need.
use Rattle.scene.proofs.Names.{◌≡◌, ℕ, ◌+◌, ◌^◌, ◌<◌, List, [], ◌∷◌, length, ap, ap₂, arith, slice_get, Some, get_or_from_slice_get, LineEndTypes, Change, View, DocumentNeed, need_of_change, nothing_needed, amount_sum, amounts_added, NoteRoom, note_room, notes_of_change, bytes_of_change, notes_of_changes, bytes_of_changes, free_behind, room_beside, room_of_changes, rooms_beside, capped, capped_notes, same_room}
use Rattle.scene.specs.declared.need.SceneNeed.{SceneNeed}
use Rattle.scene.specs.Undoing.{capped_room}

-- the amount so far and the remaining amount add up to the whole
abbrev pub IsSum : ℕ → ℕ → ℕ → Type 0
IsSum so_far rest whole = (so_far < 2 ^ 64) × (amount_sum so_far rest ≡ capped whole)

sum_next : (n c rest whole : ℕ) → IsSum n (c + rest) whole → IsSum (amount_sum n c) rest whole
sum_next n c rest whole so = let e = so.1 in (omega arith, omega arith)

sum_all : (n whole : ℕ) → IsSum n 0 whole → n ≡ capped whole
sum_all n whole so = let e = so.1 in let h : n < 2 ^ 64 = so.0 in omega arith

pub record IsNeededSoFar (views : List View) (who : ℕ) (types : LineEndTypes) (told free : ℕ) (rest all : List Change) (need : SceneNeed) : Type 0 where
  pub notes : IsSum need.notes.notes (notes_of_changes views who rest) (notes_of_changes views who all + told)
  pub texts : IsSum need.notes.bytes (bytes_of_changes views who rest) (bytes_of_changes views who all)
  pub text : IsSum need.document.text (rooms_beside types free rest).text (room_of_changes types all).text
  pub lines : IsSum need.document.lines (rooms_beside types free rest).lines (room_of_changes types all).lines
  pub insertions : IsSum need.document.insertions (rooms_beside types free rest).insertions (room_of_changes types all).insertions
  pub steps : IsSum need.document.steps (rooms_beside types free rest).steps (room_of_changes types all).steps
  pub bytes : IsSum need.document.bytes (rooms_beside types free rest).bytes (room_of_changes types all).bytes

abbrev pub history_need : NoteRoom → DocumentNeed → SceneNeed
history_need notes document = record { notes = notes; document = document }

pub needed_next : (views : List View) (who : ℕ) (types : LineEndTypes) (told free : ℕ) (c : Change) (after all : List Change) (need : SceneNeed)
    → IsNeededSoFar views who types told free (c ∷ after) all need → IsNeededSoFar views who types told (free_behind free c) after all (history_need
    (note_room (amount_sum need.notes.notes (notes_of_change views who c)) (amount_sum need.notes.bytes (bytes_of_change views who c)))
    (amounts_added need.document (room_beside types free c)))
needed_next views who types told free c after all need so =
    let room = room_beside types free c in
    let left = rooms_beside types (free_behind free c) after in
    let whole = room_of_changes types all in
    record {
      notes = sum_next need.notes.notes (notes_of_change views who c) (notes_of_changes views who after) (notes_of_changes views who all + told) so.notes;
      texts = sum_next need.notes.bytes (bytes_of_change views who c) (bytes_of_changes views who after) (bytes_of_changes views who all) so.texts;
      text = sum_next need.document.text room.text left.text whole.text so.text;
      lines = sum_next need.document.lines room.lines left.lines whole.lines so.lines;
      insertions = sum_next need.document.insertions room.insertions left.insertions whole.insertions so.insertions;
      steps = sum_next need.document.steps room.steps left.steps whole.steps so.steps;
      bytes = sum_next need.document.bytes room.bytes left.bytes whole.bytes so.bytes;
    }

module _ (views : List View) (who : ℕ) (types : LineEndTypes) (told free : ℕ) (all : List Change) (need : SceneNeed) (so : IsNeededSoFar views who types told free [] all need) where
  pub needed_notes : need.notes ≡ capped_notes (notes_of_changes views who all + told) (bytes_of_changes views who all)
  needed_notes = ap₂ note_room (sum_all need.notes.notes (notes_of_changes views who all + told) so.notes) (sum_all need.notes.bytes (bytes_of_changes views who all) so.texts)

  pub needed_room : need.document ≡ capped_room (room_of_changes types all)
  needed_room =
      let whole = room_of_changes types all in
      same_room _ _ _ _ _ _ _ _ _ _ (sum_all need.document.text whole.text so.text) (sum_all need.document.lines whole.lines so.lines)
      (sum_all need.document.insertions whole.insertions so.insertions) (sum_all need.document.steps whole.steps so.steps) (sum_all need.document.bytes whole.bytes so.bytes)

-- The need of one change is that of all.

pub one_change : (cs : List Change) (c : Change) → length cs ≡ 1 → slice_get cs 0 ≡ Some c → cs ≡ c ∷ []
one_change [] c l e = absurd (omega arith)
one_change (x ∷ []) c l e = let same : x ≡ c = get_or_from_slice_get (x ∷ []) 0 c x e in ap (λ y. y ∷ []) same
one_change (x ∷ y ∷ rest) c l e = absurd (omega arith)

pub notes_of_one : (views : List View) (who told : ℕ) (cs : List Change) (c : Change) (need : NoteRoom) → cs ≡ c ∷ [] → need ≡ note_room (notes_of_change views who c) (bytes_of_change views who c)
    → note_room (amount_sum need.notes told) (amount_sum need.bytes 0) ≡ capped_notes (notes_of_changes views who cs + told) (bytes_of_changes views who cs)
notes_of_one views who told cs c need e is =
    let n : need.notes ≡ notes_of_change views who c = ap (λ (r : NoteRoom). r.notes) is in
    let b : need.bytes ≡ bytes_of_change views who c = ap (λ (r : NoteRoom). r.bytes) is in
    let notes : amount_sum need.notes told ≡ capped (notes_of_changes views who (c ∷ []) + told) = omega arith in
    let shared : amount_sum need.bytes 0 ≡ capped (bytes_of_changes views who (c ∷ [])) = omega arith in
    rw e (ap₂ note_room notes shared)

pub room_of_one : (types : LineEndTypes) (cs : List Change) (c : Change) (need : DocumentNeed) → cs ≡ c ∷ [] → need ≡ need_of_change types c
    → amounts_added nothing_needed need ≡ capped_room (room_of_changes types cs)
room_of_one types cs c need e is =
    let r = need_of_change types c in
    rw (e, is) (same_room _ _ _ _ _ _ _ _ _ _ (omega arith) (omega arith) (omega arith) (omega arith) (omega arith))
