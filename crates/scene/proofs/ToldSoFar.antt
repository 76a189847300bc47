-- The views that were notified of a note, and those that are still to be notified, while one after the other gets its note.
use Rattle.scene.proofs.Names.{◌≡◌, ℕ, ◌+◌, ◌≤◌, true, List, [], ◌∷◌, ◌++◌, length, refl, ap, sym, ◌∙◌, subst, arith, append_assoc, length-append, append-nil, length-map, eqb-true, Notice, with_text, Note, told, View, Gathered, NoteCapacity, CanPut, is_full, NoteText, Empty, Shared, with_note_text, with_notes}

pub record IsToldSoFar (note : Notice) (whole rest : List View) (old now : Gathered) : Type 0 where
  pub notes : now.notes ++ told rest note ≡ old.notes ++ told whole note
  pub others : now ≡ record old { notes = now.notes }

pub told_none : (note : Notice) (whole : List View) (old : Gathered) → IsToldSoFar note whole whole old old
told_none note whole old = record { notes = refl; others = refl }

-- the next view is notified
pub told_one : (note x : Notice) (whole next : List View) (v : View) (old now new : Gathered) → IsToldSoFar note whole (v ∷ next) old now
    → x ≡ record note { view = v.id } → new ≡ record now { notes = now.notes ++ x ∷ [] } → IsToldSoFar note whole next old new
told_one note x whole next v old now new so same put =
    rw put (record {
      notes = append_assoc now.notes (x ∷ []) (told next note) ∙ ap (λ y. now.notes ++ y ∷ told next note) same ∙ so.notes;
      others = ap (λ (g : Gathered). record g { notes = now.notes ++ x ∷ [] }) so.others;
    })

pub told_all : (note : Notice) (whole : List View) (old now : Gathered) → IsToldSoFar note whole [] old now → now ≡ with_notes (told whole note) old
told_all note whole old now so = so.others ∙ ap (λ ns. record old { notes = ns }) (sym (append-nil now.notes) ∙ so.notes)

-- if no more notes fit in, no view is in the audience
pub told_nobody : (note : Notice) (whole : List View) (old : Gathered) → is_full old ≡ true → CanPut (length whole) old → old ≡ with_notes (told whole note) old
told_nobody note [] old full room = ap (λ ns. record old { notes = ns }) (sym (append-nil old.notes))
told_nobody note (v ∷ vs) old full room = let e = eqb-true (length old.notes) old.capacity.notes full in absurd (omega arith)

pub length_told : (views : List View) (n : Notice) → length (told views n) ≡ length views
length_told views n = length-map views (λ (v : View). record n { view = v.id })

-- the next note fits in
pub room_for_one : (note : Notice) (whole next : List View) (v : View) (old now : Gathered) → IsToldSoFar note whole (v ∷ next) old now → CanPut (length whole) old → CanPut 1 now
room_for_one note whole next v old now so room =
    let n = ap length so.notes in
    let same = ap (λ (g : Gathered). g.capacity.notes) so.others in
    let a = length-append now.notes (told (v ∷ next) note) in
    let b = length-append old.notes (told whole note) in
    let c = length_told (v ∷ next) note in
    let d = length_told whole note in
    omega arith

-- the note for a view, with its text
pub note_for_text : (t : NoteText) (note made : Note) (id id' : ℕ) (shared shared' : List ℕ) → ((text : List ℕ) → with_text made text ≡ record (with_text note text) { view = id })
    → id ≡ id' → shared ≡ shared' → with_note_text t made shared ≡ record (with_note_text t note shared') { view = id' }
note_for_text Empty note made id id' shared shared' h e f = subst (λ i. with_text made [] ≡ record (with_text note []) { view = i }) e (h [])
note_for_text Shared note made id id' shared shared' h e f =
    subst (λ i. with_text made shared ≡ record (with_text note shared') { view = i }) e
    (subst (λ s. with_text made shared ≡ record (with_text note s) { view = id }) f (h shared))

-- Notes of one step, one list after the other.

-- after a text was shared without a note
pub heard_in_order : (first second : List Notice) (old shared next now : Gathered) → shared.notes ≡ old.notes
    → next ≡ with_notes first shared → now ≡ with_notes second next → now ≡ record shared { notes = old.notes ++ first ++ second }
heard_in_order first second old shared next now notes one two =
    two ∙ ap (with_notes second) one ∙ ap (λ ns. record shared { notes = ns ++ first ++ second }) notes

pub heard_last : (earlier third : List Notice) (before now : Gathered) → before.notes ≡ earlier → now ≡ with_notes third before → now.notes ≡ earlier ++ third
heard_last earlier third before now notes put = ap (λ (g : Gathered). g.notes) put ∙ ap (λ ns. ns ++ third) notes

-- the last notes fit in if all do
pub last_fit : (earlier third : List Notice) (old before : Gathered) → before.notes ≡ earlier → before.capacity ≡ old.capacity
    → length (earlier ++ third) ≤ old.capacity.notes → CanPut (length third) before
last_fit earlier third old before notes same fits =
    let n = ap length notes in
    let c = ap (λ (c : NoteCapacity). c.notes) same in
    let l = length-append earlier third in
    omega arith

pub length_parts : (a b c d : List Notice) → length (a ++ b ++ c ++ d) ≡ length a + (length b + (length c + length d))
length_parts a b c d = simp length-append (omega arith)
