-- The changes of undo or redo that were performed, and those that are still to be performed.
use Rattle.scene.proofs.Names.{◌≡◌, ℕ, ◌+◌, ◌-◌, ◌<◌, Bool, true, false, List, [], ◌∷◌, length, drop, get_or, refl, ap, sym, ◌∙◌, subst, arith, inl, inr, ◌==◌, ◌&&◌, ◌||◌, bit_and, nat_lt, slice_get, Some, length-drop, and_parts, eq-eqb, ne_eqb, eqb-true, or_cases, slice_get-get_or, bit_if, multi_step, CellsFollowBytes, Change, TextStep, ContainerStep, Document, text_of, watching, AreStepsOf, text_steps, Scene, is_last, change_performed, changes_performed, Entries, Gathered, NoteCapacity, CanPut, is_full, KeptView, Direction, Kept, HasTextRoom, changes_of, save_point_told, kept_scene, watchers, IsWatched, RoomsStay, hearers, masks_of, bits_of, every_kind, notes_of_changes, notes_of_change, bytes_of_changes, history_bytes, room_of_changes, save_point_notes, several_bits, CanPerform, IsPerformed, first_change, next_change}
use Rattle.scene.specs.declared.performing.Turn.{Turn}
use Rattle.scene.specs.Performed.{CanPerformAll, AreAllPerformed}
use Rattle.scene.proofs.KindLemmas.{none_by_masks}
use Rattle.scene.proofs.ChangeNotes.{HearAlike, hear_alike_still, notes_alike, bytes_alike, none_of_all, performed_few, still_none}
use Rattle.scene.proofs.ChangeSteps.{drop_some, next_fits, steps_left}
use Rattle.scene.proofs.Staying.{stay_both, views_same}

-- the bit that the transaction has several changes
abbrev pub several_of : Direction → Kept → ℕ
several_of direction k = bit_if (nat_lt 1 (length (changes_of direction k.document.history))) multi_step

pub record IsPerformedSoFar (direction : Direction) (rest : List Change) (changed : Bool) (old : Kept) (views : Entries KeptView) (gathered : Gathered)
    (now : Kept) (views' : Entries KeptView) (gathered' : Gathered) : Type 0 where
  pub scene : changes_performed (bits_of direction) (several_of direction old) changed rest (kept_scene now views' gathered')
      ≡ changes_performed (bits_of direction) (several_of direction old) false (changes_of direction old.document.history) (kept_scene old views gathered)
  pub watched : IsWatched now.document views'
  pub history : now.document.history ≡ old.document.history
  pub steps : AreStepsOf (text_of now.document) (text_steps rest)
  pub room : HasTextRoom (room_of_changes now.document.line_end_types rest) now
  pub rooms : RoomsStay old now views views' gathered gathered'
  pub notes : CanPut (notes_of_changes (watchers now.document views') (bits_of direction) rest
      + save_point_notes (save_point_told direction old.document.history) (length (watchers now.document views'))) gathered'
  pub hear : (k : ℕ) → hearers k (watchers now.document views') ≡ hearers k (watchers old.document views)
  pub held : gathered'.held + bytes_of_changes (watchers now.document views') (bits_of direction) rest ≡ gathered.held + history_bytes direction old views

pub performed_none : (direction : Direction) (old : Kept) (views : Entries KeptView) (gathered : Gathered) → CanPerformAll direction old views gathered
    → IsPerformedSoFar direction (changes_of direction old.document.history) false old views gathered old views gathered
performed_none direction old views gathered can = record {
  scene = refl;
  watched = can.watched;
  history = refl;
  steps = can.steps;
  room = can.room;
  rooms = record { memory = refl; capacity = refl; table = views_same };
  notes = can.notes;
  hear = λ k. refl;
  held = refl;
}

-- if it is known that no view hears any change, the changes need no notes
pub quiet_notes : (direction : Direction) (k : Kept) (views : Entries KeptView) (gathered : Gathered) (several quiet : Bool) → CanPerformAll direction k views gathered
    → quiet ≡ (is_full gathered || (several && (bit_and (masks_of (watchers k.document views)) (every_kind (bits_of direction)) == 0))) → quiet ≡ true
    → notes_of_changes (watchers k.document views) (bits_of direction) (changes_of direction k.document.history) ≡ 0
quiet_notes direction k views gathered several quiet can e is =
    let W = watchers k.document views in
    let who = bits_of direction in
    let all = changes_of direction k.document.history in
    elim (or_cases (is_full gathered) (several && (bit_and (masks_of W) (every_kind who) == 0)) (sym e ∙ is)) [
      | inl full ↦
          let none = eqb-true (length gathered.notes) gathered.capacity.notes full in
          let there : CanPut (notes_of_changes W who all + save_point_notes (save_point_told direction k.document.history) (length W)) gathered = can.notes in
          omega arith
      | inr apart ↦ none_of_all direction all W (none_by_masks (every_kind who) W (eqb-true _ 0 (and_parts several (bit_and (masks_of W) (every_kind who) == 0) apart).1))
    ]

-- and the next change needs none, either
pub still_quiet : (direction : Direction) (rest : List Change) (changed : Bool) (old now : Kept) (views views' : Entries KeptView) (gathered gathered' : Gathered) (i : ℕ) (c : Change)
    → IsPerformedSoFar direction rest changed old views gathered now views' gathered'
    → notes_of_changes (watchers old.document views) (bits_of direction) (changes_of direction old.document.history) ≡ 0
    → slice_get (changes_of direction now.document.history) i ≡ Some c → notes_of_change (watchers now.document views') (bits_of direction) c ≡ 0
still_quiet direction rest changed old now views views' gathered gathered' i c so none at =
    still_none (bits_of direction) (changes_of direction old.document.history) i c (watchers now.document views') (watchers old.document views) so.hear
    (subst (λ h. slice_get (changes_of direction h) i ≡ Some c) so.history at) none

-- The change whose turn it is.

pub there : {X : Type 0} (xs : List X) (i : ℕ) → i < length xs → (x : X) × (slice_get xs i ≡ Some x)
there [] i h = absurd (omega arith)
there (x ∷ xs) i h = (get_or (x ∷ xs) i x, slice_get-get_or (x ∷ xs) i x h)

pub last_is : (cs : List Change) (i : ℕ) → i < length cs → (i + 1 == length cs) ≡ is_last (drop (i + 1) cs)
last_is cs i h = go (drop (i + 1) cs) (length-drop (i + 1) cs)
  where
    go : (rest : List Change) → length rest ≡ length cs - (i + 1) → (i + 1 == length cs) ≡ is_last rest
    go [] e = eq-eqb (i + 1) (length cs) (omega arith)
    go (c ∷ rest) e = ne_eqb (i + 1) (length cs) (λ same. omega arith)

module _ (turn : Turn) (c : Change) (after : List Change) (changed : Bool) (old now : Kept) (views views' : Entries KeptView) (gathered gathered' : Gathered)
    (so : IsPerformedSoFar turn.direction (c ∷ after) changed old views gathered now views' gathered') where
  pub next_can : CanPerformAll turn.direction old views gathered → slice_get (changes_of turn.direction old.document.history) turn.index ≡ Some c
      → CanPerform turn now views' gathered' c
  next_can can at =
      let notes = so.notes in
      let texts = so.held in
      let there = can.texts in
      let fit = ap (λ (c : NoteCapacity). c.bytes) so.rooms.capacity in
      record {
        at = subst (λ h. slice_get (changes_of turn.direction h) turn.index ≡ Some c) (sym so.history) at;
        fits = next_fits c after (text_of now.document) so.steps;
        room = first_change now now.document.line_end_types c after so.room;
        watched = so.watched;
        notes = omega arith;
        texts = omega arith;
      }

  module _ (changed' : Bool) (new : Kept) (views'' : Entries KeptView) (gathered'' : Gathered) (law : CellsFollowBytes) (several : turn.several ≡ nat_lt 1 (length (changes_of turn.direction old.document.history))) (last : turn.last ≡ is_last after)
      (p : IsPerformed turn changed changed' now views' gathered' new views'' gathered'' c) where
    abbrev before : Scene
    before = kept_scene now views' gathered'

    -- a change keeps the history and the kind of line ends
    kept_by : (c : Change) (who bits : ℕ) (last changed : Bool) (scene : Scene) → let d = (change_performed who bits last changed c scene).document in
        (d.history ≡ scene.document.history) × (d.line_end_types ≡ scene.document.line_end_types)
    kept_by (TextStep s) who bits last changed scene = (refl, refl)
    kept_by (ContainerStep token coalesce) who bits last changed scene = (refl, refl)

    alike : HearAlike (watchers new.document views'') (watchers now.document views')
    alike = subst (λ (s : Scene). HearAlike (watching s.views s.document) (watchers now.document views')) (sym p.scene)
        (hear_alike_still (bits_of turn.direction) (several_bits turn) turn.last changed' c before)

    scene_next : changes_performed (bits_of turn.direction) (several_of turn.direction old) changed' after (kept_scene new views'' gathered'')
        ≡ changes_performed (bits_of turn.direction) (several_of turn.direction old) changed (c ∷ after) before
    scene_next =
        let who = bits_of turn.direction in
        let bits = several_of turn.direction old in
        ap (changes_performed who bits changed' after) p.scene
        ∙ ap (λ b. changes_performed who bits changed' after (change_performed who (bit_if b multi_step) turn.last changed' c before)) several
        ∙ ap (λ b. changes_performed who bits changed' after (change_performed who bits b changed' c before)) last
        ∙ ap (λ b. changes_performed who bits b after (change_performed who bits (is_last after) b c before)) p.lines

    pub performed_next : IsPerformedSoFar turn.direction after changed' old views gathered new views'' gathered''
    performed_next =
        let who = bits_of turn.direction in
        let W = watchers now.document views' in
        let document = ap (λ (s : Scene). s.document) p.scene in
        let kept = kept_by c who (several_bits turn) turn.last changed' before in
        let put : length gathered''.notes ≡ length (change_performed who (several_bits turn) turn.last changed' c before).notes = ap (λ (s : Scene). length s.notes) p.scene in
        let few = performed_few turn.direction turn.several turn.last changed' c before in
        let told = save_point_told turn.direction old.document.history in
        let notes = so.notes in
        let texts = so.held in
        let fit = ap (λ (c : NoteCapacity). c.notes) p.rooms.capacity in
        let held = p.held in
        let same_notes = notes_alike who after (watchers new.document views'') W alike in
        let same_bytes = bytes_alike who after (watchers new.document views'') W alike in
        let same_told = ap (save_point_notes told) alike.count in
        record {
          scene = scene_next ∙ so.scene;
          watched = p.watched;
          history = ap (λ (d : Document). d.history) document ∙ kept.0 ∙ so.history;
          steps = subst (λ (d : Document). AreStepsOf (text_of d) (text_steps after)) (sym document) (steps_left law who (several_bits turn) turn.last changed' c after before so.steps);
          room = subst (λ t. HasTextRoom (room_of_changes t after) new) (sym (ap (λ (d : Document). d.line_end_types) document ∙ kept.1)) (next_change now new c after so.room p.room);
          rooms = stay_both so.rooms p.rooms;
          notes = omega arith;
          hear = λ k. alike.hear k ∙ so.hear k;
          held = omega arith;
        }

-- the change whose turn it is, from the changes that are left
pub can_at : (turn : Turn) (changed : Bool) (old now : Kept) (views views' : Entries KeptView) (gathered gathered' : Gathered) → let all = changes_of turn.direction old.document.history in
    IsPerformedSoFar turn.direction (drop turn.index all) changed old views gathered now views' gathered' → CanPerformAll turn.direction old views gathered → turn.index < length all
    → (c : Change) × CanPerform turn now views' gathered' c × (slice_get all turn.index ≡ Some c)
can_at turn changed old now views views' gathered gathered' so can within =
    let all = changes_of turn.direction old.document.history in
    let next = there all turn.index within in
    (next.0, next_can turn next.0 (drop (turn.index + 1) all) changed old now views views' gathered gathered' (rw (drop_some all turn.index next.0 next.1) at so) can next.1, next.1)

pub performed_all : (direction : Direction) (changed : Bool) (old now : Kept) (views views' : Entries KeptView) (gathered gathered' : Gathered)
    → IsPerformedSoFar direction [] changed old views gathered now views' gathered' → AreAllPerformed direction old views gathered now views' gathered'
performed_all direction changed old now views views' gathered gathered' so =
    let notes = so.notes in
    let texts = so.held in
    record { scene = so.scene; history = so.history; watched = so.watched; rooms = so.rooms; left = omega arith; held = omega arith }
