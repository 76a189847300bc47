-- Edits, undo and redo: what is asked for is what steps need, and steps in turn fit in the room that was made for all of them.
pub use Rattle.performing.proofs.Names.{◌≡◌, ℕ, ap, sym, [], ◌∷◌, List, length, refl, subst, ◌+◌, ◌-◌, ◌^◌, arith, ◌<◌, ◌≤◌, Document, is_large, Kept, HasRoom, FitsWidth, IsAtLeast, bound_of, DocumentNeed, less_room, Step, Insert, Delete, room_of_steps, capped, capped_room, IsCounted, SceneNeed, kept_scene, ◌==◌, ◌∙◌, true, false, ◌++◌, slice_range, ◌≢◌, eqb-true, eqb-false, nil_from_length, text_of, Scene, edit_made, step_made, sealed_scene, insertion, replacement, deletion, sealed_outside_groups, length_of_range, Gathered, LeavesRoom, need_of, need_of_step, with_history, seal_room, scene_in, notes_for, bytes_needed, held_behind, CanHold, CanHoldSteps, CanHoldEdit, NeedsAreEnough, with_room, deletion_needs, first_room, next_room, first_held, next_held, StepsFit, Entries, Entry, KeptView, min, TextStep, amount_sum, amounts_added, nothing_needed, free_behind, same_room, Bool, cond, changes_performed, transaction_performed, History, Change, ContainerStep, nat_lt, rules, bits_of, room_of_changes, edit_made_id, step_on, notes_of_step, bytes_of_step, leaving_count, watching, changes_lines, note_room}
use Rattle.ed_model.specs.declared.plan.LineEndTypes.{LineEndTypes}
use Rattle.ed_model.specs.Notes.{bit_if, multi_step}
use Rattle.document.specs.declared.text_step.TextStep.{TextStep as LentStep}
use Rattle.document.specs.declared.text_step.TextStep.TheVariants as lent
use Rattle.document.specs.TextSteps.{IsStepOn, need_on, step_on}

-- What is asked for is what the steps need, as far as it can be asked for: so it fits into the width, and is enough.

-- an amount below the greatest `usize` is no less than the one that it stands for
pub not_capped : (amount asked : ℕ) → asked ≡ capped amount → asked < 2 ^ 64 - 1 → amount ≤ asked
not_capped amount asked e h = omega arith

pub capped_fits : (d : Document) (room need : DocumentNeed) → need ≡ capped_room room → FitsWidth d (length d.cells + room.text) → FitsWidth d (length d.cells + need.text)
capped_fits d room need is fits = subst (λ (x : DocumentNeed). FitsWidth d (length d.cells + x.text)) (sym is) (less (length d.cells) room.text (bound_of (is_large d)) fits)
  where
    less : (n x bound : ℕ) → n + x < bound → n + capped x < bound
    less n x bound h = omega arith

counted_is_enough : (room : DocumentNeed) (need : SceneNeed) → need.document ≡ capped_room room → IsCounted need → IsAtLeast need.document room
counted_is_enough room need is c = record {
  text = not_capped room.text need.document.text (ap (λ (n : DocumentNeed). n.text) is) c.text;
  lines = not_capped room.lines need.document.lines (ap (λ (n : DocumentNeed). n.lines) is) c.lines;
  insertions = not_capped room.insertions need.document.insertions (ap (λ (n : DocumentNeed). n.insertions) is) c.insertions;
  steps = not_capped room.steps need.document.steps (ap (λ (n : DocumentNeed). n.steps) is) c.steps;
  bytes = not_capped room.bytes need.document.bytes (ap (λ (n : DocumentNeed). n.bytes) is) c.bytes;
}

-- room for what was asked for is room for what is needed, which only reads the document
pub room_made : (k : Kept) (d : Document) (room : Document → DocumentNeed) (need : SceneNeed) → k.document ≡ d → need.document ≡ capped_room (room d) → IsCounted need
    → HasRoom need.document k → HasRoom (room k.document) k
room_made k d room need same is counted has = subst (λ x. HasRoom (room x) k) (sym same) (less_room k (room d) need.document (counted_is_enough (room d) need is counted) has)

some : (n asked : ℕ) → asked ≡ capped (1 + n) → asked ≡ 0 → ⊥
some n asked e none = omega arith

-- where no step is asked for, there is none
pub no_steps : (types : LineEndTypes) (steps : List Step) (need : DocumentNeed) → need ≡ capped_room (room_of_steps types steps) → need.steps ≡ 0 → steps ≡ []
no_steps types [] need is none = refl
no_steps types (Insert place bytes ∷ steps) need is none = absurd (some _ need.steps (ap (λ (n : DocumentNeed). n.steps) is) none)
no_steps types (Delete place bytes ∷ steps) need is none = absurd (some _ need.steps (ap (λ (n : DocumentNeed). n.steps) is) none)

-- The steps of a replacement.

deletes_some : (start count : ℕ) (gone : List ℕ) → length gone ≡ count → count ≢ 0 → deletion start gone ≡ Delete start gone ∷ []
deletes_some start count [] long some = absurd (some (sym long))
deletes_some start count (b ∷ bs) long some = refl

inserts_some : (start : ℕ) (bytes : List ℕ) → false ≡ (length bytes == 0) → insertion start bytes ≡ Insert start bytes ∷ []
inserts_some start [] full = absurd (cc)
inserts_some start (b ∷ bs) full = refl

-- an insertion alone, a deletion alone, and both
module _ (d : Document) (start count : ℕ) (bytes : List ℕ) (range : start + count ≤ length d.cells) where
  pub inserts_alone : count ≡ 0 → false ≡ (length bytes == 0) → replacement start count bytes (text_of d) ≡ Insert start bytes ∷ []
  inserts_alone none full =
      ap (λ gone. deletion start gone ++ insertion start bytes) (nil_from_length (slice_range (text_of d) start (start + count)) (length_of_range d.cells start count range ∙ none))
      ∙ inserts_some start bytes full

  deletes_first : count ≢ 0 → replacement start count bytes (text_of d) ≡ Delete start (slice_range (text_of d) start (start + count)) ∷ insertion start bytes
  deletes_first some = ap (λ ss. ss ++ insertion start bytes) (deletes_some start count (slice_range (text_of d) start (start + count)) (length_of_range d.cells start count range) some)

  pub deletes_alone : count ≢ 0 → true ≡ (length bytes == 0) → replacement start count bytes (text_of d) ≡ Delete start (slice_range (text_of d) start (start + count)) ∷ []
  deletes_alone some none = deletes_first some ∙ ap (λ bs. Delete start (slice_range (text_of d) start (start + count)) ∷ insertion start bs) (nil_from_length bytes (eqb-true (length bytes) 0 (sym none)))

  pub both_steps : count ≢ 0 → false ≡ (length bytes == 0) → replacement start count bytes (text_of d) ≡ Delete start (slice_range (text_of d) start (start + count)) ∷ Insert start bytes ∷ []
  both_steps some full = deletes_first some ∙ ap (λ ss. Delete start (slice_range (text_of d) start (start + count)) ∷ ss) (inserts_some start bytes full)

-- Room for steps in turn is room for the first of them, also for a deletion as it is lent.
pub deletion_fits : (k : Kept) (start count : ℕ) (rest : List Step) → start + count ≤ length k.document.cells → StepsFit (Delete start (slice_range (text_of k.document) start (start + count)) ∷ rest) k
    → HasRoom (need_of k.document.line_end_types (lent.Delete start count)) k
deletion_fits k start count rest range room =
    let types = k.document.line_end_types in
    subst (λ need. HasRoom need k) (deletion_needs types k.document start count range) (first_room k types (Delete start (slice_range (text_of k.document) start (start + count))) rest room)

-- A document whose last transaction is sealed.
abbrev pub sealed_kept : Kept → Kept
sealed_kept k = with_history (sealed_outside_groups k.document.history) k

-- Two steps, between seals.
module _ (start count : ℕ) (bytes : List ℕ) (k : Kept) (views : Entries KeptView) (notes : Gathered) (range : start + count ≤ length k.document.cells) (some : count ≢ 0) (full : false ≡ (length bytes == 0)) where
  abbrev pub gone : Step
  gone = Delete start (slice_range (text_of k.document) start (start + count))

  abbrev pub come : Step
  come = Insert start bytes

  abbrev pub at_first : Scene
  at_first = kept_scene k views notes

  are_two : replacement start count bytes (text_of k.document) ≡ gone ∷ come ∷ []
  are_two = both_steps k.document start count bytes range some full

  -- there is room for both steps, and for the deletion, which is made on the sealed document

  both_fit : StepsFit (replacement start count bytes (text_of k.document)) k → StepsFit (gone ∷ come ∷ []) (sealed_kept k)
  both_fit room = seal_room k (room_of_steps k.document.line_end_types (gone ∷ come ∷ [])) (subst (λ ss. StepsFit ss k) are_two room)

  pub room_of_first : StepsFit (replacement start count bytes (text_of k.document)) k → HasRoom (need_of k.document.line_end_types (lent.Delete start count)) (sealed_kept k)
  room_of_first room = deletion_fits (sealed_kept k) start count (come ∷ []) range (both_fit room)

  -- the list of notes can hold those of both steps, and those of the deletion
  both_held : CanHoldEdit (replacement start count bytes (text_of k.document)) at_first notes → CanHoldSteps false (gone ∷ come ∷ []) (sealed_scene at_first) notes
  both_held h = subst (λ ss. CanHoldEdit ss at_first notes) are_two h

  pub first_of_two : CanHoldEdit (replacement start count bytes (text_of k.document)) at_first notes → CanHold notes (step_made false gone (sealed_scene at_first)) (held_behind false gone (sealed_scene at_first) notes.held)
  first_of_two h = first_held false gone (come ∷ []) (sealed_scene at_first) notes (both_held h)

  module _ (k2 : Kept) (views2 : Entries KeptView) (notes2 : Gathered) (made : kept_scene k2 views2 notes2 ≡ step_made false gone (sealed_scene at_first)) where
    pub second_of_two : CanHoldEdit (replacement start count bytes (text_of k.document)) at_first notes → notes2.capacity ≡ notes.capacity
        → notes2.held ≡ held_behind false gone (sealed_scene at_first) notes.held → CanHoldSteps true (come ∷ []) (kept_scene k2 views2 notes2) notes2
    second_of_two h same held = next_held false gone (come ∷ []) (sealed_scene at_first) (kept_scene k2 views2 notes2) notes notes2 (both_held h) made same held

    pub second_room : StepsFit (replacement start count bytes (text_of k.document)) k → LeavesRoom gone (sealed_kept k) k2 → HasRoom (need_of_step k2.document.line_end_types come) k2
    second_room room left =
        subst (λ t. HasRoom (need_of_step t come) k2) (sym (ap (λ (x : Scene). x.document.line_end_types) made))
        (first_room k2 k.document.line_end_types come [] (next_room (sealed_kept k) k2 gone (come ∷ []) (both_fit room) left))

    pub two_made : (after : Scene) → after ≡ step_made true come (kept_scene k2 views2 notes2) → sealed_scene after ≡ edit_made (replacement start count bytes (text_of k.document)) at_first
    two_made after next = ap sealed_scene (next ∙ ap (step_made true come) made) ∙ sym (ap (λ ss. edit_made ss at_first) are_two)

-- What steps need does not depend on the notes before them.
needs_alike : (steps : List Step) (scene : Scene) (g : Gathered) → notes_for steps (record scene { notes = g.notes }) ≡ notes_for steps scene
needs_alike [] scene g = refl
needs_alike (step ∷ steps) scene g = refl

-- After room for the notes that an edit needs was made, the list can hold them.
pub edit_held : NeedsAreEnough → (steps : List Step) (d : Document) (views : List (Entry KeptView)) (g g' : Gathered) (need : SceneNeed) → g' ≡ with_room need.notes.notes need.notes.bytes g
    → need.notes.notes ≡ capped (notes_for steps (scene_in d views [])) → need.notes.bytes ≡ capped (bytes_needed (scene_in d views []) steps) → IsCounted need → CanHoldEdit steps (scene_in d views g'.notes) g'
edit_held law steps d views g g' need made notes_are bytes_are counted =
    let few = not_capped (notes_for steps (scene_in d views [])) need.notes.notes notes_are counted.notes in
    let short = not_capped (bytes_needed (scene_in d views []) steps) need.notes.bytes bytes_are counted.note_bytes in let scene = scene_in d views g'.notes in
    let alike = needs_alike steps (scene_in d views []) g' in let most = law steps scene g'.held in let n = most.0 in let t = most.1 in
    let length_is = ap (λ (x : Gathered). length x.notes) made in let held_is = ap (λ (x : Gathered). x.held) made in let notes_fit = ap (λ (x : Gathered). x.capacity.notes) made in
    let bytes_fit = ap (λ (x : Gathered). x.capacity.bytes) made in
    (omega arith, omega arith)

-- What one step needs, and two, is what an edit with these steps needs.

of_text : (a : ℕ) → amount_sum a 0 ≡ capped (a - 0 + 0)
of_text a = omega arith

-- an amount that is one step's, and the same with a second step
pub and_leaving : (a left : ℕ) → amount_sum a left ≡ capped (left + (a + 0))
and_leaving a left = omega arith

pub and_none : (a : ℕ) → amount_sum a 0 ≡ capped (a + 0)
and_none a = omega arith

pub then_leaving : (left a b : ℕ) → amount_sum (capped (left + (a + 0))) b ≡ capped (left + (a + (b + 0)))
then_leaving left a b = omega arith

pub then_more : (a b : ℕ) → amount_sum (capped (a + 0)) b ≡ capped (a + (b + 0))
then_more a b = omega arith

pub one_room : (types : LineEndTypes) (step : Step) (room : DocumentNeed) → room ≡ need_of_step types step → amounts_added room nothing_needed ≡ capped_room (room_of_steps types (step ∷ []))
one_room types step room is =
    rw is (let x = need_of_step types step in same_room _ _ _ _ _ _ _ _ _ _ (of_text x.text) (and_none x.lines) (and_none x.insertions) (and_none x.steps) (and_none x.bytes))

pub same_need : {n n' b b' : ℕ} {d d' : DocumentNeed} → n ≡ n' → b ≡ b' → d ≡ d'
    → let x : SceneNeed = record { notes = note_room n b; document = d } in let y : SceneNeed = record { notes = note_room n' b'; document = d' } in x ≡ y
same_need p q r = cc

-- what a lent step needs is what the model's step needs
pub lent_needs : (k : Kept) (step : LentStep) → IsStepOn step (length k.document.cells) → need_on k step ≡ need_of_step k.document.line_end_types (step_on k step)
lent_needs k (lent.Insert place bytes) h = refl
lent_needs k (lent.Delete place count) h = sym (deletion_needs k.document.line_end_types k.document place count h)

-- A deletion leaves room for all bytes that it takes out, and an insertion of them needs that much less.
frees_all : (start count : ℕ) (bytes : List ℕ) → length bytes ≡ count → count ≤ 2 ^ 64 - 1 → free_behind 0 (TextStep (Delete start bytes)) ≡ count
frees_all start count bytes long small = go (length bytes) (2 ^ 64 - 1) long small
  where
    go : (n m : ℕ) → n ≡ count → count ≤ m → min (0 + n) m ≡ count
    go n m e h = omega arith

pub two_rooms : (types : LineEndTypes) (start count : ℕ) (bytes : List ℕ) (come : Step) → length bytes ≡ count → count ≤ 2 ^ 64 - 1 → let gone = Delete start bytes in let need = need_of_step types come in
    amounts_added (capped_room (room_of_steps types (gone ∷ []))) (record need { text = need.text - count }) ≡ capped_room (room_of_steps types (gone ∷ come ∷ []))
two_rooms types start count bytes come long small =
    let x = need_of_step types (Delete start bytes) in let y = need_of_step types come in
    same_room _ _ _ _ _ _ _ _ _ _ (text x.text y.text (free_behind 0 (TextStep (Delete start bytes))) (frees_all start count bytes long small))
    (then_more x.lines y.lines) (then_more x.insertions y.insertions) (then_more x.steps y.steps) (then_more x.bytes y.bytes)
  where
    text : (a b free : ℕ) → free ≡ count → amount_sum (capped (a - 0 + 0)) (b - count) ≡ capped (a - 0 + (b - free + 0))
    text a b free e = omega arith

-- Undo and redo keep the document's id.

changes_keep_id : (who several : ℕ) (lines_changed : Bool) (cs : List Change) (scene : Scene) → (changes_performed who several lines_changed cs scene).document.id ≡ scene.document.id
changes_keep_id who several lines_changed [] scene = refl
changes_keep_id who several lines_changed (TextStep step ∷ cs) scene = changes_keep_id who several (cond lines_changed true (changes_lines (TextStep step) scene.document)) cs _
changes_keep_id who several lines_changed (ContainerStep token coalesce ∷ cs) scene = changes_keep_id who several (cond lines_changed true (changes_lines (ContainerStep token coalesce) scene.document)) cs _

pub transaction_keeps_id : (who : ℕ) (cs : List Change) (new : History) (scene : Scene) → (transaction_performed who cs new scene).document.id ≡ scene.document.id
transaction_keeps_id who cs new scene = changes_keep_id who (bit_if (nat_lt 1 (length cs)) multi_step) false cs scene
