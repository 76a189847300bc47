-- Steps in turn, from the room that was reserved for all of them.
use Rattle.scene.proofs.Names.{zero, suc, ◌≡◌, ℕ, ◌+◌, ◌≤◌, Bool, true, false, List, [], ◌∷◌, ◌++◌, length, refl, ap, sym, ◌∙◌, subst, arith, slice_range, length-append, LineEnd, Step, Insert, Delete, edited, after_steps, conversion_steps, unwanted_from, Document, text_of, Scene, step_made, steps_made, bytes_of_edited_cells, length_of_range, length_text, Kept, HasRoom, LeavesRoom, need_of, Entries, KeptView, Gathered, IsNextMissing, IsNextUnwanted, completed, missing_in, unwanted_in, kept_scene, IsWatched, held_behind, next_held, deletion_needs, first_room, next_room, AreLeft, RoomsStay, deletions_of, room_of_steps}
use Rattle.ed_model.specs.proved.Steps.{length-inserted, length-deleted_within}
use Rattle.document.specs.declared.text_step.TextStep.TheVariants as lent
use Rattle.scene.proofs.Staying.{stay_both}

-- The text after a step.

pub text_after : (later : Bool) (s : Step) (scene after : Scene) → after ≡ step_made later s scene → text_of after.document ≡ edited s (text_of scene.document)
text_after later s scene after e = ap (λ (x : Scene). text_of x.document) e ∙ bytes_of_edited_cells s scene.document.cells

-- One of the steps is made.
pub made_left :
    (s : Step) (rest steps : List Step) (later was : Bool) (k0 k k' : Kept) (v0 v v' : Entries KeptView) (n0 n n' : Gathered)
    → AreLeft (s ∷ rest) later steps was k0 k v0 v n0 n → kept_scene k' v' n' ≡ step_made later s (kept_scene k v n)
    → IsWatched k'.document v' → LeavesRoom s k k' → n'.held ≡ held_behind later s (kept_scene k v n) n.held → RoomsStay k k' v v' n n'
    → AreLeft rest true steps was k0 k' v0 v' n0 n'
made_left s rest steps later was k0 k k' v0 v v' n0 n n' left made watched leaves held stay = record {
  scene = ap (steps_made true rest) made ∙ left.scene;
  can = record {
    watched = watched;
    room = subst (λ t. HasRoom (room_of_steps t rest) k') (sym (ap (λ (x : Scene). x.document.line_end_types) made)) (next_room k k' s rest left.can.room leaves);
    holds = next_held later s rest (kept_scene k v n) (kept_scene k' v' n') n n' left.can.holds made stay.capacity held;
  };
  rooms = stay_both left.rooms stay;
}

-- The insertions of a conversion.

-- the insertions from `place` on, and all deletions, remain to be made
pub record PutsLeft (to : LineEnd) (place : ℕ) (later : Bool) (k0 k : Kept) (v0 v : Entries KeptView) (n0 n : Gathered) : Type 0 where
  pub within : place ≤ length k.document.cells
  pub left : AreLeft (missing_in to (text_of k.document) place ++ deletions_of to (text_of k0.document)) later (conversion_steps to (text_of k0.document)) false k0 k v0 v n0 n
  pub text : after_steps (missing_in to (text_of k.document) place) (text_of k.document) ≡ completed to (text_of k0.document)

-- the next insertion
abbrev pub put_of : ℕ → ℕ → Step
put_of place byte = Insert place (byte ∷ [])

abbrev pub puts_behind : LineEnd → ℕ → ℕ → Kept → Kept → List Step
puts_behind to place byte k0 k = missing_in to (edited (put_of place byte) (text_of k.document)) (place + 1) ++ deletions_of to (text_of k0.document)

-- after the next insertion is made, the others remain
pub put_made :
    (to : LineEnd) (start place byte : ℕ) (later : Bool) (k0 k k' : Kept) (v0 v v' : Entries KeptView) (n0 n n' : Gathered)
    → PutsLeft to start later k0 k v0 v n0 n → IsNextMissing to (text_of k.document) start place byte
    → kept_scene k' v' n' ≡ step_made later (put_of place byte) (kept_scene k v n) → IsWatched k'.document v' → LeavesRoom (put_of place byte) k k'
    → n'.held ≡ held_behind later (put_of place byte) (kept_scene k v n) n.held → RoomsStay k k' v v' n n' → PutsLeft to (place + 1) true k0 k' v0 v' n0 n'
put_made to start place byte later k0 k k' v0 v v' n0 n n' so next made watched leaves held stay =
    let s = put_of place byte in
    let text = text_after later s (kept_scene k v n) (kept_scene k' v' n') made in
    let left = made_left s (puts_behind to place byte k0 k) (conversion_steps to (text_of k0.document)) later false k0 k k' v0 v v' n0 n n'
    (rw next.steps at so.left) made watched leaves held stay in
    let size = ap length text ∙ length-inserted place (byte ∷ []) (text_of k.document) in
    let w = next.within in
    record {
      within = omega (arith, size, length_text k'.document);
      left = subst (λ t. AreLeft (missing_in to t (place + 1) ++ deletions_of to (text_of k0.document)) true (conversion_steps to (text_of k0.document)) false k0 k' v0 v' n0 n') (sym text) left;
      text = subst (λ t. after_steps (missing_in to t (place + 1)) t ≡ completed to (text_of k0.document)) (sym text) (sym (ap (λ l. after_steps l (text_of k.document)) next.steps) ∙ so.text);
    }

-- The deletions.

pub record TakesLeft (to : LineEnd) (place : ℕ) (later was : Bool) (k0 k : Kept) (v0 v : Entries KeptView) (n0 n : Gathered) : Type 0 where
  pub within : place ≤ length k.document.cells
  pub left : AreLeft (unwanted_in to (text_of k.document) place) later (unwanted_from 0 false to (text_of k0.document)) was k0 k v0 v n0 n

abbrev pub take_of : ℕ → Kept → Step
take_of place k = Delete place (slice_range (text_of k.document) place (place + 1))

pub take_within : (to : LineEnd) (start place : ℕ) (k : Kept) → IsNextUnwanted to (text_of k.document) start place → place + 1 ≤ length k.document.cells
take_within to start place k next = let w = next.within in omega (arith, length_text k.document)

-- there is room for the next deletion
pub take_room : (to : LineEnd) (start place : ℕ) (rest : List Step) (k : Kept) → IsNextUnwanted to (text_of k.document) start place
    → HasRoom (room_of_steps k.document.line_end_types (take_of place k ∷ rest)) k → HasRoom (need_of k.document.line_end_types (lent.Delete place 1)) k
take_room to start place rest k next room =
    let types = k.document.line_end_types in
    subst (λ need. HasRoom need k) (deletion_needs types k.document place 1 (take_within to start place k next)) (first_room k types (take_of place k) rest room)

pub take_made :
    (to : LineEnd) (start place : ℕ) (later was : Bool) (k0 k k' : Kept) (v0 v v' : Entries KeptView) (n0 n n' : Gathered)
    → TakesLeft to start later was k0 k v0 v n0 n → IsNextUnwanted to (text_of k.document) start place
    → kept_scene k' v' n' ≡ step_made later (take_of place k) (kept_scene k v n) → IsWatched k'.document v' → LeavesRoom (take_of place k) k k'
    → n'.held ≡ held_behind later (take_of place k) (kept_scene k v n) n.held → RoomsStay k k' v v' n n' → TakesLeft to place true was k0 k' v0 v' n0 n'
take_made to start place later was k0 k k' v0 v v' n0 n n' so next made watched leaves held stay =
    let s = take_of place k in
    let text = text_after later s (kept_scene k v n) (kept_scene k' v' n') made in
    let left = made_left s (unwanted_in to (edited s (text_of k.document)) place) (unwanted_from 0 false to (text_of k0.document)) later was k0 k k' v0 v v' n0 n n'
    (rw next.steps at so.left) made watched leaves held stay in
    let bytes = slice_range (text_of k.document) place (place + 1) in
    let one : length bytes ≡ 1 = length_of_range k.document.cells place 1 (take_within to start place k next) in
    let w = next.within in
    let size = ap length text ∙ length-deleted_within place bytes (text_of k.document) (omega arith) in
    record {
      within = omega (arith, size, length_text k'.document);
      left = subst (λ t. AreLeft (unwanted_in to t place) true (unwanted_from 0 false to (text_of k0.document)) was k0 k' v0 v' n0 n') (sym text) left;
    }

-- a text with an unwanted byte is not empty
pub some_cells : (d : Document) (first second : List ℕ) (count : ℕ) → first ++ second ≡ text_of d → (count ≡ 0 → ⊥) → count ≤ length first + length second → 0 + 1 ≤ length d.cells
some_cells d first second zero e some few = absurd (some refl)
some_cells d first second (suc count) e some few = let size = ap length e in omega (arith, length-append first second, length_text d)
