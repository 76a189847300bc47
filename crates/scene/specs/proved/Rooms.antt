-- Room in the document for steps in turn is enough for the first of them, and what that one leaves is enough for the others. The same for the
-- changes of undo or redo.
use Rattle.std.proofs.Common.{◌≡◌, ℕ, ◌+◌, ◌-◌, ◌≤◌, ◌^◌, min, List, [], ◌∷◌, map, length, refl, ap, arith, slice_range}
use Rattle.ed_model.specs.declared.plan.LineEndTypes.{LineEndTypes}
use Rattle.ed_model.specs.Steps.{Step, Insert, Delete}
use Rattle.ed_model.specs.History.{Change, TextStep, ContainerStep}
use Rattle.ed_model.specs.Session.{Document, text_of}
use Rattle.ed_model.specs.proved.Steps.{length_of_range}
use Rattle.line_index.specs.RoomLaws.{lines_for_insertion, lines_for_deletion}
use Rattle.document.specs.declared.need.DocumentNeed.{DocumentNeed}
use Rattle.document.specs.declared.text_step.TextStep.TheVariants as lent
use Rattle.document.specs.Kept.{Kept, HasRoom, HasTextRoom, IsAtLeast, document_need, text_part}
use Rattle.document.specs.TextSteps.{LeavesRoom, need_of, need_of_step, need_then}
use Rattle.document.specs.Undoing.{need_of_change}
use Rattle.document.specs.proved.Room.{less_room, less_text_room}
use Rattle.scene.specs.Undoing.{LeavesRoomBehind, both_rooms, free_behind, room_of_changes, rooms_beside}
use Rattle.scene.specs.Conversion.{room_of_steps, room_of_steps_beside}

-- needs are equal if each amount is
pub same_room : (a b c d e a' b' c' d' e' : ℕ) → a ≡ a' → b ≡ b' → c ≡ c' → d ≡ d' → e ≡ e' → document_need a b c d e ≡ document_need a' b' c' d' e'
same_room a b c d e a' b' c' d' e' p q r s t = cc

pub deletion_needs : (types : LineEndTypes) (d : Document) (start count : ℕ) → start + count ≤ length d.cells
    → need_of_step types (Delete start (slice_range (text_of d) start (start + count))) ≡ need_of types (lent.Delete start count)
deletion_needs types d start count h = ap (λ n. document_need 0 lines_for_deletion 0 1 n) (length_of_range d.cells start count h)

-- Each further free byte lowers the need of the text by at most one.
beside_text : (types : LineEndTypes) (cs : List Change) (free more : ℕ) → free ≤ more → (rooms_beside types free cs).text ≤ (rooms_beside types more cs).text + (more - free)
beside_text types [] free more h = omega arith
beside_text types (TextStep (Insert p bytes) ∷ cs) free more h = put (length bytes) free more h
    (rooms_beside types (free - length bytes) cs).text (rooms_beside types (more - length bytes) cs).text
    (beside_text types cs (free - length bytes) (more - length bytes) (less (length bytes) free more h))
  where
    less : (n free more : ℕ) → free ≤ more → free - n ≤ more - n
    less n free more h = omega arith

    put : (n free more : ℕ) → free ≤ more → (x y : ℕ) → x ≤ y + (more - n - (free - n)) → n - free + x ≤ n - more + y + (more - free)
    put n free more h x y e = omega arith
beside_text types (TextStep (Delete p bytes) ∷ cs) free more h = gone (length bytes) (2 ^ 64 - 1) free more h
    (rooms_beside types (min (free + length bytes) (2 ^ 64 - 1)) cs).text (rooms_beside types (min (more + length bytes) (2 ^ 64 - 1)) cs).text
    (beside_text types cs (min (free + length bytes) (2 ^ 64 - 1)) (min (more + length bytes) (2 ^ 64 - 1)) (less (length bytes) (2 ^ 64 - 1) free more h))
  where
    less : (n m free more : ℕ) → free ≤ more → min (free + n) m ≤ min (more + n) m
    less n m free more h = omega arith

    gone : (n m free more : ℕ) → free ≤ more → (x y : ℕ) → x ≤ y + (min (more + n) m - min (free + n) m) → 0 - free + x ≤ 0 - more + y + (more - free)
    gone n m free more h x y e = omega arith
beside_text types (ContainerStep token coalesce ∷ cs) free more h = none free more h (rooms_beside types free cs).text (rooms_beside types more cs).text (beside_text types cs free more h)
  where
    none : (free more : ℕ) → free ≤ more → (x y : ℕ) → x ≤ y + (more - free) → 0 - free + x ≤ 0 - more + y + (more - free)
    none free more h x y e = omega arith

-- All other needs stay the same.
beside_else : (types : LineEndTypes) (cs : List Change) (free more : ℕ) → record (rooms_beside types free cs) { text = 0 } ≡ record (rooms_beside types more cs) { text = 0 }
beside_else types [] free more = refl
beside_else types (c ∷ cs) free more =
    let need = need_of_change types c in
    ap (λ (r : DocumentNeed). record (both_rooms need r) { text = 0 }) (beside_else types cs (free_behind free c) (free_behind more c))

-- The same for steps.

as_changes : (types : LineEndTypes) (steps : List Step) (free : ℕ) → (room_of_steps_beside types free steps).text ≡ (rooms_beside types free (map TextStep steps)).text
as_changes types [] free = refl
as_changes types (s ∷ steps) free = ap (λ n. (need_of_step types s).text - free + n) (as_changes types steps (free_behind free (TextStep s)))

steps_text : (types : LineEndTypes) (steps : List Step) (free more : ℕ) → free ≤ more
    → (room_of_steps_beside types free steps).text ≤ (room_of_steps_beside types more steps).text + (more - free)
steps_text types steps free more h =
    let a = as_changes types steps free in
    let b = as_changes types steps more in
    let c = beside_text types (map TextStep steps) free more h in
    omega arith

steps_else : (types : LineEndTypes) (steps : List Step) (free more : ℕ)
    → record (room_of_steps_beside types free steps) { text = 0 } ≡ record (room_of_steps_beside types more steps) { text = 0 }
steps_else types [] free more = refl
steps_else types (s ∷ steps) free more =
    let need = need_of_step types s in
    ap (λ (r : DocumentNeed). record (both_rooms need r) { text = 0 }) (steps_else types steps (free_behind free (TextStep s)) (free_behind more (TextStep s)))

-- What the first step needs, and what all after it need, is no more than what all need.

text_put : (n x y : ℕ) → x ≤ y + (0 - n - 0) → n + x ≤ n - 0 + y
text_put n x y h = omega arith

text_gone : (n m x y : ℕ) → x ≤ y + (min (0 + n) m - 0) → x - n ≤ 0 - 0 + y
text_gone n m x y h = omega arith

as_much : (n x y : ℕ) → x ≡ y → n + x ≤ n + y
as_much n x y e = omega arith

no_more : (x y : ℕ) → x ≡ y → x ≤ 0 + y
no_more x y e = omega arith

at_least_first : (x y : ℕ) → x ≤ x - 0 + y
at_least_first x y = omega arith

at_least_one : (x y : ℕ) → x ≤ x + y
at_least_one x y = omega arith

sum_then_rest : (types : LineEndTypes) (step : Step) (rest then : DocumentNeed) → rest.text ≤ then.text + (free_behind 0 (TextStep step) - 0)
    → record rest { text = 0 } ≡ record then { text = 0 }
    → IsAtLeast (let need = need_of_step types step in both_rooms (record need { text = need.text - 0 }) then) (need_then types step rest)
sum_then_rest types (Insert p bytes) rest then few same = record {
  text = text_put (length bytes) rest.text then.text few;
  lines = as_much (lines_for_insertion types bytes) rest.lines then.lines (ap (λ (r : DocumentNeed). r.lines) same);
  insertions = as_much 1 rest.insertions then.insertions (ap (λ (r : DocumentNeed). r.insertions) same);
  steps = as_much 1 rest.steps then.steps (ap (λ (r : DocumentNeed). r.steps) same);
  bytes = as_much (length bytes) rest.bytes then.bytes (ap (λ (r : DocumentNeed). r.bytes) same);
}
sum_then_rest types (Delete p bytes) rest then few same = record {
  text = text_gone (length bytes) (2 ^ 64 - 1) rest.text then.text few;
  lines = as_much lines_for_deletion rest.lines then.lines (ap (λ (r : DocumentNeed). r.lines) same);
  insertions = no_more rest.insertions then.insertions (ap (λ (r : DocumentNeed). r.insertions) same);
  steps = as_much 1 rest.steps then.steps (ap (λ (r : DocumentNeed). r.steps) same);
  bytes = as_much (length bytes) rest.bytes then.bytes (ap (λ (r : DocumentNeed). r.bytes) same);
}

first_then_rest : (need rest : DocumentNeed) → IsAtLeast (both_rooms (record need { text = need.text - 0 }) rest) need
first_then_rest need rest = record {
  text = at_least_first need.text rest.text;
  lines = at_least_one need.lines rest.lines;
  insertions = at_least_one need.insertions rest.insertions;
  steps = at_least_one need.steps rest.steps;
  bytes = at_least_one need.bytes rest.bytes;
}

-- Steps.

pub first_room : (k : Kept) (types : LineEndTypes) (step : Step) (steps : List Step) → HasRoom (room_of_steps types (step ∷ steps)) k → HasRoom (need_of_step types step) k
first_room k types step steps h =
    less_room k (need_of_step types step) (room_of_steps types (step ∷ steps))
    (first_then_rest (need_of_step types step) (room_of_steps_beside types (free_behind 0 (TextStep step)) steps)) h

pub next_room : (k k' : Kept) (step : Step) (steps : List Step) → let types = k.document.line_end_types in
    HasRoom (room_of_steps types (step ∷ steps)) k → LeavesRoom step k k' → HasRoom (room_of_steps types steps) k'
next_room k k' step steps h leaves =
    let types = k.document.line_end_types in
    let rest = room_of_steps types steps in
    let free = free_behind 0 (TextStep step) in
    leaves rest (less_room k (need_then types step rest) (room_of_steps types (step ∷ steps))
    (sum_then_rest types step rest (room_of_steps_beside types free steps) (steps_text types steps 0 free (omega arith)) (steps_else types steps 0 free)) h)

-- Changes of undo or redo.

pub first_change : (k : Kept) (types : LineEndTypes) (c : Change) (cs : List Change) → HasTextRoom (room_of_changes types (c ∷ cs)) k → HasTextRoom (need_of_change types c) k
first_change k types c cs h =
    less_text_room k (need_of_change types c) (room_of_changes types (c ∷ cs)) (first_then_rest (need_of_change types c) (rooms_beside types (free_behind 0 c) cs)) h

pub next_change : (k k' : Kept) (c : Change) (cs : List Change) → let types = k.document.line_end_types in
    HasTextRoom (room_of_changes types (c ∷ cs)) k → LeavesRoomBehind c k k' → HasTextRoom (room_of_changes types cs) k'
next_change k k' (TextStep step) cs h leaves =
    let types = k.document.line_end_types in
    let rest = room_of_changes types cs in
    let free = free_behind 0 (TextStep step) in
    let all = sum_then_rest types step rest (rooms_beside types free cs) (beside_text types cs 0 free (omega arith)) (beside_else types cs 0 free) in
    leaves rest (less_text_room k (text_part (need_then types step rest)) (room_of_changes types (TextStep step ∷ cs))
    (record { text = all.text; lines = all.lines; insertions = all.insertions; steps = omega arith; bytes = omega arith }) h)
next_change k k' (ContainerStep token coalesce) cs h leaves =
    let types = k.document.line_end_types in
    let rest = room_of_changes types cs in
    leaves rest (less_text_room k rest (room_of_changes types (ContainerStep token coalesce ∷ cs))
    (record { text = omega arith; lines = omega arith; insertions = omega arith; steps = omega arith; bytes = omega arith }) h)
