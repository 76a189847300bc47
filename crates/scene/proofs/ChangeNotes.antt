-- The notes of the changes that undo or redo performs are at most as many as the need says.
use Rattle.scene.proofs.Names.{◌≡◌, ℕ, zero, suc, ◌+◌, ◌*◌, ◌≤◌, Bool, true, false, cond, List, [], ◌∷◌, ◌++◌, length, refl, ap, ◌∙◌, subst, arith, length-append, ℤ, filter_map, bit_or, nat_lt, slice_get, Some, length-map, meets, growth, Step, Insert, Delete, step_bytes, Change, TextStep, ContainerStep, heard, before_note, after_note, View, view_at, watching, lines_in, Scene, document_after, view_after, last_bits, container_note, change_performed, Direction, hearers, bits_of, all_bits, every_kind, performed_kinds, container_kinds, notes_of_change, bytes_of_change, notes_of_changes, bytes_of_changes}
use Rattle.ed_model.specs.Notes as notes
use Rattle.document.specs.declared.undoing.Direction.TheVariants.{Undo, Redo}
use Rattle.scene.proofs.KindLemmas.{meets_left, meets_more, before_few, after_few, heard_few, hearers_more}
use Rattle.scene.proofs.NeedLemmas.{hear_same, watch_after}
use Rattle.scene.proofs.ToldSoFar.{length_parts}

-- The bits of the note after a change are among all bits.

abbrev pub bits_after : Direction → Bool → Bool → Bool → ℕ
bits_after direction several last changed = bit_or (bit_or (bits_of direction) (notes.bit_if several notes.multi_step)) (last_bits last changed)

pub bits_more : (direction : Direction) (several last changed : Bool) (m : ℕ) → meets m (bits_after direction several last changed) ≡ true
    → meets m (all_bits (bits_of direction)) ≡ true
bits_more Undo true true true m h = h
bits_more Undo false true true m h = meets_left m 0x1120 0x11A0 h
bits_more Redo true true true m h = h
bits_more Redo false true true m h = meets_left m 0x1140 0x11C0 h
bits_more direction several last changed m h = meets_left m (bits_after direction several last changed) (all_bits (bits_of direction)) h

-- The kinds of a step are among all kinds.
every_more : (direction : Direction) (s : Step) (m : ℕ) → meets m (performed_kinds (bits_of direction) s) ≡ true → meets m (every_kind (bits_of direction)) ≡ true
every_more Undo (Insert p bytes) m h = meets_left m 0x15A1 0x41DA3 h
every_more Undo (Delete p bytes) m h = meets_left m 0x19A2 0x41DA3 h
every_more Redo (Insert p bytes) m h = meets_left m 0x15C1 0x41DC3 h
every_more Redo (Delete p bytes) m h = meets_left m 0x19C2 0x41DC3 h

container_more : (direction : Direction) (m : ℕ) → meets m (container_kinds (bits_of direction)) ≡ true → meets m (every_kind (bits_of direction)) ≡ true
container_more Undo m h = meets_left m 0x411A0 0x41DA3 h
container_more Redo m h = meets_left m 0x411C0 0x41DC3 h

-- if no view hears any kind of change, none hears these changes
pub none_of_all : (direction : Direction) (cs : List Change) (views : List View) → hearers (every_kind (bits_of direction)) views ≡ 0 → notes_of_changes views (bits_of direction) cs ≡ 0
none_of_all direction [] views none = refl
none_of_all direction (TextStep s ∷ cs) views none =
    let few = hearers_more (performed_kinds (bits_of direction) s) (every_kind (bits_of direction)) views (every_more direction s) in
    let rest = none_of_all direction cs views none in
    omega arith
none_of_all direction (ContainerStep token coalesce ∷ cs) views none =
    let few = hearers_more (container_kinds (bits_of direction)) (every_kind (bits_of direction)) views (container_more direction) in
    let rest = none_of_all direction cs views none in
    omega arith

-- the same of the note of a container's step
pub container_few : (who bits : ℕ) (token : ℤ) (views : List View) → ((m : ℕ) → meets m bits ≡ true → meets m (all_bits who) ≡ true)
    → length (heard views (container_note bits token)) ≤ hearers (container_kinds who) views
container_few who bits token views more = heard_few (container_note bits token) (container_kinds who) views (λ m h. meets_more m notes.container bits (all_bits who) (more m) h)

-- At most this many notes are appended for a change.

pub performed_few : (direction : Direction) (several last changed : Bool) (c : Change) (scene : Scene)
    → length (change_performed (bits_of direction) (notes.bit_if several notes.multi_step) last changed c scene).notes
    ≤ length scene.notes + notes_of_change (watching scene.views scene.document) (bits_of direction) c
performed_few direction several last changed (TextStep s) scene =
    let who = bits_of direction in
    let bits = bits_after direction several last changed in
    let W = watching scene.views scene.document in
    let lines = growth (lines_in scene.document) (lines_in (document_after s scene.document)) in
    let all = length_parts scene.notes (heard W (before_note who s)) [] (heard W (after_note bits lines s)) in
    let b = before_few who (all_bits who) s W in
    let a = after_few who (all_bits who) bits lines s W (bits_more direction several last changed) in
    omega arith
performed_few direction several last changed (ContainerStep token coalesce) scene =
    let who = bits_of direction in
    let bits = bits_after direction several last changed in
    let W = watching scene.views scene.document in
    let all : length (scene.notes ++ heard W (container_note bits token)) ≡ length scene.notes + length (heard W (container_note bits token)) =
    length-append scene.notes (heard W (container_note bits token)) in
    let c = container_few who bits token W (bits_more direction several last changed) in
    omega arith

-- The views that watch after a change hear the same kinds as those before it.

pub record HearAlike (a b : List View) : Type 0 where
  pub hear : (k : ℕ) → hearers k a ≡ hearers k b
  pub count : length a ≡ length b

pub hear_alike_still : (who several : ℕ) (last changed : Bool) (c : Change) (scene : Scene)
    → HearAlike (watching (change_performed who several last changed c scene).views (change_performed who several last changed c scene).document)
    (watching scene.views scene.document)
hear_alike_still who several last changed (TextStep s) scene =
    let d = scene.document in record {
      hear = λ k. hear_same k s d scene.views;
      count = ap length (watch_after s d scene.views d.views) ∙ length-map (filter_map (view_at scene.views) d.views) (view_after s d);
    }
hear_alike_still who several last changed (ContainerStep token coalesce) scene = record { hear = λ k. refl; count = refl }

note_alike : (who : ℕ) (c : Change) (a b : List View) → ((k : ℕ) → hearers k a ≡ hearers k b) → notes_of_change a who c ≡ notes_of_change b who c
note_alike who (TextStep s) a b hear = ap (λ n. 2 * n) (hear (performed_kinds who s))
note_alike who (ContainerStep token coalesce) a b hear = hear (container_kinds who)

pub notes_alike : (who : ℕ) (cs : List Change) (a b : List View) → HearAlike a b → notes_of_changes a who cs ≡ notes_of_changes b who cs
notes_alike who [] a b alike = refl
notes_alike who (c ∷ cs) a b alike = let x = note_alike who c a b alike.hear in let y = notes_alike who cs a b alike in rw (x, y) refl

byte_alike : (who : ℕ) (c : Change) (a b : List View) → HearAlike a b → bytes_of_change a who c ≡ bytes_of_change b who c
byte_alike who (TextStep s) a b alike = ap (λ n. cond (nat_lt 0 n) (length (step_bytes s)) 0) (alike.hear (performed_kinds who s))
byte_alike who (ContainerStep token coalesce) a b alike = refl

pub bytes_alike : (who : ℕ) (cs : List Change) (a b : List View) → HearAlike a b → bytes_of_changes a who cs ≡ bytes_of_changes b who cs
bytes_alike who [] a b alike = refl
bytes_alike who (c ∷ cs) a b alike = let x = byte_alike who c a b alike in let y = bytes_alike who cs a b alike in rw (x, y) refl

-- If no view heard any of the changes, and the views that watch hear the same kinds, none hears one of the changes.

among_all : (who : ℕ) (cs : List Change) (i : ℕ) (c : Change) (views : List View) → slice_get cs i ≡ Some c → notes_of_change views who c ≤ notes_of_changes views who cs
among_all who [] i c views at = absurd (cc)
among_all who (x ∷ cs) zero c views at =
    let same : x ≡ c = cc in
    subst (λ y. notes_of_change views who y ≤ notes_of_changes views who (x ∷ cs)) same (omega arith)
among_all who (x ∷ cs) (suc i) c views at = let rest = among_all who cs i c views at in omega arith

pub still_none : (who : ℕ) (cs : List Change) (i : ℕ) (c : Change) (a b : List View) → ((k : ℕ) → hearers k a ≡ hearers k b) → slice_get cs i ≡ Some c
    → notes_of_changes b who cs ≡ 0 → notes_of_change a who c ≡ 0
still_none who cs i c a b hear at none =
    let few = among_all who cs i c b at in
    let same = note_alike who c a b hear in
    omega arith
