-- Kinds of notes, and the views that hear them.
use Rattle.scene.proofs.Names.{◌≡◌, ℕ, ◌+◌, ◌<◌, ◌≤◌, Bool, true, false, cond, List, [], ◌∷◌, length, refl, ap, sym, ◌∙◌, subst, arith, ◌==◌, ◌||◌, not, filter, bit_and, bit_or, ℤ, eqb-true, eq-eqb, Notice, Note, meets, Step, Insert, Delete, step_bytes, told, heard, before_note, after_note, insert_text, delete_text, step_in, IsStepOn, Gathered, CanPut, View, Hearers, NoteText, audience_of, with_note_text, hearers, masks_from, masks_of, before_kind, after_kind, step_kinds, CanTellMade}
use Rattle.std.specs.Int.Bits.{and_zero_l}
use Rattle.std.proofs.lemmas.List.{nil_from_length}
use Rattle.std.proofs.lemmas.Nat.{and_assoc, and_comm, and_or_self, and_or_apart, or_comm}
use Rattle.document.specs.declared.text_step.TextStep.{TextStep}
use Rattle.scene.proofs.ToldSoFar.{length_told}

-- a mask that has no bit of two kinds together has none of one of them
and_none : (m a b : ℕ) → bit_and m (bit_or b a) ≡ 0 → bit_and m a ≡ 0
and_none m a b e =
    ap (bit_and m) (sym (and_or_self a b)) ∙ sym (and_assoc a m (bit_or b a)) ∙ ap (λ x. bit_and x a) e ∙ and_zero_l a

pub meets_right : (m a b : ℕ) → meets m a ≡ true → meets m (bit_or b a) ≡ true
meets_right m a b h = go (bit_and m (bit_or b a) == 0) refl
  where
    go : (c : Bool) → (bit_and m (bit_or b a) == 0) ≡ c → not c ≡ true
    go true t = absurd (let wrong = sym (ap not (eq-eqb (bit_and m a) 0 (and_none m a b (eqb-true (bit_and m (bit_or b a)) 0 t)))) ∙ h in cc)
    go false t = refl

pub meets_left : (m a b : ℕ) → meets m a ≡ true → meets m (bit_or a b) ≡ true
meets_left m a b h = subst (λ k. meets m k ≡ true) (or_comm b a) (meets_right m a b h)

-- a mask that meets two kinds together meets one of them
pub meets_either : (m a b c : ℕ) → (meets m a ≡ true → meets m c ≡ true) → (meets m b ≡ true → meets m c ≡ true) → meets m (bit_or a b) ≡ true → meets m c ≡ true
meets_either m a b c left right h = go (bit_and m b == 0) refl
  where
    go : (x : Bool) → (bit_and m b == 0) ≡ x → meets m c ≡ true
    go true t =
        let none : bit_and b m ≡ 0 = and_comm b m ∙ eqb-true (bit_and m b) 0 t in
        let same : bit_and m (bit_or a b) ≡ bit_and m a = and_comm m (bit_or a b) ∙ and_or_apart m a b none ∙ and_comm a m in
        left (ap (λ x. not (x == 0)) (sym same) ∙ h)
    go false t = right (ap not t)

-- a mask that meets two kinds together still meets them if one of them gets more bits
pub meets_more : (m a b c : ℕ) → (meets m b ≡ true → meets m c ≡ true) → meets m (bit_or a b) ≡ true → meets m (bit_or a c) ≡ true
meets_more m a b c more = meets_either m a b (bit_or a c) (meets_left m a c) (λ h. meets_right m c a (more h))

-- an element counted in the first list is counted in one of the other two
counted_either : {X : Type 0} (both x y : Bool) (v : X) (together first second : List X) → (both ≡ true → (x || y) ≡ true) → length together ≤ length first + length second
    → length (cond both (v ∷ together) together) ≤ length (cond x (v ∷ first) first) + length (cond y (v ∷ second) second)
counted_either true false false v together first second h le = absurd (let wrong : false ≡ true = h refl in cc)
counted_either true true true v together first second h le = omega arith
counted_either false true true v together first second h le = omega arith
counted_either false false true v together first second h le = omega arith
counted_either _ _ _ v together first second h le = omega arith

-- more kinds have at least as many hearers
pub hearers_more : (a b : ℕ) (views : List View) → ((m : ℕ) → meets m a ≡ true → meets m b ≡ true) → hearers a views ≤ hearers b views
hearers_more a b [] h = omega arith
hearers_more a b (v ∷ vs) h =
    let rest = hearers_more a b vs h in
    let le = counted_either (meets v.mask a) (meets v.mask b) false v (filter (λ (v : View). meets v.mask a) vs) (filter (λ (v : View). meets v.mask b) vs) [] (λ t. let e = h v.mask t in rw e refl) (omega arith) in
    omega arith

-- a note has at most as many hearers as kinds that it is among
pub heard_few : (n : Notice) (kinds : ℕ) (views : List View) → ((m : ℕ) → meets m n.kind ≡ true → meets m kinds ≡ true) → length (heard views n) ≤ hearers kinds views
heard_few n kinds views more =
    let l = length_told (filter (λ (v : View). meets v.mask n.kind) views) n in
    let le : hearers n.kind views ≤ hearers kinds views = hearers_more n.kind kinds views more in
    omega arith

empty_or_some : {X : Type 0} (xs : List X) (P : List X → Type 0) → P [] → (0 < length xs → P xs) → P xs
empty_or_some [] P a b = a
empty_or_some (x ∷ xs) P a b = b (omega arith)

-- the notes appended for the hearers are those that the model says, if the text is right whenever a view hears the note
pub told_as_heard : (views : List View) (note : Note) (t : NoteText) (shared : List ℕ) (n : Notice) → note.kind ≡ n.kind
    → (0 < hearers n.kind views → with_note_text t note shared ≡ n) → told (audience_of Hearers note.kind views) (with_note_text t note shared) ≡ heard views n
told_as_heard views note t shared n kind text =
    ap (λ k. told (filter (λ (v : View). meets v.mask k) views) (with_note_text t note shared)) kind
    ∙ empty_or_some (filter (λ (v : View). meets v.mask n.kind) views) (λ vs. told vs (with_note_text t note shared) ≡ told vs n) refl
    (λ some. ap (told (filter (λ (v : View). meets v.mask n.kind) views)) (text some))

-- a view that hears two kinds together hears one of them
meets_one : (m a b : ℕ) → meets m (bit_or a b) ≡ true → (meets m a || meets m b) ≡ true
meets_one m a b t = go (meets m a) refl
  where
    go : (x : Bool) → meets m a ≡ x → (x || meets m b) ≡ true
    go true p = refl
    go false p = meets_either m a b b (λ h. absurd (let wrong = sym p ∙ h in cc)) (λ h. h) t

hearers_either : (a b : ℕ) (views : List View) → hearers (bit_or a b) views ≤ hearers a views + hearers b views
hearers_either a b [] = omega arith
hearers_either a b (v ∷ vs) =
    counted_either (meets v.mask (bit_or a b)) (meets v.mask a) (meets v.mask b) v (filter (λ (v : View). meets v.mask (bit_or a b)) vs)
    (filter (λ (v : View). meets v.mask a) vs) (filter (λ (v : View). meets v.mask b) vs) (meets_one v.mask a b) (hearers_either a b vs)

-- if all masks together have no bit of the kinds, no view hears one
none_from_masks : (kinds masks : ℕ) (views : List View) → bit_and (masks_from masks views) kinds ≡ 0 → (bit_and masks kinds ≡ 0) × (hearers kinds views ≡ 0)
none_from_masks kinds masks [] e = (e, refl)
none_from_masks kinds masks (v ∷ vs) e =
    let rest = none_from_masks kinds (bit_or masks v.mask) vs e in
    let both : bit_and kinds (bit_or masks v.mask) ≡ 0 = and_comm kinds (bit_or masks v.mask) ∙ rest.0 in
    let last : bit_and kinds v.mask ≡ 0 = and_none kinds v.mask masks both in
    let first : bit_and kinds masks ≡ 0 = and_none kinds masks v.mask (ap (bit_and kinds) (or_comm v.mask masks) ∙ both) in
    let quiet : (bit_and v.mask kinds == 0) ≡ true = eq-eqb (bit_and v.mask kinds) 0 (and_comm v.mask kinds ∙ last) in
    (and_comm masks kinds ∙ first, rw quiet rest.1)

pub none_by_masks : (kinds : ℕ) (views : List View) → bit_and (masks_of views) kinds ≡ 0 → hearers kinds views ≡ 0
none_by_masks kinds views e = (none_from_masks kinds 0 views e).1

-- The notes of a step.

pub before_kind_is : (bits : ℕ) (s : Step) → (before_note bits s).kind ≡ before_kind bits s
before_kind_is bits (Insert p bytes) = refl
before_kind_is bits (Delete p bytes) = refl

pub after_kind_is : (bits : ℕ) (lines : ℤ) (s : Step) → (after_note bits lines s).kind ≡ after_kind bits s
after_kind_is bits lines (Insert p bytes) = refl
after_kind_is bits lines (Delete p bytes) = refl

-- more bits make the kind of the note after a step have more bits
pub after_more : (bits all : ℕ) (s : Step) (m : ℕ) → (meets m bits ≡ true → meets m all ≡ true) → meets m (after_kind bits s) ≡ true → meets m (after_kind all s) ≡ true
after_more bits all (Insert p bytes) m more h = meets_more m insert_text bits all more h
after_more bits all (Delete p bytes) m more h = meets_more m delete_text bits all more h

-- A note of a step has at most as many hearers as the step, and none if no view hears the step.

pub before_few : (before all : ℕ) (s : Step) (views : List View) → length (heard views (before_note before s)) ≤ hearers (step_kinds before all s) views
before_few before all s views =
    heard_few (before_note before s) (step_kinds before all s) views (λ m h. meets_left m (before_kind before s) (after_kind all s) (rw (before_kind_is before s) at h))

pub after_few : (before all bits : ℕ) (lines : ℤ) (s : Step) (views : List View) → ((m : ℕ) → meets m bits ≡ true → meets m all ≡ true)
    → length (heard views (after_note bits lines s)) ≤ hearers (step_kinds before all s) views
after_few before all bits lines s views more =
    heard_few (after_note bits lines s) (step_kinds before all s) views
    (λ m h. meets_right m (after_kind all s) (before_kind before s) (after_more bits all s m (more m) (rw (after_kind_is bits lines s) at h)))

pub unheard_before : (views : List View) (s : Step) (before after : ℕ) → hearers (step_kinds before after s) views ≡ 0 → heard views (before_note before s) ≡ []
unheard_before views s before after none = nil_from_length (heard views (before_note before s)) (let few = before_few before after s views in omega arith)

pub unheard_after : (views : List View) (s : Step) (before all after : ℕ) (lines : ℤ) → ((m : ℕ) → meets m after ≡ true → meets m all ≡ true)
    → hearers (step_kinds before all s) views ≡ 0 → heard views (after_note after lines s) ≡ []
unheard_after views s before all after lines more none = nil_from_length (heard views (after_note after lines s)) (let few = after_few before all after lines s views more in omega arith)

-- If no note is appended before a step and none after it, no view hears the step.
pub none_by_notes : (views : List View) (s : Step) (before after : ℕ) (lines : ℤ) → length (heard views (before_note before s)) ≡ 0
    → length (heard views (after_note after lines s)) ≡ 0 → hearers (step_kinds before after s) views ≡ 0
none_by_notes views s before after lines none_before none_after =
    let b = before_note before s in
    let a = after_note after lines s in
    let first : hearers b.kind views ≡ 0 = sym (length_told (filter (λ (v : View). meets v.mask b.kind) views) b) ∙ none_before in
    let second : hearers a.kind views ≡ 0 = sym (length_told (filter (λ (v : View). meets v.mask a.kind) views) a) ∙ none_after in
    let first : hearers (before_kind before s) views ≡ 0 = ap (λ k. hearers k views) (sym (before_kind_is before s)) ∙ first in
    let second : hearers (after_kind after s) views ≡ 0 = ap (λ k. hearers k views) (sym (after_kind_is after lines s)) ∙ second in
    let either = hearers_either (before_kind before s) (after_kind after s) views in
    omega arith

-- After the hearers are counted.

pub can_tell : (hears : Bool) (before all after : ℕ) (lines : ℤ) (step : TextStep) (text : List ℕ) (views : List View) (g : Gathered)
    → ((m : ℕ) → meets m after ≡ true → meets m all ≡ true) → IsStepOn step (length text)
    → (hears ≡ false → hearers (step_kinds before all (step_in step text)) views ≡ 0) → (hears ≡ true → g.shared ≡ step_bytes (step_in step text))
    → CanPut (length (heard views (after_note after lines (step_in step text)))) g → CanTellMade hears after lines step text views g
can_tell hears before all after lines step text views g more on none shared room = record {
  on = on;
  unheard = λ no. unheard_after views (step_in step text) before all after lines more (none no);
  shared = shared;
  room = room;
}
