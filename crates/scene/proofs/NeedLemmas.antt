-- The notes of steps are at most as many as the need says.
use Rattle.scene.proofs.Names.{◌≡◌, ℕ, suc, ap₂, cond_both, mapped_found, ◌+◌, ◌<◌, ◌≤◌, Bool, true, false, cond, List, [], ◌∷◌, map, length, refl, ap, ◌∙◌, arith, ◌==◌, ◌&&◌, not, nat_lt, Option, Some, None, filter, filter_map, option_map, cons_option, ltb-true, lt-ltb, meets, growth, is_number, Step, step_bytes, History, Change, Transaction, TextStep, at_save_point, appended, begins_transaction, joins, joins_last, with_change, reachable, sealed_outside_groups, with_last_sealed, told, heard, before_note, after_note, performed_user, View, Document, view_at, watching, lines_in, Scene, document_after, moved_view, view_after, leaving, step_made, view_after_id, hearers, before_kind, after_kind, step_kinds, user_bits, bytes_shared, user_kinds, leaving_count, notes_of_steps, bytes_of_steps, notes_needed, bytes_needed, held_behind, held_after, NeedsAreEnough, steps_made, sealed_scene}
use Rattle.ed_model.specs.Notes as notes
use Rattle.ed_model.specs.proved.Histories.{lower_save_point, other_save_point, sealed_length}
use Rattle.scene.proofs.ToldSoFar.{length_told, length_parts}
use Rattle.scene.proofs.KindLemmas.{meets_left, meets_more, after_more, before_few, after_few, hearers_more}

-- The kinds of a step are among `user_kinds`, whether it begins a transaction or not.

user_more : (begins : Bool) (m : ℕ) → meets m (user_bits begins) ≡ true → meets m (user_bits true) ≡ true
user_more true m h = h
user_more false m h = meets_left m 0x10 0x2000 h

made_more : (begins : Bool) (s : Step) (m : ℕ) → meets m (step_kinds performed_user (user_bits begins) s) ≡ true → meets m (user_kinds s) ≡ true
made_more begins s m =
    meets_more m (before_kind performed_user s) (after_kind (user_bits begins) s) (after_kind (user_bits true) s) (after_more (user_bits begins) (user_bits true) s m (user_more begins m))

-- The views that watch after a step are those that watched before, with the same masks.

pub watch_after : (s : Step) (d : Document) (vs : List View) (ids : List ℕ) → filter_map (view_at (map (view_after s d) vs)) ids ≡ map (view_after s d) (filter_map (view_at vs) ids)
watch_after s d vs [] = refl
watch_after s d vs (id ∷ ids) =
    ap₂ cons_option (mapped_found (λ (v : View). v.id) (view_after s d) (view_after_id s d) vs id) (watch_after s d vs ids) ∙ go (view_at vs id)
  where
    go : (o : Option View) → cons_option (option_map (view_after s d) o) (map (view_after s d) (filter_map (view_at vs) ids)) ≡ map (view_after s d) (cons_option o (filter_map (view_at vs) ids))
    go None = refl
    go (Some v) = refl

hear_after : (k : ℕ) (s : Step) (d : Document) (vs : List View) → hearers k (map (view_after s d) vs) ≡ hearers k vs
hear_after k s d [] = refl
hear_after k s d (v ∷ vs) =
    let same = cond_both (v.document == d.id) (moved_view s d v) v (λ (u : View). u.mask ≡ v.mask) (λ _. refl) (λ _. refl) in
    rw same (go (meets v.mask k) (hear_after k s d vs))
  where
    go : (b : Bool) → hearers k (map (view_after s d) vs) ≡ hearers k vs
        → length (cond b (view_after s d v ∷ filter (λ (v : View). meets v.mask k) (map (view_after s d) vs)) (filter (λ (v : View). meets v.mask k) (map (view_after s d) vs)))
        ≡ length (cond b (v ∷ filter (λ (v : View). meets v.mask k) vs) (filter (λ (v : View). meets v.mask k) vs))
    go true rest = ap (λ n. suc n) rest
    go false rest = rest

pub hear_same : (k : ℕ) (s : Step) (d : Document) (vs : List View) → hearers k (filter_map (view_at (map (view_after s d) vs)) d.views) ≡ hearers k (filter_map (view_at vs) d.views)
hear_same k s d vs = ap (hearers k) (watch_after s d vs d.views) ∙ hear_after k s d (filter_map (view_at vs) d.views)

notes_same : (s : Step) (d : Document) (vs : List View) (steps : List Step)
    → notes_of_steps (filter_map (view_at (map (view_after s d) vs)) d.views) steps ≡ notes_of_steps (filter_map (view_at vs) d.views) steps
notes_same s d vs [] = refl
notes_same s d vs (x ∷ xs) = let a = hear_same (user_kinds x) s d vs in let b = notes_same s d vs xs in rw (a, b) refl

bytes_same : (s : Step) (d : Document) (vs : List View) (steps : List Step)
    → bytes_of_steps (filter_map (view_at (map (view_after s d) vs)) d.views) steps ≡ bytes_of_steps (filter_map (view_at vs) d.views) steps
bytes_same s d vs [] = refl
bytes_same s d vs (x ∷ xs) = let a = hear_same (user_kinds x) s d vs in let b = bytes_same s d vs xs in rw (a, b) refl

-- A document that collects steps is not at the save point after a step.

-- a change joins the one before only if the document is not at its save point
joined_left : (x y z : Bool) → (x && not y && z) ≡ true → y ≡ false
joined_left true true z h = absurd (cc)
joined_left true false z h = refl
joined_left false y z h = absurd (cc)

left_past : (later : Bool) (c : Change) (h : History) (past : List Transaction) → h.past ≡ past
    → is_number (length (with_change (joins_last later c h past) c past)) (reachable (length past) h.save_point) ≡ false
left_past later c h [] e = lower_save_point 0 1 h.save_point (omega arith)
left_past later c h (t ∷ ts) e = go (joins_last later c h (t ∷ ts)) refl
  where
    go : (b : Bool) → joins_last later c h (t ∷ ts) ≡ b → is_number (length (with_change b c (t ∷ ts))) (reachable (length (t ∷ ts)) h.save_point) ≡ false
    go true j =
        let away : at_save_point h ≡ false = joined_left (not t.is_sealed) (at_save_point h) _ j in
        other_save_point (length (t ∷ ts)) h.save_point (rw e at away)
    go false j = lower_save_point (length (t ∷ ts)) (suc (length (t ∷ ts))) h.save_point (omega arith)

none_left : (later : Bool) (c : Change) (h : History) (views : List View) → leaving_count views (appended later c h) ≡ 0
none_left later c h views =
    cond_both h.collecting (record h { past = with_change (joins later c h) c h.past; future = []; save_point = reachable (length h.past) h.save_point }) h (λ g. leaving_count views g ≡ 0)
    (λ e. let a = left_past later c h h.past refl in rw (e, a) refl) (λ e. rw e refl)

leaving_length : (views : List View) (h : History) → length (leaving views h) ≡ leaving_count views h
leaving_length views h = go (h.collecting && at_save_point h)
  where
    go : (b : Bool) → length (cond b (told views (notes.blank notes.save_point_left)) []) ≡ cond b (length views) 0
    go true = length_told views (notes.blank notes.save_point_left)
    go false = refl

-- Steps in turn, and an edit.

step_notes : (later : Bool) (step : Step) (steps : List Step) (scene : Scene)
    → length (step_made later step scene).notes + notes_needed (step_made later step scene) steps ≤ length scene.notes + notes_needed scene (step ∷ steps)
step_notes later step steps scene =
    let d = scene.document in
    let h = d.history in
    let W = watching scene.views d in
    let begins = begins_transaction later (TextStep step) h in
    let lines = growth (lines_in d) (lines_in (document_after step d)) in
    let all = length_parts scene.notes (heard W (before_note performed_user step)) (leaving W h) (heard W (after_note (user_bits begins) lines step)) in
    let b = before_few performed_user (user_bits true) step W in
    let a = after_few performed_user (user_bits true) (user_bits begins) lines step W (user_more begins) in
    let l = leaving_length W h in
    let none = none_left later (TextStep step) h (watching (step_made later step scene).views (step_made later step scene).document) in
    let same = notes_same step d scene.views steps in
    omega arith

steps_notes : (later : Bool) (steps : List Step) (scene : Scene) → length (steps_made later steps scene).notes ≤ length scene.notes + notes_needed scene steps
steps_notes later [] scene = omega arith
steps_notes later (step ∷ steps) scene =
    let first = step_notes later step steps scene in
    let rest = steps_notes true steps (step_made later step scene) in
    omega arith

shared_more : (a b : ℕ) (views : List View) (n : ℕ) → ((m : ℕ) → meets m a ≡ true → meets m b ≡ true) → bytes_shared a views n ≤ bytes_shared b views n
shared_more a b views n more = go (nat_lt 0 (hearers a views)) refl
  where
    go : (c : Bool) → nat_lt 0 (hearers a views) ≡ c → cond c n 0 ≤ bytes_shared b views n
    go true t =
        let some : 0 < hearers a views = ltb-true 0 (hearers a views) t in
        let le = hearers_more a b views more in
        let there : nat_lt 0 (hearers b views) ≡ true = lt-ltb 0 (hearers b views) (omega arith) in
        rw there (omega arith)
    go false t = omega arith

steps_bytes : (later : Bool) (steps : List Step) (scene : Scene) (held : ℕ) → held_after later steps scene held ≤ held + bytes_needed scene steps
steps_bytes later [] scene held = omega arith
steps_bytes later (step ∷ steps) scene held =
    let d = scene.document in
    let W = watching scene.views d in
    let begins = begins_transaction later (TextStep step) d.history in
    let first = shared_more (step_kinds performed_user (user_bits begins) step) (user_kinds step) W (length (step_bytes step)) (made_more begins step) in
    let same = bytes_same step d scene.views steps in
    let rest = steps_bytes true steps (step_made later step scene) (held_behind later step scene held) in
    omega arith

-- Sealing a transaction does not change the need.

sealed_leaves : (h : History) (views : List View) → leaving_count views (sealed_outside_groups h) ≡ leaving_count views h
sealed_leaves h views = cond_both (h.depth == 0) (with_last_sealed h) h (λ g. leaving_count views g ≡ leaving_count views h) (λ _. let l = sealed_length h.past in rw l refl) (λ _. refl)

pub needs_enough : NeedsAreEnough
needs_enough [] scene held = (omega arith, omega arith)
needs_enough (step ∷ []) scene held = (steps_notes false (step ∷ []) scene, steps_bytes false (step ∷ []) scene held)
needs_enough (step ∷ next ∷ steps) scene held =
    let W = watching scene.views scene.document in
    let all = step ∷ next ∷ steps in
    let several : nat_lt 1 (length all) ≡ true = lt-ltb 1 (length all) (omega arith) in
    let same = sealed_leaves scene.document.history W in
    let notes = steps_notes false all (sealed_scene scene) in
    let bytes = steps_bytes false all (sealed_scene scene) held in
    rw several (omega arith, bytes)
