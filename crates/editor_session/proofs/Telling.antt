-- What was told before an edit, or before undo or redo, stays before what these tell.
use Rattle.editor_session.proofs.Names.{◌≡◌, ℕ, Bool, true, false, cond, List, [], ◌∷◌, ◌++◌, length, refl, ap, sym, ◌∙◌, append-nil, append_assoc, nat_lt, Notice, Document, View, watching, Step, at_save_point, History, Change, TextStep, ContainerStep, bit_if, multi_step, Scene, step_made, steps_made, edit_made, sealed_scene, change_performed, changes_performed, transaction_performed, is_last, changes_lines, save_point_change}

abbrev pub telling : List Notice → Scene → Scene
telling ns scene = record scene { notes = ns ++ scene.notes }

behind : (ns s a b c : List Notice) → (((ns ++ s) ++ a) ++ b) ++ c ≡ ns ++ (((s ++ a) ++ b) ++ c)
behind ns s a b c = simp append_assoc

step_told : (ns : List Notice) (later : Bool) (step : Step) (scene : Scene) → step_made later step (telling ns scene) ≡ telling ns (step_made later step scene)
step_told ns later step scene = ap (λ x. (let made = step_made later step scene in record made { notes = x })) (behind ns scene.notes _ _ _)

steps_told : (ns : List Notice) (later : Bool) (steps : List Step) (scene : Scene) → steps_made later steps (telling ns scene) ≡ telling ns (steps_made later steps scene)
steps_told ns later [] scene = refl
steps_told ns later (step ∷ steps) scene = ap (steps_made true steps) (step_told ns later step scene) ∙ steps_told ns true steps (step_made later step scene)

edit_told : (ns : List Notice) (steps : List Step) (scene : Scene) → edit_made steps (telling ns scene) ≡ telling ns (edit_made steps scene)
edit_told ns steps scene =
    elim (nat_lt 1 (length steps))
    as (λ b. cond b (sealed_scene (steps_made false steps (sealed_scene (telling ns scene)))) (steps_made false steps (telling ns scene)) ≡ telling ns (cond b (sealed_scene (steps_made false steps (sealed_scene scene))) (steps_made false steps scene)))
    [ true ↦ ap sealed_scene (steps_told ns false steps (sealed_scene scene)) | false ↦ steps_told ns false steps scene ]

pub edit_told_from : (ns : List Notice) (steps : List Step) (d : Document) (views : List View)
    → edit_made steps (record { document = d; views = views; notes = ns }) ≡ telling ns (edit_made steps (record { document = d; views = views; notes = [] }))
edit_told_from ns steps d views =
    ap (λ xs. edit_made steps (record { document = d; views = views; notes = xs })) (sym (append-nil ns)) ∙ edit_told ns steps (record { document = d; views = views; notes = [] })

-- Undo and redo too.

change_told_behind : (ns : List Notice) (who several : ℕ) (last lines_changed : Bool) (c : Change) (scene : Scene) → change_performed who several last lines_changed c (telling ns scene) ≡ telling ns (change_performed who several last lines_changed c scene)
change_told_behind ns who several last lines_changed (TextStep step) scene = ap (λ x. (let made = change_performed who several last lines_changed (TextStep step) scene in record made { notes = x })) (behind ns scene.notes _ _ _)
change_told_behind ns who several last lines_changed (ContainerStep token coalesce) scene = ap (λ x. record scene { notes = x }) (append_assoc ns scene.notes _)

changes_told : (ns : List Notice) (who several : ℕ) (lines_changed : Bool) (cs : List Change) (scene : Scene) → changes_performed who several lines_changed cs (telling ns scene) ≡ telling ns (changes_performed who several lines_changed cs scene)
changes_told ns who several lines_changed [] scene = refl
changes_told ns who several lines_changed (c ∷ cs) scene =
    let changed = cond lines_changed true (changes_lines c scene.document) in
    ap (changes_performed who several changed cs) (change_told_behind ns who several (is_last cs) changed c scene) ∙ changes_told ns who several changed cs (change_performed who several (is_last cs) changed c scene)

transaction_told : (ns : List Notice) (who : ℕ) (cs : List Change) (new : History) (scene : Scene) → transaction_performed who cs new (telling ns scene) ≡ telling ns (transaction_performed who cs new scene)
transaction_told ns who cs new scene =
    ap (λ (x : Scene). told_of x) (changes_told ns who _ false cs scene) ∙ ap (λ x. (let d = done.document in record done { document = record d { history = new }; notes = x })) (append_assoc ns done.notes _)
  where
    done : Scene
    done = changes_performed who (bit_if (nat_lt 1 (length cs)) multi_step) false cs scene

    told_of : Scene → Scene
    told_of x = (let d = x.document in record x { document = record d { history = new }; notes = x.notes ++ save_point_change (watching x.views x.document) (at_save_point scene.document.history) (at_save_point new) })

pub transaction_told_from : (ns : List Notice) (who : ℕ) (cs : List Change) (new : History) (d : Document) (views : List View)
    → transaction_performed who cs new (record { document = d; views = views; notes = ns }) ≡ telling ns (transaction_performed who cs new (record { document = d; views = views; notes = [] }))
transaction_told_from ns who cs new d views =
    ap (λ xs. transaction_performed who cs new (record { document = d; views = views; notes = xs })) (sym (append-nil ns)) ∙ transaction_told ns who cs new (record { document = d; views = views; notes = [] })
