-- Transactions undone and redone.
use Rattle.ed_model.proofs.Names.{◌≡◌, ℕ, ◌<◌, nat_lt, if◌then◌else◌, Bool, true, false, List, [], ◌∷◌, ◌++◌, length, map, reverse, refl, ap, ◌∙◌, sym, arith, map-append, reverse-append, reverse-reverse, Step, Insert, Delete, inverse_of, after_steps, History, Transaction, Change, TextStep, ContainerStep, inverse_change, first_changes, undo_changes, redo_changes, undone, undone_to, redone, redone_from, text_steps, text_of, Scene, changes_performed, change_performed, changes_lines, is_last, inverses, text_of_scene, after_undo, after_redo, UndoMakesItsSteps, RedoMakesItsSteps, UndoThenRedoGivesBackTheText, RedoThenUndoGivesBackTheText, bytes_of_edited_cells}
use Rattle.std.proofs.lemmas.List.{append-nil}
use Rattle.ed_model.specs.Notes.{performed_undo, performed_redo, multi_step, bit_if}
use Rattle.ed_model.proofs.InverseLemmas.{inverses_give_back_the_text}

-- The steps among changes.

pub steps_of_inverse_changes : (cs : List Change) → text_steps (map inverse_change cs) ≡ map inverse_of (text_steps cs)
steps_of_inverse_changes [] = refl
steps_of_inverse_changes (TextStep step ∷ cs) = ap (λ steps. inverse_of step ∷ steps) (steps_of_inverse_changes cs)
steps_of_inverse_changes (ContainerStep token coalesce ∷ cs) = steps_of_inverse_changes cs

pub steps_of_more_changes : (cs ds : List Change) → text_steps (cs ++ ds) ≡ text_steps cs ++ text_steps ds
steps_of_more_changes [] ds = refl
steps_of_more_changes (TextStep step ∷ cs) ds = ap (λ steps. step ∷ steps) (steps_of_more_changes cs ds)
steps_of_more_changes (ContainerStep token coalesce ∷ cs) ds = steps_of_more_changes cs ds

pub steps_of_reversed_changes : (cs : List Change) → text_steps (reverse cs) ≡ reverse (text_steps cs)
steps_of_reversed_changes [] = refl
steps_of_reversed_changes (TextStep step ∷ cs) =
    ap text_steps (reverse-append (TextStep step ∷ []) cs)
    ∙ steps_of_more_changes (reverse cs) (TextStep step ∷ [])
    ∙ ap (λ steps. steps ++ (step ∷ [])) (steps_of_reversed_changes cs)
    ∙ sym (reverse-append (step ∷ []) (text_steps cs))
steps_of_reversed_changes (ContainerStep token coalesce ∷ cs) =
    ap text_steps (reverse-append (ContainerStep token coalesce ∷ []) cs)
    ∙ steps_of_more_changes (reverse cs) (ContainerStep token coalesce ∷ [])
    ∙ simp (append-nil) (steps_of_reversed_changes cs)

pub inverses_of_inverses : (steps : List Step) → map inverse_of (map inverse_of steps) ≡ steps
inverses_of_inverses [] = refl
inverses_of_inverses (Insert p bytes ∷ steps) = ap (λ rest. Insert p bytes ∷ rest) (inverses_of_inverses steps)
inverses_of_inverses (Delete p bytes ∷ steps) = ap (λ rest. Delete p bytes ∷ rest) (inverses_of_inverses steps)

pub inverses_of_reversed : (steps : List Step) → map inverse_of (reverse steps) ≡ reverse (map inverse_of steps)
inverses_of_reversed [] = refl
inverses_of_reversed (step ∷ steps) =
    ap (map inverse_of) (reverse-append (step ∷ []) steps)
    ∙ map-append inverse_of (reverse steps) (step ∷ [])
    ∙ ap (λ rest. rest ++ (inverse_of step ∷ [])) (inverses_of_reversed steps)
    ∙ sym (reverse-append (inverse_of step ∷ []) (map inverse_of steps))

-- Undo and redo perform these steps.

-- performing changes performs the steps among them
pub text_after_changes : (who several : ℕ) (lines_changed : Bool) (cs : List Change) (scene : Scene) →
    text_of (changes_performed who several lines_changed cs scene).document ≡ after_steps (text_steps cs) (text_of scene.document)
text_after_changes who several b [] scene = refl
text_after_changes who several b (TextStep step ∷ cs) scene =
    let changed = (if b then true else changes_lines (TextStep step) scene.document) in
    text_after_changes who several changed cs (change_performed who several (is_last cs) changed (TextStep step) scene)
    ∙ ap (after_steps (text_steps cs)) (bytes_of_edited_cells step scene.document.cells)
text_after_changes who several b (ContainerStep token coalesce ∷ cs) scene =
    let changed = (if b then true else changes_lines (ContainerStep token coalesce) scene.document) in
    text_after_changes who several changed cs (change_performed who several (is_last cs) changed (ContainerStep token coalesce) scene)

pub undo_makes_its_steps : UndoMakesItsSteps
undo_makes_its_steps scene =
    let cs = undo_changes scene.document.history in
    text_after_changes performed_undo (bit_if (nat_lt 1 (length cs)) multi_step) false cs scene

pub redo_makes_its_steps : RedoMakesItsSteps
redo_makes_its_steps scene =
    let cs = redo_changes scene.document.history in
    text_after_changes performed_redo (bit_if (nat_lt 1 (length cs)) multi_step) false cs scene

-- Undo and redo restore what the other changed.

-- the steps that redo a transaction just undone
pub redo_steps_after_undo : (h : History) (past : List Transaction) → 0 < length past →
    text_steps (redo_changes (undone_to h past)) ≡ inverses (text_steps (map inverse_change (first_changes past)))
redo_steps_after_undo h [] some = absurd (omega arith)
redo_steps_after_undo h (t ∷ ts) some =
    steps_of_reversed_changes t.changes
    ∙ ap reverse (sym (ap (map inverse_of) (steps_of_inverse_changes t.changes) ∙ inverses_of_inverses (text_steps t.changes)))

-- the steps that undo a transaction just redone
pub undo_steps_after_redo : (h : History) (future : List Transaction) → 0 < length future →
    text_steps (undo_changes (redone_from h future)) ≡ inverses (text_steps (reverse (first_changes future)))
undo_steps_after_redo h [] some = absurd (omega arith)
undo_steps_after_redo h (t ∷ ts) some =
    steps_of_inverse_changes t.changes
    ∙ sym (ap reverse (ap (map inverse_of) (steps_of_reversed_changes t.changes) ∙ inverses_of_reversed (text_steps t.changes)) ∙ reverse-reverse (map inverse_of (text_steps t.changes)))

pub undo_then_redo_gives_back_the_text : UndoThenRedoGivesBackTheText
undo_then_redo_gives_back_the_text scene some fits =
    let h = scene.document.history in
    let steps = text_steps (undo_changes h) in
    redo_makes_its_steps (after_undo scene)
    ∙ ap (after_steps (text_steps (redo_changes (undone h)))) (undo_makes_its_steps scene)
    ∙ ap (λ (back : List Step). after_steps back (after_steps steps (text_of_scene scene))) (redo_steps_after_undo h h.past some)
    ∙ inverses_give_back_the_text steps (text_of_scene scene) fits

pub redo_then_undo_gives_back_the_text : RedoThenUndoGivesBackTheText
redo_then_undo_gives_back_the_text scene some fits =
    let h = scene.document.history in
    let steps = text_steps (redo_changes h) in
    undo_makes_its_steps (after_redo scene)
    ∙ ap (after_steps (text_steps (undo_changes (redone h)))) (redo_makes_its_steps scene)
    ∙ ap (λ (back : List Step). after_steps back (after_steps steps (text_of_scene scene))) (undo_steps_after_redo h h.future some)
    ∙ inverses_give_back_the_text steps (text_of_scene scene) fits
