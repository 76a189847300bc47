-- Scenes stay sound over the steps of an edit, of undo and of redo.
use Rattle.ed_model.proofs.Names.{◌≡◌, ℕ, ◌≤◌, Bool, true, false, List, [], ◌∷◌, length, map, refl, ap, sym, ◌∙◌, subst, Some, ◌==◌, nat_lt, nat_le, if◌then◌else◌, map-id, cond_both, eq-eqb, ne_eqb, and_parts, leb-true, Limits, Notice, meets, bytes_of, Step, edited, History, Change, TextStep, ContainerStep, appended, sealed_outside_groups, fresh_history, size_after, stays_within, text_steps, Session, Document, View, document_at, with_document, text_of, limit_of, Scene, document_after, view_after, with_history, step_made, steps_made, sealed_scene, edit_made, change_performed, changes_performed, session_of, changes_lines, is_last, IsStepOf, AreStepsOf, FitsText, IsSound, IsSoundDocument, StandsOn, all_map, document_sound, replaced_found, replaced_twice, IsOwner, length_text, view_after_id, view_after_document}
use Rattle.ed_model.proofs.SoundHistory.{appended_fits, sealed_fits, fresh_fits}
use Rattle.ed_model.proofs.SoundDocuments.{document_made, view_made, text_after, length_cells_after, cells_range}
use Rattle.ed_model.proofs.SoundSessions.{document_replaced}

-- the session of the scene is sound, and the sender is a view on the scene's document
pub record IsSoundScene (sender : ℕ) (s : Session) (scene : Scene) : Type 0 where
  pub sound : IsSound (session_of s scene)
  pub found : document_at (with_document scene.document s.documents) scene.document.id ≡ Some scene.document
  pub owner : IsOwner sender scene.document.id scene.views

pub scene_document_sound : (sender : ℕ) (s : Session) (scene : Scene) → IsSoundScene sender s scene → IsSoundDocument s.limits scene.document
scene_document_sound sender s scene h = document_sound s.limits (with_document scene.document s.documents) scene.document.id scene.document h.sound.documents h.found

-- changing the document of a scene together with the views on it
pub scene_changed : (sender : ℕ) (s : Session) (scene : Scene) (d' : Document) (f : View → View) (notes : List Notice) → IsSoundScene sender s scene
    → d'.id ≡ scene.document.id → d'.views ≡ scene.document.views → IsSoundDocument s.limits d' → ((v : View) → (f v).id ≡ v.id) → ((v : View) → (f v).document ≡ v.document)
    → ((v : View) → v.document ≡ scene.document.id → StandsOn scene.document v → StandsOn d' (f v))
    → ((v : View) → (v.document ≡ scene.document.id → ⊥) → f v ≡ v)
    → IsSoundScene sender s (record { document = d'; views = map f scene.views; notes = notes })
scene_changed sender s scene d' f notes h same alike made keeps_id keeps_document moves others = record {
  sound = subst (λ ds. IsSound (record s { documents = ds; views = map f scene.views })) (replaced_twice scene.document d' s.documents (sym same))
      (document_replaced (session_of s scene) scene.document d' f h.sound h.found same alike made keeps_id keeps_document moves others);
  found = subst (λ ds. document_at ds d'.id ≡ Some d') (replaced_twice scene.document d' s.documents (sym same))
      (replaced_found (with_document scene.document s.documents) d'.id scene.document d' refl (ap (document_at (with_document scene.document s.documents)) same ∙ h.found));
  owner = all_map (λ (v : View). v.id ≡ sender → v.document ≡ scene.document.id) (λ (v : View). v.id ≡ sender → v.document ≡ d'.id) f
      (λ v o e. keeps_document v ∙ o (sym (keeps_id v) ∙ e) ∙ sym same) scene.views h.owner;
}

-- changing the document alone
pub scene_document : (sender : ℕ) (s : Session) (scene : Scene) (d' : Document) (notes : List Notice) → IsSoundScene sender s scene
    → d'.id ≡ scene.document.id → d'.views ≡ scene.document.views → IsSoundDocument s.limits d' → ((v : View) → v.document ≡ scene.document.id → StandsOn scene.document v → StandsOn d' v)
    → IsSoundScene sender s (record { document = d'; views = scene.views; notes = notes })
scene_document sender s scene d' notes h same alike made moves =
    subst (λ vs. IsSoundScene sender s (record { document = d'; views = vs; notes = notes })) (map-id scene.views)
    (scene_changed sender s scene d' (λ (v : View). v) notes h same alike made (λ v. refl) (λ v. refl) moves (λ v ne. refl))

-- changing the notes
pub scene_told : (sender : ℕ) (s : Session) (scene : Scene) (notes : List Notice) → IsSoundScene sender s scene → IsSoundScene sender s (record scene { notes = notes })
scene_told sender s scene notes h = record { sound = h.sound; found = h.found; owner = h.owner }

-- changing the history
pub scene_history : (sender : ℕ) (s : Session) (scene : Scene) (h : History) → IsSoundScene sender s scene → FitsText (limit_of s.limits scene.document) (text_of scene.document) h
    → IsSoundScene sender s (with_history h scene)
scene_history sender s scene h sound fits =
    let d = scene.document in
    let was = scene_document_sound sender s scene sound in
    scene_document sender s scene (record d { history = h }) scene.notes sound refl refl
    (record {
      line_starts = was.line_starts;
      rows = was.rows;
      indicator_count = was.indicator_count;
      indicators = was.indicators;
      styled = was.styled;
      bounded = was.bounded;
      handles_differ = was.handles_differ;
      handles_below = was.handles_below;
      referenced = was.referenced;
      history = fits;
    })
    (λ v e on. record { anchor = on.anchor; caret = on.caret; target_start = on.target_start; target_end = on.target_end; lines = on.lines; first_line = on.first_line; indicator = on.indicator; listed = on.listed })

-- A step.

-- a step that can be performed, with a history that fits the new text
pub scene_step : (sender : ℕ) (s : Session) (scene : Scene) (step : Step) (h : History) (notes : List Notice) → IsSoundScene sender s scene
    → IsStepOf (text_of scene.document) step → size_after (length scene.document.cells) step ≤ limit_of s.limits scene.document
    → FitsText (limit_of s.limits scene.document) (edited step (text_of scene.document)) h
    → IsSoundScene sender s (record {
      document = record (document_after step scene.document) { history = h };
      views = map (view_after step scene.document) scene.views;
      notes = notes;
    })
scene_step sender s scene step h notes sound fits room history =
    scene_changed sender s scene (record (document_after step scene.document) { history = h }) (view_after step scene.document) notes sound refl refl
    (document_made s.limits scene.document step h (scene_document_sound sender s scene sound) fits room history)
    (view_after_id step scene.document)
    (view_after_document step scene.document)
    (λ v e on. let t : (v.document == scene.document.id) ≡ true = eq-eqb v.document scene.document.id e in rw t (view_made scene.document step h v on))
    (λ v ne. let t : (v.document == scene.document.id) ≡ false = ne_eqb v.document scene.document.id ne in rw t refl)

-- The steps of an edit.

-- the text of a sound document is within its limit
pub text_bounded : (limits : Limits) (d : Document) → IsSoundDocument limits d → length (text_of d) ≤ limit_of limits d
text_bounded limits d sound = subst (λ n. n ≤ limit_of limits d) (sym (length_text d)) sound.bounded

-- there is room for these steps: they can be performed one after another, and each leaves the text within its limit
pub record IsRoom (s : Session) (scene : Scene) (steps : List Step) : Type 0 where
  pub fits : AreStepsOf (text_of scene.document) steps
  pub within : stays_within (limit_of s.limits scene.document) (length scene.document.cells) steps ≡ true

room_first : (s : Session) (scene : Scene) (step : Step) (steps : List Step) → IsRoom s scene (step ∷ steps) → size_after (length scene.document.cells) step ≤ limit_of s.limits scene.document
room_first s scene step steps room =
    leb-true (size_after (length scene.document.cells) step) (limit_of s.limits scene.document)
    (and_parts (nat_le (size_after (length scene.document.cells) step) (limit_of s.limits scene.document)) (stays_within (limit_of s.limits scene.document) (size_after (length scene.document.cells) step) steps) room.within).0

room_rest : (s : Session) (scene next : Scene) (step : Step) (steps : List Step) → IsRoom s scene (step ∷ steps)
    → next.document.cells ≡ (document_after step scene.document).cells → next.document.options ≡ scene.document.options → IsRoom s next steps
room_rest s scene next step steps room cells options = record {
  fits = subst (λ t. AreStepsOf t steps) (sym (text_after scene.document step) ∙ ap bytes_of (sym cells)) room.fits.1;
  within =
      let n : length next.document.cells ≡ size_after (length scene.document.cells) step = ap length cells ∙ length_cells_after step scene.document.cells (cells_range scene.document step room.fits.0) in
      let l : limit_of s.limits next.document ≡ limit_of s.limits scene.document = ap (λ o. if meets o 0x100 then s.limits.large_bytes else s.limits.doc_bytes) options in
      let rest = (and_parts (nat_le (size_after (length scene.document.cells) step) (limit_of s.limits scene.document)) (stays_within (limit_of s.limits scene.document) (size_after (length scene.document.cells) step) steps) room.within).1 in
      ap (λ n. stays_within (limit_of s.limits next.document) n steps) n ∙ ap (λ l. stays_within l (size_after (length scene.document.cells) step) steps) l ∙ rest;
}

pub step_made_sound : (sender : ℕ) (s : Session) (scene : Scene) (later : Bool) (step : Step) (steps : List Step) → IsSoundScene sender s scene → IsRoom s scene (step ∷ steps)
    → IsSoundScene sender s (step_made later step scene)
step_made_sound sender s scene later step steps sound room =
    scene_step sender s scene step (appended later (TextStep step) scene.document.history) (step_made later step scene).notes sound room.fits.0
    (room_first s scene step steps room)
    (appended_fits later step (text_of scene.document) scene.document.history (scene_document_sound sender s scene sound).history room.fits.0
    (text_bounded s.limits scene.document (scene_document_sound sender s scene sound)))

pub steps_made_sound : (sender : ℕ) (s : Session) (later : Bool) (steps : List Step) (scene : Scene) → IsSoundScene sender s scene → IsRoom s scene steps
    → IsSoundScene sender s (steps_made later steps scene)
steps_made_sound sender s later [] scene sound room = sound
steps_made_sound sender s later (step ∷ steps) scene sound room =
    steps_made_sound sender s true steps (step_made later step scene) (step_made_sound sender s scene later step steps sound room)
    (room_rest s scene (step_made later step scene) step steps room refl refl)

pub sealed_scene_sound : (sender : ℕ) (s : Session) (scene : Scene) → IsSoundScene sender s scene → IsSoundScene sender s (sealed_scene scene)
sealed_scene_sound sender s scene sound =
    scene_history sender s scene (sealed_outside_groups scene.document.history) sound
    (sealed_fits (text_of scene.document) scene.document.history (scene_document_sound sender s scene sound).history)

-- an edit keeps the scene sound
pub edit_made_sound : (sender : ℕ) (s : Session) (steps : List Step) (scene : Scene) → IsSoundScene sender s scene → IsRoom s scene steps
    → IsSoundScene sender s (edit_made steps scene)
edit_made_sound sender s steps scene sound room =
    cond_both (nat_lt 1 (length steps)) (sealed_scene (steps_made false steps (sealed_scene scene))) (steps_made false steps scene)
    (λ x. IsSoundScene sender s x)
    (λ _. sealed_scene_sound sender s (steps_made false steps (sealed_scene scene))
    (steps_made_sound sender s false steps (sealed_scene scene) (sealed_scene_sound sender s scene sound) (record { fits = room.fits; within = room.within })))
    (λ _. steps_made_sound sender s false steps scene sound room)

-- What undo and redo keep of a document.

pub record KeepsItself (d e : Document) : Type 0 where
  pub id : e.id ≡ d.id
  pub read_only : e.read_only ≡ d.read_only
  pub options : e.options ≡ d.options

pub changes_keep : (who several : ℕ) (lines_changed : Bool) (cs : List Change) (scene : Scene) → KeepsItself scene.document (changes_performed who several lines_changed cs scene).document
changes_keep who several lines_changed [] scene = record { id = refl; read_only = refl; options = refl }
changes_keep who several lines_changed (TextStep step ∷ cs) scene =
    let changed = (if lines_changed then true else changes_lines (TextStep step) scene.document) in
    let rest = changes_keep who several changed cs (change_performed who several (is_last cs) changed (TextStep step) scene) in
    record { id = rest.id; read_only = rest.read_only; options = rest.options }
changes_keep who several lines_changed (ContainerStep token coalesce ∷ cs) scene =
    let changed = (if lines_changed then true else changes_lines (ContainerStep token coalesce) scene.document) in
    let rest = changes_keep who several changed cs (change_performed who several (is_last cs) changed (ContainerStep token coalesce) scene) in
    record { id = rest.id; read_only = rest.read_only; options = rest.options }

-- they keep the limit too
pub limit_kept : (limits : Limits) (who several : ℕ) (lines_changed : Bool) (cs : List Change) (scene : Scene)
    → limit_of limits (changes_performed who several lines_changed cs scene).document ≡ limit_of limits scene.document
limit_kept limits who several lines_changed cs scene =
    ap (λ o. if meets o 0x100 then limits.large_bytes else limits.doc_bytes) (changes_keep who several lines_changed cs scene).options

-- Undo and redo: until they end, the history is left out.

abbrev pub without_history : Scene → Scene
without_history scene = with_history fresh_history scene

pub changes_performed_sound : (sender : ℕ) (s : Session) (who several : ℕ) (lines_changed : Bool) (cs : List Change) (scene : Scene)
    → IsSoundScene sender s (without_history scene) → IsRoom s scene (text_steps cs)
    → IsSoundScene sender s (without_history (changes_performed who several lines_changed cs scene))
changes_performed_sound sender s who several lines_changed [] scene sound room = sound
changes_performed_sound sender s who several lines_changed (TextStep step ∷ cs) scene sound room =
    let changed = (if lines_changed then true else changes_lines (TextStep step) scene.document) in
    let next = change_performed who several (is_last cs) changed (TextStep step) scene in
    changes_performed_sound sender s who several changed cs next
    (scene_step sender s (without_history scene) step fresh_history next.notes sound room.fits.0
    (room_first s scene step (text_steps cs) room) (fresh_fits (edited step (text_of scene.document))))
    (room_rest s scene next step (text_steps cs) room refl refl)
changes_performed_sound sender s who several lines_changed (ContainerStep token coalesce ∷ cs) scene sound room =
    let changed = (if lines_changed then true else changes_lines (ContainerStep token coalesce) scene.document) in
    let next = change_performed who several (is_last cs) changed (ContainerStep token coalesce) scene in
    changes_performed_sound sender s who several changed cs next
    (record { sound = sound.sound; found = sound.found; owner = sound.owner })
    (record { fits = room.fits; within = room.within })
