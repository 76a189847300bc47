-- The codes of the notes of plans: none is SCN_MACRORECORD, which only the recording adds, and only an attempt has SCN_MODIFYATTEMPTRO.
use Rattle.run_laws.proofs.Names.{◌≡◌, ℕ, ◌==◌, nat_lt, cond, Bool, true, false, List, [], ◌∷◌, ◌++◌, length, refl, Option, Some, None, ℤ, bit_or, filter, AllByRecursion, Notice, DocumentChange, Plan, growth, Step, Insert, Delete, History, Change, TextStep, ContainerStep, undo_changes, redo_changes, undone, redone, at_save_point, begins_transaction, Document, View, watching, lines_in, Request, steps_of, Scene, scene_of, document_after, step_heard, edit_made, leaving, change_performed, changes_performed, save_point_change, history_performed, changed_document, change_told, performed_for, meets, last_bits, container_note, range_notes, all_append}
use Rattle.ed_model.specs.declared.plan.DocumentChange.TheVariants as document_change
use Rattle.ed_model.specs.declared.plan.Plan.TheVariants as plan
use Rattle.ed_model.specs.Notes as notes
use Rattle.run_laws.proofs.Walks.{edit_kept, changes_kept}

-- If the codes that plans use have the property, and the code of an attempt has
-- it if the plan is one, the codes of a plan's notes have it.
module _ (Code : ℕ → Type 0) (needed : Code notes.style_needed) (reached : Code notes.save_point_reached) (left : Code notes.save_point_left) (modified : Code notes.modified) where
  abbrev pub HasCode : Notice → Type 0
  HasCode n = Code n.code

  abbrev pub HaveCodes : List Notice → Type 0
  HaveCodes ns = AllByRecursion HasCode ns

  codes_told : (views : List View) (n : Notice) → HasCode n → HaveCodes (notes.told views n)
  codes_told [] n h = tt
  codes_told (v ∷ vs) n h = (h, codes_told vs n h)

  codes_heard : (views : List View) (n : Notice) → HasCode n → HaveCodes (notes.heard views n)
  codes_heard views n h = codes_told (filter (λ (v : View). meets v.mask n.kind) views) n h

  step_has_code : (before after : ℕ) (lines : ℤ) (step : Step) → HasCode (notes.before_note before step) × HasCode (notes.after_note after lines step)
  step_has_code before after lines (Insert p bytes) = (modified, modified)
  step_has_code before after lines (Delete p bytes) = (modified, modified)

  codes_step : (before after : ℕ) (between : List Notice) (step : Step) (scene : Scene) → HaveCodes scene.notes → HaveCodes between → HaveCodes (step_heard before after between step scene).notes
  codes_step before after between step scene h k =
      let views = watching scene.views scene.document in
      let b = notes.before_note before step in
      let lines = growth (lines_in scene.document) (lines_in (document_after step scene.document)) in
      let a = notes.after_note after lines step in
      let both = step_has_code before after lines step in
      all_append HasCode (scene.notes ++ notes.heard views b ++ between) (notes.heard views a)
      (all_append HasCode (scene.notes ++ notes.heard views b) between (all_append HasCode scene.notes (notes.heard views b) h (codes_heard views b both.0)) k)
      (codes_heard views a both.1)

  codes_either : (b : Bool) (ms ns : List Notice) → HaveCodes ms → HaveCodes ns → HaveCodes (cond b ms ns)
  codes_either true ms ns h k = h
  codes_either false ms ns h k = k

  codes_leaving : (views : List View) (h : History) → HaveCodes (leaving views h)
  codes_leaving views h = search (codes_either, codes_told, left)

  codes_edit : (steps : List Step) (scene : Scene) → HaveCodes scene.notes → HaveCodes (edit_made steps scene).notes
  codes_edit steps scene h =
      edit_kept (λ (x : Scene). HaveCodes x.notes)
      (λ later step x k.
      codes_step notes.performed_user (bit_or notes.performed_user (notes.bit_if (begins_transaction later (TextStep step) x.document.history) notes.start_action))
      (leaving (watching x.views x.document) x.document.history) step x k (codes_leaving (watching x.views x.document) x.document.history))
      (λ x k. k) steps scene h

  codes_performed : (who several : ℕ) (last lines_changed : Bool) (c : Change) (scene : Scene) → HaveCodes scene.notes → HaveCodes (change_performed who several last lines_changed c scene).notes
  codes_performed who several last lines_changed (TextStep step) scene h = codes_step who (bit_or (bit_or who several) (last_bits last lines_changed)) [] step scene h tt
  codes_performed who several last lines_changed (ContainerStep token coalesce) scene h =
      let n = container_note (bit_or (bit_or who several) (last_bits last lines_changed)) token in
      all_append HasCode scene.notes (notes.heard (watching scene.views scene.document) n) h (codes_heard (watching scene.views scene.document) n modified)

  codes_save_point : (views : List View) (a b : Bool) → HaveCodes (save_point_change views a b)
  codes_save_point views true true = tt
  codes_save_point views true false = codes_told views (notes.blank notes.save_point_left) left
  codes_save_point views false true = codes_told views (notes.blank notes.save_point_reached) reached
  codes_save_point views false false = tt

  codes_history : (r : Request) (who : ℕ) (cs : List Change) (new : History) → HaveCodes (history_performed r.session r.view r.document who cs new).1.notes
  codes_history r who cs new =
      let done = changes_performed who (notes.bit_if (nat_lt 1 (length cs)) notes.multi_step) false cs (scene_of r.session r.document) in
      all_append HasCode done.notes (save_point_change (watching done.views done.document) (at_save_point r.document.history) (at_save_point new))
      (changes_kept (λ (x : Scene). HaveCodes x.notes) codes_performed who (notes.bit_if (nat_lt 1 (length cs)) notes.multi_step) false cs (scene_of r.session r.document) tt)
      (codes_save_point (watching done.views done.document) (at_save_point r.document.history) (at_save_point new))

  codes_range : (kind : ℕ) (range : Option (ℕ × ℕ)) (views : List View) → HaveCodes (range_notes kind range views)
  codes_range kind None views = tt
  codes_range kind (Some range) views = codes_heard views (notes.range_note (bit_or kind notes.performed_user) range.0 range.1) modified

  ruleset codes = (codes_leaving, codes_range, codes_either, codes_heard, codes_told)

  -- the notes of a change; the second line is checked for each of the other changes
  codes_change : (sender : View) (views : List View) (old new : Document) (what : DocumentChange) → HaveCodes (change_told sender views old new what)
  codes_change sender views old new document_change.SetSavePoint = search codes
  codes_change sender views old new _ = search codes

  pub plans_have_codes : (r : Request) (p : Plan) → (p ≡ plan.Attempt → Code notes.modify_attempt) → HaveCodes (performed_for r p).1.notes
  plans_have_codes r (plan.Edit change value after) attempt = codes_edit (steps_of r change) (scene_of r.session r.document) tt
  plans_have_codes r plan.Attempt attempt = codes_told (watching r.session.views r.document) (notes.blank notes.modify_attempt) (attempt refl)
  plans_have_codes r plan.Undo attempt = codes_history r notes.performed_undo (undo_changes r.document.history) (undone r.document.history)
  plans_have_codes r plan.Redo attempt = codes_history r notes.performed_redo (redo_changes r.document.history) (redone r.document.history)
  plans_have_codes r (plan.ChangeDocument change value) attempt = codes_change r.view (watching r.session.views r.document) r.document (changed_document r.message.text change r.document) change
  plans_have_codes r _ attempt = tt

-- No note of a plan is SCN_MACRORECORD.

abbrev pub IsNoRecord : Notice → Type 0
IsNoRecord n = (n.code == notes.macro_record) ≡ false

abbrev pub NoRecords : List Notice → Type 0
NoRecords ns = AllByRecursion IsNoRecord ns

pub plans_tell_no_record : (r : Request) (p : Plan) → NoRecords (performed_for r p).1.notes
plans_tell_no_record r p = plans_have_codes (λ (code : ℕ). (code == notes.macro_record) ≡ false) refl refl refl refl r p (λ is. refl)
