-- An invariant that every change of a document keeps holds for the document in every state of a run.
use Rattle.run_laws.proofs.Names.{◌≡◌, ℕ, ◌≤◌, nat_lt, Bool, false, List, [], ◌∷◌, length, refl, arith, Option, Some, None, Command, DocumentChange, Plan, Step, History, Change, TextStep, ContainerStep, undo_changes, redo_changes, undone, redone, Session, Document, document_at, Request, steps_of, Scene, scene_of, document_after, changes_performed, change_performed, transaction_performed, changed_document, Running, after_command, run_to, IsSound, CommandKeepsSound, PlansFit, request}
use Rattle.ed_model.specs.declared.plan.Plan.TheVariants as plan
use Rattle.ed_model.specs.Notes as notes
use Rattle.run_laws.proofs.Walks.{edit_kept, changes_kept}
use Rattle.run_laws.proofs.Going.{IsMadeNew, own_after, From, command_from, MayGo}
use Rattle.run_laws.proofs.IdLemmas.{next_document_rises}
use Rattle.run_laws.proofs.TableWays.{of_each_message}

-- `Holds` holds for a new document, whose id is at least `low`. Steps, changes of the history and all other changes keep it, and
-- it does not depend on the views and the references of the document.
module _ (Holds : Document → Type 0) (low : ℕ) (new : (e : Document) → low ≤ e.id → IsMadeNew e → Holds e)
    (relisted : (e : Document) (views : List ℕ) (held_by_callers : ℕ) → Holds e → Holds (record e { views = views; held_by_callers = held_by_callers }))
    (stepped : (step : Step) (d : Document) → Holds d → Holds (document_after step d))
    (recalled : (h : History) (d : Document) → Holds d → Holds (record d { history = h }))
    (changed : (bytes : List ℕ) (change : DocumentChange) (d : Document) → Holds d → Holds (changed_document bytes change d)) where
  change_holds : (who several : ℕ) (last lines_changed : Bool) (c : Change) (scene : Scene) → Holds scene.document → Holds (change_performed who several last lines_changed c scene).document
  change_holds who several last lines_changed (TextStep step) scene h = stepped step scene.document h
  change_holds who several last lines_changed (ContainerStep token coalesce) scene h = h

  transaction_holds : (who : ℕ) (cs : List Change) (h : History) (scene : Scene) → Holds scene.document → Holds (transaction_performed who cs h scene).document
  transaction_holds who cs h scene was =
      let several = notes.bit_if (nat_lt 1 (length cs)) notes.multi_step in
      recalled h (changes_performed who several false cs scene).document (changes_kept (λ (x : Scene). Holds x.document) change_holds who several false cs scene was)

  own_holds : (r : Request) (p : Plan) → Holds r.document → Holds (own_after r p)
  own_holds r (plan.Edit change value after) h =
      edit_kept (λ (x : Scene). Holds x.document) (λ later step x k. recalled _ (document_after step x.document) (stepped step x.document k)) (λ x k. recalled _ x.document k)
      (steps_of r change) (scene_of r.session r.document) h
  own_holds r plan.Undo h = transaction_holds notes.performed_undo (undo_changes r.document.history) (undone r.document.history) (scene_of r.session r.document) h
  own_holds r plan.Redo h = transaction_holds notes.performed_redo (redo_changes r.document.history) (redone r.document.history) (scene_of r.session r.document) h
  own_holds r (plan.ChangeDocument change value) h = changed r.message.text change r.document h
  own_holds r _ h = h

  abbrev Stays : Document → Document → Type 0
  Stays d e = Holds d → Holds e

  abbrev pub OfAll : Session → Type 0
  OfAll s = (id : ℕ) (d : Document) → document_at s.documents id ≡ Some d → Holds d

  command_holds : PlansFit → (files : List (List ℕ)) (c : Command) (s : Running) → IsSound s.session → low ≤ s.session.next_document → OfAll s.session
      → OfAll (after_command files c s).0.session
  command_holds fits files c s sound le all id e f =
      go (document_at s.session.documents id) refl
      (command_from Stays (λ d h. h) (λ d e views held_by_callers k h. relisted e views held_by_callers (k h)) fits files c s sound
      (of_each_message (MayGo Stays s.session) (λ view m v kind d p sent h fit. own_holds (request s.session v d m) p) c) id e f)
    where
      go : (o : Option Document) → document_at s.session.documents id ≡ o → From Stays s.session.next_document o e → Holds e
      go None found h = let above : s.session.next_document ≤ e.id = h.0 in new e (omega arith) h.1
      go (Some d) found h = h (all id d found)

  -- in a run from a session in which all documents have it, and the next id is at least `low`, all documents have it at the end
  pub run_holds : PlansFit → CommandKeepsSound → (files : List (List ℕ)) (cs : List Command) (s : Running) → IsSound s.session → low ≤ s.session.next_document → OfAll s.session
      → OfAll (run_to files cs s).session
  run_holds fits keeps files [] s h le all = all
  run_holds fits keeps files (c ∷ cs) s h le all =
      let rises = next_document_rises files c s in
      run_holds fits keeps files cs (after_command files c s).0 (keeps files c s h) (omega arith) (command_holds fits files c s h le all)
