-- What a session is asked by a view, as a function of the view's id: the request, what a plan of it does, and the changes that are fit for it.
use Rattle.std.specs.Prelude.{◌≡◌, ℕ, List, [], pos, unwrap_or, ◌≢◌, ◌<◌, map, Some, IsSomeAnd}
use Rattle.ed_model.specs.declared.plan.ViewChange.{ViewChange}
use Rattle.ed_model.specs.declared.plan.SessionChange.{SessionChange}
use Rattle.ed_model.specs.Session.{Session, View, Document, view_at, document_at, new_view, new_document, references, left_by}
use Rattle.ed_model.specs.Requests.{Request}
use Rattle.ed_model.specs.declared.plan.Plan.{Plan}
use Rattle.ed_model.specs.Table.{performed}
use Rattle.ed_types.specs.Notices.{Response}
use Rattle.ed_model.specs.PlansFit.{IsSoundRequest, IsFitViewChange, IsFitSessionChange}
use Rattle.std.specs.List.{AllByRecursion}
use Rattle.ed_model.specs.SoundLaws.{Rise}
use Rattle.id_table.specs.Entries.{Entries, value_at}
use Rattle.document.specs.Kept.{Kept, HasViewRoom}
use Rattle.ed_view.specs.Kept.{HasFewLines}
use Rattle.scene.specs.Scenes.{views_of, AreNamed, HaveWidths}
use Rattle.message_requests.specs.Requested.{documents_in}
use Rattle.message_requests.specs.declared.state.SessionState.{SessionState}
use Rattle.performing.specs.Kept.{DocumentsAreNamed, ViewsRise}

-- The view or the document with this id. (If it is not there, a new one stands in its place: no contract speaks of that.)
unfoldable pub view_asked : List View → ℕ → View
view_asked views id = unwrap_or (view_at views id) (new_view 0 (new_document 0 0))

unfoldable pub document_asked : List Document → ℕ → Document
document_asked documents id = unwrap_or (document_at documents id) (new_document 0 0)

-- the request of a message with this text to the view with this id, on its document
abbrev pub asked : Session → ℕ → List ℕ → Request
asked s view text =
    let v = view_asked s.views view in
    record { session = s; view = v; document = document_asked s.documents v.document; message = record { number = 0; w = pos 0; l = pos 0; text = text } }

-- the session after a plan of such a message, and the reply
abbrev pub performed_at : Session → ℕ → List ℕ → Plan → Session × Response
performed_at s view text what = let v = view_asked s.views view in performed s v (document_asked s.documents v.document) text what

-- a sound request to the view with this id, whose document has that id
pub record IsAsked (s : Session) (document view : ℕ) (text : List ℕ) : Type 0 where
  pub sound : IsSoundRequest (asked s view text)
  pub document_id : (asked s view text).document.id ≡ document
  pub view_id : (asked s view text).view.id ≡ view

-- the change is fit for a sound request; one of a view reads no text
pub record CanChangeView (s : Session) (document view : ℕ) (change : ViewChange) : Type 0 where
  pub request : IsAsked s document view []
  pub fit : IsFitViewChange (asked s view []) change

pub record CanChangeSession (s : Session) (document view : ℕ) (text : List ℕ) (change : SessionChange) : Type 0 where
  pub request : IsAsked s document view text
  pub fit : IsFitSessionChange (asked s view text) change

-- the ids of the documents rise, and are below the next id
abbrev pub DocumentsRise : Entries Kept → Type 0
DocumentsRise table = Rise 0 table.next (map (λ (d : Document). d.id) (documents_in table))

-- documents are kept under their own ids, which rise; no document but `from` lists the view; each has a reference, except perhaps `to`; and `to`
-- exists and has room for a view
pub record CanMove (table : Entries Kept) (from view to : ℕ) : Type 0 where
  pub named : DocumentsAreNamed table.entries
  pub rise : DocumentsRise table
  pub elsewhere : AllByRecursion (λ (d : Document). d.id ≢ from → left_by view d ≡ d) (documents_in table)
  pub referenced : AllByRecursion (λ (d : Document). d.id ≢ to → 0 < references d) (documents_in table)
  pub place : IsSomeAnd (value_at table.entries to) HasViewRoom

-- the same of the session's documents; and the view exists, with few lines, among views that are kept under their own ids, which rise, and whose
-- line numbers have the width of their document
pub record CanAttach (s : SessionState) (from view to : ℕ) : Type 0 where
  pub documents : CanMove s.documents from view to
  pub views : AreNamed s.views.entries
  pub rise : ViewsRise s.views
  pub there : view_at (views_of s.views.entries) view ≡ Some (view_asked (views_of s.views.entries) view)
  pub few : IsSomeAnd (value_at s.views.entries view) HasFewLines
  pub widths : HaveWidths (documents_in s.documents) s.views
