-- The model's session in what a `SessionState` keeps, and the model's request in what a `Request` borrows.
use Rattle.std.specs.Prelude.{◌≡◌, List, map}
use Rattle.std.specs.List.{AllByRecursion}
use Rattle.ed_types.specs.declared.message.Message.{Message}
use Rattle.ed_model.specs.Session.{Session, Document, View}
use Rattle.ed_model.specs.Requests.{Request}
use Rattle.document.specs.Kept.{Kept}
use Rattle.ed_view.specs.Kept.{KeptView}
use Rattle.id_table.specs.Entries.{Entries, Entry}
use Rattle.message_requests.specs.declared.state.SessionState.{SessionState}

-- the documents of a table, and the views of a table, in the order of their ids
abbrev pub documents_in : Entries Kept → List Document
documents_in table = map (λ (e : Entry Kept). e.value.document) table.entries

abbrev pub views_in : Entries KeptView → List View
views_in table = map (λ (e : Entry KeptView). e.value.view) table.entries

-- the model's session
abbrev pub session_in : SessionState → Session
session_in s = record {
  documents = documents_in s.documents;
  views = views_in s.views;
  clipboard = s.clipboard.items;
  next_document = s.documents.next;
  next_view = s.views.next;
  limits = s.limits;
}

-- the model's request of a message to this view on this document
abbrev pub request_in : SessionState → KeptView → Kept → Message → Request
request_in s v k m = record { session = session_in s; view = v.view; document = k.document; message = m }

-- each document is kept under its own id
abbrev pub DocumentsAreNamed : SessionState → Type 0
DocumentsAreNamed s = AllByRecursion (λ (e : Entry Kept). e.id ≡ e.value.document.id) s.documents.entries
