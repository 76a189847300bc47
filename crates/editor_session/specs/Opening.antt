-- A view that is opened with a document of its own.
use Rattle.std.specs.Prelude.{ℕ, ◌+◌, ◌∷◌, ◌++◌, []}
use Rattle.ed_model.specs.Session.{Session, Document, new_document, new_view}

-- a new document that one view is attached to
abbrev pub document_for : ℕ → ℕ → Document
document_for view id = let d = new_document id 0 in record d { views = view ∷ [] }

-- the session with another view, on a document of its own
abbrev pub with_view_on_new : Session → Session
with_view_on_new s = record s {
  documents = s.documents ++ document_for s.next_view s.next_document ∷ [];
  views = s.views ++ new_view s.next_view (new_document s.next_document 0) ∷ [];
  next_document = s.next_document + 1;
  next_view = s.next_view + 1;
}
