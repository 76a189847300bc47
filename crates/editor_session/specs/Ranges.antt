-- Ranges of the text of a session's documents.
use Rattle.std.specs.Prelude.{◌≡◌, ◌+◌, ◌≤◌, ℕ, List, length, slice_range, Ok}
use Rattle.ed_model.specs.Performing.{styled_text}
use Rattle.ed_model.specs.Session.{text_of}
use Rattle.document.specs.Kept.{Kept}
use Rattle.message_requests.specs.Requested.{session_in}
use Rattle.message_requests.specs.declared.state.SessionState.{SessionState}
use Rattle.editor_session.specs.Documents.{OfDocument}
use Rattle.editor_session.specs.Lent.{lent_range}

-- the document has `count` bytes from `start` on
abbrev pub HasRange : ℕ → ℕ → Kept → Type 0
HasRange start count k = start + count ≤ length k.document.cells

-- these are the document's `count` bytes from `start` on
abbrev pub IsRange : ℕ → ℕ → List ℕ → Kept → Type 0
IsRange start count bytes k = bytes ≡ slice_range (text_of k.document) start (start + count)

-- the document's `count` bytes from `start` on, each followed by its style
abbrev pub styled_range : ℕ → ℕ → Kept → List ℕ
styled_range start count k = styled_text (slice_range k.document.cells start (start + count))

-- the view is lent the `count` bytes from `start` on of the document with the id
abbrev pub LendsRange : SessionState → ℕ → ℕ → ℕ → ℕ → Type 0
LendsRange s document view start count =
    OfDocument s.documents document (λ k. lent_range (session_in s) view start count ≡ Ok (slice_range (text_of k.document) start (start + count)))
