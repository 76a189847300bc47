-- What holds of a session between calls.
use Rattle.std.specs.Prelude.{◌≡◌, ◌≢◌, ℕ, true, List, map}
use Rattle.std.specs.List.{AllByRecursion}
use Rattle.ed_model.specs.Session.{View, is_allowed}
use Rattle.ed_model.specs.SoundLaws.{Rise, IsSound}
use Rattle.id_table.specs.Entries.{Entry, Entries, value_at}
use Rattle.document.specs.Kept.{Kept}
use Rattle.ed_view.specs.Kept.{KeptView}
use Rattle.scene.specs.Scenes.{views_of, AreNamed, HaveWidths}
use Rattle.message_requests.specs.Requested.{documents_in, session_in}
use Rattle.message_requests.specs.declared.state.SessionState.{SessionState}

-- each document is kept under its own id
abbrev pub DocumentsAreNamed : List (Entry Kept) → Type 0
DocumentsAreNamed entries = AllByRecursion (λ (e : Entry Kept). e.id ≡ e.value.document.id) entries

-- The session is sound, its limits are allowed, it keeps documents and views under their own ids, and views have line numbers of their document's
-- width.
pub record IsKept (s : SessionState) : Type 0 where
  pub sound : IsSound (session_in s)
  pub limits : is_allowed s.limits ≡ true
  pub documents : DocumentsAreNamed s.documents.entries
  pub views : AreNamed s.views.entries
  pub widths : HaveWidths (documents_in s.documents) s.views

-- the ids of views rise
abbrev pub ViewsRise : Entries KeptView → Type 0
ViewsRise views = Rise 0 views.next (map (λ (v : View). v.id) (views_of views.entries))

-- the values of all other ids stay as they were
abbrev pub OthersStay : {V : Type 0} → ℕ → List (Entry V) → List (Entry V) → Type 0
OthersStay id old new = (other : ℕ) → other ≢ id → value_at new other ≡ value_at old other
