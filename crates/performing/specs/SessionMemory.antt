-- What a change of the session leaves as it was, and what fits in after it.
use Rattle.std.specs.Prelude.{◌≡◌, ℕ, ◌+◌, ◌≤◌, ◌==◌, nat_lt, max, Bool, true, false, List, [], ◌∷◌, ◌++◌, length, unwrap_or, IfSome}
use Rattle.std.specs.Global.{Vec}
use Rattle.ed_model.specs.declared.plan.SessionChange.{SessionChange}
use Rattle.ed_model.specs.declared.plan.SessionChange.TheVariants.{Copy, CopyText, Attach, AttachNew, Create, AddReference, Release}
use Rattle.id_table.specs.Entries.{Entries, Entry, HasRoom, KeepsCapacity, TableCapacity, entry, most_ids, value_at}
use Rattle.document.specs.Kept.{Kept, HasViewRoom, new_kept}
use Rattle.document_table.specs.Leaving.{KeepsRest}
use Rattle.ed_view.specs.Flags.{kept_capacity}
use Rattle.ed_view.specs.Kept.{KeptView}
use Rattle.scene.specs.Scenes.{AreNamed, HaveWidths}
use Rattle.message_requests.specs.declared.state.SessionState.{SessionState}
use Rattle.message_requests.specs.Requested.{documents_in}
use Rattle.performing.specs.Kept.{DocumentsAreNamed}

-- whether the change may need an allocation
abbrev pub takes_memory : SessionChange → Bool
takes_memory (Copy start count) = nat_lt 0 count
takes_memory (CopyText count) = nat_lt 0 count
takes_memory (AddReference id) = false
takes_memory (Release id) = false
takes_memory other = true

-- the change attaches the view to a document that has room for it
abbrev pub HasPlaceFor : SessionChange → List (Entry Kept) → Type 0
HasPlaceFor (Attach id) entries = IfSome (value_at entries id) HasViewRoom
HasPlaceFor other entries = ⊥

-- The table of documents.

-- the table with one document more, and this capacity
abbrev pub with_added : Kept → TableCapacity → Entries Kept → Entries Kept
with_added k capacity t = record { entries = t.entries ++ entry t.next k ∷ []; next = t.next + 1; capacity = capacity }

-- The capacity of the table stays if one more document fits. Otherwise it grows, and of ids to no more than that asks for.
pub record GrowsForOne (old : Entries Kept) (capacity : TableCapacity) : Type 0 where
  pub kept : KeepsCapacity old.capacity capacity
  pub ids : capacity.ids ≤ most_ids 1 old
  pub enough : HasRoom 1 old → capacity ≡ old.capacity

-- the capacity of the table grows at most for a document that the change makes
abbrev pub TableGrows : SessionChange → Entries Kept → TableCapacity → Type 0
TableGrows AttachNew old capacity = GrowsForOne old capacity
TableGrows (Create options) old capacity = GrowsForOne old capacity
TableGrows other old capacity = capacity ≡ old.capacity

-- What fits into a document.

-- whether the change attaches a view to the document with this id, if a new document gets the id `next`
abbrev pub attaches_to : SessionChange → (next id : ℕ) → Bool
attaches_to (Attach to) next id = id == to
attaches_to AttachNew next id = id == next
attaches_to other next id = false

-- the document with this id, or a new one
abbrev pub kept_or_new : List (Entry Kept) → ℕ → Kept
kept_or_new entries id = unwrap_or (value_at entries id) (new_kept id 0)

-- What is stored of a document and what fits in stay as they were. Only if a view is attached to it, more views may fit in: at most twice as many
-- as were on it, or one.
abbrev pub KeepsRoom : Bool → Kept → Kept → Type 0
KeepsRoom false was now = now ≡ record was { document = now.document }
KeepsRoom true was now =
    (now ≡ record was { document = now.document; capacity = record was.capacity { views = now.capacity.views } })
    × (now.capacity.views ≤ max was.capacity.views (length was.document.views + max 1 (length was.document.views)))

-- this holds of each document after the change
abbrev pub RoomsGrow : SessionChange → Entries Kept → List (Entry Kept) → Type 0
RoomsGrow change old new = (id : ℕ) → IfSome (value_at new id) (KeepsRoom (attaches_to change old.next id) (kept_or_new old.entries id))

-- The session.

-- the clipboard stays, unless the change copies to it
abbrev pub KeepsClipboard : SessionChange → Vec ℕ → Vec ℕ → Type 0
KeepsClipboard (Copy start count) old new = Unit {0}
KeepsClipboard (CopyText count) old new = Unit {0}
KeepsClipboard other old new = new ≡ old

-- each view keeps its capacity for hidden and contracted lines if its line numbers keep their width, and has none otherwise
abbrev pub KeepFolds : List (Entry KeptView) → List (Entry KeptView) → Type 0
KeepFolds old new = (id : ℕ) → IfSome (value_at old id) (λ was. IfSome (value_at new id) (λ now. now.capacity ≡ kept_capacity was.large now.large was.capacity))

-- The limits stay, and what fits into the views and into their table. Documents and views are kept under their own ids, views have line numbers of
-- their document's width, and no more memory was allocated for documents than the change needs.
pub record Stays (change : SessionChange) (old new : SessionState) : Type 0 where
  pub limits : new.limits ≡ old.limits
  pub clipboard : KeepsClipboard change old.clipboard new.clipboard
  pub documents : DocumentsAreNamed new.documents.entries
  pub table : TableGrows change old.documents new.documents.capacity
  pub rooms : RoomsGrow change old.documents new.documents.entries
  pub views : AreNamed new.views.entries
  pub widths : HaveWidths (documents_in new.documents) new.views
  pub folds : KeepFolds old.views.entries new.views.entries
  pub view_capacity : new.views.capacity ≡ old.views.capacity

-- Changes that allocate nothing.

-- the documents that are left keep their capacities, and are kept under their own ids
pub record TableStays (old new : Entries Kept) : Type 0 where
  pub next : new.next ≡ old.next
  pub capacity : new.capacity ≡ old.capacity
  pub named : DocumentsAreNamed new.entries
  pub rest : (id : ℕ) → KeepsRest id old.entries new.entries

-- .. and so do the views
pub record AllStays (old new : SessionState) : Type 0 where
  pub limits : new.limits ≡ old.limits
  pub clipboard : new.clipboard ≡ old.clipboard
  pub documents : TableStays old.documents new.documents
  pub views : AreNamed new.views.entries
  pub widths : HaveWidths (documents_in new.documents) new.views
  pub folds : KeepFolds old.views.entries new.views.entries
  pub view_capacity : new.views.capacity ≡ old.views.capacity
