-- A scene as it is stored: a document, the views of the session by their ids, and the notes.
use Rattle.std.specs.Prelude.{◌≡◌, ℕ, Bool, List, map}
use Rattle.std.specs.List.{AllByRecursion}
use Rattle.ed_types.specs.Notices.{Notice}
use Rattle.ed_model.specs.Session.{Document, View, is_large, watching}
use Rattle.ed_model.specs.Performing.{Scene}
use Rattle.ed_model.specs.SoundLaws.{Rise, StandsOn, ListsItsViews}
use Rattle.id_table.specs.Entries.{Entry, Entries, id_of}
use Rattle.ed_view.specs.Kept.{KeptView}
use Rattle.notify.specs.Gathered.{Gathered}
use Rattle.document.specs.Kept.{Kept}
use Rattle.document.specs.Memory.{KeepsCapacity}

abbrev pub views_of : List (Entry KeptView) → List View
views_of entries = map (λ (e : Entry KeptView). e.value.view) entries

abbrev pub scene_in : Document → List (Entry KeptView) → List Notice → Scene
scene_in d entries notes = record { document = d; views = views_of entries; notes = notes }

-- the views of the session, in the order of their ids
abbrev pub views_in : Entries KeptView → List View
views_in table = views_of table.entries

-- the scene of a document, the views of the session and the notes so far
abbrev pub kept_scene : Kept → Entries KeptView → Gathered → Scene
kept_scene k views gathered = scene_in k.document views.entries gathered.notes

-- the views that watch the document, in the order of attaching
abbrev pub watchers : Document → Entries KeptView → List View
watchers d table = watching (views_of table.entries) d

-- the document of a view, and whether its line numbers have 64 bits, and not 32
pub record ViewWidth : Type 0 where
  pub document : ℕ
  pub large : Bool

abbrev pub width_of : KeptView → ViewWidth
width_of kept = record { document = kept.view.document; large = kept.large }

abbrev pub width_at : Entry KeptView → ViewWidth
width_at e = width_of e.value

-- each view keeps its document, and the width of its line numbers
abbrev pub KeepWidths : Entries KeptView → Entries KeptView → Type 0
KeepWidths old new = map width_at new.entries ≡ map width_at old.entries

-- each view keeps its capacity for hidden and contracted lines
abbrev pub KeepFoldCapacities : Entries KeptView → Entries KeptView → Type 0
KeepFoldCapacities old new = map (λ (e : Entry KeptView). e.value.capacity) new.entries ≡ map (λ (e : Entry KeptView). e.value.capacity) old.entries

-- no view came or went, none changed its document or its width, and the table of views keeps its capacity and those of its views
pub record ViewsStay (old new : Entries KeptView) : Type 0 where
  pub ids : map id_of new.entries ≡ map id_of old.entries
  pub next : new.next ≡ old.next
  pub view_capacity : new.capacity ≡ old.capacity
  pub widths : KeepWidths old new
  pub fold_capacities : KeepFoldCapacities old new

-- The document and the notes keep their capacity, too: nothing was allocated.
pub record RoomsStay (old new : Kept) (views views' : Entries KeptView) (notes notes' : Gathered) : Type 0 where
  pub memory : KeepsCapacity old new
  pub capacity : notes'.capacity ≡ notes.capacity
  pub table : ViewsStay views views'

-- the ids of the views rise, and are below the next one
abbrev pub IdsRise : Entries KeptView → Type 0
IdsRise table = Rise 0 table.next (map id_of table.entries)

-- each view is stored under its own id
abbrev pub AreNamed : List (Entry KeptView) → Type 0
AreNamed entries = AllByRecursion (λ (e : Entry KeptView). e.id ≡ e.value.view.id) entries

-- a view of the document has its positions and lines in it
abbrev pub StandsIfOn : Document → View → Type 0
StandsIfOn d v = v.document ≡ d.id → StandsOn d v

-- a view of the document has line numbers of the document's width
abbrev pub HasWidthIfOn : Document → ViewWidth → Type 0
HasWidthIfOn d width = width.document ≡ d.id → width.large ≡ is_large d

-- the views with these widths that are on the document have its width
abbrev pub HasWidths : List ViewWidth → Document → Type 0
HasWidths widths d = AllByRecursion (HasWidthIfOn d) widths

-- the views on each of the documents have line numbers of the document's width
abbrev pub HaveWidths : List Document → Entries KeptView → Type 0
HaveWidths documents views = AllByRecursion (HasWidths (map width_at views.entries)) documents

-- Each view is stored under its own id, and the ids rise. The document lists the views on it, whose positions and lines are in it, and whose
-- line numbers have its width.
pub record IsWatched (d : Document) (table : Entries KeptView) : Type 0 where
  pub named : AreNamed table.entries
  pub rise : Rise 0 table.next (map (λ (v : View). v.id) (views_of table.entries))
  pub listed : ListsItsViews (views_of table.entries) d
  pub stand : AllByRecursion (StandsIfOn d) (views_of table.entries)
  pub widths : HasWidths (map width_at table.entries) d
