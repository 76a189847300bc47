-- The list of notes after views are notified, and what the list can hold.
use Rattle.std.specs.Prelude.{ℕ, ◌≤◌, List, ◌++◌, length}
use Rattle.ed_types.specs.Notices.{Notice}
use Rattle.ed_model.specs.Performing.{Scene}
use Rattle.notify.specs.Gathered.{Gathered}

-- these notes are appended
abbrev pub with_notes : List Notice → Gathered → Gathered
with_notes added g = record g { notes = g.notes ++ added }

-- the notes of the scene fit into the list, and so do texts of this many bytes
abbrev pub CanHold : Gathered → Scene → ℕ → Type 0
CanHold g scene held = (length scene.notes ≤ g.capacity.notes) × (held ≤ g.capacity.bytes)
