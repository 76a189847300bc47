-- Changes that fit their document.
use Rattle.std.specs.Prelude.{◌≤◌, ◌<◌, ◌+◌, ◌^◌, ℕ, length}
use Rattle.ed_model.specs.declared.plan.DocumentChange.{DocumentChange}
use Rattle.ed_model.specs.declared.plan.DocumentChange.TheVariants as change
use Rattle.ed_model.specs.LinePlans.{numbers_in}
use Rattle.ed_model.specs.Session.{Document, lines_in}

-- The numbers of a change are in range for the document, as for a fit plan. Handles stay below 2 ^ 32.
abbrev pub IsFitChange : Document → DocumentChange → Type 0
IsFitChange d change.BeginGroup = d.history.depth + 1 < 2 ^ 64
IsFitChange d (change.AddMarker line number) = (line < lines_in d) × (number < 32) × (d.next_handle + 1 < 2 ^ 32)
IsFitChange d (change.AddMarkers line mask) = (line < lines_in d) × (d.next_handle + length (numbers_in mask) < 2 ^ 32)
IsFitChange d (change.DeleteMarker line number) = line < lines_in d
IsFitChange d (change.DeleteHandle handle) = handle < d.next_handle
IsFitChange d (change.SetLevel line level) = line < lines_in d
IsFitChange d (change.SetState line state) = line < lines_in d
IsFitChange d (change.StyleRun count style) = d.end_styled + count ≤ length d.cells
IsFitChange d (change.StyleBytes count) = d.end_styled + count ≤ length d.cells
IsFitChange d (change.NeedStyle start past) = past ≤ length d.cells
IsFitChange d (change.FillIndicator indicator start count value) = (indicator < 32) × (start + count ≤ length d.cells)
IsFitChange d other = Unit {0}

-- how many bytes of the message's text the change reads
abbrev pub bytes_read : DocumentChange → ℕ
bytes_read (change.StyleBytes count) = count
bytes_read other = 0
