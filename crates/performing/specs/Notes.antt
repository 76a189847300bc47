-- What there is to tell of a change, and the notes that tell it.
use Rattle.std.specs.Prelude.{◌<◌, ◌^◌, ℕ, List, [], ◌∷◌, bit_or, pos, negsuc}
use Rattle.ed_types.specs.Notices.{Notice}
use Rattle.ed_model.specs.Lines.{start_of_line}
use Rattle.ed_model.specs.Notes as notes
use Rattle.ed_model.specs.Session.{Document, View, lines_in, text_of}
use Rattle.ed_model.specs.Changes.{line_note}
use Rattle.scene.specs.declared.telling.Audience.{Audience}
use Rattle.scene.specs.declared.telling.Audience.TheVariants.{Everyone, Hearers}
use Rattle.scene.specs.Hearing.{audience_of}
use Rattle.performing.specs.declared.note.ChangeNote.{ChangeNote}
use Rattle.performing.specs.declared.note.ChangeNote.TheVariants as note

-- the kind of the note of a user's change of styles
abbrev pub style_kind : ℕ
style_kind = bit_or notes.change_style notes.performed_user

-- the kind of the note of a user's change of an indicator
abbrev pub indicator_kind : ℕ
indicator_kind = bit_or notes.change_indicator notes.performed_user

-- the note that the markers of a line changed
abbrev pub marker_notice : Document → ℕ → Notice
marker_notice d line = let n = line_note notes.change_marker line in record n { position = pos (start_of_line d.line_end_types (text_of d) line) }

-- the note that tells it of this document
abbrev pub notice_of : Document → ChangeNote → Notice
notice_of d note.Nothing = notes.blank notes.modified
notice_of d note.SavePointReached = notes.blank notes.save_point_reached
notice_of d note.SavePointLeft = notes.blank notes.save_point_left
notice_of d (note.Markers line) = marker_notice d line
notice_of d note.AllMarkers = let n = notes.change_note notes.change_marker in record n { line = negsuc 0 }
notice_of d (note.Level line level before) = let n = line_note notes.change_fold line in record n { now = pos level; prev = pos before }
notice_of d (note.State line) = line_note notes.change_line_state line
notice_of d (note.Range kind start count) = notes.range_note kind start count
notice_of d (note.StyleNeeded past) = let n = notes.blank notes.style_needed in record n { position = pos past }

-- which of the views that watch the document are told: of the save point all of them
abbrev pub audience_for : ChangeNote → Audience
audience_for note.SavePointReached = Everyone
audience_for note.SavePointLeft = Everyone
audience_for other = Hearers

-- the notes to the sending view, and to these views of the document
abbrev pub notes_of : View → List View → Document → ChangeNote → List Notice
notes_of sender views d note.Nothing = []
notes_of sender views d (note.StyleNeeded past) = notes.told (sender ∷ []) (notice_of d (note.StyleNeeded past))
notes_of sender views d other = let n = notice_of d other in notes.told (audience_of (audience_for other) n.kind views) n

-- it names a line of the document, and places that are small
abbrev pub IsFitNote : Document → ChangeNote → Type 0
IsFitNote d (note.Markers line) = line < lines_in d
IsFitNote d (note.Level line level before) = line < lines_in d
IsFitNote d (note.State line) = line < lines_in d
IsFitNote d (note.Range kind start count) = (start < 2 ^ 63) × (count < 2 ^ 63)
IsFitNote d (note.StyleNeeded past) = past < 2 ^ 63
IsFitNote d other = Unit {0}
