-- Kinds of messages, by what they change beside their document and its views: the clipboard, documents and their references, or a
-- recording. Kinds that set a save point.
use Rattle.std.specs.Prelude.{Bool, true, false}
use Rattle.ed_types.specs.declared.kind.Kind.{Kind}
use Rattle.ed_types.specs.declared.kind.Kind.TheVariants.{Cut, Copy, CopyRange, CopyText, SetDocPointer, CreateDocument, AddRefDocument, ReleaseDocument, StartRecord, StopRecord, SetSavePoint, EmptyUndoBuffer}

-- whether it may take bytes to the clipboard
abbrev pub is_copying : Kind → Bool
is_copying Cut = true
is_copying Copy = true
is_copying CopyRange = true
is_copying CopyText = true
is_copying other = false

-- whether it creates, attaches, holds or releases documents
abbrev pub is_about_documents : Kind → Bool
is_about_documents SetDocPointer = true
is_about_documents CreateDocument = true
is_about_documents AddRefDocument = true
is_about_documents ReleaseDocument = true
is_about_documents other = false

-- whether it starts or stops a recording
abbrev pub is_about_recording : Kind → Bool
is_about_recording StartRecord = true
is_about_recording StopRecord = true
is_about_recording other = false

-- whether it sets a save point
abbrev pub is_saving : Kind → Bool
is_saving SetSavePoint = true
is_saving EmptyUndoBuffer = true
is_saving other = false
