-- Edits of a document of the session, and what follows them.
use Rattle.std.specs.Prelude.{◌≡◌, ℕ, ◌+◌, ◌≤◌, Bool, true, false, Option, Some, None, List, [], take, slice_range}
use Rattle.ed_model.specs.declared.plan.LineEnd.{LineEnd}
use Rattle.ed_model.specs.declared.plan.Source.{Source}
use Rattle.ed_model.specs.declared.plan.Source.TheVariants as source
use Rattle.ed_model.specs.declared.plan.Edit.{Edit}
use Rattle.ed_model.specs.declared.plan.Edit.TheVariants as edit
use Rattle.ed_model.specs.declared.plan.Follow.{Follow}
use Rattle.ed_model.specs.declared.plan.Follow.TheVariants as follow
use Rattle.ed_model.specs.LineEnds.{line_end_bytes, converted, conversion_steps}
use Rattle.ed_model.specs.Steps.{Step, replacement}
use Rattle.ed_model.specs.Session.{Document, View, text_of}
use Rattle.ed_model.specs.Performing.{with_caret, with_target}
use Rattle.id_table.specs.Entries.{Entries}
use Rattle.ed_view.specs.Kept.{KeptView}
use Rattle.scene.specs.Scenes.{views_of}

-- the bytes of a source lie in a text of the length
abbrev pub IsStoredIn : Source → ℕ → Type 0
IsStoredIn (source.MessageText count) size = count ≤ size
IsStoredIn other size = Unit {0}

-- the bytes of a source, as they stand in the message's text, in the clipboard, in what the clipboard was turned into, or as the line end
abbrev pub stored_bytes : Source → List ℕ → List ℕ → List ℕ → LineEnd → List ℕ
stored_bytes source.Nothing text clipboard pasted end = []
stored_bytes (source.MessageText count) text clipboard pasted end = take count text
stored_bytes (source.Clipboard true) text clipboard pasted end = pasted
stored_bytes (source.Clipboard false) text clipboard pasted end = clipboard
stored_bytes source.LineEnd text clipboard pasted end = line_end_bytes end

-- the steps of an edit of the document
abbrev pub edit_steps : Edit → List ℕ → List ℕ → List ℕ → Document → List Step
edit_steps (edit.Replace start count from) text clipboard pasted d = replacement start count (stored_bytes from text clipboard pasted d.line_end) (text_of d)
edit_steps (edit.ConvertLineEnds to) text clipboard pasted d = conversion_steps to (text_of d)

-- the edit puts in the clipboard with other line ends
abbrev pub is_turned : Edit → Bool
is_turned (edit.Replace start count (source.Clipboard convert)) = convert
is_turned other = false

-- what the clipboard was turned into, where the edit puts that in
abbrev pub IsPastedFor : Edit → List ℕ → LineEnd → List ℕ → Type 0
IsPastedFor (edit.Replace start count (source.Clipboard true)) clipboard end pasted = pasted ≡ converted end clipboard
IsPastedFor other clipboard end pasted = Unit {0}

-- the ranges of an edit lie in texts of these lengths: the document's, and the message's
abbrev pub IsEditWithin : Edit → ℕ → ℕ → Type 0
IsEditWithin (edit.Replace start count from) size text = (start + count ≤ size) × IsStoredIn from text
IsEditWithin (edit.ConvertLineEnds to) size text = Unit {0}

-- What follows.

-- what goes to the clipboard is in a text of this length
abbrev pub TakesWithin : Follow → ℕ → Type 0
TakesWithin (follow.Clipboard start count) size = start + count ≤ size
TakesWithin other size = Unit {0}

-- how many bytes go to the clipboard
abbrev pub clipboard_need : Follow → ℕ
clipboard_need (follow.Clipboard start count) = count
clipboard_need other = 0

abbrev pub taken_along : Follow → List ℕ → List ℕ
taken_along (follow.Clipboard start count) text = slice_range text start (start + count)
taken_along other text = []

abbrev pub followed_views : ℕ → Follow → List View → List View
followed_views view (follow.Caret place) views = with_caret view place views
followed_views view (follow.Target start past) views = with_target view start past views
followed_views view other views = views

-- the views, once the caret of one stands at the place, if there is a place
abbrev pub with_caret_if : ℕ → Option ℕ → List View → List View
with_caret_if view None views = views
with_caret_if view (Some place) views = with_caret view place views

-- the views are those before it, once the view with the id has followed the edit
abbrev pub FollowsEdit : ℕ → Follow → Entries KeptView → Entries KeptView → Type 0
FollowsEdit view after views views' = views_of views'.entries ≡ followed_views view after (views_of views.entries)

abbrev pub followed_clipboard : Follow → List ℕ → List ℕ → List ℕ
followed_clipboard (follow.Clipboard start count) taken clipboard = taken
followed_clipboard other taken clipboard = clipboard
