-- What a plan does: the session afterwards, and the reply.
use Rattle.std.specs.Prelude.{ℕ, ◌+◌, ◌==◌, nat_lt, min, not, ◌&&◌, if◌then◌else◌, Bool, true, false, ℤ, pos, List, [], ◌∷◌, ◌++◌, length, map, flat_map, reverse, slice_range, bit_or, Option, Some, None}
use Rattle.ed_types.specs.Notices.{Notice, Response}
use Rattle.ed_model.specs.declared.plan.Edit.{Edit}
use Rattle.ed_model.specs.declared.plan.Follow.{Follow}
use Rattle.ed_model.specs.declared.plan.Follow.TheVariants as follow
use Rattle.ed_model.specs.Text.{Cell}
use Rattle.ed_model.specs.Steps.{Step, Insert, Delete, place_of, edited_cells, moved_position}
use Rattle.ed_model.specs.Carry.{carried_by}
use Rattle.ed_model.specs.Rows.{rows_together, flags_together}
use Rattle.ed_model.specs.Indicators.{indicators_after}
use Rattle.ed_model.specs.History.{History, Change, TextStep, ContainerStep, appended, begins_transaction, at_save_point, sealed_outside_groups, latest_text_step}
use Rattle.ed_model.specs.Numbers.{growth}
use Rattle.ed_model.specs.Session.{Session, View, Document, text_of, lines_in, with_document, watching}
use Rattle.ed_model.specs.Notes as notes
use Rattle.ed_model.specs.Edits.{steps_in}

abbrev pub response : ℤ → List ℕ → List Notice → Response
response value bytes notes = record { value = value; text = bytes; notes = notes }

-- a reply with this value, without text and notes
abbrev pub quiet : ℤ → Response
quiet value = response value [] []

-- Steps.

-- the document after a step of its text; its history stays
abbrev pub document_after : Step → Document → Document
document_after step d = record d {
  cells = edited_cells step d.cells;
  rows = carried_by rows_together d.line_end_types step (text_of d) d.rows;
  indicators = indicators_after step d.indicators;
  end_styled = min d.end_styled (place_of step);
}

-- the view after a step of its document
abbrev pub moved_view : Step → Document → View → View
moved_view step d v = record v {
  anchor = moved_position step v.anchor;
  caret = moved_position step v.caret;
  target_start = moved_position step v.target_start;
  target_end = moved_position step v.target_end;
  flags = carried_by flags_together d.line_end_types step (text_of d) v.flags;
}

abbrev pub view_after : Step → Document → View → View
view_after step d v = if v.document == d.id then moved_view step d v else v

-- A scene: a document on which steps are performed, the views of the session, and the notes so far.
pub record Scene : Type 0 where
  pub document : Document
  pub views : List View
  pub notes : List Notice

-- the scene after a step, with a note before it and one after it with these bits, and the notes `between` in between; the history stays
abbrev pub step_heard : ℕ → ℕ → List Notice → Step → Scene → Scene
step_heard before_bits after_bits between step scene =
    let views = watching scene.views scene.document in
    let after = document_after step scene.document in
    record {
      document = after;
      views = map (view_after step scene.document) scene.views;
      notes = scene.notes ++ notes.heard views (notes.before_note before_bits step) ++ between
          ++ notes.heard views (notes.after_note after_bits (growth (lines_in scene.document) (lines_in after)) step);
    }

abbrev pub with_history : History → Scene → Scene
with_history history scene = let d = scene.document in record scene { document = record d { history = history } }

-- the notes that the save point is left (SCN_SAVEPOINTLEFT), if undo is collected and the document is at it
abbrev pub leaving : List View → History → List Notice
leaving views h = if h.collecting && at_save_point h then notes.told views (notes.blank notes.save_point_left) else []

-- the scene after a step of a message is performed and appended to the history; `later` says that it is not the message's first
abbrev pub step_made : Bool → Step → Scene → Scene
step_made later step scene =
    let h = scene.document.history in
    let bits = bit_or notes.performed_user (notes.bit_if (begins_transaction later (TextStep step) h) notes.start_action) in
    with_history (appended later (TextStep step) h)
    (step_heard notes.performed_user bits (leaving (watching scene.views scene.document) h) step scene)

abbrev pub steps_made : Bool → List Step → Scene → Scene
steps_made later [] scene = scene
steps_made later (step ∷ steps) scene = steps_made true steps (step_made later step scene)

abbrev pub sealed_scene : Scene → Scene
sealed_scene scene = with_history (sealed_outside_groups scene.document.history) scene

-- the scene after the steps of one message; a message of several steps seals the last transaction before them, and their own
-- after them, outside groups
abbrev pub edit_made : List Step → Scene → Scene
edit_made steps scene = if nat_lt 1 (length steps) then sealed_scene (steps_made false steps (sealed_scene scene)) else steps_made false steps scene

-- Undo and redo.

-- the bits that only the last change has: SC_LASTSTEPINUNDOREDO, and SC_MULTILINEUNDOREDO if any change altered the number of lines
abbrev pub last_bits : Bool → Bool → ℕ
last_bits true lines_changed = bit_or notes.last_step (notes.bit_if lines_changed notes.multi_line)
last_bits false lines_changed = 0

abbrev pub is_last : List Change → Bool
is_last [] = true
is_last (c ∷ cs) = false

abbrev pub container_note : ℕ → ℤ → Notice
container_note bits token = let n = notes.change_note (bit_or notes.container bits) in record n { token = token }

-- the scene after a change is undone or redone; `who` is the bit of undo or of
-- redo, `several` the bit that the transaction has several changes
abbrev pub change_performed : ℕ → ℕ → Bool → Bool → Change → Scene → Scene
change_performed who several last lines_changed (TextStep step) scene =
    step_heard who (bit_or (bit_or who several) (last_bits last lines_changed)) [] step scene
change_performed who several last lines_changed (ContainerStep token coalesce) scene =
    record scene { notes = scene.notes ++ notes.heard (watching scene.views scene.document) (container_note (bit_or (bit_or who several) (last_bits last lines_changed)) token) }

-- whether the change alters the number of lines of the document
abbrev pub changes_lines : Change → Document → Bool
changes_lines (TextStep step) d = not (lines_in d == lines_in (document_after step d))
changes_lines (ContainerStep token coalesce) d = false

abbrev pub changes_performed : ℕ → ℕ → Bool → List Change → Scene → Scene
changes_performed who several lines_changed [] scene = scene
changes_performed who several lines_changed (c ∷ cs) scene =
    let changed = (if lines_changed then true else changes_lines c scene.document) in
    changes_performed who several changed cs (change_performed who several (is_last cs) changed c scene)

-- the notes that the save point is reached or left, if GETMODIFY's answer changed
abbrev pub save_point_change : List View → Bool → Bool → List Notice
save_point_change views true true = []
save_point_change views true false = notes.told views (notes.blank notes.save_point_left)
save_point_change views false true = notes.told views (notes.blank notes.save_point_reached)
save_point_change views false false = []

-- the scene after a transaction is undone or redone; `new` is the history afterwards
abbrev pub transaction_performed : ℕ → List Change → History → Scene → Scene
transaction_performed who changes new scene =
    let done = changes_performed who (notes.bit_if (nat_lt 1 (length changes)) notes.multi_step) false changes scene in
    let told = save_point_change (watching done.views done.document) (at_save_point scene.document.history) (at_save_point new) in
    with_history new (record done { notes = done.notes ++ told })

-- The session afterwards.

abbrev pub scene_of : Session → Document → Scene
scene_of s d = record { document = d; views = s.views; notes = [] }

abbrev pub session_of : Session → Scene → Session
session_of s scene = record s { documents = with_document scene.document s.documents; views = scene.views }

abbrev pub with_caret : ℕ → ℕ → List View → List View
with_caret id place views = map (λ (v : View). if v.id == id then record v { anchor = place; caret = place } else v) views

abbrev pub with_target : ℕ → ℕ → ℕ → List View → List View
with_target id start past views = map (λ (v : View). if v.id == id then record v { target_start = start; target_end = past } else v) views

-- the session after what follows an edit; `before` is the text before the edit
abbrev pub followed : ℕ → List ℕ → Follow → Session → Session
followed view before follow.Nothing s = s
followed view before (follow.Caret place) s = record s { views = with_caret view place s.views }
followed view before (follow.Target start past) s = record s { views = with_target view start past s.views }
followed view before (follow.Clipboard start count) s = record s { clipboard = slice_range before start (start + count) }

abbrev pub edit_performed : Session → View → Document → List ℕ → Edit → ℤ → Follow → Session × Response
edit_performed s v d bytes change value after =
    let scene = edit_made (steps_in s d bytes change) (scene_of s d) in
    (followed v.id (text_of d) after (session_of s scene), response value [] scene.notes)

-- the position of anchor and caret after the last step that undo or redo performed
abbrev pub place_behind : Step → ℕ
place_behind (Insert p bytes) = p + length bytes
place_behind (Delete p bytes) = p

abbrev pub caret_behind : ℕ → Option Step → List View → List View
caret_behind view None views = views
caret_behind view (Some step) views = with_caret view (place_behind step) views

abbrev pub history_performed : Session → View → Document → ℕ → List Change → History → Session × Response
history_performed s v d who changes new =
    let scene = transaction_performed who changes new (scene_of s d) in
    let after = session_of s scene in
    (record after { views = caret_behind v.id (latest_text_step (reverse changes)) after.views }, response (pos 0) [] scene.notes)

-- byte, style, byte, style and so on (SCI_GETSTYLEDTEXT)
abbrev pub styled_text : List Cell → List ℕ
styled_text cells = flat_map (λ (c : Cell). c.byte ∷ c.style ∷ []) cells
