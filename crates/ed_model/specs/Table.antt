-- The message table: the plan or refusal of each message, and what a message to a session does.
--
-- The path of a message: `table` looks up the view, the kind of the message and the view's document (`Session`, `Messages`), and
-- makes a `Request` of them (`Requests`). `plan_of` gives the plan, or the first refusal that applies: one file for each family
-- of messages (`TextPlans` to `SessionPlans`), and `Edits` for edits of the text. `performed` performs the plan: steps with their
-- notes, undo and redo in `Performing` (over `Steps`, `Carry`, `Rows`, `Indicators`, `History` and `Notes`), all other changes in
-- `Changes` (with `Folding`). `Run` has runs of several commands.
use Rattle.std.specs.Prelude.{ℕ, ◌+◌, nat_lt, nat_le, ◌==◌, not, ◌||◌, ◌&&◌, if◌then◌else◌, pos, List, [], ◌∷◌, ◌++◌, length, map, filter, slice_range, Result, Ok, Err, Option, Some, None}
use Rattle.ed_types.specs.declared.kind.Kind.{Kind}
use Rattle.ed_types.specs.declared.kind.Kind.TheVariants as kinds
use Rattle.ed_types.specs.declared.message.Message.{Message}
use Rattle.ed_types.specs.declared.limits.Limits.{Limits}
use Rattle.ed_types.specs.declared.refusal.Refusal.{Refusal}
use Rattle.ed_types.specs.declared.refusal.Refusal.TheVariants.{NoSuchView, UnknownMessage, NoSuchDocument, TooMany, BadArgument}
use Rattle.ed_types.specs.Messages.{kind_of, marks_of}
use Rattle.ed_types.specs.Notices.{Notice, Response}
use Rattle.ed_model.specs.declared.plan.Plan.{Plan}
use Rattle.ed_model.specs.declared.plan.Plan.TheVariants as plan
use Rattle.ed_model.specs.History.{undo_changes, redo_changes, undone, redone}
use Rattle.ed_model.specs.Session.{Session, Document, View, text_of, view_at, document_at, watching, new_document, new_view, new_session, is_allowed, left_by, living}
use Rattle.ed_model.specs.Notes as notes
use Rattle.ed_model.specs.Requests.{Request, Planned, size}
use Rattle.ed_model.specs.TextPlans as text_plans
use Rattle.ed_model.specs.SelectionPlans as selection_plans
use Rattle.ed_model.specs.KeyPlans as key_plans
use Rattle.ed_model.specs.LinePlans as line_plans
use Rattle.ed_model.specs.UndoPlans as undo_plans
use Rattle.ed_model.specs.StylePlans as style_plans
use Rattle.ed_model.specs.TargetPlans as target_plans
use Rattle.ed_model.specs.FoldingPlans as folding_plans
use Rattle.ed_model.specs.SessionPlans as session_plans
use Rattle.ed_model.specs.Performing.{quiet, response, edit_performed, history_performed, styled_text}
use Rattle.ed_model.specs.Changes.{document_change_performed, view_change_performed, session_changed, with_new_document}

-- the plan of each message, or the first refusal that applies
abbrev pub plan_of : Kind → Request → Planned
plan_of kinds.AddText r = text_plans.add_text r
plan_of kinds.InsertText r = text_plans.insert_text r
plan_of kinds.ClearAll r = text_plans.clear_all r
plan_of kinds.GetLength r = text_plans.get_length r
plan_of kinds.GetCharAt r = text_plans.get_char_at r
plan_of kinds.GetCurrentPos r = selection_plans.get_current_pos r
plan_of kinds.GetAnchor r = selection_plans.get_anchor r
plan_of kinds.GetStyleAt r = style_plans.get_style_at r
plan_of kinds.Redo r = undo_plans.redo r
plan_of kinds.SetUndoCollection r = undo_plans.set_undo_collection r
plan_of kinds.SelectAll r = selection_plans.select_all r
plan_of kinds.SetSavePoint r = undo_plans.set_save_point r
plan_of kinds.GetStyledText r = style_plans.get_styled_text r
plan_of kinds.CanRedo r = undo_plans.get_can_redo r
plan_of kinds.MarkerLineFromHandle r = line_plans.marker_line_from_handle r
plan_of kinds.MarkerDeleteHandle r = line_plans.marker_delete_handle r
plan_of kinds.GetUndoCollection r = undo_plans.get_undo_collection r
plan_of kinds.GotoLine r = selection_plans.go_to_line r
plan_of kinds.GotoPos r = selection_plans.go_to_pos r
plan_of kinds.SetAnchor r = selection_plans.set_anchor r
plan_of kinds.GetCurLine r = text_plans.get_cur_line r
plan_of kinds.GetEndStyled r = style_plans.get_end_styled r
plan_of kinds.ConvertEols r = line_plans.convert_eols r
plan_of kinds.GetEolMode r = line_plans.get_eol_mode r
plan_of kinds.SetEolMode r = line_plans.set_eol_mode r
plan_of kinds.StartStyling r = style_plans.start_styling r
plan_of kinds.SetStyling r = style_plans.set_styling r
plan_of kinds.MarkerAdd r = line_plans.marker_add r
plan_of kinds.MarkerDelete r = line_plans.marker_delete r
plan_of kinds.MarkerDeleteAll r = line_plans.marker_delete_all r
plan_of kinds.MarkerGet r = line_plans.marker_get r
plan_of kinds.MarkerNext r = line_plans.marker_next r
plan_of kinds.MarkerPrevious r = line_plans.marker_previous r
plan_of kinds.SetStylingEx r = style_plans.set_styling_ex r
plan_of kinds.BeginUndoAction r = undo_plans.begin_undo_action r
plan_of kinds.EndUndoAction r = undo_plans.end_undo_action r
plan_of kinds.SetLineState r = line_plans.set_line_state r
plan_of kinds.GetLineState r = line_plans.get_line_state r
plan_of kinds.GetLineEndPosition r = text_plans.get_line_end_position r
plan_of kinds.GetReadOnly r = undo_plans.get_read_only r
plan_of kinds.SetCurrentPos r = selection_plans.set_current_pos r
plan_of kinds.SetSelectionStart r = selection_plans.set_selection_start r
plan_of kinds.GetSelectionStart r = selection_plans.get_selection_start r
plan_of kinds.SetSelectionEnd r = selection_plans.set_selection_end r
plan_of kinds.GetSelectionEnd r = selection_plans.get_selection_end r
plan_of kinds.GetLine r = text_plans.get_line r
plan_of kinds.GetLineCount r = text_plans.get_line_count r
plan_of kinds.GetModify r = undo_plans.get_modify r
plan_of kinds.SetSel r = selection_plans.set_sel r
plan_of kinds.GetSelText r = selection_plans.get_sel_text r
plan_of kinds.GetTextRange r = text_plans.get_text_range r
plan_of kinds.LineFromPosition r = text_plans.line_from_position r
plan_of kinds.PositionFromLine r = text_plans.position_from_line r
plan_of kinds.ReplaceSel r = selection_plans.replace_sel r
plan_of kinds.SetReadOnly r = undo_plans.set_read_only r
plan_of kinds.CanPaste r = selection_plans.can_paste r
plan_of kinds.CanUndo r = undo_plans.get_can_undo r
plan_of kinds.EmptyUndoBuffer r = undo_plans.empty_undo_buffer r
plan_of kinds.Undo r = undo_plans.undo r
plan_of kinds.Cut r = selection_plans.cut r
plan_of kinds.Copy r = selection_plans.copy r
plan_of kinds.Paste r = selection_plans.paste r
plan_of kinds.Clear r = selection_plans.clear r
plan_of kinds.SetText r = text_plans.set_text r
plan_of kinds.GetText r = text_plans.get_text r
plan_of kinds.GetTextLength r = text_plans.get_length r
plan_of kinds.SetTargetStart r = target_plans.set_target_start r
plan_of kinds.GetTargetStart r = target_plans.get_target_start r
plan_of kinds.SetTargetEnd r = target_plans.set_target_end r
plan_of kinds.GetTargetEnd r = target_plans.get_target_end r
plan_of kinds.ReplaceTarget r = target_plans.replace_target r
plan_of kinds.SearchInTarget r = target_plans.search_in_target r
plan_of kinds.SetSearchFlags r = target_plans.set_search_flags r
plan_of kinds.GetSearchFlags r = target_plans.get_search_flags r
plan_of kinds.VisibleFromDocLine r = folding_plans.visible_from_doc_line r
plan_of kinds.DocLineFromVisible r = folding_plans.doc_line_from_visible r
plan_of kinds.SetFoldLevel r = folding_plans.set_fold_level r
plan_of kinds.GetFoldLevel r = folding_plans.get_fold_level r
plan_of kinds.GetLastChild r = folding_plans.get_last_child r
plan_of kinds.GetFoldParent r = folding_plans.get_fold_parent r
plan_of kinds.ShowLines r = folding_plans.show_lines r
plan_of kinds.HideLines r = folding_plans.hide_lines r
plan_of kinds.GetLineVisible r = folding_plans.get_line_visible r
plan_of kinds.SetFoldExpanded r = folding_plans.set_fold_expanded r
plan_of kinds.GetFoldExpanded r = folding_plans.get_fold_expanded r
plan_of kinds.ToggleFold r = folding_plans.toggle_fold r
plan_of kinds.EnsureVisible r = folding_plans.ensure_visible r
plan_of kinds.GetAllLinesVisible r = folding_plans.get_all_lines_visible r
plan_of kinds.FoldLine r = folding_plans.fold_line r
plan_of kinds.AppendText r = text_plans.append_text r
plan_of kinds.TargetFromSelection r = target_plans.target_from_selection r
plan_of kinds.CharLeft r = key_plans.char_left r
plan_of kinds.CharLeftExtend r = key_plans.extend_to r (key_plans.place_left r)
plan_of kinds.CharRight r = key_plans.char_right r
plan_of kinds.CharRightExtend r = key_plans.extend_to r (key_plans.place_right r)
plan_of kinds.Home r = selection_plans.go_to (key_plans.place_home r)
plan_of kinds.HomeExtend r = key_plans.extend_to r (key_plans.place_home r)
plan_of kinds.LineEnd r = selection_plans.go_to (key_plans.place_line_end r)
plan_of kinds.LineEndExtend r = key_plans.extend_to r (key_plans.place_line_end r)
plan_of kinds.DocumentStart r = selection_plans.go_to 0
plan_of kinds.DocumentStartExtend r = key_plans.extend_to r 0
plan_of kinds.DocumentEnd r = selection_plans.go_to (size r)
plan_of kinds.DocumentEndExtend r = key_plans.extend_to r (size r)
plan_of kinds.DeleteBack r = key_plans.delete_back r
plan_of kinds.NewLine r = key_plans.new_line r
plan_of kinds.LineLength r = text_plans.line_length r
plan_of kinds.GetDocPointer r = session_plans.get_doc_pointer r
plan_of kinds.SetDocPointer r = session_plans.set_doc_pointer r
plan_of kinds.SetModEventMask r = session_plans.set_mod_event_mask r
plan_of kinds.CreateDocument r = session_plans.create_document r
plan_of kinds.AddRefDocument r = session_plans.add_ref_document r
plan_of kinds.ReleaseDocument r = session_plans.release_document r
plan_of kinds.GetModEventMask r = session_plans.get_mod_event_mask r
plan_of kinds.GetDocumentOptions r = session_plans.get_document_options r
plan_of kinds.PositionBefore r = text_plans.position_before r
plan_of kinds.PositionAfter r = text_plans.position_after r
plan_of kinds.CopyRange r = selection_plans.copy_range r
plan_of kinds.CopyText r = selection_plans.copy_text r
plan_of kinds.MarkerAddSet r = line_plans.marker_add_set r
plan_of kinds.SetPasteConvertEndings r = selection_plans.set_paste_convert_endings r
plan_of kinds.GetPasteConvertEndings r = selection_plans.get_paste_convert_endings r
plan_of kinds.SetIndicatorCurrent r = style_plans.set_indicator_current r
plan_of kinds.GetIndicatorCurrent r = style_plans.get_indicator_current r
plan_of kinds.SetIndicatorValue r = style_plans.set_indicator_value r
plan_of kinds.GetIndicatorValue r = style_plans.get_indicator_value r
plan_of kinds.IndicatorFillRange r = style_plans.indicator_fill_range r
plan_of kinds.IndicatorClearRange r = style_plans.indicator_clear_range r
plan_of kinds.IndicatorAllOnFor r = style_plans.indicator_all_on_for r
plan_of kinds.IndicatorValueAt r = style_plans.indicator_value_at r
plan_of kinds.IndicatorStart r = style_plans.indicator_start r
plan_of kinds.IndicatorEnd r = style_plans.indicator_end r
plan_of kinds.SetEmptySelection r = selection_plans.go_to_pos r
plan_of kinds.AddUndoAction r = undo_plans.add_undo_action r
plan_of kinds.DeleteRange r = text_plans.delete_range r
plan_of kinds.GetSelectionEmpty r = selection_plans.get_selection_empty r
plan_of kinds.SetLineEndTypesAllowed r = session_plans.set_line_end_types_allowed r
plan_of kinds.GetLineEndTypesAllowed r = session_plans.get_line_end_types r
plan_of kinds.GetLineEndTypesActive r = session_plans.get_line_end_types r
plan_of kinds.SetTargetRange r = target_plans.set_target_range r
plan_of kinds.GetTargetText r = target_plans.get_target_text r
plan_of kinds.TargetWholeDocument r = target_plans.target_whole_document r
plan_of kinds.StartRecord r = session_plans.start_record r
plan_of kinds.StopRecord r = session_plans.stop_record r
plan_of kinds.Colourise r = style_plans.colourise r

-- the session after a plan of a message with this text, to this view on this document, and the reply
abbrev pub performed : Session → View → Document → List ℕ → Plan → Session × Response
performed s v d bytes (plan.Answer value) = (s, quiet value)
performed s v d bytes (plan.HandOut value start count) = (s, response value (slice_range (text_of d) start (start + count)) [])
performed s v d bytes (plan.HandOutStyled start count) =
    let out = styled_text (slice_range d.cells start (start + count)) in (s, response (pos (length out)) out [])
performed s v d bytes (plan.Edit change value after) = edit_performed s v d bytes change value after
performed s v d bytes plan.Attempt = (s, response (pos 0) [] (notes.told (watching s.views d) (notes.blank notes.modify_attempt)))
performed s v d bytes plan.Undo = let h = d.history in history_performed s v d notes.performed_undo (undo_changes h) (undone h)
performed s v d bytes plan.Redo = let h = d.history in history_performed s v d notes.performed_redo (redo_changes h) (redone h)
performed s v d bytes (plan.ChangeDocument change value) = document_change_performed s v d bytes change value
performed s v d bytes (plan.ChangeView change value) = (view_change_performed s v d change, quiet value)
performed s v d bytes (plan.ChangeSession change value) = (session_changed s v d bytes change, quiet value)

abbrev pub performed_for : Request → Plan → Session × Response
performed_for r what = performed r.session r.view r.document r.message.text what

-- Recording.

abbrev pub record_note : Request → Notice
record_note r =
    let n = notes.blank notes.macro_record in
    record n { view = r.view.id; message = r.message.number; w = r.message.w; l = r.message.l; text = r.message.text }

-- a view that records is notified of a message marked R (SCN_MACRORECORD), before all other notes
abbrev pub with_recording : Kind → Request → Response → Response
with_recording kind r reply =
    if r.view.records && (marks_of kind).r then record reply { notes = record_note r ∷ reply.notes } else reply

abbrev pub answered : Kind → Request → Planned → Result (Session × Response) Refusal
answered kind r (Err refusal) = Err refusal
answered kind r (Ok what) = let done = performed_for r what in Ok (done.0, with_recording kind r done.1)

-- The table.

abbrev pub request : Session → View → Document → Message → Request
request s v d m = record { session = s; view = v; document = d; message = m }

abbrev pub table_from_document : Session → View → Kind → Message → Option Document → Result (Session × Response) Refusal
table_from_document s v kind m None = Err NoSuchDocument
table_from_document s v kind m (Some d) = answered kind (request s v d m) (plan_of kind (request s v d m))

abbrev pub table_from_kind : Session → View → Message → Option Kind → Result (Session × Response) Refusal
table_from_kind s v m None = Err UnknownMessage
table_from_kind s v m (Some kind) = table_from_document s v kind m (document_at s.documents v.document)

abbrev pub table_from_view : Session → Message → Option View → Result (Session × Response) Refusal
table_from_view s m None = Err NoSuchView
table_from_view s m (Some v) = table_from_kind s v m (kind_of m.number)

-- A message to a view: the session afterwards with the reply, or the first refusal that applies. A refusal changes nothing.
abbrev pub table : Session → ℕ → Message → Result (Session × Response) Refusal
table s view m = table_from_view s m (view_at s.views view)

-- a new session with these limits, if they are allowed
abbrev pub limited : Limits → Result Session Refusal
limited limits = if is_allowed limits then Ok (new_session limits) else Err BadArgument

-- Opening and closing views.

-- the session after a view is opened on a new document, and the view's id
abbrev pub opened : Session → Result (Session × ℕ) Refusal
opened s =
    if nat_le s.limits.views (length s.views) || nat_lt s.limits.ids s.next_view || nat_lt s.limits.ids s.next_document then Err TooMany
    else (let d = new_document s.next_document 0 in
    let with = with_new_document (record d { views = s.next_view ∷ [] }) s in
    Ok (record with { views = s.views ++ new_view s.next_view d ∷ []; next_view = s.next_view + 1 }, s.next_view))

abbrev pub closed_view : Session → Option View → Result Session Refusal
closed_view s None = Err NoSuchView
closed_view s (Some v) =
    Ok (record s { documents = living (map (left_by v.id) s.documents); views = filter (λ (w : View). not (w.id == v.id)) s.views })

-- the session after a view is closed, whose document loses a reference
abbrev pub closed : Session → ℕ → Result Session Refusal
closed s view = closed_view s (view_at s.views view)
