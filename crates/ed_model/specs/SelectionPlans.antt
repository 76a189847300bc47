-- Plans of the messages on selection and clipboard.
-- [Scintilla: selection, cut copy and paste]
use Rattle.std.specs.Prelude.{ℕ, ◌-◌, ◌==◌, min, max, if◌then◌else◌, true, false, pos, length, Ok}
use Rattle.ed_model.specs.declared.plan.ViewChange.TheVariants as view_change
use Rattle.ed_model.specs.declared.plan.SessionChange.TheVariants as session_change
use Rattle.ed_model.specs.declared.plan.Plan.TheVariants as plan
use Rattle.ed_model.specs.declared.plan.Edit.TheVariants as edit
use Rattle.ed_model.specs.declared.plan.Source.TheVariants as source
use Rattle.ed_model.specs.declared.plan.Follow.TheVariants as follow
use Rattle.ed_model.specs.Numbers.{flag, is_on, clamped, is_negative}
use Rattle.ed_model.specs.Requests.{Request, Planned, answer, answer_number, text, size, line_total, selection_start, selection_end, text_length, text_range}
use Rattle.ed_model.specs.Edits.{edit_plan, replace_plan, replace_and_go}
use Rattle.ed_model.specs.Characters.{cut_after}
use Rattle.ed_model.specs.TextPlans.{line_start, hand_out}

-- Selection.

abbrev pub select : ℕ → ℕ → Planned
select anchor caret = Ok (plan.ChangeView (view_change.Select anchor caret) (pos 0))

abbrev pub go_to : ℕ → Planned
go_to place = select place place

abbrev pub get_current_pos : Request → Planned
get_current_pos r = answer_number r.view.caret

abbrev pub get_anchor : Request → Planned
get_anchor r = answer_number r.view.anchor

abbrev pub get_selection_start : Request → Planned
get_selection_start r = answer_number (selection_start r)

abbrev pub get_selection_end : Request → Planned
get_selection_end r = answer_number (selection_end r)

abbrev pub get_selection_empty : Request → Planned
get_selection_empty r = answer (flag (r.view.anchor == r.view.caret))

abbrev pub select_all : Request → Planned
select_all r = select 0 (size r)

-- to the start of line w; a w below 0 means the first line, one past the last line the last
abbrev pub go_to_line : Request → Planned
go_to_line r = go_to (line_start r (clamped (line_total r - 1) r.message.w))

abbrev pub go_to_pos : Request → Planned
go_to_pos r = go_to (clamped (size r) r.message.w)

abbrev pub set_anchor : Request → Planned
set_anchor r = select (clamped (size r) r.message.w) r.view.caret

abbrev pub set_current_pos : Request → Planned
set_current_pos r = select r.view.anchor (clamped (size r) r.message.w)

abbrev pub set_selection_start : Request → Planned
set_selection_start r = let p = clamped (size r) r.message.w in select p (max p r.view.caret)

abbrev pub set_selection_end : Request → Planned
set_selection_end r = let p = clamped (size r) r.message.w in select (min p r.view.anchor) p

-- the caret to l, or to the end of the text if l is negative; the anchor to w, or to the caret if w is negative
abbrev pub set_sel : Request → Planned
set_sel r =
    let caret = if is_negative r.message.l then size r else clamped (size r) r.message.l in
    select (if is_negative r.message.w then caret else clamped (size r) r.message.w) caret

abbrev pub get_sel_text : Request → Planned
get_sel_text r = hand_out (selection_start r) (selection_end r)

abbrev pub selected : Request → ℕ
selected r = selection_end r - selection_start r

-- Clipboard.

abbrev pub replace_sel : Request → Planned
replace_sel r = replace_and_go r (selection_start r) (selected r) (source.MessageText (length r.message.text))

abbrev pub can_paste : Request → Planned
can_paste r = answer (flag (if r.document.read_only then false else true))

-- copies a selection that is not empty to the clipboard, and deletes it
abbrev pub cut : Request → Planned
cut r =
    if selected r == 0 then answer (pos 0)
    else edit_plan r (edit.Replace (selection_start r) (selected r) source.Nothing) (pos 0) (follow.Clipboard (selection_start r) (selected r))

abbrev pub take_to_clipboard : ℕ → ℕ → Planned
take_to_clipboard start count = Ok (plan.ChangeSession (session_change.Copy start count) (pos 0))

abbrev pub copy : Request → Planned
copy r = if selected r == 0 then answer (pos 0) else take_to_clipboard (selection_start r) (selected r)

abbrev pub paste : Request → Planned
paste r =
    if length r.session.clipboard == 0 then answer (pos 0)
    else replace_and_go r (selection_start r) (selected r) (source.Clipboard r.view.converts_pastes)

-- deletes the selection, or if it is empty, from the caret to the next cut
abbrev pub clear : Request → Planned
clear r =
    if selected r == 0 then replace_plan r r.view.caret (cut_after (text r) r.view.caret - r.view.caret) source.Nothing
    else replace_plan r (selection_start r) (selected r) source.Nothing

abbrev pub copy_range : Request → Planned
copy_range r = text_range r (λ start past. take_to_clipboard start (past - start))

abbrev pub copy_text : Request → Planned
copy_text r = text_length r (λ count. Ok (plan.ChangeSession (session_change.CopyText count) (pos 0)))

abbrev pub set_paste_convert_endings : Request → Planned
set_paste_convert_endings r = Ok (plan.ChangeView (view_change.SetPasteConversion (is_on r.message.w)) (pos 0))

abbrev pub get_paste_convert_endings : Request → Planned
get_paste_convert_endings r = answer (flag r.view.converts_pastes)
