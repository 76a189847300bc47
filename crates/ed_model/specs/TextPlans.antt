-- Plans of the messages on text and lines.
-- [Scintilla: text retrieval and modification]
use Rattle.std.specs.Prelude.{ℕ, ◌-◌, ◌==◌, nat_lt, if◌then◌else◌, ℤ, pos, negsuc, List, length, unwrap_or, Ok, Option, Some, slice_get}
use Rattle.ed_model.specs.declared.plan.Plan.TheVariants as plan
use Rattle.ed_model.specs.declared.plan.Source.TheVariants as source
use Rattle.ed_model.specs.Numbers.{clamped, within, is_minus_one}
use Rattle.ed_model.specs.Requests.{Request, Planned, answer, answer_number, text, size, line_total, selection_start, with_argument, text_length, text_range, counted_range, line_argument, line_at}
use Rattle.ed_model.specs.Edits.{replace_plan, replace_and_go}
use Rattle.ed_model.specs.Lines.{start_of_line, start_after_line, end_of_line}
use Rattle.ed_model.specs.Characters.{cut_before, cut_after}

-- Lines.

abbrev pub line_start : Request → ℕ → ℕ
line_start r line = start_of_line r.document.line_end_types (text r) line

-- the end of the line, after its line end
abbrev pub line_past : Request → ℕ → ℕ
line_past r line = start_after_line r.document.line_end_types (text r) line

abbrev pub line_end : Request → ℕ → ℕ
line_end r line = end_of_line r.document.line_end_types (text r) line

abbrev pub caret_line : Request → ℕ
caret_line r = line_at r r.view.caret

-- Handing out.

abbrev pub hand_out : ℕ → ℕ → Planned
hand_out start past = Ok (plan.HandOut (pos (past - start)) start (past - start))

-- Text.

abbrev pub add_text : Request → Planned
add_text r = text_length r (λ count. replace_and_go r r.view.caret 0 (source.MessageText count))

-- the place at which INSERTTEXT inserts; -1 is the caret
abbrev pub insertion_place : Request → ℤ → Option ℕ
insertion_place r w = if is_minus_one w then Some r.view.caret else within 0 (size r) w

abbrev pub insert_text : Request → Planned
insert_text r =
    with_argument (insertion_place r r.message.w) (λ place. replace_plan r place 0 (source.MessageText (length r.message.text)))

abbrev pub clear_all : Request → Planned
clear_all r = replace_plan r 0 (size r) source.Nothing

abbrev pub get_length : Request → Planned
get_length r = answer_number (size r)

abbrev pub number_or_zero : Option ℕ → ℕ
number_or_zero found = unwrap_or found 0

-- the number at the place, or 0 outside the list
abbrev pub at_place : List ℕ → ℤ → ℕ
at_place numbers (pos n) = number_or_zero (slice_get numbers n)
at_place numbers (negsuc n) = 0

abbrev pub get_char_at : Request → Planned
get_char_at r = answer_number (at_place (text r) r.message.w)

abbrev pub get_cur_line : Request → Planned
get_cur_line r =
    let start = line_start r (caret_line r) in
    Ok (plan.HandOut (pos (r.view.caret - start)) start (line_past r (caret_line r) - start))

-- the end of line w, before its line end; from the last line on the end of the text; -1 for a negative w
abbrev pub end_of_line_at : Request → ℤ → ℤ
end_of_line_at r (pos line) = pos (line_end r line)
end_of_line_at r (negsuc n) = negsuc 0

abbrev pub get_line_end_position : Request → Planned
get_line_end_position r = answer (end_of_line_at r r.message.w)

abbrev pub get_line : Request → Planned
get_line r = line_argument r (answer (pos 0)) (λ line. hand_out (line_start r line) (line_past r line))

abbrev pub get_line_count : Request → Planned
get_line_count r = answer_number (line_total r)

abbrev pub get_text_range : Request → Planned
get_text_range r = text_range r hand_out

abbrev pub line_from_position : Request → Planned
line_from_position r = answer_number (line_at r (clamped (size r) r.message.w))

-- the start of line w; for a negative w that of the line of the selection's
-- start; for w = L, the number of lines, the end of the text; otherwise -1
abbrev pub start_of_line_at : Request → ℤ → ℤ
start_of_line_at r (pos line) =
    if nat_lt line (line_total r) then pos (line_start r line) else (if line == line_total r then pos (size r) else negsuc 0)
start_of_line_at r (negsuc n) = pos (line_start r (line_at r (selection_start r)))

abbrev pub position_from_line : Request → Planned
position_from_line r = answer (start_of_line_at r r.message.w)

abbrev pub set_text : Request → Planned
set_text r = replace_plan r 0 (size r) (source.MessageText (length r.message.text))

abbrev pub get_text : Request → Planned
get_text r = hand_out 0 (size r)

abbrev pub append_text : Request → Planned
append_text r = text_length r (λ count. replace_plan r (size r) 0 (source.MessageText count))

abbrev pub line_length : Request → Planned
line_length r = line_argument r (answer (pos 0)) (λ line. answer_number (line_past r line - line_start r line))

abbrev pub position_before : Request → Planned
position_before r = answer_number (cut_before (text r) (clamped (size r) r.message.w))

abbrev pub position_after : Request → Planned
position_after r = answer_number (cut_after (text r) (clamped (size r) r.message.w))

abbrev pub delete_range : Request → Planned
delete_range r = counted_range r (λ start count. replace_plan r start count source.Nothing)
