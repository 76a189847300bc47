-- Plans of the messages on line ends, markers and line states.
-- [Scintilla: line endings, markers]
use Rattle.std.specs.Prelude.{ℕ, ◌+◌, ◌-◌, ◌^◌, ◌==◌, nat_le, min, ◌&&◌, if◌then◌else◌, Bool, false, ℤ, pos, negsuc, int_le, List, length, map, filter, find, fold, reverse, slice_index_or, bit_or, Ok, Err, Option, Some, None, is_some}
use Rattle.std.specs.List.{range_with_len, list_any}
use Rattle.ed_types.specs.declared.refusal.Refusal.TheVariants.{TooMany}
use Rattle.ed_model.specs.declared.plan.DocumentChange.TheVariants as document_change
use Rattle.ed_model.specs.declared.plan.Plan.TheVariants as plan
use Rattle.ed_model.specs.declared.plan.Edit.TheVariants as edit
use Rattle.ed_model.specs.declared.plan.Follow.TheVariants as follow
use Rattle.ed_model.specs.Numbers.{at_least_zero, some_or_all, low_bits, has_bit, meets, is_same}
use Rattle.ed_model.specs.Rows.{Marker, Row, fresh_row}
use Rattle.ed_model.specs.Requests.{Request, Planned, answer, answer_number, line_total, with_argument, argument, line_argument, change_document}
use Rattle.ed_model.specs.Edits.{edit_plan}
use Rattle.ed_model.specs.declared.plan.LineEnd.{LineEnd}
use Rattle.ed_model.specs.declared.plan.LineEnd.TheVariants.{CrLf, Cr, Lf}

-- Line ends.

abbrev pub line_end_number : LineEnd → ℕ
line_end_number CrLf = 0
line_end_number Cr = 1
line_end_number Lf = 2

abbrev pub line_end_kind : ℕ → LineEnd
line_end_kind mode = if mode == 0 then CrLf else (if mode == 1 then Cr else Lf)

abbrev pub get_eol_mode : Request → Planned
get_eol_mode r = answer_number (line_end_number r.document.line_end)

abbrev pub set_eol_mode : Request → Planned
set_eol_mode r = argument 0 2 r.message.w (λ mode. Ok (plan.ChangeDocument (document_change.SetLineEnd (line_end_kind mode)) (pos 0)))

abbrev pub convert_eols : Request → Planned
convert_eols r = argument 0 2 r.message.w (λ mode. edit_plan r (edit.ConvertLineEnds (line_end_kind mode)) (pos 0) follow.Nothing)

-- Markers.

abbrev pub row_at : Request → ℕ → Row
row_at r line = slice_index_or r.document.rows line fresh_row

-- the mask of a list of markers: bit k is set if one has the number k
abbrev pub mask_of : List Marker → ℕ
mask_of markers = fold bit_or 0 (map (λ (m : Marker). 2 ^ m.number) markers)

abbrev pub line_mask : Request → ℕ → ℕ
line_mask r line = mask_of (row_at r line).markers

-- whether `count` more handles can be given
abbrev pub has_handles : Request → ℕ → Bool
has_handles r count = nat_le (r.document.next_handle + count) (r.session.limits.handles + 1)

abbrev pub marker_add : Request → Planned
marker_add r =
    argument 0 31 r.message.l (λ number. line_argument r (answer (negsuc 0)) (λ line.
    if has_handles r 1 then Ok (plan.ChangeDocument (document_change.AddMarker line number) (pos r.document.next_handle)) else Err TooMany))

-- the numbers whose bits are set, in rising order
abbrev pub numbers_in : ℕ → List ℕ
numbers_in mask = filter (has_bit mask) (range_with_len 0 32)

abbrev pub marker_add_set : Request → Planned
marker_add_set r =
    argument 0 (2 ^ 32 - 1) r.message.l (λ mask. line_argument r (answer (pos 0)) (λ line.
    if has_handles r (length (numbers_in mask)) then change_document (document_change.AddMarkers line mask) else Err TooMany))

abbrev pub marker_delete : Request → Planned
marker_delete r =
    with_argument (some_or_all 31 r.message.l) (λ number. line_argument r (answer (pos 0)) (λ line.
    change_document (document_change.DeleteMarker line number)))

abbrev pub marker_delete_all : Request → Planned
marker_delete_all r = with_argument (some_or_all 31 r.message.w) (λ number. change_document (document_change.DeleteMarkers number))

abbrev pub marker_get : Request → Planned
marker_get r = line_argument r (answer (pos 0)) (λ line. answer_number (line_mask r line))

abbrev pub line_or_none : Option ℕ → ℤ
line_or_none None = negsuc 0
line_or_none (Some line) = pos line

-- answers the first of these lines with a marker whose bit is set in the low 32 bits of l, or -1
abbrev pub first_marked : Request → List ℕ → Planned
first_marked r candidates = answer (line_or_none (find (λ line. meets (line_mask r line) (low_bits r.message.l)) candidates))

abbrev pub marker_next : Request → Planned
marker_next r = let from = at_least_zero r.message.w in first_marked r (range_with_len from (line_total r - from))

-- the number of lines up to line w, included
abbrev pub lines_up_to : ℕ → ℤ → ℕ
lines_up_to line_total (pos n) = min (n + 1) line_total
lines_up_to line_total (negsuc n) = 0

abbrev pub marker_previous : Request → Planned
marker_previous r = first_marked r (reverse (range_with_len 0 (lines_up_to (line_total r) r.message.w)))

abbrev pub has_handle : ℤ → Marker → Bool
has_handle (pos handle) m = m.handle == handle
has_handle (negsuc n) m = false

-- the line that has the marker with the handle w
abbrev pub line_of_handle : Request → Option ℕ
line_of_handle r = find (λ line. list_any (has_handle r.message.w) (row_at r line).markers) (range_with_len 0 (line_total r))

abbrev pub marker_line_from_handle : Request → Planned
marker_line_from_handle r = answer (line_or_none (line_of_handle r))

abbrev pub marker_delete_handle : Request → Planned
marker_delete_handle r =
    if is_some (line_of_handle r) then change_document (document_change.DeleteHandle (at_least_zero r.message.w)) else answer (pos 0)

-- Line states.

abbrev pub int_within : ℤ → ℤ → ℤ → Option ℤ
int_within low high x = if int_le low x && int_le x high then Some x else None

-- a state that the line has already is no change
abbrev pub set_line_state : Request → Planned
set_line_state r =
    with_argument (int_within (negsuc (2 ^ 31 - 1)) (pos (2 ^ 31 - 1)) r.message.l) (λ state. line_argument r (answer (pos 0)) (λ line.
    if is_same (row_at r line).state state then answer (pos 0) else change_document (document_change.SetState line state)))

abbrev pub get_line_state : Request → Planned
get_line_state r = line_argument r (answer (pos 0)) (λ line. answer (row_at r line).state)
