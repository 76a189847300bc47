-- Plans of the messages on styles and indicators.
-- [Scintilla: styling, indicators]
use Rattle.std.specs.Prelude.{ℕ, ◌+◌, ◌-◌, ◌^◌, ◌==◌, nat_le, nat_lt, max, not, if◌then◌else◌, ℤ, pos, negsuc, List, [], ◌∷◌, length, map, filter, reverse, sum, slice_index, slice_index_or, take, drop, Ok, Err}
use Rattle.std.specs.List.{range_with_len}
use Rattle.ed_types.specs.declared.refusal.Refusal.TheVariants.{BadArgument}
use Rattle.ed_model.specs.declared.plan.DocumentChange.TheVariants as document_change
use Rattle.ed_model.specs.declared.plan.ViewChange.TheVariants as view_change
use Rattle.ed_model.specs.declared.plan.Plan.TheVariants as plan
use Rattle.ed_model.specs.Text.{styles_of}
use Rattle.ed_model.specs.Requests.{Request, Planned, answer_number, size, argument, text_length, text_range, counted_range, change_document, change_view}
use Rattle.ed_model.specs.TextPlans.{at_place}

-- Styles.

abbrev pub styles : Request → List ℕ
styles r = styles_of r.document.cells

abbrev pub get_style_at : Request → Planned
get_style_at r = answer_number (at_place (styles r) r.message.w)

abbrev pub get_styled_text : Request → Planned
get_styled_text r = text_range r (λ start past. Ok (plan.HandOutStyled start (past - start)))

abbrev pub get_end_styled : Request → Planned
get_end_styled r = answer_number r.document.end_styled

abbrev pub start_styling : Request → Planned
start_styling r = argument 0 (size r) r.message.w (λ place. change_document (document_change.SetEndStyled place))

-- the number of bytes from end styled to the end of the text
abbrev pub unstyled : Request → ℕ
unstyled r = size r - r.document.end_styled

abbrev pub set_styling : Request → Planned
set_styling r =
    argument 0 255 r.message.l (λ style. argument 0 (unstyled r) r.message.w (λ count. change_document (document_change.StyleRun count style)))

abbrev pub set_styling_ex : Request → Planned
set_styling_ex r =
    text_length r (λ count. if nat_le count (unstyled r) then change_document (document_change.StyleBytes count) else Err BadArgument)

abbrev pub colourise : Request → Planned
colourise r = text_range r (λ start past. change_document (document_change.NeedStyle start past))

-- Indicators.

abbrev pub set_indicator_current : Request → Planned
set_indicator_current r = argument 0 31 r.message.w (λ indicator. change_view (view_change.SetIndicator indicator))

abbrev pub get_indicator_current : Request → Planned
get_indicator_current r = answer_number r.view.indicator

-- a value of 0 is set as 1
abbrev pub set_indicator_value : Request → Planned
set_indicator_value r = argument 0 (2 ^ 31 - 1) r.message.w (λ value. change_view (view_change.SetIndicatorValue (max 1 value)))

abbrev pub get_indicator_value : Request → Planned
get_indicator_value r = answer_number r.view.indicator_value

abbrev pub fill_indicator : Request → ℕ → Planned
fill_indicator r value =
    counted_range r (λ start count. change_document (document_change.FillIndicator r.view.indicator start count value))

abbrev pub indicator_fill_range : Request → Planned
indicator_fill_range r = fill_indicator r r.view.indicator_value

abbrev pub indicator_clear_range : Request → Planned
indicator_clear_range r = fill_indicator r 0

abbrev pub values_of : Request → ℕ → List ℕ
values_of r indicator = slice_index_or r.document.indicators indicator []

-- bit k is set for each indicator k whose value at w is not 0
abbrev pub indicator_all_on_for : Request → Planned
indicator_all_on_for r =
    answer_number (sum (map (λ k. 2 ^ k) (filter (λ k. not (at_place (values_of r k) r.message.w == 0)) (range_with_len 0 32))))

abbrev pub indicator_value_at : Request → Planned
indicator_value_at r = argument 0 31 r.message.w (λ indicator. answer_number (at_place (values_of r indicator) r.message.l))

-- how often the value is repeated at the start of a list
abbrev pub run_length : ℕ → List ℕ → ℕ
run_length value [] = 0
run_length value (v ∷ vs) = if v == value then 1 + run_length value vs else 0

-- the start and the end of the longest range around the place in which all values are equal
abbrev pub run_start : List ℕ → ℕ → ℕ
run_start values place = place - run_length (slice_index values place) (reverse (take place values))

abbrev pub run_past : List ℕ → ℕ → ℕ
run_past values place = place + run_length (slice_index values place) (drop place values)

-- the start or the end of the range around the place; 0 outside the text
abbrev pub run_end_at : (List ℕ → ℕ → ℕ) → List ℕ → ℤ → ℕ
run_end_at end_of values (pos place) = if nat_lt place (length values) then end_of values place else 0
run_end_at end_of values (negsuc n) = 0

abbrev pub indicator_start : Request → Planned
indicator_start r = argument 0 31 r.message.w (λ indicator. answer_number (run_end_at run_start (values_of r indicator) r.message.l))

abbrev pub indicator_end : Request → Planned
indicator_end r = argument 0 31 r.message.w (λ indicator. answer_number (run_end_at run_past (values_of r indicator) r.message.l))
