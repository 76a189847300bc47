-- Plans of the messages on folding and visibility.
-- [Scintilla: folding]
use Rattle.std.specs.Prelude.{ℕ, ◌+◌, ◌-◌, ◌^◌, ◌==◌, min, ◌&&◌, ◌||◌, if◌then◌else◌, ℤ, pos, negsuc, List, map, unwrap_or, Option, Some, None}
use Rattle.ed_model.specs.declared.plan.DocumentChange.TheVariants as document_change
use Rattle.ed_model.specs.declared.plan.ViewChange.TheVariants as view_change
use Rattle.ed_model.specs.Numbers.{flag, is_on, clamped, some_or_all}
use Rattle.ed_model.specs.Rows.{Row, base_level}
use Rattle.ed_model.specs.Folding.{level_number, last_child_at, fold_parent, fold_header, is_visible, is_expanded}
use Rattle.ed_model.specs.DisplayLines.{display_line, line_shown, all_visible}
use Rattle.ed_model.specs.Session.{Document}
use Rattle.ed_model.specs.Requests.{Request, Planned, answer, answer_number, line_total, with_argument, argument, line_argument, change_document, change_view}
use Rattle.ed_model.specs.LinePlans.{row_at, line_or_none}

abbrev pub levels_of : Document → List ℕ
levels_of d = map (λ (row : Row). row.level) d.rows

abbrev pub levels : Request → List ℕ
levels r = levels_of r.document

-- a level that the line has already is no change
abbrev pub set_fold_level : Request → Planned
set_fold_level r =
    argument 0 (2 ^ 31 - 1) r.message.l (λ level. line_argument r (answer (pos 0)) (λ line.
    if (row_at r line).level == level then answer (pos 0) else change_document (document_change.SetLevel line level)))

abbrev pub get_fold_level : Request → Planned
get_fold_level r = line_argument r (answer_number base_level) (λ line. answer_number (row_at r line).level)

-- by the number of l; with an l of -1 by the line's own number
abbrev pub get_last_child : Request → Planned
get_last_child r =
    with_argument (some_or_all (2 ^ 31 - 1) r.message.l) (λ level. line_argument r (answer (negsuc 0)) (λ line.
    answer_number (last_child_at (levels r) line (level_number (unwrap_or level (row_at r line).level)))))

abbrev pub get_fold_parent : Request → Planned
get_fold_parent r = line_argument r (answer (negsuc 0)) (λ line. answer (line_or_none (fold_parent (levels r) line)))

abbrev pub visible_from_doc_line : Request → Planned
visible_from_doc_line r = line_argument r (answer (negsuc 0)) (λ line. answer_number (display_line r.view.flags line))

-- a display line of 0 or less gives line 0
abbrev pub line_shown_at : Request → ℤ → ℕ
line_shown_at r (pos n) = if n == 0 then 0 else line_shown r.view.flags n
line_shown_at r (negsuc n) = 0

abbrev pub doc_line_from_visible : Request → Planned
doc_line_from_visible r = answer_number (line_shown_at r r.message.w)

-- the end of a range of lines whose last line is l: one past l, at most the number of lines
abbrev pub past_line : ℕ → ℤ → ℕ
past_line line_total (pos n) = min (n + 1) line_total
past_line line_total (negsuc n) = 0

abbrev pub show_lines : Request → Planned
show_lines r = change_view (view_change.ShowLines (clamped (line_total r) r.message.w) (past_line (line_total r) r.message.l))

abbrev pub hide_lines : Request → Planned
hide_lines r = change_view (view_change.HideLines (clamped (line_total r) r.message.w) (past_line (line_total r) r.message.l))

abbrev pub get_line_visible : Request → Planned
get_line_visible r = line_argument r (answer (pos 0)) (λ line. answer (flag (is_visible r.view.flags line)))

abbrev pub get_all_lines_visible : Request → Planned
get_all_lines_visible r = answer (flag (all_visible r.view.flags))

abbrev pub set_fold_expanded : Request → Planned
set_fold_expanded r = line_argument r (answer (pos 0)) (λ line. change_view (view_change.SetExpanded line (is_on r.message.l)))

abbrev pub get_fold_expanded : Request → Planned
get_fold_expanded r = line_argument r (answer (pos 0)) (λ line. answer (flag (is_expanded r.view.flags line)))

-- contracts (0), expands (1) or toggles (2) the header; without a header nothing changes
abbrev pub fold_by : Request → ℕ → Option ℕ → Planned
fold_by r action None = answer (pos 0)
fold_by r action (Some header) =
    if action == 0 || (action == 2 && is_expanded r.view.flags header) then change_view (view_change.Contract header)
    else change_view (view_change.Expand header)

-- acts on the line itself if it is a header, otherwise on its fold parent
abbrev pub fold_at : Request → ℕ → Planned
fold_at r action = line_argument r (answer (pos 0)) (λ line. fold_by r action (fold_header (levels r) line))

abbrev pub fold_line : Request → Planned
fold_line r = argument 0 2 r.message.l (λ action. fold_at r action)

abbrev pub toggle_fold : Request → Planned
toggle_fold r = fold_at r 2

abbrev pub ensure_visible : Request → Planned
ensure_visible r = line_argument r (answer (pos 0)) (λ line. change_view (view_change.EnsureVisible line))
