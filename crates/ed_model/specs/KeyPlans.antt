-- Plans of the messages on keys.
-- [Scintilla: keyboard commands]
use Rattle.std.specs.Prelude.{ℕ, ◌-◌, ◌==◌, if◌then◌else◌}
use Rattle.ed_model.specs.declared.plan.Source.TheVariants as source
use Rattle.ed_model.specs.Requests.{Request, Planned, text, selection_start, selection_end}
use Rattle.ed_model.specs.Edits.{replace_plan, replace_and_go}
use Rattle.ed_model.specs.Characters.{cut_before, cut_after}
use Rattle.ed_model.specs.TextPlans.{line_start, line_end, caret_line}
use Rattle.ed_model.specs.SelectionPlans.{select, go_to, selected}

abbrev pub place_left : Request → ℕ
place_left r = cut_before (text r) r.view.caret

abbrev pub place_right : Request → ℕ
place_right r = cut_after (text r) r.view.caret

abbrev pub place_home : Request → ℕ
place_home r = line_start r (caret_line r)

abbrev pub place_line_end : Request → ℕ
place_line_end r = line_end r (caret_line r)

abbrev pub extend_to : Request → ℕ → Planned
extend_to r place = select r.view.anchor place

abbrev pub char_left : Request → Planned
char_left r = go_to (if selected r == 0 then place_left r else selection_start r)

abbrev pub char_right : Request → Planned
char_right r = go_to (if selected r == 0 then place_right r else selection_end r)

-- deletes the selection, or if it is empty, from the cut before the caret to the caret
abbrev pub delete_back : Request → Planned
delete_back r =
    if selected r == 0 then replace_plan r (place_left r) (r.view.caret - place_left r) source.Nothing
    else replace_plan r (selection_start r) (selected r) source.Nothing

abbrev pub new_line : Request → Planned
new_line r = replace_and_go r (selection_start r) (selected r) source.LineEnd
