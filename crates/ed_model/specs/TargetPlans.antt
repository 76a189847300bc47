-- Plans of the messages on the target.
-- [Scintilla: search and replace using the target]
use Rattle.std.specs.Prelude.{ℕ, ◌+◌, ◌-◌, ◌==◌, nat_le, if◌then◌else◌, ℤ, pos, negsuc, length, take, bit_and, Ok, Option, Some, None}
use Rattle.ed_model.specs.declared.plan.ViewChange.TheVariants as view_change
use Rattle.ed_model.specs.declared.plan.Plan.TheVariants as plan
use Rattle.ed_model.specs.declared.plan.Edit.TheVariants as edit
use Rattle.ed_model.specs.declared.plan.Source.TheVariants as source
use Rattle.ed_model.specs.declared.plan.Follow.TheVariants as follow
use Rattle.ed_model.specs.Numbers.{clamped}
use Rattle.ed_model.specs.Matches.{match_in}
use Rattle.ed_model.specs.Requests.{Request, Planned, answer, answer_number, text, size, selection_start, selection_end, target_least, target_greatest, with_argument, text_length, change_view}
use Rattle.ed_model.specs.Edits.{edit_plan}
use Rattle.ed_model.specs.TextPlans.{hand_out}

abbrev pub set_target : ℕ → ℕ → Planned
set_target start past = change_view (view_change.SetTarget start past)

abbrev pub set_target_start : Request → Planned
set_target_start r = set_target (clamped (size r) r.message.w) r.view.target_end

abbrev pub set_target_end : Request → Planned
set_target_end r = set_target r.view.target_start (clamped (size r) r.message.w)

abbrev pub set_target_range : Request → Planned
set_target_range r = set_target (clamped (size r) r.message.w) (clamped (size r) r.message.l)

abbrev pub get_target_start : Request → Planned
get_target_start r = answer_number r.view.target_start

abbrev pub get_target_end : Request → Planned
get_target_end r = answer_number r.view.target_end

abbrev pub target_from_selection : Request → Planned
target_from_selection r = set_target (selection_start r) (selection_end r)

abbrev pub target_whole_document : Request → Planned
target_whole_document r = set_target 0 (size r)

abbrev pub get_target_text : Request → Planned
get_target_text r = hand_out (target_least r) (target_greatest r)

-- search flags: any combination of SCFIND_WHOLEWORD, SCFIND_MATCHCASE and SCFIND_WORDSTART
abbrev pub search_flags : ℤ → Option ℕ
search_flags (pos n) = if bit_and n 0x100006 == n then Some n else None
search_flags (negsuc n) = None

abbrev pub set_search_flags : Request → Planned
set_search_flags r = with_argument (search_flags r.message.w) (λ flags. change_view (view_change.SetSearchFlags flags))

abbrev pub get_search_flags : Request → Planned
get_search_flags r = answer_number r.view.search_flags

-- a match becomes the target, and its start is answered; without a match the target stays, and the answer is -1
abbrev pub found_target : ℕ → Option ℕ → Planned
found_target size None = answer (negsuc 0)
found_target size (Some place) = Ok (plan.ChangeView (view_change.SetTarget place (place + size)) (pos place))

abbrev pub search_in_target : Request → Planned
search_in_target r =
    text_length r (λ count. found_target count (match_in r.view.search_flags (text r) (take count r.message.text) r.view.target_start r.view.target_end))

-- the length of the replacement, a part of the message's text; -1 is all of it
abbrev pub replacement_length : ℕ → ℤ → Option ℕ
replacement_length size (pos n) = if nat_le n size then Some n else None
replacement_length size (negsuc n) = if n == 0 then Some size else None

abbrev pub replace_target : Request → Planned
replace_target r =
    with_argument (replacement_length (length r.message.text) r.message.w) (λ count.
    edit_plan r (edit.Replace (target_least r) (target_greatest r - target_least r) (source.MessageText count)) (pos count)
    (follow.Target (target_least r) (target_least r + count)))
