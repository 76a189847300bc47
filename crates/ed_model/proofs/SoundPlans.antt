-- In a sound session the plan of each message is fit.
use Rattle.ed_model.proofs.Names.{is_same, ◌≡◌, ℕ, ◌+◌, ◌-◌, ◌^◌, ◌<◌, ◌≤◌, min, max, Bool, true, false, cond, List, [], ◌∷◌, length, map, zero, suc, reverse, refl, ap, sym, ◌∙◌, subst, arith, ℤ, pos, negsuc, int_le, filter, slice_index_or, ◌==◌, ◌&&◌, ◌||◌, not, nat_lt, nat_le, Option, Some, None, Ok, Err, if◌then◌else◌, take, is_some, range_with_len, list_any, leb-true, ltb-true, ltb-false, and_parts, not-false, TooLong, Edit, Follow, SessionChange, Plan, at_least_zero, is_on, is_minus_one, within, clamped, some_or_all, is_negative, Marker, Row, fresh_row, base_level, after_steps, replacement, Change, can_undo, can_redo, undo_changes, redo_changes, match_in, cut_after, fold_header, fold_parent, is_header, is_parent_of, is_expanded, Document, document_at, references, limit_of, Request, answer, answer_number, text, size, line_total, selection_start, selection_end, target_least, target_greatest, edit_plan, steps_of, source_bytes, replace_plan, replace_and_go, stays_within, has_steps, act_on_history, text_steps, has_handles, numbers_in, int_within, found_target, replacement_length, search_flags, past_line, fold_by, fold_at, levels, document_named, has_document_ids, with_reference, release_of, is_zero, document_options, occurrences, handles_in, IsSoundRequest, IsMarkerNumber, IsLineState, IsFitSource, IsFitEdit, IsFitFollow, IsFitPlan, IsFitPlanned, IsRoomFor, IsFitSessionChange, PlansFit, found_test, found_all, all_reverse, document_id, occurrences_append, length_text, request_document, request_stands, end_in_range}
use Rattle.std.proofs.lemmas.List.{length-take}
use Rattle.ed_types.specs.declared.kind.Kind.TheVariants as kinds
use Rattle.ed_model.specs.declared.plan.Source.{Source}
use Rattle.ed_model.specs.declared.plan.Source.TheVariants as source
use Rattle.ed_model.specs.declared.plan.Edit.TheVariants as edit
use Rattle.ed_model.specs.declared.plan.Follow.TheVariants as follow
use Rattle.ed_model.specs.declared.plan.SessionChange.TheVariants as session_change
use Rattle.ed_model.specs.declared.plan.Plan.TheVariants as plan
use Rattle.ed_model.specs.KeyPlans
use Rattle.ed_model.specs.LinePlans
use Rattle.ed_model.specs.SelectionPlans
use Rattle.ed_model.specs.SessionPlans
use Rattle.ed_model.specs.TargetPlans
use Rattle.ed_model.specs.TextPlans.{insertion_place, line_start, line_past, line_end, caret_line, hand_out}
use Rattle.ed_model.specs.SelectionPlans.{selected, select}
use Rattle.ed_model.specs.KeyPlans.{place_left, place_right, place_home, place_line_end}
use Rattle.ed_model.specs.StylePlans.{unstyled}
use Rattle.ed_model.proofs.SoundSteps.{length_replacement}
use Rattle.ed_model.proofs.SoundArguments.{with_argument_fits, argument_fits, text_length_fits, text_range_fits, counted_range_fits, line_fits, if_fits, within_bounds, clamped_bound, start_bound, past_bound, cut_after_bound, cut_before_bound, match_bound, all_range}

-- Edits.

edit_fits : (r : Request) (change : Edit) (value : ℤ) (after : Follow) → IsFitEdit r change → IsFitFollow r (length (after_steps (steps_of r change) (text r))) after
    → IsFitPlanned r (edit_plan r change value after)
edit_fits r change value after e f =
    if_fits r (r.document.read_only && has_steps (steps_of r change)) (Ok plan.Attempt)
    (if stays_within (limit_of r.session.limits r.document) (size r) (steps_of r change) then Ok (plan.Edit change value after) else Err TooLong)
    (λ _. tt)
    (λ _. if_fits r (stays_within (limit_of r.session.limits r.document) (size r) (steps_of r change)) (Ok (plan.Edit change value after)) (Err TooLong)
    (λ t. (e, f, t)) (λ _ e. absurd (cc)))

replace_fits : (r : Request) (start count : ℕ) (from : Source) → start + count ≤ size r → IsFitSource r from → IsFitPlanned r (replace_plan r start count from)
replace_fits r start count from h s = edit_fits r (edit.Replace start count from) (pos 0) follow.Nothing (h, s) tt

-- the length of the text after a replacement
length_replaced : (r : Request) (start count : ℕ) (bytes : List ℕ) → start + count ≤ size r → length (after_steps (replacement start count bytes (text r)) (text r)) ≡ size r - count + length bytes
length_replaced r start count bytes h =
    let n = length_text r.document in
    length_replacement start count bytes (text r) (subst (λ k. start + count ≤ k) (sym n) h) ∙ ap (λ k. k - count + length bytes) n

go_fits : (r : Request) (start count : ℕ) (from : Source) → start + count ≤ size r → IsFitSource r from → IsFitPlanned r (replace_and_go r start count from)
go_fits r start count from h s =
    let n = length_replaced r start count (source_bytes r from) h in
    edit_fits r (edit.Replace start count from) (pos 0) (follow.Caret (start + length (source_bytes r from))) (h, s)
    (subst (λ k. start + length (source_bytes r from) ≤ k) (sym n) (omega arith))

insertion_bound : (r : Request) (w : ℤ) (place : ℕ) → r.view.caret ≤ size r → insertion_place r w ≡ Some place → place ≤ size r
insertion_bound r w place c e = go (is_minus_one w) e
  where
    go : (b : Bool) → cond b (Some r.view.caret) (within 0 (size r) w) ≡ Some place → place ≤ size r
    go true e = let same : r.view.caret ≡ place = cc in omega arith
    go false e = (within_bounds 0 (size r) w place e).1

pick : (b : Bool) (x y n : ℕ) → x ≤ n → y ≤ n → cond b x y ≤ n
pick true x y n a b = a
pick false x y n a b = b

size_of_text : (r : Request) (n : ℕ) → n ≤ length (text r) → n ≤ size r
size_of_text r n h = subst (λ k. n ≤ k) (length_text r.document) h

line_start_bound : (r : Request) (line : ℕ) → line_start r line ≤ size r
line_start_bound r line = size_of_text r (line_start r line) (start_bound r.document.line_end_types (text r) line)

line_past_bound : (r : Request) (line : ℕ) → line_past r line ≤ size r
line_past_bound r line = size_of_text r (line_past r line) (past_bound r.document.line_end_types (text r) line)

line_end_bound : (r : Request) (line : ℕ) → line_end r line ≤ size r
line_end_bound r line = size_of_text r (line_end r line) (end_in_range r.document.line_end_types (text r) line)

place_right_bound : (r : Request) → place_right r ≤ size r
place_right_bound r = size_of_text r (place_right r) (cut_after_bound (text r) r.view.caret)

place_left_bound : (r : Request) → r.view.caret ≤ size r → place_left r ≤ size r
place_left_bound r c = let a = cut_before_bound (text r) r.view.caret in omega arith

clear_fits : (r : Request) → IsSoundRequest r → IsFitPlanned r (SelectionPlans.clear r)
clear_fits r h =
    let on = request_stands r h in
    let a : r.view.anchor ≤ size r = on.anchor in
    let c : r.view.caret ≤ size r = on.caret in
    let p = place_right_bound r in
    if_fits r (selected r == 0) (replace_plan r r.view.caret (cut_after (text r) r.view.caret - r.view.caret) source.Nothing) (replace_plan r (selection_start r) (selected r) source.Nothing)
    (λ _. replace_fits r r.view.caret (cut_after (text r) r.view.caret - r.view.caret) source.Nothing (omega arith) tt)
    (λ _. replace_fits r (selection_start r) (selected r) source.Nothing (omega arith) tt)

delete_back_fits : (r : Request) → IsSoundRequest r → IsFitPlanned r (KeyPlans.delete_back r)
delete_back_fits r h =
    let on = request_stands r h in
    let a : r.view.anchor ≤ size r = on.anchor in
    let c : r.view.caret ≤ size r = on.caret in
    let p : place_left r ≤ r.view.caret = cut_before_bound (text r) r.view.caret in
    if_fits r (selected r == 0) (replace_plan r (place_left r) (r.view.caret - place_left r) source.Nothing) (replace_plan r (selection_start r) (selected r) source.Nothing)
    (λ _. replace_fits r (place_left r) (r.view.caret - place_left r) source.Nothing (omega arith) tt)
    (λ _. replace_fits r (selection_start r) (selected r) source.Nothing (omega arith) tt)

-- Selection and target.

selection_bound : (r : Request) → IsSoundRequest r → (selection_start r + selected r ≤ size r) × (selection_start r ≤ size r) × (selection_end r ≤ size r)
selection_bound r h =
    let on = request_stands r h in
    let a : r.view.anchor ≤ size r = on.anchor in
    let c : r.view.caret ≤ size r = on.caret in
    (omega arith, omega arith, omega arith)

hand_out_fits : (r : Request) (start past : ℕ) → start ≤ size r → past ≤ size r → IsFitPlanned r (hand_out start past)
hand_out_fits r start past a b = omega arith

found_fits : (r : Request) (count : ℕ) (o : Option ℕ) → ((place : ℕ) → o ≡ Some place → place + count ≤ size r) → IsFitPlanned r (found_target count o)
found_fits r count None h = tt
found_fits r count (Some place) h = let a = h place refl in (omega arith, a)

search_fits : (r : Request) → IsSoundRequest r → IsFitPlanned r (TargetPlans.search_in_target r)
search_fits r h =
    let on = request_stands r h in
    text_length_fits r (λ count. found_target count (match_in r.view.search_flags (text r) (take count r.message.text) r.view.target_start r.view.target_end))
    (λ count le. found_fits r count (match_in r.view.search_flags (text r) (take count r.message.text) r.view.target_start r.view.target_end)
    (λ place e.
    let a = match_bound r.view.search_flags (text r) (take count r.message.text) r.view.target_start r.view.target_end (size r) place on.target_start on.target_end e in
    let n = length-take count r.message.text in omega arith))

replacement_bound : (n : ℕ) (x : ℤ) (count : ℕ) → replacement_length n x ≡ Some count → count ≤ n
replacement_bound n (pos m) count e = go (nat_le m n) refl e
  where
    go : (b : Bool) → nat_le m n ≡ b → cond b (Some m) None ≡ Some count → count ≤ n
    go true t e = let same : m ≡ count = cc in let a = leb-true m n t in omega arith
    go false t e = absurd (cc)
replacement_bound n (negsuc m) count e = go (m == 0) e
  where
    go : (b : Bool) → cond b (Some n) None ≡ Some count → count ≤ n
    go true e = let same : n ≡ count = cc in omega arith
    go false e = absurd (cc)

replace_target_fits : (r : Request) → IsSoundRequest r → IsFitPlanned r (TargetPlans.replace_target r)
replace_target_fits r h =
    let on = request_stands r h in
    let a : r.view.target_start ≤ size r = on.target_start in
    let b : r.view.target_end ≤ size r = on.target_end in
    with_argument_fits r (replacement_length (length r.message.text) r.message.w) _
    (λ count e.
    let le = replacement_bound (length r.message.text) r.message.w count e in
    let here : target_least r + (target_greatest r - target_least r) ≤ size r = omega arith in
    let n = length_replaced r (target_least r) (target_greatest r - target_least r) (take count r.message.text) here in
    let m = length-take count r.message.text in
    edit_fits r (edit.Replace (target_least r) (target_greatest r - target_least r) (source.MessageText count)) (pos count) (follow.Target (target_least r) (target_least r + count))
    (here, le)
    (subst (λ k. target_least r ≤ k) (sym n) (omega arith), subst (λ k. target_least r + count ≤ k) (sym n) (omega arith)))

-- Undo and redo.

history_fits : (r : Request) (can : Bool) (changes : List Change) (act : Plan) → (can ≡ true → IsRoomFor r (text_steps changes) → IsFitPlan r act) → IsFitPlanned r (act_on_history r can changes act)
history_fits r can changes act h =
    if_fits r (not can) (answer (pos 0)) (if r.document.read_only then Ok plan.Attempt
    else (if stays_within (limit_of r.session.limits r.document) (size r) (text_steps changes) then Ok act else Err TooLong))
    (λ _. tt)
    (λ c. if_fits r r.document.read_only (Ok plan.Attempt) (if stays_within (limit_of r.session.limits r.document) (size r) (text_steps changes) then Ok act else Err TooLong)
    (λ _. tt)
    (λ _. if_fits r (stays_within (limit_of r.session.limits r.document) (size r) (text_steps changes)) (Ok act) (Err TooLong)
    (λ t. h (not-false can c) t) (λ _ e. absurd (cc))))

-- Lines.

past_line_bound : (line_total : ℕ) (x : ℤ) → past_line line_total x ≤ line_total
past_line_bound line_total (pos n) = omega arith
past_line_bound line_total (negsuc n) = omega arith

header_bound : (levels : List ℕ) (line header : ℕ) → fold_header levels line ≡ Some header → header ≤ line
header_bound levels line header e = go (is_header levels line) e
  where
    go : (b : Bool) → cond b (Some line) (fold_parent levels line) ≡ Some header → header ≤ line
    go true e = let same : line ≡ header = cc in omega arith
    go false e =
        let a = found_all (λ k. (0 ≤ k) × (k < 0 + line)) (is_parent_of levels line) (reverse (range_with_len 0 line)) header
        (all_reverse (λ k. (0 ≤ k) × (k < 0 + line)) (range_with_len 0 line) (all_range 0 line)) e in
        let l : header < 0 + line = a.1 in omega arith

fold_by_fits : (r : Request) (action : ℕ) (o : Option ℕ) → ((header : ℕ) → o ≡ Some header → header < line_total r) → IsFitPlanned r (fold_by r action o)
fold_by_fits r action None h = tt
fold_by_fits r action (Some header) h =
    if_fits r (action == 0 || (action == 2 && is_expanded r.view.flags header)) _ _ (λ _. h header refl) (λ _. h header refl)

fold_at_fits : (r : Request) (action : ℕ) → IsFitPlanned r (fold_at r action)
fold_at_fits r action =
    line_fits r (answer (pos 0)) (λ line. fold_by r action (fold_header (levels r) line)) tt
    (λ line l. fold_by_fits r action (fold_header (levels r) line) (λ header e. let a = header_bound (levels r) line header e in omega arith))

-- Documents.

reference_fits : (r : Request) (x : ℤ) (change : ℕ → SessionChange)
    → ((d : Document) → document_at r.session.documents d.id ≡ Some d → references d < r.session.limits.refs → IsFitSessionChange r (change d.id))
    → IsFitPlanned r (with_reference r (document_named r.session x) change)
reference_fits r (negsuc n) change h = λ e. absurd (cc)
reference_fits r (pos id) change h = go (document_at r.session.documents id) refl
  where
    go : (o : Option Document) → document_at r.session.documents id ≡ o → IsFitPlanned r (with_reference r o change)
    go None e = λ e. absurd (cc)
    go (Some d) e =
        if_fits r (nat_lt (references d) r.session.limits.refs) _ _
        (λ t. h d (ap (document_at r.session.documents) (document_id r.session.documents id d e) ∙ e) (ltb-true (references d) r.session.limits.refs t)) (λ _ e. absurd (cc))

release_fits : (r : Request) (x : ℤ) → IsFitPlanned r (release_of (document_named r.session x))
release_fits r (negsuc n) = λ e. absurd (cc)
release_fits r (pos id) = go (document_at r.session.documents id) refl
  where
    go : (o : Option Document) → document_at r.session.documents id ≡ o → IsFitPlanned r (release_of o)
    go None e = λ e. absurd (cc)
    go (Some d) e =
        if_fits r (nat_lt 0 d.held_by_callers) _ _
        (λ t. (d, ap (document_at r.session.documents) (document_id r.session.documents id d e) ∙ e, ltb-true 0 d.held_by_callers t)) (λ _ e. absurd (cc))

set_doc_pointer_fits : (r : Request) → IsFitPlanned r (SessionPlans.set_doc_pointer r)
set_doc_pointer_fits r =
    if_fits r (is_zero r.message.l) _ (with_reference r (document_named r.session r.message.l) session_change.Attach)
    (λ _. if_fits r (has_document_ids r.session) _ _ (λ t. leb-true r.session.next_document r.session.limits.ids t) (λ _ e. absurd (cc)))
    (λ _. reference_fits r r.message.l session_change.Attach (λ d e l. (d, e, l)))

-- Markers and line states.

marker_number_fits : (x : ℤ) (number : Option ℕ) → some_or_all 31 x ≡ Some number → IsMarkerNumber number
marker_number_fits (pos n) number e = go (nat_le n 31) refl e
  where
    go : (b : Bool) → nat_le n 31 ≡ b → cond b (Some (Some n)) None ≡ Some number → IsMarkerNumber number
    go true t e = let same : Some n ≡ number = cc in subst IsMarkerNumber same (leb-true n 31 t)
    go false t e = absurd (cc)
marker_number_fits (negsuc n) number e = go (n == 0) e
  where
    go : (b : Bool) → cond b (Some None) None ≡ Some number → IsMarkerNumber number
    go true e = let same : None ≡ number = cc in subst IsMarkerNumber same tt
    go false e = absurd (cc)

line_state_fits : (x state : ℤ) → int_within (negsuc (2 ^ 31 - 1)) (pos (2 ^ 31 - 1)) x ≡ Some state → IsLineState state
line_state_fits x state e = go (int_le (negsuc (2 ^ 31 - 1)) x && int_le x (pos (2 ^ 31 - 1))) refl e
  where
    go : (b : Bool) → (int_le (negsuc (2 ^ 31 - 1)) x && int_le x (pos (2 ^ 31 - 1))) ≡ b → cond b (Some x) None ≡ Some state → IsLineState state
    go true t e = let same : x ≡ state = cc in subst IsLineState same (and_parts (int_le (negsuc (2 ^ 31 - 1)) x) (int_le x (pos (2 ^ 31 - 1))) t)
    go false t e = absurd (cc)

abbrev handles_of : List Marker → List ℕ
handles_of markers = map (λ (m : Marker). m.handle) markers

occurs_on_line : (handle : ℕ) (markers : List Marker) → list_any (LinePlans.has_handle (pos handle)) markers ≡ true → 0 < occurrences handle (handles_of markers)
occurs_on_line handle [] t = absurd (cc)
occurs_on_line handle (m ∷ ms) t = go (m.handle == handle) t (occurs_on_line handle ms)
  where
    go : (b : Bool) → (b || list_any (LinePlans.has_handle (pos handle)) ms) ≡ true → (list_any (LinePlans.has_handle (pos handle)) ms ≡ true → 0 < occurrences handle (handles_of ms))
        → 0 < length (cond b (m.handle ∷ filter (λ n. n == handle) (handles_of ms)) (filter (λ n. n == handle) (handles_of ms)))
    go true t rest = omega arith
    go false t rest = rest t

occurs_in_rows : (handle : ℕ) (rows : List Row) (line : ℕ) → 0 < occurrences handle (handles_of (slice_index_or rows line fresh_row).markers) → 0 < occurrences handle (handles_in rows)
occurs_in_rows handle [] line h = h
occurs_in_rows handle (row ∷ rows) zero h =
    let both = occurrences_append handle (handles_of row.markers) (handles_in rows) in omega arith
occurs_in_rows handle (row ∷ rows) (suc line) h =
    let rest = occurs_in_rows handle rows line h in
    let both = occurrences_append handle (handles_of row.markers) (handles_in rows) in omega arith

no_negative_handle : (n : ℕ) (markers : List Marker) → list_any (LinePlans.has_handle (negsuc n)) markers ≡ true → ⊥
no_negative_handle n [] t = cc
no_negative_handle n (m ∷ ms) t = no_negative_handle n ms t

-- the handle of a marker is below the next handle
handle_fits : (r : Request) → IsSoundRequest r → is_some (LinePlans.line_of_handle r) ≡ true → at_least_zero r.message.w < r.document.next_handle
handle_fits r h t = go (LinePlans.line_of_handle r) refl t
  where
    on_line : (x : ℤ) (line : ℕ) → list_any (LinePlans.has_handle x) (LinePlans.row_at r line).markers ≡ true → at_least_zero x < r.document.next_handle
    on_line (pos handle) line found =
        let there = occurs_in_rows handle r.document.rows line (occurs_on_line handle (LinePlans.row_at r line).markers found) in
        below (nat_lt handle r.document.next_handle) refl there
      where
        below : (b : Bool) → nat_lt handle r.document.next_handle ≡ b → 0 < occurrences handle (handles_in r.document.rows) → handle < r.document.next_handle
        below true b there = ltb-true handle r.document.next_handle b
        below false b there =
            let past : r.document.next_handle ≤ handle = ltb-false handle r.document.next_handle b in
            let none : occurrences handle (handles_in r.document.rows) ≡ 0 = (request_document r h).handles_below handle past in
            absurd (omega arith)
    on_line (negsuc n) line found = absurd (no_negative_handle n (LinePlans.row_at r line).markers found)

    go : (o : Option ℕ) → LinePlans.line_of_handle r ≡ o → is_some o ≡ true → at_least_zero r.message.w < r.document.next_handle
    go None e t = absurd (cc)
    go (Some line) e t = on_line r.message.w line (found_test (λ line. list_any (LinePlans.has_handle r.message.w) (LinePlans.row_at r line).markers) (range_with_len 0 (line_total r)) line e)

-- Each message.

pub plan_fits : PlansFit
plan_fits kinds.AddText r h =
    let c : r.view.caret ≤ size r = (request_stands r h).caret in
    text_length_fits r _ (λ count le. go_fits r r.view.caret 0 (source.MessageText count) (omega arith) le)
plan_fits kinds.InsertText r h =
    let c : r.view.caret ≤ size r = (request_stands r h).caret in
    with_argument_fits r (insertion_place r r.message.w) _
    (λ place e. let p = insertion_bound r r.message.w place c e in replace_fits r place 0 (source.MessageText (length r.message.text)) (omega arith) (omega arith))
plan_fits kinds.ClearAll r h = replace_fits r 0 (size r) source.Nothing (omega arith) tt
plan_fits kinds.Redo r h = history_fits r (can_redo r.document.history) (redo_changes r.document.history) plan.Redo (λ c room. (c, room))
plan_fits kinds.Undo r h = history_fits r (can_undo r.document.history) (undo_changes r.document.history) plan.Undo (λ c room. (c, room))
plan_fits kinds.SetUndoCollection r h = if_fits r (is_on r.message.w && r.document.history.collecting) _ _ (λ _. tt) (λ _. tt)
plan_fits kinds.SelectAll r h = (omega arith, omega arith)
plan_fits kinds.GetStyledText r h = text_range_fits r _ (λ start past a b. omega arith)
plan_fits kinds.MarkerDeleteHandle r h = if_fits r (is_some (LinePlans.line_of_handle r)) _ _ (λ t. handle_fits r h t) (λ _. tt)
plan_fits kinds.GotoLine r h = let a = line_start_bound r (clamped (line_total r - 1) r.message.w) in (a, a)
plan_fits kinds.GotoPos r h = let a = clamped_bound (size r) r.message.w in (a, a)
plan_fits kinds.SetEmptySelection r h = let a = clamped_bound (size r) r.message.w in (a, a)
plan_fits kinds.SetAnchor r h = (clamped_bound (size r) r.message.w, (request_stands r h).caret)
plan_fits kinds.SetCurrentPos r h = ((request_stands r h).anchor, clamped_bound (size r) r.message.w)
plan_fits kinds.SetSelectionStart r h =
    let a = clamped_bound (size r) r.message.w in let c : r.view.caret ≤ size r = (request_stands r h).caret in (a, (let m : max (clamped (size r) r.message.w) r.view.caret ≤ size r = omega arith in m))
plan_fits kinds.SetSelectionEnd r h =
    let a = clamped_bound (size r) r.message.w in let c : r.view.anchor ≤ size r = (request_stands r h).anchor in ((let m : min (clamped (size r) r.message.w) r.view.anchor ≤ size r = omega arith in m), a)
plan_fits kinds.SetSel r h =
    let caret = pick (is_negative r.message.l) (size r) (clamped (size r) r.message.l) (size r) (omega arith) (clamped_bound (size r) r.message.l) in
    (pick (is_negative r.message.w) (if is_negative r.message.l then size r else clamped (size r) r.message.l) (clamped (size r) r.message.w) (size r) caret (clamped_bound (size r) r.message.w), caret)
plan_fits kinds.GetCurLine r h =
    let a = line_start_bound r (caret_line r) in let b = line_past_bound r (caret_line r) in omega arith
plan_fits kinds.GetLine r h =
    line_fits r (answer (pos 0)) (λ line. hand_out (line_start r line) (line_past r line)) tt (λ line l. hand_out_fits r (line_start r line) (line_past r line) (line_start_bound r line) (line_past_bound r line))
plan_fits kinds.LineLength r h = line_fits r (answer (pos 0)) (λ line. answer_number (line_past r line - line_start r line)) tt (λ line l. tt)
plan_fits kinds.GetTextRange r h = text_range_fits r hand_out (λ start past a b. hand_out_fits r start past (omega arith) b)
plan_fits kinds.GetSelText r h = let s = selection_bound r h in hand_out_fits r (selection_start r) (selection_end r) s.1 s.2
plan_fits kinds.GetText r h = hand_out_fits r 0 (size r) (omega arith) (omega arith)
plan_fits kinds.GetTargetText r h =
    let on = request_stands r h in
    let a : r.view.target_start ≤ size r = on.target_start in
    let b : r.view.target_end ≤ size r = on.target_end in
    hand_out_fits r (target_least r) (target_greatest r) (omega arith) (omega arith)
plan_fits kinds.ReplaceSel r h = go_fits r (selection_start r) (selected r) (source.MessageText (length r.message.text)) (selection_bound r h).0 (omega arith)
plan_fits kinds.Cut r h =
    let s = (selection_bound r h).0 in
    if_fits r (selected r == 0) (answer (pos 0)) (edit_plan r (edit.Replace (selection_start r) (selected r) source.Nothing) (pos 0) (follow.Clipboard (selection_start r) (selected r)))
    (λ _. tt) (λ _. edit_fits r (edit.Replace (selection_start r) (selected r) source.Nothing) (pos 0) (follow.Clipboard (selection_start r) (selected r)) (s, tt) s)
plan_fits kinds.Copy r h = if_fits r (selected r == 0) _ _ (λ _. tt) (λ _. (selection_bound r h).0)
plan_fits kinds.Paste r h =
    if_fits r (length r.session.clipboard == 0) _ (replace_and_go r (selection_start r) (selected r) (source.Clipboard r.view.converts_pastes))
    (λ _. tt) (λ _. go_fits r (selection_start r) (selected r) (source.Clipboard r.view.converts_pastes) (selection_bound r h).0 tt)
plan_fits kinds.Clear r h = clear_fits r h
plan_fits kinds.DeleteBack r h = delete_back_fits r h
plan_fits kinds.NewLine r h = go_fits r (selection_start r) (selected r) source.LineEnd (selection_bound r h).0 tt
plan_fits kinds.SetText r h = replace_fits r 0 (size r) (source.MessageText (length r.message.text)) (omega arith) (omega arith)
plan_fits kinds.AppendText r h = text_length_fits r _ (λ count le. replace_fits r (size r) 0 (source.MessageText count) (omega arith) le)
plan_fits kinds.DeleteRange r h = counted_range_fits r _ (λ start count le. replace_fits r start count source.Nothing le tt)
plan_fits kinds.ConvertEols r h = argument_fits r 0 2 r.message.w _ (λ mode a b. edit_fits r (edit.ConvertLineEnds (LinePlans.line_end_kind mode)) (pos 0) follow.Nothing tt tt)
plan_fits kinds.SetEolMode r h = argument_fits r 0 2 r.message.w _ (λ mode a b. tt)
plan_fits kinds.CopyRange r h = text_range_fits r _ (λ start past a b. omega arith)
plan_fits kinds.CopyText r h = text_length_fits r _ (λ count le. le)
plan_fits kinds.CharLeft r h =
    let a = pick (selected r == 0) (place_left r) (selection_start r) (size r) (place_left_bound r (request_stands r h).caret) (selection_bound r h).1 in (a, a)
plan_fits kinds.CharLeftExtend r h = ((request_stands r h).anchor, place_left_bound r (request_stands r h).caret)
plan_fits kinds.CharRight r h = let a = pick (selected r == 0) (place_right r) (selection_end r) (size r) (place_right_bound r) (selection_bound r h).2 in (a, a)
plan_fits kinds.CharRightExtend r h = ((request_stands r h).anchor, place_right_bound r)
plan_fits kinds.Home r h = let a = line_start_bound r (caret_line r) in (a, a)
plan_fits kinds.HomeExtend r h = ((request_stands r h).anchor, line_start_bound r (caret_line r))
plan_fits kinds.LineEnd r h = let a = line_end_bound r (caret_line r) in (a, a)
plan_fits kinds.LineEndExtend r h = ((request_stands r h).anchor, line_end_bound r (caret_line r))
plan_fits kinds.DocumentStart r h = (omega arith, omega arith)
plan_fits kinds.DocumentStartExtend r h = ((request_stands r h).anchor, omega arith)
plan_fits kinds.DocumentEnd r h = (omega arith, omega arith)
plan_fits kinds.DocumentEndExtend r h = ((request_stands r h).anchor, omega arith)
plan_fits kinds.BeginUndoAction r h =
    if_fits r (nat_lt r.document.history.depth r.session.limits.depth) _ _ (λ t. ltb-true r.document.history.depth r.session.limits.depth t) (λ _ e. absurd (cc))
plan_fits kinds.AddUndoAction r h = argument_fits r 0 1 r.message.l _ (λ flags a b. tt)
plan_fits kinds.MarkerAdd r h =
    argument_fits r 0 31 r.message.l _ (λ number a b. line_fits r (answer (negsuc 0)) _ tt (λ line l.
    if_fits r (has_handles r 1) _ _ (λ t. (l, b, leb-true (r.document.next_handle + 1) (r.session.limits.handles + 1) t)) (λ _ e. absurd (cc))))
plan_fits kinds.MarkerAddSet r h =
    argument_fits r 0 (2 ^ 32 - 1) r.message.l _ (λ mask a b. line_fits r (answer (pos 0)) _ tt (λ line l.
    if_fits r (has_handles r (length (numbers_in mask))) _ _ (λ t. (l, omega arith, leb-true (r.document.next_handle + length (numbers_in mask)) (r.session.limits.handles + 1) t)) (λ _ e. absurd (cc))))
plan_fits kinds.MarkerDelete r h = with_argument_fits r (some_or_all 31 r.message.l) _ (λ number e. line_fits r (answer (pos 0)) _ tt (λ line l. (l, marker_number_fits r.message.l number e)))
plan_fits kinds.MarkerDeleteAll r h = with_argument_fits r (some_or_all 31 r.message.w) _ (λ number e. marker_number_fits r.message.w number e)
plan_fits kinds.MarkerGet r h = line_fits r (answer (pos 0)) (λ line. answer_number (LinePlans.line_mask r line)) tt (λ line l. tt)
plan_fits kinds.SetLineState r h =
    with_argument_fits r (int_within (negsuc (2 ^ 31 - 1)) (pos (2 ^ 31 - 1)) r.message.l) _ (λ state e. line_fits r (answer (pos 0)) _ tt (λ line l.
    if_fits r (is_same (LinePlans.row_at r line).state state) _ _ (λ _. tt) (λ _. (l, line_state_fits r.message.l state e))))
plan_fits kinds.GetLineState r h = line_fits r (answer (pos 0)) (λ line. answer (LinePlans.row_at r line).state) tt (λ line l. tt)
plan_fits kinds.StartStyling r h = argument_fits r 0 (size r) r.message.w _ (λ place a b. b)
plan_fits kinds.SetStyling r h =
    let s : r.document.end_styled ≤ size r = (request_document r h).styled in
    argument_fits r 0 255 r.message.l _ (λ style a b. argument_fits r 0 (unstyled r) r.message.w _ (λ count c d. (omega arith, b)))
plan_fits kinds.SetStylingEx r h =
    let s : r.document.end_styled ≤ size r = (request_document r h).styled in
    text_length_fits r _ (λ count le. if_fits r (nat_le count (unstyled r)) _ _ (λ t. let d = leb-true count (unstyled r) t in (omega arith, le)) (λ _ e. absurd (cc)))
plan_fits kinds.Colourise r h = text_range_fits r _ (λ start past a b. (a, b))
plan_fits kinds.SetIndicatorCurrent r h = argument_fits r 0 31 r.message.w _ (λ indicator a b. omega arith)
plan_fits kinds.SetIndicatorValue r h = argument_fits r 0 (2 ^ 31 - 1) r.message.w _ (λ value a b. (omega arith, omega arith))
plan_fits kinds.IndicatorFillRange r h = counted_range_fits r _ (λ start count le. ((request_stands r h).indicator, le))
plan_fits kinds.IndicatorClearRange r h = counted_range_fits r _ (λ start count le. ((request_stands r h).indicator, le))
plan_fits kinds.IndicatorValueAt r h = argument_fits r 0 31 r.message.w _ (λ indicator a b. tt)
plan_fits kinds.IndicatorStart r h = argument_fits r 0 31 r.message.w _ (λ indicator a b. tt)
plan_fits kinds.IndicatorEnd r h = argument_fits r 0 31 r.message.w _ (λ indicator a b. tt)
plan_fits kinds.SetTargetStart r h = (clamped_bound (size r) r.message.w, (request_stands r h).target_end)
plan_fits kinds.SetTargetEnd r h = ((request_stands r h).target_start, clamped_bound (size r) r.message.w)
plan_fits kinds.SetTargetRange r h = (clamped_bound (size r) r.message.w, clamped_bound (size r) r.message.l)
plan_fits kinds.TargetFromSelection r h = let s = selection_bound r h in (s.1, s.2)
plan_fits kinds.TargetWholeDocument r h = (omega arith, omega arith)
plan_fits kinds.ReplaceTarget r h = replace_target_fits r h
plan_fits kinds.SearchInTarget r h = search_fits r h
plan_fits kinds.SetSearchFlags r h = with_argument_fits r (search_flags r.message.w) _ (λ flags e. tt)
plan_fits kinds.SetFoldLevel r h = argument_fits r 0 (2 ^ 31 - 1) r.message.l _ (λ level a b. line_fits r (answer (pos 0)) _ tt (λ line l.
    if_fits r ((LinePlans.row_at r line).level == level) _ _ (λ _. tt) (λ _. (l, omega arith))))
plan_fits kinds.GetFoldLevel r h = line_fits r (answer_number base_level) _ tt (λ line l. tt)
plan_fits kinds.GetLastChild r h = with_argument_fits r (some_or_all (2 ^ 31 - 1) r.message.l) _ (λ level e. line_fits r (answer (negsuc 0)) _ tt (λ line l. tt))
plan_fits kinds.GetFoldParent r h = line_fits r (answer (negsuc 0)) _ tt (λ line l. tt)
plan_fits kinds.VisibleFromDocLine r h = line_fits r (answer (negsuc 0)) _ tt (λ line l. tt)
plan_fits kinds.ShowLines r h = (clamped_bound (line_total r) r.message.w, past_line_bound (line_total r) r.message.l)
plan_fits kinds.HideLines r h = (clamped_bound (line_total r) r.message.w, past_line_bound (line_total r) r.message.l)
plan_fits kinds.GetLineVisible r h = line_fits r (answer (pos 0)) _ tt (λ line l. tt)
plan_fits kinds.SetFoldExpanded r h = line_fits r (answer (pos 0)) _ tt (λ line l. l)
plan_fits kinds.GetFoldExpanded r h = line_fits r (answer (pos 0)) _ tt (λ line l. tt)
plan_fits kinds.FoldLine r h = argument_fits r 0 2 r.message.l _ (λ action a b. fold_at_fits r action)
plan_fits kinds.ToggleFold r h = fold_at_fits r 2
plan_fits kinds.EnsureVisible r h = line_fits r (answer (pos 0)) _ tt (λ line l. l)
plan_fits kinds.SetDocPointer r h = set_doc_pointer_fits r
plan_fits kinds.CreateDocument r h =
    argument_fits r 0 (2 ^ 63 - 1) r.message.w _ (λ unused a b. with_argument_fits r (document_options r.message.l) _ (λ options e.
    if_fits r (has_document_ids r.session) _ _ (λ t. leb-true r.session.next_document r.session.limits.ids t) (λ _ e. absurd (cc))))
plan_fits kinds.AddRefDocument r h = reference_fits r r.message.l session_change.AddReference (λ d e l. (d, e, l))
plan_fits kinds.ReleaseDocument r h = release_fits r r.message.l
plan_fits kinds.SetLineEndTypesAllowed r h = argument_fits r 0 1 r.message.w _ (λ types a b. if_fits r (types == SessionPlans.types_number r.document.line_end_types) _ _ (λ _. tt) (λ _. tt))
plan_fits kinds.SetModEventMask r h = argument_fits r 0 0x7FFFFF r.message.w _ (λ mask a b. b)
plan_fits _ r h = tt
