-- Each handle is given once: how often it is in a document's rows after a change.
use Rattle.ed_model.proofs.Names.{ℕ, ◌<◌, ◌≤◌, List, [], ◌∷◌, ◌++◌, map, ap, ◌∙◌, arith, slice_index_or, map-append, line_starts, Marker, fresh_row, Document, text_of, new_markers, with_new_markers, without_marker, is_of_number, numbers_in, occurrences, handles_in, occurrences_append}
use Rattle.ed_model.specs.declared.plan.DocumentChange.TheVariants as change
use Rattle.ed_model.specs.HandleLaws.{StepsGiveNoHandle, ChangesGiveNoOldHandle, NextHandlesNeverFall}
use Rattle.ed_model.proofs.SoundCarry.{handles_carried, handles_carried_by}
use Rattle.ed_model.proofs.SoundMarkers.{set_occurrences, with_markers_occurrences, new_below, without_marker_occurrences, without_markers_occurrences}

pub steps_give_no_handle : StepsGiveNoHandle
steps_give_no_handle types step text rows handle = handles_carried_by handle types step text rows

-- new markers have handles from the next handle on
new_markers_give_no_old : (line : ℕ) (numbers : List ℕ) (d : Document) (handle : ℕ) → handle < d.next_handle
    → occurrences handle (handles_in (with_new_markers line numbers d).rows) ≤ occurrences handle (handles_in d.rows)
new_markers_give_no_old line numbers d handle below =
    let own = (slice_index_or d.rows line fresh_row).markers in
    let a = with_markers_occurrences handle line (own ++ new_markers d.next_handle numbers) d.rows in
    let b = ap (occurrences handle) (map-append (λ (m : Marker). m.handle) own (new_markers d.next_handle numbers))
    ∙ occurrences_append handle (map (λ (m : Marker). m.handle) own) (map (λ (m : Marker). m.handle) (new_markers d.next_handle numbers)) in
    let c = new_below handle d.next_handle numbers below in
    omega arith

pub changes_give_no_old_handle : ChangesGiveNoOldHandle
changes_give_no_old_handle bytes (change.SetReadOnly on) d handle below = omega arith
changes_give_no_old_handle bytes (change.SetLineEnd to) d handle below = omega arith
changes_give_no_old_handle bytes (change.SetLineEndTypes to) d handle below =
    handles_carried handle (λ start. start) (line_starts d.line_end_types (text_of d)) (line_starts to (text_of d)) d.rows
changes_give_no_old_handle bytes change.SetSavePoint d handle below = omega arith
changes_give_no_old_handle bytes change.BeginGroup d handle below = omega arith
changes_give_no_old_handle bytes change.EndGroup d handle below = omega arith
changes_give_no_old_handle bytes change.ForgetHistory d handle below = omega arith
changes_give_no_old_handle bytes (change.CollectUndo on) d handle below = omega arith
changes_give_no_old_handle bytes (change.AppendContainer token coalesce) d handle below = omega arith
changes_give_no_old_handle bytes (change.AddMarker line number) d handle below = new_markers_give_no_old line (number ∷ []) d handle below
changes_give_no_old_handle bytes (change.AddMarkers line mask) d handle below = new_markers_give_no_old line (numbers_in mask) d handle below
changes_give_no_old_handle bytes (change.DeleteMarker line number) d handle below =
    let own = (slice_index_or d.rows line fresh_row).markers in
    let a = with_markers_occurrences handle line (without_marker number own) d.rows in
    let b = without_marker_occurrences handle number own in
    omega arith
changes_give_no_old_handle bytes (change.DeleteMarkers number) d handle below = without_markers_occurrences handle (is_of_number number) d.rows
changes_give_no_old_handle bytes (change.DeleteHandle old) d handle below = without_markers_occurrences handle _ d.rows
changes_give_no_old_handle bytes (change.SetLevel line level) d handle below =
    let row = slice_index_or d.rows line fresh_row in
    let a = set_occurrences handle d.rows line (record row { level = level }) in
    omega arith
changes_give_no_old_handle bytes (change.SetState line state) d handle below =
    let row = slice_index_or d.rows line fresh_row in
    let a = set_occurrences handle d.rows line (record row { state = state }) in
    omega arith
changes_give_no_old_handle bytes (change.SetEndStyled place) d handle below = omega arith
changes_give_no_old_handle bytes (change.StyleRun count style) d handle below = omega arith
changes_give_no_old_handle bytes (change.StyleBytes count) d handle below = omega arith
changes_give_no_old_handle bytes (change.NeedStyle start past) d handle below = omega arith
changes_give_no_old_handle bytes (change.FillIndicator indicator start count value) d handle below = omega arith

pub next_handles_never_fall : NextHandlesNeverFall
next_handles_never_fall bytes (change.AddMarker line number) d = omega arith
next_handles_never_fall bytes (change.AddMarkers line mask) d = omega arith
next_handles_never_fall bytes (change.SetReadOnly on) d = omega arith
next_handles_never_fall bytes (change.SetLineEnd to) d = omega arith
next_handles_never_fall bytes (change.SetLineEndTypes to) d = omega arith
next_handles_never_fall bytes change.SetSavePoint d = omega arith
next_handles_never_fall bytes change.BeginGroup d = omega arith
next_handles_never_fall bytes change.EndGroup d = omega arith
next_handles_never_fall bytes change.ForgetHistory d = omega arith
next_handles_never_fall bytes (change.CollectUndo on) d = omega arith
next_handles_never_fall bytes (change.AppendContainer token coalesce) d = omega arith
next_handles_never_fall bytes (change.DeleteMarker line number) d = omega arith
next_handles_never_fall bytes (change.DeleteMarkers number) d = omega arith
next_handles_never_fall bytes (change.DeleteHandle handle) d = omega arith
next_handles_never_fall bytes (change.SetLevel line level) d = omega arith
next_handles_never_fall bytes (change.SetState line state) d = omega arith
next_handles_never_fall bytes (change.SetEndStyled place) d = omega arith
next_handles_never_fall bytes (change.StyleRun count style) d = omega arith
next_handles_never_fall bytes (change.StyleBytes count) d = omega arith
next_handles_never_fall bytes (change.NeedStyle start past) d = omega arith
next_handles_never_fall bytes (change.FillIndicator indicator start count value) d = omega arith
