-- The names of the crates below, and of this crate's definitions, that several proofs cite. Declares nothing.
pub use mir.Val.{SFits, to_z, of_z}
pub use Rattle.std.proofs.Common.{map-id, ◌≡◌, ℕ, zero, suc, ◌+◌, ◌<◌, Bool, true, false, cond, List, [], ◌∷◌, ◌++◌, length, get_or, set, refl, ap, sym, arith, length-append, take, ◌≤◌, ◌^◌, ◌∙◌, ◌-◌, subst, map, replicate, rules, w64, w32, min, inl, inr, slice_range, ◌≢◌, option_map, IsSomeAnd}
pub use Rattle.std.proofs.lemmas.Bool.{eqb-true, eqb-false, eq-eqb, ne_eqb, lt-ltb, cond_both}
pub use Rattle.std.proofs.lemmas.Bool.Decides.{nat_tests}
pub use Rattle.std.proofs.lemmas.Grind.{common_steps}
pub use Rattle.std.proofs.lemmas.Int.{to_z-of_z, ints}
pub use Rattle.std.proofs.lemmas.List.{append-nil, length-map, nil_from_length, map-append, take_all}
pub use Rattle.std.proofs.lemmas.List.Filters.{length-filter_both}
pub use Rattle.std.proofs.lemmas.List.Folds.{find-append}
pub use Rattle.std.proofs.lemmas.Result.{err_from_is_err_and}
pub use Rattle.std.proofs.lemmas.Simd.{map-map}
pub use Rattle.std.specs.List.{AllByRecursion, range_with_len, last_or}
pub use Rattle.std.specs.Option.{option_copied_mut, option_copied, option_or}
pub use Rattle.std.specs.Prelude.{◌==◌, not, filter, Some, None, slice_index_or, slice_index, unwrap_or, Option, IfSome, IsSome, ℤ, pos, negsuc, int_le, nat_lt, ◌&&◌, bit_or, Result, Ok, Err, is_ok, max, if◌then◌else◌}
pub use Rattle.std.specs.declared.alloc.AllocError.{AllocError}
pub use Rattle.ed_types.specs.Notices.{Notice}
pub use Rattle.ed_types.specs.declared.limits.Limits.{Limits}
pub use Rattle.ed_model.specs.Changes.{new_markers, with_new_markers, without_markers, marker_count, line_with_handle, changed_document, change_told, range_notes, document_row, changed_lines, styled, line_note, changed_view, view_change_performed, attached_last, session_changed, held_less, attached, with_attached, with_new_document}
pub use Rattle.ed_model.specs.History.{TextStep, History, Change, ContainerStep, sealed_outside_groups}
pub use Rattle.ed_model.specs.Indicators.{changed_places, changed_range, extent}
pub use Rattle.ed_model.specs.Lines.{line_count}
pub use Rattle.ed_model.specs.Notes.{heard, told, range_note, performed_user, change_style, blank, save_point_reached, save_point_left, change_line_state, change_indicator}
pub use Rattle.ed_model.specs.Performing.{Scene, changes_lines, changes_performed, transaction_performed, edit_made, step_made, sealed_scene}
pub use Rattle.ed_model.specs.PlansFit.{IsFitSessionChange}
pub use Rattle.ed_model.specs.Rows.{Row, Marker, fresh_row, rows_together}
pub use Rattle.ed_model.specs.Session.{Document, View, lines_in, is_large, new_view, new_document, text_of, watching, Session, view_at, document_at, with_view, references, living, left_by, without, is_allowed, attached_to}
pub use Rattle.ed_model.specs.SoundLaws.{IsSoundView, StandsOn, Rise, IsSoundDocument, ListsItsViews}
pub use Rattle.ed_model.specs.Steps.{Step, Insert, Delete, insertion, replacement, deletion}
pub use Rattle.ed_model.specs.Text.{styles_of, Cell}
pub use Rattle.ed_model.specs.declared.plan.DocumentChange.{DocumentChange}
pub use Rattle.ed_model.specs.declared.plan.DocumentChange.TheVariants.{SetSavePoint, SetLineEndTypes, AppendContainer, AddMarker, AddMarkers, DeleteMarker, DeleteMarkers, DeleteHandle, SetLevel, SetState, StyleRun, StyleBytes, NeedStyle, FillIndicator}
pub use Rattle.ed_model.specs.declared.plan.SessionChange.{SessionChange}
pub use Rattle.ed_model.specs.declared.plan.SessionChange.TheVariants.{Attach, AttachNew, Create}
pub use Rattle.ed_model.specs.declared.plan.ViewChange.{ViewChange}
pub use Rattle.ed_model.specs.proved.Changes.{marker_count-cons, text_of_styled, changed_view_document, changed_view_id}
pub use Rattle.ed_model.specs.proved.Elements.{found_all, all_added, all_append, all_filter, all_map, all_two, all_weaker, map_where}
pub use Rattle.ed_model.specs.proved.Finding.{documents_added, found_below, mapped_ids}
pub use Rattle.ed_model.specs.proved.Limits.{allowed_lengths}
pub use Rattle.ed_model.specs.proved.Lines.{few_lines}
pub use Rattle.ed_model.specs.proved.Requests.{own_document, request_document, request_stands}
pub use Rattle.ed_model.specs.proved.Scenes.{edit_made_id}
pub use Rattle.ed_model.specs.proved.Steps.{length_of_range}
pub use Rattle.contraction.specs.ViewLines.{FoldCapacity}
pub use Rattle.document.specs.Changes.{with_history, with_attached_view, with_held_by_callers}
pub use Rattle.document.specs.Kept.{Kept, amount_sum, amounts_added, nothing_needed, HasRoom, FitsWidth, IsAtLeast, bound_of, HasViewRoom, document_of, new_kept, text_from}
pub use Rattle.document.specs.TextSteps.{LeavesRoom, need_of, need_of_step, step_on}
pub use Rattle.document.specs.declared.need.DocumentNeed.{DocumentNeed}
pub use Rattle.document.specs.proved.Room.{less_room, seal_room}
pub use Rattle.document_table.specs.Leaving.{let_go, KeepsRest, LeavesTheLiving, released}
pub use Rattle.ed_view.specs.Flags.{AreFewLines}
pub use Rattle.ed_view.specs.Folding.{FitChangesAreWithin, IsWithin}
pub use Rattle.ed_view.specs.Kept.{KeptView, view_in, HasFewLines}
pub use Rattle.id_table.specs.Entries.{Entries, Entry, entry, value_of, value_at, with_value_at}
pub use Rattle.message_requests.specs.Requested.{session_in, documents_in}
pub use Rattle.message_requests.specs.declared.state.SessionState.{SessionState}
pub use Rattle.notify.specs.Gathered.{Gathered, CanPut, is_full, with_room}
pub use Rattle.scene.specs.Conversion.{room_of_steps, free_behind}
pub use Rattle.scene.specs.Hearing.{hearers}
pub use Rattle.scene.specs.Needs.{IsCounted, note_room, notes_of_step, bytes_of_step, leaving_count, notes_for, bytes_needed, held_behind, CanHoldSteps, CanHoldEdit, NeedsAreEnough}
pub use Rattle.scene.specs.Scenes.{watchers, width_at, width_of, HasWidths, HaveWidths, IsWatched, views_of, StandsIfOn, scene_in, kept_scene}
pub use Rattle.scene.specs.Telling.{with_notes, CanHold}
pub use Rattle.scene.specs.Undoing.{capped, capped_room, bits_of, room_of_changes}
pub use Rattle.scene.specs.declared.need.SceneNeed.{SceneNeed}
pub use Rattle.scene.specs.proved.Enough.{first_held, next_held}
pub use Rattle.scene.specs.proved.Finding.{at_each, by_id, changed, changed_at, found_none, found_some, id_of_document, id_of_view, keeping, named_with, other_replaced, own_at, unchanged, value_replaced}
pub use Rattle.scene.specs.proved.Rooms.{same_room, deletion_needs, first_room, next_room}
pub use Rattle.performing.specs.Asked.{IsAsked, CanChangeView, asked, document_asked, view_asked, CanAttach, CanMove, DocumentsRise}
pub use Rattle.performing.specs.Changed.{ReservesFor, TakesMemory, Changes, IsMade, IsMadeUnheard, Makes}
pub use Rattle.performing.specs.ChangeNeeds.{IsReady, change_note_need, is_of_types, needs_room, notes_of_change}
pub use Rattle.performing.specs.Edits.{StepsFit}
pub use Rattle.performing.specs.Folding.{GrowsAtMost, HasRoomFor, OnlyViewChanges}
pub use Rattle.performing.specs.Kept.{IsKept, DocumentsAreNamed}
pub use Rattle.performing.specs.Notes.{IsFitNote, marker_notice, notice_of, notes_of}
pub use Rattle.performing.specs.SessionMemory.{AllStays, KeepsClipboard, KeepsRoom, RoomsGrow, Stays, TableGrows, TableStays, attaches_to, kept_or_new, with_added}
pub use Rattle.performing.specs.declared.note.ChangeNote.{ChangeNote}
pub use Rattle.performing.specs.declared.note.ChangeNote.TheVariants.{Nothing, SavePointLeft, Markers, AllMarkers, Level, State, StyleNeeded}
pub use Rattle.performing.specs.proved.Leaving.{ids_of, living_left, named_left, stays_alike}
