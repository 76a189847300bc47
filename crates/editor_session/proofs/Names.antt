-- The names of the crates below, and of this crate's definitions, that many proofs cite. Declares nothing.
pub use Rattle.std.proofs.Common.{◌≡◌, ℕ, ◌==◌, ap, sym, ◌∙◌, Some, None, ◌⊎◌, inl, inr, ℤ, true, false, List, [], ◌∷◌, ◌++◌, length, refl, subst, Option, IfSome, IsSome, IsSomeAnd, Bool, cond, map, option_map, is_some, Ok, Err, ◌+◌, arith, pos, OnOk, OnErr, IfOk, ◌&&◌, IfErr, ◌<◌, ◌≤◌, slice_range, ◌-◌, ◌^◌, ◌≢◌, append-nil, append_assoc, negsuc, ◌↔◌, take, drop, zero, suc, slice_get, IsErr, ◌||◌, min, nat_le, rules, to_z, of_z, w64, ◌*◌}
pub use Rattle.std.specs.Prelude.{not, if◌then◌else◌, Result, reverse, nat_lt, filter_map, filter, IsOk, option_copied, vec_len, vec_capacity}
pub use Rattle.std.proofs.lemmas.Bool.{and_parts, eqb-true, eqb-false, cond_both, not-true, leb-true, lt-leb, le-leb}
pub use Rattle.std.specs.List.{AllByRecursion, cons_option}
pub use Rattle.std.proofs.lemmas.List.{map-append, length-map, length-take, length-drop, drop-map}
pub use Rattle.std.specs.Option.{option_copied_mut}
pub use Rattle.std.proofs.lemmas.Result.{err_from_is_err_and}
pub use Rattle.ed_model.specs.Session.{View, document_at, view_at, Document, Session, text_of, with_document, is_allowed, watching, new_document, new_view, living, left_by, references, is_large, limit_of}
pub use Rattle.ed_model.specs.SoundLaws.{IsSoundView, IsSound, AreStepsOf, OpeningKeepsSound, ClosingKeepsSound, IsSoundDocument, ListsItsViews, StandsOn}
pub use Rattle.ed_model.specs.proved.Elements.{found_all, all_filter, all_weaker, map_where}
pub use Rattle.ed_model.specs.proved.Finding.{same_document}
pub use Rattle.ed_model.specs.proved.Requests.{own_document, request_document}
pub use Rattle.id_table.specs.Entries.{value_at, Entries, Entry, entry, with_value_at, without_id}
pub use Rattle.document.specs.Kept.{Kept, document_of, FitsWidth, bound_of}
pub use Rattle.ed_view.specs.Kept.{KeptView, view_in}
pub use Rattle.message_requests.specs.Requested.{session_in, documents_in}
pub use Rattle.message_requests.specs.declared.state.SessionState.{SessionState}
pub use Rattle.performing.specs.Asked.{document_asked, asked, performed_at}
pub use Rattle.performing.specs.Kept.{IsKept, DocumentsAreNamed}
pub use Rattle.scene.specs.proved.ViewWidths.{widths_changed, widths_kept, widths_living, widths_opened, widths_put, widths_without, left_place}
pub use Rattle.scene.specs.proved.Finding.{changed_at, keeping, id_of_view, id_of_document, id_of_old, found_some, found_none, found, unchanged, named_with, own_at, IsKeptAs, kept_as, changed, staying}
pub use Rattle.ed_model.specs.declared.plan.Follow.{Follow}
pub use Rattle.ed_model.specs.Edits.{steps_of, has_steps, source_bytes, stays_within}
pub use Rattle.ed_model.specs.LineEnds.{converted, after_steps}
pub use Rattle.ed_model.specs.Performing.{Scene, session_of, edit_made, followed, quiet, history_performed, caret_behind, response, styled_text, scene_of, step_made, steps_made, sealed_scene, change_performed, changes_performed, transaction_performed, is_last, changes_lines, save_point_change}
pub use Rattle.ed_model.specs.PlansFit.{EditStepsFit, PlansFit, UndoStepsFit, RedoStepsFit, IsSoundRequest, IsFitPlan, IsRoomFor, IsFitDocumentChange, IsFitEdit, IsFitSource, IsFitFollow, IsFitPlanned, PlansKeepSound}
pub use Rattle.ed_model.specs.Requests.{Request, Planned, text, size, answer, answer_number}
pub use Rattle.ed_model.specs.Steps.{Step, insertion, Insert, Delete, replacement, edited}
pub use Rattle.notify.specs.Gathered.{Gathered, CanPut, no_notes}
pub use Rattle.scene.specs.Scenes.{kept_scene, views_of, width_at, width_of, AreNamed, HasWidthIfOn, HasWidths, HaveWidths, KeepWidths, watchers, scene_in, StandsIfOn, IsWatched}
pub use Rattle.ed_types.specs.declared.kind.Kind.{Kind}
pub use Rattle.ed_types.specs.declared.message.Message.{Message}
pub use Rattle.ed_types.specs.Messages.{number_of, kind_of, kind_among, marks_of}
pub use Rattle.ed_types.specs.MessagesLaws.{EachKindIsFound}
pub use Rattle.ed_model.specs.Changes.{changed_document, session_changed, changed_lines, change_told}
pub use Rattle.ed_model.specs.declared.plan.DocumentChange.{DocumentChange}
pub use Rattle.ed_model.specs.declared.plan.Plan.{Plan}
pub use Rattle.ed_model.specs.Table.{table, request, plan_of, performed, performed_for, opened, closed, closed_view, with_recording, record_note, table_from_view, table_from_kind, table_from_document, answered}
pub use Rattle.performing.specs.Fit.{IsFitChange, bytes_read}
pub use Rattle.document.specs.Undoing.{changes_of, history_behind}
pub use Rattle.document.specs.declared.undoing.Direction.{Direction}
pub use Rattle.ed_types.specs.Notices.{Notice, Response}
pub use Rattle.scene.specs.Undoing.{bits_of, place_behind_any, rooms_beside}
pub use Rattle.ed_model.specs.History.{latest_text_step, TextStep, at_save_point, History, Change, ContainerStep}
pub use Rattle.ed_types.specs.declared.refusal.Refusal.{Refusal}
pub use Rattle.ed_types.specs.declared.refusal.Refusal.TheVariants.{NoSuchView, BadArgument, OutOfMemory}
pub use Rattle.scene.specs.Conversion.{free_behind, room_of_steps_beside}
pub use Rattle.ed_types.specs.declared.limits.Limits.{Limits}
pub use Rattle.ed_model.specs.declared.plan.SessionChange.{SessionChange}
pub use Rattle.ed_model.specs.Notes.{told, modify_attempt, blank, bit_if, multi_step}
pub use Rattle.ed_model.specs.declared.plan.ViewChange.{ViewChange}
pub use Rattle.message_plans.specs.Asking.{questions, question_of, is_question, value_planned, value_asked, text_questions, text_question_of, is_text_question, handed_planned, handed_asked}
pub use Rattle.ed_model.specs.Run.{Running, outcomes, run_to, after_command, after_message, after_opening, loaded, file_at, set_text_message}
pub use Rattle.ed_model.specs.proved.Steps.{length-inserted, length-deleted_within}
pub use Rattle.ed_model.specs.Text.{Cell, styles_of, bytes_of}
pub use Rattle.performing.specs.Edits.{MakesEdit}
pub use Rattle.performing.specs.History.{scene_gone}
pub use Rattle.performing.specs.Widths.{StepsFitWidth, ChangesFitWidth}
pub use Rattle.editor_session.specs.Edits.{IsPastedFor, TakesWithin, is_turned, clipboard_need, taken_along, followed_views, followed_clipboard, with_caret_if, IsStoredIn, IsEditWithin, stored_bytes, edit_steps}
pub use Rattle.editor_session.specs.Plans.{takes_nothing_along, is_free, needs_no_memory, needs_no_fold_room, planned_without_memory, is_free_request, is_free_from_document, is_free_from_kind, is_free_from_view, is_marked_free, is_recorded_by, MarkedMessagesAreFree}
pub use Rattle.editor_session.specs.Performing.{request_of, IsSent, CanPerform, IsPerformed, going}
pub use Rattle.editor_session.specs.Planned.{IsFound, IsPlannedAs, recording, first_note}
pub use Rattle.editor_session.specs.Answers.{with_text, AnswersBy, message_with, IsAnswered, AnswersQuery, value_from_document, value_from_view, value_from_kind}
