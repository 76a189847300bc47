-- The names of the crates below, and of the definitions of this crate, that several proofs cite. Declares nothing.
pub use Rattle.std.proofs.Common.{◌≡◌, ℕ, Bool, true, false, cond, List, [], ◌∷◌, map, refl, ap, sym, ◌∙◌, subst, Option, Some, None, ◌==◌, replicate, take, Ok, Err, ◌&&◌, zero, suc, ◌+◌, ◌-◌, ◌<◌, ◌≤◌, ◌++◌, length, filter, unwrap_or, slice_get, inl, inr, arith, zero-add, append-nil, length-append, nat_lt, Result, ◌||◌, ℤ, pos, ◌⊎◌, get_or, drop, slice_range, append_assoc}
pub use Rattle.std.specs.Prelude.{filter_map, find, ◌≢◌, option_map, nat_le, not, bit_or, reverse, IfOk, flat_map}
pub use Rattle.std.specs.List.{AllByRecursion, cons_option, list_all, range_with_len}
pub use Rattle.std.proofs.lemmas.Bool.{eqb-true, and_parts, eqb-false, ltb-true, cases_order, eq-eqb, ne_eqb, not-true, not-false, or_cases, or_parts, and_right, true≢false, or_left, or_right, lt-ltb, cond-true, cases_eq, or_from, cond_both, cases_lt, leb-true}
pub use Rattle.ed_model.specs.Session.{View, view_at, Session, Document, document_at, text_of, with_document, living, left_by, new_document, new_view, attached_to, with_view, watching, lines_in, new_session, limit_of, references}
pub use Rattle.ed_model.specs.SoundLaws.{IsViewOn, IsSound, Rise, CommandKeepsSound, ListsItsViews, NewSessionIsSound, MessageKeepsSound, IsSoundInEveryStateFrom, IsSoundDocument, IsSoundInEveryState}
pub use Rattle.run_laws.specs.IsolationLaws.{views_on, Sending, sent, shows_other, goes_elsewhere, unless, without_others, own_outcomes, KeepsApart, DocumentsAreApart}
pub use Rattle.std.specs.Option.{option_or}
pub use Rattle.ed_types.specs.declared.kind.Kind.{Kind}
pub use Rattle.ed_types.specs.Messages.{number_of, marks_of, every_kind, kind_among, kind_of}
pub use Rattle.ed_model.specs.Table.{table, answered, performed_for, plan_of, request, record_note, opened, closed_view, with_recording, table_from_view, table_from_kind, table_from_document, closed}
pub use Rattle.run_laws.specs.EditLaws.{something_to_edit, with_ones, tells_attempt, MarkedMessagesTellAttempts, text_if_there, TellsNoAttempt, OnlyEditsChangeTexts, OnlyEditsTellOfAttempts, text_at}
pub use Rattle.ed_types.specs.Notices.{Response, Notice}
pub use Rattle.ed_model.specs.declared.plan.DocumentChange.{DocumentChange}
pub use Rattle.ed_model.specs.declared.plan.Plan.{Plan}
pub use Rattle.ed_model.specs.Requests.{Request, Planned, text, size, with_argument, argument, with_line, change_session}
pub use Rattle.ed_model.specs.Changes.{changed_document, session_changed, with_attached, attached_last, with_new_document, held_more, held_less, changed_lines, changed_view, change_told, range_notes, styled}
pub use Rattle.ed_model.specs.TableLaws.{Answered, LeavesSession, QueriesLeaveTheSession}
pub use Rattle.ed_model.specs.PlansFit.{PlansFit, IsSoundRequest, IsFitPlan, IsFitPlanned, EditStepsFit, UndoStepsFit, RedoStepsFit}
pub use Rattle.ed_model.specs.proved.Changes.{text_of_styled, changed_id, view_after_id, changed_lines_id, view_after_document, changed_view_id, changed_view_document, changed_lines_document}
pub use Rattle.std.proofs.lemmas.List.Elements.{filter-append, Contains-get_or}
pub use Rattle.std.proofs.lemmas.List.Sums.{count_by_more_yes, count_by_more_no, fold-append}
pub use Rattle.ed_model.specs.Rows.{Flags, fresh_flags, flags_together}
pub use Rattle.ed_model.specs.proved.Lists.{slice_get_append_right, deleted_between}
pub use Rattle.ed_model.specs.proved.Rising.{range-append, reverse_next, increasing_at}
pub use Rattle.ed_types.specs.declared.message.Message.{Message}
pub use Rattle.ed_types.specs.declared.refusal.Refusal.{Refusal}
pub use Rattle.ed_types.specs.declared.refusal.Refusal.TheVariants.{TooMany, NoSuchView, NoSuchDocument, TooLong, UnknownMessage, OutOfMemory, BadArgument}
pub use Rattle.ed_types.specs.declared.script.Command.{Command}
pub use Rattle.ed_types.specs.declared.script.Command.TheVariants.{LoadFile, SendMessage, OpenView, CloseView, Expect}
pub use Rattle.ed_types.specs.declared.script.Outcome.{Outcome}
pub use Rattle.ed_model.specs.declared.plan.SessionChange.{SessionChange}
pub use Rattle.ed_model.specs.History.{Change, undo_changes, redo_changes, undone, redone, History, TextStep, ContainerStep, latest_text_step, at_save_point, begins_transaction, sealed_outside_groups, appended, Transaction, joins, reachable, seal_first, with_container_step, undone_to, redone_from, collecting_set, first_changes, can_undo, can_redo}
pub use Rattle.ed_model.specs.Edits.{steps_of, source_bytes, converted_if, has_steps, stays_within, edit_plan}
pub use Rattle.ed_model.specs.Performing.{Scene, scene_of, session_of, edit_made, transaction_performed, changes_performed, document_after, followed, view_after, change_performed, step_made, sealed_scene, with_caret, caret_behind, leaving, save_point_change, history_performed, place_behind, container_note, last_bits, response, moved_view, step_heard, with_target, steps_made, quiet, changes_lines, is_last}
pub use Rattle.ed_model.specs.Run.{Running, after_command, set_text_message, run_to, outcomes, starting, after_message, after_opening, after_closing, loaded, file_at, is_met}
pub use Rattle.ed_model.specs.proved.Finding.{document_id, view_id, replaced_found, replaced_other, mapped_found, mapped_ids, living_from, documents_added, added_at, found_below, ids_of, same_ids, with_view_ids, found_once, IsOwner, put_found, same_document}
pub use Rattle.ed_model.specs.proved.Scenes.{edit_made_id, edit_made_text}
pub use Rattle.ed_model.specs.Steps.{Step, replacement, edited, Insert, Delete, edited_cells}
pub use Rattle.ed_model.specs.FoldingPlans.{levels, fold_by}
pub use Rattle.ed_types.specs.declared.script.Outcome.TheVariants.{Replied, Refused, Expected}
pub use Rattle.ed_model.specs.declared.plan.Edit.{Edit}
pub use Rattle.ed_model.specs.declared.plan.Follow.{Follow}
pub use Rattle.ed_model.specs.Numbers.{growth, flag, meets, is_number}
pub use Rattle.ed_model.specs.proved.Elements.{found_all, all_append, map_where, all_weaker}
pub use Rattle.run_laws.specs.MessageKinds.{is_copying, is_about_documents, is_saving, is_about_recording}
pub use Rattle.ed_types.specs.declared.kind.Kind.TheVariants.{SetSavePoint, EmptyUndoBuffer, ConvertEols, StartRecord, StopRecord, GetModify, SetText, Undo, Redo}
pub use Rattle.run_laws.specs.SavePointLaws.{SetsNoSavePoint, KeepsTheSavePoint, UnmodifiedIsTheSavedText, GetModifyTells, IsCollected}
pub use Rattle.ed_model.specs.Carry.{regrouped}
pub use Rattle.ed_model.specs.declared.plan.LineEnd.{LineEnd}
pub use Rattle.ed_model.specs.declared.plan.LineEnd.TheVariants.{CrLf, Cr, Lf}
pub use Rattle.ed_model.specs.declared.plan.LineEndTypes.{LineEndTypes}
pub use Rattle.ed_model.specs.Lines.{is_line_start, line_count, knows_unicode, line_starts, start_after_line, line_end_length, end_of_line}
pub use Rattle.ed_model.specs.LineEnds.{line_end_bytes, begins_with_line_feed, converted_after, converted, missing_from, is_unwanted, unwanted_at, place_after, unwanted_from, after_steps, conversion_steps}
pub use Rattle.ed_model.specs.proved.Lines.{same_start, line_starts_rise, start_from_contains}
pub use Rattle.run_laws.specs.LineEndLaws.{HasOnly, LineCountStays, ConvertedHaveOnlyThese, ConvertedLinesEndSo, OtherBytesStay, TextsOfTheKindStay, LastKindCounts, bytes_of_end, ends_in_unicode, is_other, StepsConvert, ConvertEolsConverts}
pub use Rattle.ed_model.specs.Text.{stands, Cell, plain_cells}
pub use Rattle.ed_model.specs.proved.Conversions.{behind_return, put, filled, fills, still_feed}
pub use Rattle.ed_model.specs.declared.plan.ViewChange.{ViewChange}
pub use Rattle.run_laws.specs.MacroLaws.{not_recording, without_recording, CanStandBetween, RecordingsCanBeReplayed, RecordsOneAtMost, RepliesRecordOneMessage, RunsRecordOneMessageAReply}
pub use Rattle.ed_model.specs.UndoPlans.{text_steps, act_on_history}
pub use Rattle.ed_model.specs.UndoLaws.{undone_text, redone_text, BegunStepIsOneTransactionMore, JoinedStepKeepsEarlierTexts, BegunContainerStepIsOneTransactionMore, JoinedContainerStepKeepsEarlierTexts, UndoKeepsEarlierTexts, RedoIsOneTransactionMore, SealsKeepEarlierTexts}
pub use Rattle.std.proofs.lemmas.Result.{IfOk-at_ok}
pub use Rattle.std.proofs.lemmas.Simd.{map-map}
