-- The names of the crates below, and of this crate's definitions, that several proofs cite. Declares nothing.
pub use Rattle.std.proofs.Common.{ℕ, ◌≡◌, List, [], ◌∷◌, length, refl, zero, suc, ◌+◌, ◌-◌, ◌<◌, ◌≤◌, ◌==◌, nat_lt, not, ◌&&◌, ◌||◌, Bool, true, false, ℤ, take, map, replicate, ap, ◌∙◌, sym, subst, arith, Some, ◌++◌, cond, if◌then◌else◌, drop, append_assoc, length-append, length-drop, get_or, ltb, ap₂, one-add, le_refl, filter, zip, count_by, eqb, leb, inl, inr, Option, None, Ok, Err, fold, All, append-nil, Result, nat_le, min, reverse, pos, negsuc, flat_map, set, ◌⊎◌, ◌^◌, max, length-take, ok_or, codes}
pub use Rattle.std.proofs.lemmas.Bool.{cond-true, cond-false, ne_eqb, cond_both, eqb-true, eq-eqb, lt-ltb, le-ltb, cases_lt, cases_eq, le-leb, lt-leb, leb-true, ltb-true, and_parts, eqb-false, and_left, ltb-false, not-false, cases_Bool, and_from, agree_below_at}
pub use Rattle.std.proofs.lemmas.Bool.Decides.{nat_tests, Decides-eqb}
pub use Rattle.std.proofs.lemmas.List.{map-append, length-take-le, take-append-drop, reverse-append, take_at, drop_at, take-append-le, drop-append-le, drop-map, length-set, length-map, length-replicate, reverse-reverse, map-id, drop_min}
pub use Rattle.std.proofs.lemmas.List.Elements.{filter_agree, recursion_from_All}
pub use Rattle.std.proofs.lemmas.List.Folds.{drop_split, find-append}
pub use Rattle.std.proofs.lemmas.List.FromFn.{length-map-range_with_len}
pub use Rattle.std.specs.List.{prefix_len, AllByRecursion, range_with_len, cons_option, last_or, list_any, list_all, position_or_len, slice_split, onto_first, join_with_byte, starts_with}
pub use Rattle.std.specs.List.Sorted.{IsNonDecreasing, IsStrictlyIncreasing}
pub use Rattle.std.specs.Prelude.{slice_index_or, option_map, find, slice_get, unwrap_or, slice_set, slice_range, int_le, is_some, IfOk, bytes_eq, slice_index, nat_eq}
pub use Rattle.ed_types.specs.Messages.{marks_of, kind_of}
pub use Rattle.ed_types.specs.Notices.{Response, Notice}
pub use Rattle.ed_types.specs.declared.kind.Kind.{Kind}
pub use Rattle.ed_types.specs.declared.kind.Kind.TheVariants.{Undo, Redo}
pub use Rattle.ed_types.specs.declared.limits.Limits.{Limits}
pub use Rattle.ed_types.specs.declared.message.Message.{Message}
pub use Rattle.ed_types.specs.declared.refusal.Refusal.{Refusal}
pub use Rattle.ed_types.specs.declared.refusal.Refusal.TheVariants.{TooMany, NoSuchDocument, TooLong}
pub use Rattle.ed_types.specs.declared.script.Cause.{Cause}
pub use Rattle.ed_types.specs.declared.script.Cause.TheVariants.{UnknownCommand, BadShape, BadNumber, LineTooLong, BadVersion, BadText}
pub use Rattle.ed_types.specs.declared.script.Command.{Command}
pub use Rattle.ed_types.specs.declared.script.Command.TheVariants.{OpenView, CloseView, LoadFile, SendMessage, Expect}
pub use Rattle.ed_types.specs.proved.Found.{found_test}
pub use Rattle.ed_model.specs.Carry.{rows_on, carried, carried_unless_empty, carried_by, regrouped}
pub use Rattle.ed_model.specs.Changes.{styled, new_markers, with_new_markers, without_marker, is_of_number, changed_document, session_changed, with_attached, attached_last, with_new_document, held_more, held_less, changed_lines, with_markers, without_markers, changed_view, without_first, attached, document_change_performed, view_change_performed}
pub use Rattle.ed_model.specs.Characters.{cuts, cuts_from, cut_before, cut_after, character_length}
pub use Rattle.ed_model.specs.EarlierTextLaws.{KeepsEarlierTexts, EditsKeepEarlierTexts, UndoKeepsTheTextsBefore, RedoKeepsTheTextsBefore, DocumentChangesKeepEarlierTexts, latest_with, GoesBackAtFirst, GoesBackAfterwards, GoesBackAmong}
pub use Rattle.ed_model.specs.Edits.{steps_of, size_after, edit_plan, source_bytes, replace_plan, replace_and_go, stays_within, has_steps}
pub use Rattle.ed_model.specs.Folding.{is_visible, flags_at, is_expanded, with_visible, with_expanded, is_between, lines_shown, lines_hidden, contracted, expanded, header_opened, revealed, is_child, is_open_between, last_child, fold_parents, fold_header, fold_parent, is_header, is_parent_of}
pub use Rattle.ed_model.specs.FoldingPlans.{past_line, fold_by, fold_at, levels}
pub use Rattle.ed_model.specs.History.{History, Transaction, Change, TextStep, ContainerStep, at_save_point, joins, joins_last, belongs, with_change, appended, begins_transaction, sealed_outside_groups, group_begun, group_ended, with_container_step, redo_changes, undone, undone_to, redone, redone_from, emptied, collecting_set, saved, reachable, first_changes, seal_first, with_last_sealed, can_undo, can_redo, undo_changes, inverse_change, not_collecting, fresh_history, latest_text_step}
pub use Rattle.ed_model.specs.HistoryLaws.{SameButForSeals, NotCollectingAppendsNothing, KeepsAllButThePast, AppendKeepsAllButThePast, AppendJoins, NothingJoinsNone, AppendBegins, AppendCounts, AppendLeavesTheSavePoint, SealsOnce, NothingJoinsASealedOne, SealsChangeNoChange, GroupBegunChangesNoChange, GroupEndedChangesNoChange, GroupBegunIsDeeper, GroupEndedIsLessDeep, OthersKeepTheDepth, MovesToTheFuture, UndoMovesToTheFuture, MovesToThePast, RedoMovesToThePast, UndoThenRedoGivesBackTheHistory}
pub use Rattle.ed_model.specs.Indicators.{filled, indicator_after, indicators_after, inserted_value}
pub use Rattle.ed_model.specs.InverseLaws.{Fits, FitInTurn, text_of_scene, history_of, after_undo, after_redo, inverses, InverseGivesBackTheText, InverseFits, InversesGiveBackTheText, UndoMakesItsSteps, RedoMakesItsSteps, UndoThenRedoGivesBackTheText, RedoThenUndoGivesBackTheText}
pub use Rattle.ed_model.specs.LineEnds.{after_steps, conversion_steps, lacks_return, lacks_feed, missing_at, missing_from, is_unwanted, unwanted_at, place_after, unwanted_from}
pub use Rattle.ed_model.specs.LinePlans.{numbers_in, has_handles, int_within}
pub use Rattle.ed_model.specs.Lines.{line_starts, line_count, line_of, start_of_line, start_after_line, is_line_start}
pub use Rattle.ed_model.specs.Listing.{listed_command, FitsTypes, is_expect, listing, ended_line, version_line, speaks, fits_line, fits_script}
pub use Rattle.ed_model.specs.Matches.{match_in, is_match, starts_within}
pub use Rattle.ed_model.specs.MergeLaws.{lines_before, merged, JoinsRows}
pub use Rattle.ed_model.specs.Numbers.{is_number, within, clamped, line_among, meets, at_least_zero, is_on, is_minus_one, is_same, some_or_all, is_negative}
pub use Rattle.ed_model.specs.Performing.{Scene, step_made, steps_made, sealed_scene, scene_of, session_of, edit_made, followed, document_after, moved_view, place_behind, edit_performed, with_caret, with_target, transaction_performed, changes_performed, with_history, history_performed, caret_behind, view_after, change_performed, changes_lines, is_last}
pub use Rattle.ed_model.specs.PlansFit.{IsSoundRequest, IsFitPlan, IsFitPlanned, IsMarkerNumber, IsLineState, IsFitSource, IsFitEdit, IsFitFollow, IsRoomFor, IsFitSessionChange, PlansFit, IsFitDocumentChange, IsFitViewChange, EditStepsFit, UndoStepsFit, RedoStepsFit, PlansKeepSound}
pub use Rattle.ed_model.specs.Reading.{◌>>=◌, natural, integer, behind, word_of, behind_word, number_field, text_field, ended, Verb, opens, closes, loads, sends, expects, verb_in, verbs, verbs_of, command_of, read_command, not_empty, word_field, read_version, at_line, read_lines, read_script, reading, front_byte, spells_front, with_byte, text_past}
pub use Rattle.ed_model.specs.RepeatedUndoLaws.{LeavesAlone, AreAnswered, UndosGoBackThenRedosGoOn, UndoMessagesGoBack, IsLeftAlone, LeavesOthersAlone, MessagesLeaveOtherDocumentsAlone, OpeningLeavesDocumentsAlone, ClosingLeavesDocumentsAlone}
pub use Rattle.ed_model.specs.Requests.{Request, Planned, size, with_argument, with_line, change_session, text, line_total, argument, text_length, text_range, counted_range, line_argument, end_or_size, answer, answer_number, selection_start, selection_end, target_least, target_greatest}
pub use Rattle.ed_model.specs.Rows.{Marker, fresh_row, rows_together, flags_together, Row, Flags, base_level, fresh_flags}
pub use Rattle.ed_model.specs.Run.{Running, after_command, after_opening, after_closing, after_message, loaded, file_at, run_to, starting, set_text_message}
pub use Rattle.ed_model.specs.Session.{Document, text_of, references, Session, document_at, View, view_at, with_document, living, left_by, new_session, new_document, new_view, lines_in, limit_of, with_view, in_place_of_view, without, attached_to, is_large}
pub use Rattle.ed_model.specs.SessionPlans.{with_reference, release_of, document_named, has_document_ids, is_zero, document_options}
pub use Rattle.ed_model.specs.SoundLaws.{occurrences, handles_in, IsSound, Rise, FitsText, IsSoundDocument, StandsOn, IsStepOf, AreStepsOf, IsStepWithin, AreStepsWithin, undo_path, redo_path, ThePastCanBeUndone, UndoneThenRedoneIsTheSame, IsViewOn, ListsItsViews, AreLineStarts, IsSoundView, NewSessionIsSound, MessageKeepsSound, OpeningKeepsSound, ClosingKeepsSound, CommandKeepsSound, IsSoundInEveryStateFrom, IsSoundInEveryState, InTurn}
pub use Rattle.ed_model.specs.Spelling.{space, quote, spelled, spelled_int, spelled_bytes, spelled_text, is_64_bits, spelled_byte}
pub use Rattle.ed_model.specs.Steps.{Step, edited, moved_start, Insert, Delete, inverse_of, edited_cells, place_of, moved_position, replacement, deletion, insertion, moved_back}
pub use Rattle.ed_model.specs.Table.{plan_of, performed_for, table, table_from_view, table_from_kind, table_from_document, answered, request, opened, closed_view, closed}
pub use Rattle.ed_model.specs.TableLaws.{Answered, LeavesSession, QueriesLeaveTheSession, RefusedCommandsLeaveTheSession, is_refused, kept_unless, unrefused, RefusedCommandsCanBeLeftOut}
pub use Rattle.ed_model.specs.TargetPlans.{found_target, replacement_length, search_flags}
pub use Rattle.ed_model.specs.Text.{Cell, bytes_of, line_feed, carriage_return, plain_cells, plain_cell}
pub use Rattle.ed_model.specs.UndoLaws.{undone_text, redone_text, undos, redos, CanBeUndone, undo_steps, redo_steps, UndosGoBack, UndosThenRedosGiveBackTheText, UndosThenRedosGiveBackTheHistory, BegunStepIsOneTransactionMore, JoinedStepKeepsEarlierTexts, BegunContainerStepIsOneTransactionMore, JoinedContainerStepKeepsEarlierTexts, UndoKeepsEarlierTexts, RedoIsOneTransactionMore, SealsKeepEarlierTexts}
pub use Rattle.ed_model.specs.UndoMessageLaws.{IsUndone, IsRedone, UndoUndoes, RedoRedoes, UndoIsNeverTooLong, RedoIsNeverTooLong}
pub use Rattle.ed_model.specs.UndoPlans.{text_steps, act_on_history}
pub use Rattle.ed_model.specs.declared.plan.DocumentChange.{DocumentChange}
pub use Rattle.ed_model.specs.declared.plan.Edit.{Edit}
pub use Rattle.ed_model.specs.declared.plan.Follow.{Follow}
pub use Rattle.ed_model.specs.declared.plan.LineEndTypes.{LineEndTypes}
pub use Rattle.ed_model.specs.declared.plan.Plan.{Plan}
pub use Rattle.ed_model.specs.declared.plan.SessionChange.{SessionChange}
pub use Rattle.ed_model.specs.declared.plan.ViewChange.{ViewChange}
pub use Rattle.ed_model.specs.proved.Changes.{text_of_styled, changed_id, length_text, changed_views, changed_lines_id, changed_lines_document, changed_view_id, changed_view_document, view_after_id, view_after_document}
pub use Rattle.ed_model.specs.proved.Elements.{all_weaker, found_all, all_reverse, all_map, all_append, all_filter, all_both}
pub use Rattle.ed_model.specs.proved.Finding.{occurrences_append, document_sound, same_document, document_id, view_id, replaced_found, replaced_other, living_from, mapped_found, mapped_ids, documents_added, in_place_id, with_view_ids, views_added, found_once, replaced_twice, IsOwner, replaced_all, replaced_ids, same_ids}
pub use Rattle.ed_model.specs.proved.Histories.{same_length, sealed_length, lower_save_point, other_save_point}
pub use Rattle.ed_model.specs.proved.Lines.{line_of_monotone, first_line_start, line_starts_increase, line_starts_in_range, end_in_range}
pub use Rattle.ed_model.specs.proved.Lists.{front_kept, behind_kept, inserted_between, deleted_between, length_slice}
pub use Rattle.ed_model.specs.proved.Reading.{not_empty-some, read_from, read_first, read_lines-first, read_script-first, reads_within, versions}
pub use Rattle.ed_model.specs.proved.Requests.{own_document, request_document, request_stands}
pub use Rattle.ed_model.specs.proved.Rising.{Rises, Climbs, Climbs_weaker, Rises_weaker, Climbs_from_rises, count-cons, count_none, rises_from_increasing}
pub use Rattle.ed_model.specs.proved.Scenes.{edit_made_id, edit_made_text}
pub use Rattle.ed_model.specs.proved.Spelling.{length-spelled-pos, natural-spelled, natural-is, integer-spelled, integer-is, bytes_eq-true, AllDigits-spelled}
pub use Rattle.ed_model.specs.proved.Steps.{bytes_of_edited_cells, fit_in_turn, length-inserted, length-deleted}
