-- The names of the crates below, and of this crate's definitions, that several proofs cite. Declares nothing.
pub use Rattle.std.proofs.Common.{◌≡◌, ℕ, zero, suc, ◌+◌, ◌*◌, ◌≤◌, Bool, true, false, cond, List, [], ◌∷◌, ◌++◌, length, refl, ap, ◌∙◌, subst, arith, length-append, ◌-◌, ◌^◌, ◌<◌, drop, sym, drop-cons, slice_range, ◌==◌, map, bit_and, take, reverse, get_or, inl, inr, append_assoc, w64, to_z, of_z, ap₂}
pub use Rattle.std.proofs.lemmas.Bool.{lt-ltb, eqb-true, eqb-false, eq-eqb, ne_eqb, ltb-true, and_parts, or_cases, cond_both}
pub use Rattle.std.proofs.lemmas.Int.{ints}
pub use Rattle.std.proofs.lemmas.List.{length-map, length-drop, length-take, take_more, take_all, reverse-append, drop_all, append-nil, map-id}
pub use Rattle.std.proofs.lemmas.Option.{slice_get_within, get_or_from_slice_get, slice_get-get_or}
pub use Rattle.std.specs.List.{cons_option, AllByRecursion}
pub use Rattle.std.specs.Prelude.{ℤ, filter, filter_map, bit_or, nat_lt, slice_get, Some, Option, IsSomeAnd, if◌then◌else◌, None, find, option_map, ◌||◌, not, ◌&&◌, nat_le, pos, option_copied}
pub use Rattle.document.specs.Kept.{nothing_needed, document_need, amount_sum, amounts_added, Kept, HasHistoryRoom, HasRoom, HasTextRoom, FitsWidth, bound_of}
pub use Rattle.document.specs.TextSteps.{step_in, IsStepOn, LeavesRoom, need_of, need_of_step}
pub use Rattle.document.specs.Undoing.{outline_of, need_of_change, changes_of, save_point_told}
pub use Rattle.document.specs.declared.need.DocumentNeed.{DocumentNeed}
pub use Rattle.document.specs.declared.undoing.Direction.{Direction}
pub use Rattle.ed_model.specs.History.{Change, TextStep, ContainerStep, latest_text_step, History, Transaction, at_save_point, appended, begins_transaction, joins, joins_last, with_change, reachable, sealed_outside_groups, with_last_sealed}
pub use Rattle.ed_model.specs.LineEnds.{lacks_return, lacks_feed, missing_at, missing_from, is_unwanted, unwanted_at, place_after, unwanted_from, after_steps, conversion_steps}
pub use Rattle.ed_model.specs.MergeLaws.{end_of, JoinsRows}
pub use Rattle.ed_model.specs.Notes.{told, heard, before_note, after_note, insert_text, delete_text, performed_user, bit_if, multi_step}
pub use Rattle.ed_model.specs.Numbers.{meets, growth, is_number}
pub use Rattle.ed_model.specs.Performing.{Scene, document_after, view_after, last_bits, container_note, change_performed, moved_view, leaving, step_made, is_last, changes_performed, steps_made, sealed_scene}
pub use Rattle.ed_model.specs.Session.{View, view_at, watching, lines_in, Document, text_of, is_large}
pub use Rattle.ed_model.specs.SoundLaws.{AreStepsOf, Rise, StandsOn, IsViewOn, occurrences}
pub use Rattle.ed_model.specs.StepLaws.{CellsFollowBytes}
pub use Rattle.ed_model.specs.Steps.{Step, Insert, Delete, step_bytes, place_of, edited}
pub use Rattle.ed_model.specs.UndoPlans.{text_steps}
pub use Rattle.ed_model.specs.declared.plan.LineEnd.{LineEnd}
pub use Rattle.ed_model.specs.declared.plan.LineEndTypes.{LineEndTypes}
pub use Rattle.ed_model.specs.declared.plan.LineEndTypes.TheVariants.{Default, Unicode}
pub use Rattle.ed_model.specs.proved.Changes.{view_after_id, length_text}
pub use Rattle.ed_model.specs.proved.Elements.{all_two, all_both, map_where, all_append, all_map, all_weaker, found_all}
pub use Rattle.ed_model.specs.proved.Finding.{view_id, ids_of, same_ids, found_once, mapped_found}
pub use Rattle.ed_model.specs.proved.Lists.{length_slice}
pub use Rattle.ed_model.specs.proved.Steps.{bytes_of_edited_cells, length_of_range}
pub use Rattle.ed_types.specs.Heard.{with_text}
pub use Rattle.ed_types.specs.Notices.{Notice}
pub use Rattle.ed_types.specs.declared.reply.Note.{Note}
pub use Rattle.ed_view.specs.Flags.{AreFewLines}
pub use Rattle.ed_view.specs.Kept.{KeptView, view_in}
pub use Rattle.ed_view.specs.Moving.{view_moved, step_edits, MovesAreThoseOfSteps, StepsFitViews}
pub use Rattle.id_table.specs.Entries.{Entry, Entries, entry, id_of, value_at, value_of, with_value_at, in_place_at}
pub use Rattle.line_ends.specs.Conversion.{completed, IsNextMissing, IsNextUnwanted, missing_in, unwanted_in}
pub use Rattle.line_index.specs.Edits.{after_edit, after_edits, fresh_lines}
pub use Rattle.line_index.specs.RoomLaws.{lines_for_insertion, lines_for_step}
pub use Rattle.line_index.specs.StepEdits.{EditsBringFewLines, edits_of}
pub use Rattle.line_index.specs.declared.edit.LineEdit.{LineEdit}
pub use Rattle.notify.specs.Gathered.{Gathered, NoteCapacity, CanPut, is_full}
pub use Rattle.selection.specs.Positions.{movement_of, count_of}
pub use Rattle.selection.specs.declared.movements.Movement.{Movement}
pub use Rattle.scene.specs.Conversion.{both_rooms, capped_room, deletions_of, room_of_many, room_of_steps, rooms_added, room_of_steps_beside, AreLeft}
pub use Rattle.scene.specs.Following.{followed_at, CanFollow, CanFollowInTurn, CanFollowAt, CanAllFollow, HaveFollowed, followed}
pub use Rattle.scene.specs.Hearing.{hearers, before_kind, after_kind, audience_of, with_note_text, masks_from, masks_of, step_kinds, user_bits, bytes_shared, belongs, left_note}
pub use Rattle.scene.specs.Needs.{note_room, leaving_count, notes_of_step, bytes_of_step, notes_of_steps, bytes_of_steps, user_kinds, notes_needed, bytes_needed, notes_for, held_behind, held_after, NeedsAreEnough}
pub use Rattle.scene.specs.Scenes.{views_of, ViewWidth, width_of, width_at, HasWidthIfOn, AreNamed, scene_in, watchers, IsWatched, StandsIfOn, RoomsStay, ViewsStay, kept_scene, views_in}
pub use Rattle.scene.specs.StepNotes.{IsSmallStep, CanTellMade, place_in, count_in, text_before, IsRangeNote}
pub use Rattle.scene.specs.Telling.{with_notes}
pub use Rattle.scene.specs.Turns.{ChangeFits, several_bits, CanPerform, IsPerformed, bits_behind, IsToldBefore, turn_of}
pub use Rattle.scene.specs.Undoing.{bits_of, all_bits, every_kind, performed_kinds, container_kinds, notes_of_change, bytes_of_change, notes_of_changes, bytes_of_changes, free_behind, outline_kinds, outline_movement, room_beside, place_behind_any, place_by, room_of_changes, rooms_beside, capped, capped_notes, save_point_notes, history_bytes}
pub use Rattle.scene.specs.declared.need.NoteRoom.{NoteRoom}
pub use Rattle.scene.specs.declared.telling.Audience.TheVariants.{Hearers, Everyone}
pub use Rattle.scene.specs.declared.telling.NoteText.{NoteText}
pub use Rattle.scene.specs.declared.telling.NoteText.TheVariants.{Empty, Shared}
pub use Rattle.scene.specs.proved.Enough.{first_held, next_held}
pub use Rattle.scene.specs.proved.Finding.{all_unmapped, entry_once, found_has, found_none, found_some, id_of_view}
pub use Rattle.scene.specs.proved.Rooms.{same_room, deletion_needs, first_change, first_room, next_change, next_room}
pub use Rattle.std.proofs.lemmas.Simd.{map-map}
