-- The names of the crates below, and of this crate's definitions, that several proofs cite. Declares nothing.
pub use Rattle.std.proofs.Common.{◌≡◌, ℕ, zero, suc, ◌+◌, ◌-◌, ◌<◌, ◌≤◌, cond, List, [], ◌∷◌, ◌++◌, length, map, take, drop, get_or, replicate, fold, eqb, leb, ltb, refl, sym, ap, ap₂, ◌∙◌, inl, inr, arith, subst, append_assoc, length-append, zero-add, length-take, length-drop, Bool, true, false, insert, append-nil, ◌*◌, ◌==◌, ◌||◌, ◌&&◌, not, min, max, ◌^◌, count_by, slice_index, ◌≢◌, filter, zip, one-add, ◌%◌, w8, bit_or, slice_get, slice_range}
pub use Rattle.std.proofs.Math.ListN.{get_or-append}
pub use Rattle.std.proofs.lemmas.Bool.{cases_lt, cases_eq, eq-eqb, ne_eqb, lt-ltb, le-ltb, le-leb, lt-leb, cases_order, true≢false, ltb-true}
pub use Rattle.std.proofs.lemmas.Bool.Decides.{nat_tests}
pub use Rattle.std.proofs.lemmas.List.{map-append, take_all, take_more, length-take-le, take-append-drop, length-replicate, take_at, drop_at, get_or-take, get_or-drop, get_or-append-add, nil_from_length, length-map, get_or-map, take_min, take-append-le, drop-append-le, map-id, replicate_more}
pub use Rattle.std.proofs.lemmas.List.Sums.{fold-append}
pub use Rattle.std.proofs.lemmas.Nat.Bits.{bit_at-zero, bit_at_or}
pub use Rattle.std.proofs.lemmas.Simd.{length-zip2, get_or-zip2, get_or-replicate, bit_mask_l, tops_compared, mask_l-mod, length-chunk, get_or-chunk}
pub use Rattle.std.specs.Int.{bit_at}
pub use Rattle.std.specs.List.{range_with_len, AllByRecursion}
pub use Rattle.std.specs.List.Sorted.{IsStrictlyIncreasing}
pub use Rattle.ed_model.specs.Carry.{carried, regrouped, carried_unless_empty, carried_by}
pub use Rattle.ed_model.specs.Lines.{is_line_start, line_starts, line_of, line_count, knows_unicode, unicode_end_before}
pub use Rattle.ed_model.specs.MergeLaws.{JoinsRows, RowsOfLinesThatStay, end_of, put_in}
pub use Rattle.ed_model.specs.NeighbourLaws.{count_before, starts_before, starts_from, starts_about}
pub use Rattle.ed_model.specs.Steps.{Insert, Delete, moved_back, edited, Step, moved_start, place_of}
pub use Rattle.ed_model.specs.Text.{stands}
pub use Rattle.ed_model.specs.declared.plan.LineEndTypes.{LineEndTypes}
pub use Rattle.ed_model.specs.declared.plan.LineEndTypes.TheVariants.{Default, Unicode}
pub use Rattle.ed_model.specs.proved.Bytes.{stands_at}
pub use Rattle.ed_model.specs.proved.Lines.{line_starts_rise, line_of_start, line_of_monotone, line_of_lt, line_from_start, some_line, same_start, moved_start_test, line_starts_increase, few_lines, first_line_start, no_start_past, line_of_last_start}
pub use Rattle.ed_model.specs.proved.Lists.{slice_get_take, slice_get_drop, slice_get_append_left, slice_get_append_right, front_kept, behind_kept, within_part, read_part}
pub use Rattle.ed_model.specs.proved.Neighbours.{count_agree, some_before, starts_after_insertion, starts_after_deletion, starts_about_insertion, starts_about_deletion, starts_before_first, starts_from_others, first_line_about_is, first_line_behind_is, starts_from_is}
pub use Rattle.ed_model.specs.proved.Rising.{range-append, Climbs, Climbs_from_rises, count_is, count_back, rises_from_increasing, filter_range_agree, map_range_agree, increasing_at, filter_range_moved, filter_range_none, count-cons}
pub use Rattle.partitioning.specs.Partitions.{Partitions, CanLose, lowered_behind, ArePartitions, IsLastAtMost, raised_behind, map_from}
pub use Rattle.line_index.specs.Change.{line_after, near_lines, change_about, MovesLines, last_line}
pub use Rattle.line_index.specs.Edits.{after_edits, FitLines, lines_after_edit, fresh_lines, with_joined, after_edit}
pub use Rattle.line_index.specs.Ends.{may_end}
pub use Rattle.line_index.specs.Index.{IsFree, CanAdd, WereAdded, MarkStarts, starts_near, starts_within, index, last_touched, bytes_near, Index, IsIndexOf, IsBefore, index_by, count_near, AreStarts}
pub use Rattle.line_index.specs.RoomLaws.{FirstBytesHaveFewLines, lines_for_insertion, lines_for_deletion, InsertionAddsFewLines, DeletionAddsFewLines, lines_for_step}
pub use Rattle.line_index.specs.Settings.{next_of, lines_inside, all_inside_edits, edits_of_setting, SettingsFitLines, SettingsBringAll, SettingsBringFewLines, inside_edits, line_past}
pub use Rattle.line_index.specs.StepEdits.{joined, came, settled, settling, last_at, last_one_behind, edits_of, change_of, EditsFitLines, EditsBringFewLines, StepsMoveLines, StepsNameLines}
pub use Rattle.line_index.specs.declared.change.LineChange.{LineChange}
pub use Rattle.line_index.specs.declared.change.NearLines.{NearLines}
pub use Rattle.line_index.specs.declared.edit.LineEdit.{LineEdit}
