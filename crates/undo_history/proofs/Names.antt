-- The names of the crates below, and of this crate's definitions, that several proofs cite. Declares nothing.
pub use Rattle.std.proofs.Common.{◌≡◌, ◌≤◌, ◌<◌, ◌+◌, ℕ, suc, List, [], ◌∷◌, length, take, get_or, refl, ap, sym, ◌∙◌, arith, reverse, Bool, true, false, Some, ◌-◌, drop, ℤ, zero, ◌++◌, map, ap₂, subst, append_assoc, inl, inr, append-nil, set, ◌⊎◌}
pub use Rattle.std.proofs.lemmas.Bool.{cond-true, cond-false, cond_both, cases_Bool, cases_lt, lt-ltb, le-ltb, false≢true}
pub use Rattle.std.proofs.lemmas.Bool.Decides.{nat_tests}
pub use Rattle.std.proofs.lemmas.List.{length-take, length-drop, length-set, drop_more, take_more, take-set, drop-set-lt, get_or-set_same, reverse-append, reverse-reverse, map-append, length-reverse, take-append-drop, take_at, drop_at, length-append, length-take-le, take_all, drop_all, take-take, take-append-le, length-map, get_or-map, get_or-reverse, get_or-take, get_or-drop, drop-drop, get_or_default}
pub use Rattle.std.proofs.lemmas.Option.{slice_get-map, get_or_from_slice_get, slice_get-get_or}
pub use Rattle.std.specs.Prelude.{Option, None, option_map, ◌||◌, ◌&&◌, nat_lt, not, slice_range, if◌then◌else◌, slice_get, ◌==◌}
pub use Rattle.ed_model.specs.History.{Change, TextStep, ContainerStep, goes_on, goes_on_after, belongs, latest_text_step, Transaction, History, joins, joins_last, at_save_point, first_changes, seal_first, with_last_sealed, undone, undone_to, redone, redone_from, undo_changes, redo_changes, inverse_change, with_change, can_redo, sealed_outside_groups}
pub use Rattle.ed_model.specs.Numbers.{is_number}
pub use Rattle.ed_model.specs.proved.Histories.{sealed_length}
pub use Rattle.split_vector.specs.Split.{ItemsFit, deleted, inserted}
pub use Rattle.undo_history.specs.Joining.{outline, outline_of, IsLatest, steps_go_on, belongs_after}
pub use Rattle.undo_history.specs.Kept.{HistoryCapacity, Kept, kept, history_capacity, held_steps, held_bytes, Fits}
pub use Rattle.undo_history.specs.Records.{Entry, alone, joined, pushed, transactions, entry_in, entries_from, entries_in, change_in, past_of, change_of, step_of, last_end, history_of, entry, last_count, joined_count, next_count, begins_or_none, AreParts, HasItsPart, HasItsBytes, BeginsOne, IsInOrder, LastIsOpen, sealed_record, with_sealed, no_step}
pub use Rattle.undo_history.specs.declared.history.UndoHistory.TheInside.{Inside}
pub use Rattle.undo_history.specs.declared.records.ChangeKind.{ChangeKind}
pub use Rattle.undo_history.specs.declared.records.ChangeKind.TheVariants.{Text, Container}
pub use Rattle.undo_history.specs.declared.records.StepKind.{StepKind}
pub use Rattle.undo_history.specs.declared.records.StepKind.TheVariants.{Insert, Delete}
pub use Rattle.undo_history.specs.declared.records.StepOutline.{StepOutline}
pub use Rattle.undo_history.specs.declared.records.StepRecord.{StepRecord}
