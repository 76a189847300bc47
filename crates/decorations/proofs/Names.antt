-- The names of the crates below, and of this crate's definitions, that several proofs cite. Declares nothing.
pub use Rattle.std.proofs.Common.{◌≡◌, ◌≢◌, ℕ, zero, suc, ◌+◌, ◌-◌, ◌<◌, ◌≤◌, ◌==◌, not, Bool, true, false, List, ◌∷◌, length, get_or, filter, Option, Some, None, IfNone, IfSome, sym, ap, ◌∙◌, arith, eq-eqb, add-zero, zero-add, append-nil, set, replicate, refl, subst, inl, inr, ◌*◌, ◌^◌, cond, [], ◌++◌, map, sum, ◌%◌, nat_eq, take, drop, reverse, unwrap_or, ◌||◌, if◌then◌else◌, is_some, true≢false, take-append-drop, append_assoc, vec_capacity, rules}
pub use Rattle.std.proofs.lemmas.Bool.{ne_eqb, cond_both, cases_eq, cases_lt}
pub use Rattle.std.proofs.lemmas.List.{get_or-take, get_or-drop, get_or-set_same, get_or-set_other, length-set, map-append, get_or_past, ext_get_or, length-drop, length-reverse, length-take-le, length-replicate, get_or-reverse, get_or_read, take_at, length-append, length-take, take-replicate, drop-replicate, replicate-append-replicate, get_or-replicate, get_or_append_left, get_or-append-add, get_or_default, set-get_or}
pub use Rattle.std.proofs.lemmas.List.Elements.{filter-append, All-append, All-replicate}
pub use Rattle.std.proofs.lemmas.Option.{slice_get-get_or, slice_get_past, unwrap_or-slice_get}
pub use Rattle.std.specs.List.{range_with_len, last_or, slice_get, AllByRecursion}
pub use Rattle.std.specs.Prelude.{pos, Result, Ok, Err}
pub use Rattle.ed_model.specs.Indicators.{changed_range, extent, indicator_after, indicators_after, inserted_value, filled}
pub use Rattle.ed_model.specs.Steps.{Insert, Delete}
pub use Rattle.ed_model.specs.TextPlans.{at_place}
pub use Rattle.ed_model.specs.proved.Indicators.{nothing_changed, length_filled}
pub use Rattle.ed_model.specs.proved.Rising.{range-append, filter_range_none}
pub use Rattle.run_styles.specs.Runs.{IsChangedRange, Runs, RunCapacity, Fit, HasRoom, GrowsFor, run_count, IsRunStart, IsRunEnd, inserted, deleted, with_space}
pub use Rattle.decorations.specs.Decorated.{IsClear, values_of, mask_of, Decorated, decorated, DecorationCapacity, no_runs, capacity_at, HasRoomForRuns, HasRoomForInsertions, HasRoomForFill, IsCapacityForRuns, IsCapacityForFill, HasRunsFrom, KeepsRuns, WereFilledFrom, run_about}
unfoldable pub use Rattle.decorations.specs.Decorated.{indicators}
pub use Rattle.decorations.specs.Slots.{Stored, stored, seen, slot_at, shown, all_shown, AreKept, IsKept, CanFill, CanFillAt, AreSlots, EachSlot, SlotFits, InBoth, InEach, HaveGrown, GrowsForFill, TookIn, GaveAway, WasFilled, slot_capacity, source_capacity, spare_left, CanTakeIn}
