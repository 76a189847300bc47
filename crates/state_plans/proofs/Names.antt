-- The names of the crates below, and of this crate's definitions, that several proofs cite. Declares nothing.
pub use Rattle.std.proofs.Common.{◌≡◌, ℕ, zero, suc, Bool, true, false, cond, List, [], ◌∷◌, length, map, refl, arith, pos, ◌^◌, sym, ap, ◌∙◌, ◌-◌, ◌+◌, ◌<◌, ◌≤◌, min, length-take, drop, length-drop, rules, nat_abs, subst, to_z, of_z, w64}
pub use Rattle.std.specs.List.{range_with_len, list_any, AllByRecursion}
pub use Rattle.std.specs.Prelude.{ℤ, negsuc, ◌==◌, ◌||◌, None, find, filter, slice_index_or, Some, Err, Option, take, slice_get, unwrap_or, IfSome, not, sum, slice_index, Ok}
pub use Rattle.decorations.specs.Decorated.{values_of, run_about, mask_of}
unfoldable pub use Rattle.decorations.specs.Decorated.{indicators}
pub use Rattle.ed_model.specs.History.{Change, can_undo, can_redo, undo_changes, redo_changes}
pub use Rattle.ed_model.specs.LinePlans.{row_at, has_handle, line_of_handle, numbers_in, has_handles, marker_add_set}
pub use Rattle.ed_model.specs.Numbers.{within, line_among}
pub use Rattle.ed_model.specs.PlansFit.{IsSoundRequest}
pub use Rattle.ed_model.specs.Requests.{Request, line_total, Planned, answer, with_argument, with_line, line_argument, change_document, answer_number, size}
pub use Rattle.ed_model.specs.Rows.{Row, Marker, fresh_row, Flags}
pub use Rattle.ed_types.specs.declared.refusal.Refusal.TheVariants.{TooMany, TooLong}
pub use Rattle.message_requests.specs.proved.Ranges.{outside, all_range, found_in_range, found_back_in_range}
pub use Rattle.state_plans.specs.Acting.{act_if}
