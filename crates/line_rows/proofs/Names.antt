-- The names of the crates below, and of this crate's definitions, that several proofs cite. Declares nothing.
pub use Rattle.std.proofs.Common.{◌≡◌, ℕ, ◌+◌, false, List, [], ◌∷◌, take, drop, replicate, refl, ◌-◌, zero, suc, ◌++◌, length, ap, ◌∙◌, arith, ◌≤◌, ◌<◌, get_or, set, min, sym, append_assoc, inl, inr, ℤ, pos, flat_map, ◌≢◌, ◌↔◌, IsTrue, max, reverse, Bool, not, cond, filter, Option, Some, subst, ap₂, ◌*◌, ◌==◌, ◌^◌}
pub use Rattle.std.proofs.lemmas.List.{length-append, length-take, length-take-le, length-drop, length-replicate, take-append-le, drop-append-le, take-replicate, drop-replicate, replicate-append-replicate, drop_all, take_all, replicate_more, append-nil, set-append_left, length-set, drop_more, take_more, set-get_or, get_or_read, length-map}
pub use Rattle.std.proofs.lemmas.List.Sums.{sum_by-cons, sum_by-set}
pub use Rattle.std.specs.List.{slice_range, range_with_len, find, list_any}
pub use Rattle.contraction.specs.Headings.{heads, HeadFrom}
pub use Rattle.ed_model.specs.Changes.{with_markers, without_markers, new_markers, without_marker, marker_count}
pub use Rattle.ed_model.specs.LinePlans.{mask_of}
pub use Rattle.ed_model.specs.Numbers.{meets}
pub use Rattle.ed_model.specs.Rows.{base_level, Marker, Row, fresh_row, rows_together}
pub use Rattle.line_index.specs.Edits.{after_edit, after_edits, FitLines, lines_after_edit, fresh_by, fresh_lines}
pub use Rattle.line_index.specs.declared.edit.LineEdit.{LineEdit}
pub use Rattle.line_index.specs.declared.edit.LineEdit.TheVariants.{Come, Join, Restart}
pub use Rattle.line_index.specs.proved.Edits.{length_after_edit, edit_adds}
pub use Rattle.marker_store.specs.Lines.{marker_total, markers_of, without, MarkedLines, HasLineRoom, with_marker_on, without_marker_on as store_without}
pub use Rattle.split_vector.specs.Split.{inserted, deleted}
pub use Rattle.line_rows.specs.Kept.{AreParts, HasRoomForLines, HasRoomForMarkers, KeptRows, kept_in, row_at, rows_after, levels_of, with_level, with_state, with_marker, without_marker_on}
pub use Rattle.line_rows.specs.Rows.{markers_together, rows_of}
pub use Rattle.line_rows.specs.Values.{first_or, padded, HasItems, Valued, stored_after, stored_after_edit, valued, values_after, with_value}
