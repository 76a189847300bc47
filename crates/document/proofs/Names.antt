-- The names of the crates below, and of this crate's definitions, that several proofs cite. Declares nothing.
pub use Rattle.std.proofs.Common.{◌≤◌, ◌+◌, List, [], ◌∷◌, length, sym, subst, arith, ℕ, Option, ◌≡◌, Some, IsSomeAnd, refl, ◌++◌, take, drop, slice_range, ap, ◌∙◌, zero, suc, ◌-◌, ◌==◌, not, Bool, true, false, cond, if◌then◌else◌, filter, None, append_assoc, length-append, ◌≢◌, ◌<◌, ◌/◌, ◌%◌, ◌^◌, count_ones, replicate}
pub use Rattle.std.proofs.lemmas.Bool.{eq-eqb, ne_eqb}
pub use Rattle.std.proofs.lemmas.List.{length-map, map-append, set-get_or, get_or-set_same, append-nil, take_at, drop_at, length-take, length-drop, length-take-le, take_all, take-append-drop, length-set}
pub use Rattle.std.specs.List.{range_with_len, list_any}
pub use Rattle.std.specs.Prelude.{find, ◌||◌, slice_set}
pub use Rattle.cell_buffer.specs.Buffer.{Buffer}
pub use Rattle.decorations.specs.Decorated.{Decorated}
pub use Rattle.ed_model.specs.Changes.{marker_count, without_markers, line_with_handle, with_markers, new_markers, with_new_markers}
pub use Rattle.ed_model.specs.LinePlans.{numbers_in}
pub use Rattle.ed_model.specs.Lines.{line_starts, line_count, end_of_line}
pub use Rattle.ed_model.specs.MergeLaws.{end_of, put_in, JoinsRows}
pub use Rattle.ed_model.specs.Numbers.{has_bit, meets}
pub use Rattle.ed_model.specs.Rows.{Marker, Row, fresh_row, rows_together}
pub use Rattle.ed_model.specs.Session.{text_of}
pub use Rattle.ed_model.specs.Steps.{Step, Insert, Delete, place_of, edited, edited_cells}
pub use Rattle.ed_model.specs.Text.{Cell, bytes_of, plain_cell, plain_cells, styles_of}
pub use Rattle.ed_model.specs.declared.plan.LineEndTypes.{LineEndTypes}
pub use Rattle.ed_model.specs.proved.Indicators.{nothing_changed}
pub use Rattle.ed_model.specs.proved.Lines.{few_lines, end_in_range}
pub use Rattle.ed_model.specs.proved.Steps.{bytes_of_edited_cells, length_of_range, length_of_bytes, bytes_behind_restyled}
pub use Rattle.line_index.specs.Change.{change_about, change_since}
pub use Rattle.line_index.specs.Edits.{after_edits, fresh_lines}
pub use Rattle.line_index.specs.Index.{Index, IsIndexOf, IsBefore, bytes_near}
pub use Rattle.line_index.specs.RoomLaws.{lines_for_step, lines_for_insertion, InsertionAddsFewLines, DeletionAddsFewLines, FirstBytesHaveFewLines}
pub use Rattle.line_index.specs.Settings.{edits_of_setting}
pub use Rattle.line_index.specs.StepEdits.{change_of, edits_of}
pub use Rattle.line_index.specs.declared.edit.LineEdit.{LineEdit}
pub use Rattle.line_rows.specs.Kept.{row_at, has_handle, first_from, KeptRows}
pub use Rattle.document.specs.Changes.{after_change, line_it_left, with_more_markers}
unfoldable pub use Rattle.document.specs.Changes.{numbers_of}
pub use Rattle.document.specs.Kept.{Kept, bound_of}
pub use Rattle.document.specs.Parts.{document_in, kept_in, AreTogether, AreParts, CanPut, CanPutIn, CanTakeOut, CanCarry, WereEdited, WereEditedBy, WereCarried, CanTakeNeed, AreStepped, WereMarked}
pub use Rattle.document.specs.declared.making.TextParts.{TextParts}
pub use Rattle.document.specs.Places.{PlacesOf, places_of}
pub use Rattle.document.specs.TextSteps.{deletion_of}
pub use Rattle.document.specs.Undoing.{CanMake, IsLentOf}
