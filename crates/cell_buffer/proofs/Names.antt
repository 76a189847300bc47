-- The names of the crates below, and of this crate's definitions, that several proofs cite. Declares nothing.
pub use Rattle.std.proofs.Common.{◌≡◌, ◌<◌, ◌+◌, ◌-◌, ℕ, zero, suc, List, [], ◌∷◌, ◌++◌, length, take, drop, get_or, Bool, true, false, refl, eq-eqb, ap, ap₂, sym, ◌∙◌, arith, append_assoc, inl, inr, ◌≤◌, set, replicate, ◌⊎◌}
pub use Rattle.std.proofs.lemmas.List.{length-append, length-take-le, drop_more, take-append-drop, append-nil, length-drop, length-take, length-replicate, set_at, take_all, drop_all, drop-drop, length-map, take-append-le, drop-append-le, replicate_more, take_more}
pub use Rattle.std.specs.Prelude.{Option, Some, if◌then◌else◌, not, ◌==◌, slice_index, unwrap_or, filter, min, slice_get, slice_range}
pub use Rattle.ed_model.specs.Indicators.{changed_places, changed_range, extent}
pub use Rattle.ed_model.specs.Steps.{Insert, edited_cells}
pub use Rattle.ed_model.specs.Text.{bytes_of, styles_of, plain_cell, plain_cells}
pub use Rattle.ed_model.specs.proved.Indicators.{nothing_changed}
pub use Rattle.split_vector.specs.Split.{gap_after, moved_after, gap_closed, moved_closed, inserted, deleted}
pub use Rattle.cell_buffer.specs.Buffer.{overwritten, widened, Buffer, CostsAtMost, CostsBoth, paired, range_of, range_with}
