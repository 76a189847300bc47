-- The names of the crates below, and of this crate's definitions, that several proofs cite. Declares nothing.
pub use Rattle.std.proofs.Common.{◌≡◌, ℕ, suc, ◌+◌, ◌-◌, ◌<◌, ◌≤◌, false, List, [], ◌∷◌, ◌++◌, length, get_or, take, drop, replicate, sym, refl, ap, ◌∙◌, inl, inr, arith, max, Bool, true, ◌&&◌, ◌||◌, cond, ltb, leb, eqb, zero, not, map, le_refl, reverse, Option, Some, zero-add, slice_index, None, set, filter, count_by, ◌⊎◌, nat_lt, insert, remove, min, rules}
pub use Rattle.std.proofs.Math.Bool.{and-false}
pub use Rattle.std.proofs.lemmas.Bool.{cases_lt, cases_order, lt-ltb, le-ltb, and_parts, and_from, leb-true, le-leb, ltb-true, eqb-true, eq-eqb, cases_eq, cases_Bool, false≢true, not-true, ne_eqb, or_left, or_right, lt-leb, leb-false}
pub use Rattle.std.proofs.lemmas.List.{ext_get_or, length-append, length-take-le, length-drop, length-replicate, get_or-take, get_or-drop, get_or-replicate, get_or_append_left, get_or-append_right, get_or_at, get_or-set_other, length-set, reverse-append, get_or_default, get_or-set_same, length-take, take-append-drop, get_or_past, drop_more}
pub use Rattle.std.proofs.lemmas.List.Edits.{get_or-between, remove-append_right}
pub use Rattle.std.proofs.lemmas.List.Folds.{list_all-append, list_all_at}
pub use Rattle.std.proofs.lemmas.List.FromFn.{length-map-range_with_len, get_or-map-range_with_len, length-range_with_len, fill_by_all, take-map-range_with_len}
pub use Rattle.std.proofs.lemmas.List.Sums.{list_all-from_AllPass, sum_by-cons, fold-append}
pub use Rattle.std.specs.List.{range_with_len, list_all}
pub use Rattle.std.specs.Prelude.{slice_range, find, slice_get, unwrap_or, fold, IfSome, IfNone}
pub use Rattle.ed_model.specs.Folding.{is_between, lines_shown, lines_hidden, with_expanded, flags_at, is_expanded, with_visible, expanded, is_open_between, is_header, is_child, last_child, is_visible, level_number, is_header_level, number_at, line_before, fold_parents, fold_parent, parents_from, header_opened}
pub use Rattle.ed_model.specs.Rows.{Flags, fresh_flags, flags_together, base_level}
pub use Rattle.ed_model.specs.proved.Rising.{range-append, map_range_agree, filter_range_agree}
pub use Rattle.line_index.specs.Edits.{with_fresh, with_joined, FitLines, fresh_lines, after_edits}
pub use Rattle.line_index.specs.declared.edit.LineEdit.{LineEdit}
pub use Rattle.line_index.specs.declared.edit.LineEdit.TheVariants.{Come}
pub use Rattle.rising_numbers.specs.Numbers.{Numbers, raised_from, lowered_from}
pub use Rattle.rising_numbers.specs.proved.Rising.{rising_to}
pub use Rattle.contraction.specs.Folding.{is_closed, closed_at, behind_closed}
pub use Rattle.contraction.specs.Headings.{heads, last_heading, HeadFrom}
pub use Rattle.contraction.specs.LineSets.{holds, holds_with_fresh, holds_without, holds_after, lines_outside, AreBefore, AreLines, Becomes}
pub use Rattle.contraction.specs.ViewLines.{ViewLines, view_lines, contracted_lines}
