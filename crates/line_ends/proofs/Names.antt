-- The names of the crates below, and of this crate's definitions, that several proofs cite. Declares nothing.
pub use Rattle.std.proofs.Common.{◌≡◌, ℕ, ◌+◌, Bool, true, false, cond, ◌==◌, ◌||◌, ◌&&◌, List, [], ◌∷◌, ◌++◌, length, refl, ap, ◌∙◌, sym, arith, ◌-◌, ◌<◌, ◌≤◌, get_or, slice_range, inl, inr, suc, take, drop, append_assoc, length-append, zero, subst, append-nil, min, vec_len, vec_capacity, ◌*◌}
pub use Rattle.std.proofs.lemmas.Bool.{or_from, and_right, cases_lt, true≢false, or_parts, or_cases, and_parts, eqb-true, not-true, le-ltb, lt-ltb, leb-true, leb-false, le-leb, lt-leb, ne_eqb, eq-eqb, or_left}
pub use Rattle.std.proofs.lemmas.List.{get_or-append-add, get_or_append_left, drop_more, drop_all, drop_at, length-take-le, get_or_at, drop-drop, take_rest, length-drop}
pub use Rattle.std.specs.Prelude.{count_by, not, nat_le, nat_lt}
pub use Rattle.ed_model.specs.LineEnds.{begins_with_line_feed, lacks_return, lacks_feed, is_unwanted, unwanted_at, place_after, unwanted_from, is_feed_foreign, is_return_foreign, missing_at, missing_from, line_end_bytes, converted, converted_after, is_feed_unwanted, is_return_unwanted, conversion_steps}
pub use Rattle.ed_model.specs.Steps.{Step, Insert, edited, Delete}
pub use Rattle.ed_model.specs.Text.{stands}
pub use Rattle.ed_model.specs.declared.plan.LineEnd.{LineEnd}
pub use Rattle.ed_model.specs.declared.plan.LineEnd.TheVariants.{CrLf, Cr, Lf}
pub use Rattle.ed_model.specs.proved.Bytes.{stands_at}
pub use Rattle.ed_model.specs.proved.Conversions.{put, filled, fills, still_feed, behind_return}
pub use Rattle.line_ends.specs.Conversion.{completed, is_end, follows_return, lone_feed, lone_return, missing_in, IsNextLone, IsNextMissing, end_bytes, spare_feed, spare_return, unwanted_in, unwanted_since, IsNextUnwanted}
