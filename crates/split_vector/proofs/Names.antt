-- The names of the crates below, and of this crate's definitions, that several proofs cite. Declares nothing.
pub use Rattle.std.proofs.Common.{◌≡◌, ℕ, zero, suc, ◌+◌, ◌-◌, ◌<◌, ◌≤◌, Bool, true, false, List, [], ◌∷◌, ◌++◌, map, length, get_or, take, drop, set, replicate, Option, Some, None, refl, sym, ap, ◌∙◌, arith, length-append, length-take, length-drop, take-append-drop, append_assoc, slice_range, ◌⊎◌, inl, inr, min, max, ◌*◌, ◌^◌, ◌==◌, if◌then◌else◌}
pub use Rattle.std.proofs.lemmas.Bool.{cases_lt, leb-true}
pub use Rattle.std.proofs.lemmas.List.{length-map, length-replicate, map-append, take-map, drop-map, drop-drop, get_or_append_left, get_or-append_right, take_all, take-append-le, set-append_left, set-append_right}
pub use Rattle.split_vector.specs.Ownership.{cells_of}
pub use Rattle.split_vector.specs.Split.{EachBetween, IsUpdated, apart, counted, deleted, outside, split}
