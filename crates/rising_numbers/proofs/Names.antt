-- The names of the crates below, and of this crate's definitions, that several proofs cite. Declares nothing.
pub use mir.Val.{bool_byte}
pub use Rattle.std.proofs.Common.{◌≡◌, ℕ, ◌+◌, ◌-◌, ◌<◌, ◌≤◌, min, List, [], ◌∷◌, length, get_or, map, insert, remove, sym, ap, ◌∙◌, ◌⊎◌, inl, inr, arith, add-one, append_assoc, ◌*◌, ◌/◌, ◌%◌, ◌^◌, zero, suc, Bool, IsTrue, true, false, refl, pow-suc, ◌≢◌, set, max, rules}
pub use Rattle.std.proofs.lemmas.Bool.{cases_lt, cases_order, false≢true, cases_eq, le-leb, lt-leb, lt-ltb, le-ltb}
pub use Rattle.std.proofs.lemmas.List.{ext_get_or, get_or_past, map-append, take-map, drop-map, length-set, length-map, get_or-map, get_or-set_same, get_or-set_other, map-set}
pub use Rattle.std.proofs.lemmas.List.Edits.{length-insert, get_or-insert_below, get_or-insert_at, get_or-insert_above, length-remove, get_or-remove_below, get_or-remove_above}
pub use Rattle.split_vector.specs.Split.{inserted, deleted, counted, IsUpdated, apart}
pub use Rattle.rising_numbers.specs.Numbers.{Numbers, step_inserted, step_removed, CanInsert, CanLower, raised_from, lowered_from, AreRising, CountsReads, IsLastAtMost, IsFloorLog, map_from, stepped_to}
pub use Rattle.rising_numbers.specs.Stored.{AreWithin, IsSound, numbers_of, IsTurned}
