-- The names of the crates below, and of this crate's definitions, that several proofs cite. Declares nothing.
pub use Rattle.std.proofs.Common.{◌≡◌, ℕ, ◌+◌, ◌-◌, ◌<◌, ◌≤◌, zero, suc, List, [], ◌∷◌, ◌++◌, length, get_or, take, drop, map, replicate, refl, sym, ap, ◌∙◌, arith, append_assoc, append-nil, length-append, subst, drop-drop, take-append-drop, ⊎_elim, take_at, drop_at, max, ◌≢◌, ◌⊎◌, Some, None, set, Bool, true, false, not, cond, ne_eqb, eq-eqb, true≢false, take-take, inl, inr}
pub use Rattle.std.proofs.Math.Seq.{drop-append-add, take-append-add}
pub use Rattle.std.proofs.lemmas.Bool.{cases_lt}
pub use Rattle.std.proofs.lemmas.List.{length-set, get_or-set_same, length-take-le, length-drop, get_or-append_right, get_or_append_left, get_or-replicate, length-replicate, drop_all, get_or-drop, get_or_default, get_or_past, nil_from_length, take_all, get_or-take, same_lists, take_more_set, drop-set-lt, replicate-append-replicate, take-append-le, drop-append-le, take-replicate, drop-replicate, length-map, take_more, drop_more}
pub use Rattle.std.proofs.lemmas.Option.{slice_get-get_or, get_or_from_slice_get, slice_get_past, slice_get_read}
pub use Rattle.std.specs.Cmp.{IsEquivalence}
pub use Rattle.std.specs.Prelude.{insert, remove, slice_get}
pub use Rattle.partitioning.specs.Partitions.{CanStart, CanLose}
pub use Rattle.run_styles.specs.Expansion.{expansion, Rise, IsTable, NeighboursDiffer, IsExact}
pub use Rattle.run_styles.specs.Runs.{inserted, deleted, filled, IsChangedRange, inserted_value, IsRunStart, IsRunEnd, run_count}
