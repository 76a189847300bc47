-- The names of the crates below, and of this crate's definitions, that several proofs cite. Declares nothing.
pub use Rattle.std.proofs.Common.{◌≡◌, ◌≢◌, ℕ, zero, suc, ◌+◌, ◌*◌, ◌<◌, ◌≤◌, true, cond, List, [], ◌∷◌, ◌++◌, length, map, get_or, Option, Some, None, is_some, count_by, refl, sym, ap, subst, ◌∙◌, arith, IfSome, IfNone, length-append, eq-eqb, Result, Ok, Err, ⊎_elim, rules, inl}
pub use Rattle.std.proofs.lemmas.Bool.{ne_eqb, cases_lt, false≢true}
pub use Rattle.std.specs.Prelude.{IsSome, vec_capacity}
pub use Rattle.slab.specs.Slab.{Slab, get, Updates, with_value, ContainsKey, HasRoomFor, slab_len}
pub use Rattle.id_table.specs.Entries.{entry, id_of, value_at, with_value_at, without_id, Rise, table_of, table_capacity, Entry}
pub use Rattle.id_table.specs.Order.{entries_by, InOrder, IsTable, IsOrdered, IsAt, IsNowhere}
pub use Rattle.id_table.specs.declared.table.Place.{Place}
