-- The names of the crates below, and of this crate's definitions, that several proofs cite. Declares nothing.
pub use Rattle.std.proofs.Common.{◌≡◌, ℕ, ◌+◌, ◌-◌, ◌<◌, ◌≤◌, ◌≢◌, inl, inr, zero, suc, List, [], ◌∷◌, ◌++◌, length, get_or, set, take, drop, replicate, refl, sym, ap, ◌∙◌, arith, append-nil, ◌⊎◌, Bool, true, false, eqb, eq-eqb, length-append, IsTrue, ◌^◌, append_assoc, map, subst, ap₂}
pub use Rattle.std.proofs.Math.ListN.{length-set}
pub use Rattle.std.proofs.lemmas.Bool.{cases_eq, cases_lt, ne_eqb}
pub use Rattle.std.proofs.lemmas.List.{get_or_append_left, get_or_at, map-append, take-map, drop-map, drop_more, length-map, length-replicate, length-reverse, reverse-append, length-take-le, length-drop, get_or-set_same, get_or-set_other, get_or_read, take_all, drop_all, drop-drop, take_more, take_more_set, drop-set-lt, set-set, set-get_or, nil_from_length, map-set}
pub use Rattle.std.proofs.lemmas.List.Sums.{sum_by-set, sum_by-cons, sum_by-append, sum_by-le, sum_by-take-drop, sum_by-drop_more, get_or-le-sum_by}
pub use Rattle.std.proofs.lemmas.List.Elements.{All-set, All-head, All-tail, All-append, All-take, All-drop, All-replicate}
pub use Rattle.std.specs.List.{All, flat_map, list_any, range_with_len, sum_by}
pub use Rattle.std.specs.Prelude.{filter, not, find, reverse, min, ◌==◌, ◌||◌, Some, None, fold, bit_and, bit_or}
pub use Rattle.ed_model.specs.LinePlans.{mask_of}
pub use Rattle.ed_model.specs.Rows.{Marker}
pub use Rattle.marker_store.specs.Chains.{Link, link, no_link, link_at, relinked, Chained, chained, held, row_from, rows_in, head, IsChain, times, uses, AreLinked, IsLaid, IsBack, IsFreed}
pub use Rattle.marker_store.specs.Fields.{all_heads, chains_in, AreSound}
pub use Rattle.marker_store.specs.declared.chains.Chains.TheInside.{Inside}
pub use Rattle.marker_store.specs.Lines.{marker_total, with_fresh, with_joined, without, has_handle, first_from, is_met, last_up_to, marked_lines, MarkedLines}
