-- The names of the crates below, and of this crate's definitions, that several proofs cite. Declares nothing.
pub use Rattle.std.proofs.Common.{◌≡◌, ℕ, ◌+◌, ◌<◌, ◌≤◌, List, [], ◌++◌, length, take, refl, sym, ◌∙◌, ap, subst, arith, append_assoc, append-nil, length-append, Option, Some, None, IfSome, Result, Ok, Err, inl, inr, false, true, Bool, ◌⊎◌, length-take, zero, suc, ◌-◌, cond, drop, take-add, take-append-drop, length-drop, IsErr, rules, string_bytes, ◌∷◌, flat_map}
pub use Rattle.std.proofs.lemmas.Bool.{cases_lt, lt-leb, ne_eqb}
pub use Rattle.std.proofs.lemmas.List.{take_all, take-append-le, length-take-le}
pub use Rattle.std.specs.Io.KnownBytes.{Consumes, Keeps, IsAtEnd, Appends}
pub use Rattle.ed_model.specs.Reading.{reading}
pub use Rattle.ed_types.specs.declared.script.Command.{Command}
pub use Rattle.ed_types.specs.declared.script.ScriptFault.{ScriptFault}
pub use Rattle.ed_types.specs.declared.script.ScriptFault.TheVariants.{TooLong, OutOfMemory}
pub use Rattle.script_ends.specs.Answers.{Answers, checked, none}
pub use Rattle.script_ends.specs.Ends.{TakesAtMost, AppendsFront, WritesAll}
pub use Rattle.script_ends.specs.Shown.{shown_bytes, escaped, quoted}
pub use Rattle.script_ends.specs.proved.Written.{appends_more, front_none, unread}
