-- The names of the crates below, and of this crate's definitions, that several proofs cite. Declares nothing.
pub use Rattle.std.proofs.Common.{◌≡◌, ℕ, ◌+◌, ◌-◌, ◌≤◌, Bool, true, false, nat_lt, List, [], ◌∷◌, ◌++◌, length, refl, ap, sym, ◌∙◌, arith, length-append, append-nil, flat_map, suc, ◌*◌, ◌<◌, get_or, take, drop, length-take, Result, Ok, Option, Some, slice_range, take-append-drop, ℤ, pos, append_assoc, codes, map, zero, subst, Err, IsErr, take-add, length-drop, slice_get, ◌≢◌, drop-drop, get_or-drop, cond, find, ◌/◌, ◌%◌, ◌^◌, negsuc, None, decimal, SomeIff, IfSome, inl, inr, ◌⊎◌, vec_len, vec_capacity, SFits, w64, to_z-of_z, rules, ap₂, to_z, of_z, ◌-ℤ◌}
pub use Rattle.std.proofs.lemmas.Bool.{and_parts, ltb-true, ltb-false, lt-ltb, le-ltb, le-leb, lt-leb, cond-true, eq-eqb, ne_eqb, or_from, and_from, cond-false, false_from_ne_true, eqb-false}
pub use Rattle.std.proofs.lemmas.Fmt.{decimal_step, decimal_digit, decimal-digits_value, length-decimal-le, first_decimal}
pub use Rattle.std.proofs.lemmas.Int.{to_z_pos, ints}
pub use Rattle.std.proofs.lemmas.List.{get_or-take, take_rest, take_more, drop_more, get_or_default}
pub use Rattle.std.proofs.lemmas.List.Concat.{flat_map-append}
pub use Rattle.std.proofs.lemmas.List.Sums.{position_or_len_is}
pub use Rattle.std.proofs.lemmas.Str.Parse.{digit_at, numerals_by_value, tells_digits, digits_value_short}
pub use Rattle.std.specs.Char.{IsAsciiDigit, IsNotAsciiDigit, digit_value}
pub use Rattle.std.specs.Fmt.{signed_decimal}
pub use Rattle.std.specs.List.{list_all, AllByRecursion, join_with_byte, slice_split, position_or_len}
pub use Rattle.std.specs.Prelude.{nat_le, ◌&&◌, ◌==◌, ◌||◌, filter}
pub use Rattle.std.specs.Str.Parse.{digits_value, AllDigits}
pub use Rattle.ed_model.specs.Listing.{listing, listed_command, ended_line, version_line, fits_line, fits_script, keeps_limits}
pub use Rattle.ed_model.specs.Printed.{printed_note, printed_answer}
pub use Rattle.ed_model.specs.Reading.{◌>>=◌, word_of, behind_word, not_empty, word_field, number_field, reading, text_past, with_byte, natural, integer, at_line, read_command, read_lines, read_version, read_script}
pub use Rattle.ed_model.specs.Recording.{told_message, sent_to}
pub use Rattle.ed_model.specs.ScriptLaws.{ListingsAreRead, IsScript, OnlyListingsAreRead}
pub use Rattle.ed_model.specs.Spelling.{space, spelled, quote, spelled_int, spelled_byte, spelled_bytes, spelled_text, backslash}
pub use Rattle.ed_model.specs.Text.{line_feed}
pub use Rattle.ed_model.specs.proved.Reading.{not_empty-some, read_from, read_first, read_lines-first, read_script-first, reads_within, versions}
pub use Rattle.ed_model.specs.proved.Spelling.{spelled-decimal, digits_value-spelled, AllDigits-spelled, length-spelled-pos, natural-spelled, integer-spelled, spelled_int-signed, is_64_bits-fits}
pub use Rattle.ed_types.specs.Heard.{with_text}
pub use Rattle.ed_types.specs.declared.message.Message.{Message}
pub use Rattle.ed_types.specs.declared.script.Cause.{Cause}
pub use Rattle.ed_types.specs.declared.script.Command.{Command}
pub use Rattle.ed_types.specs.declared.script.Command.TheVariants.{SendMessage}
pub use Rattle.ed_types.specs.declared.script.ScriptFault.{ScriptFault}
pub use Rattle.macro_script.specs.Appending.{line_of, number_fields, Appends, AppendsPart, AppendsSome, text_field, lent_text}
pub use Rattle.macro_script.specs.Lines.{OrMemory}
pub use Rattle.macro_script.specs.Recorded.{is_recording, sends_for, RecordsAll, recorded_sends, recording_note}
pub use Rattle.macro_script.specs.Versions.{number_of}
