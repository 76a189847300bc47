use Rattle.std.proofs.Common.{◌<◌, ◌^◌, ◌∙◌, ap, sym, Ok, pos, refl, SFits, w64, to_z-of_z, rules, slice_range, length}
use Rattle.ed_model.specs.Reading.{integer as integer_of}
use Rattle.macro_script.proofs.SpelledNumbers.{integer_some}
use Rattle.macro_script.proofs.LeadingNumbers.{field_read}
use Rattle.macro_script.proofs.fields.Fields.integer.Goals as goal

pub returns-in-Some : goal.returns-in-Some
returns-in-Some c =
    let fits : SFits w64 c.from.result = search rules in
    let low : c.in-Some.digit < 2 ^ 63 = rw c.from.ensures at c.from.type_inv in
    ap (λ z. Ok (z, slice_range c.self.inside.rest.now 2 (length c.self.inside.rest.now))) (to_z-of_z fits ∙ c.from.ensures) ∙
    field_read integer_of c.self.inside.rest.now _ c.in-Some.digit 2 (pos c.in-Some.digit) (sym c.self.view_is) c.in-Some.ensures.0 (integer_some _ c.in-Some.digit refl low)
