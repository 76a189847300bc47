use Rattle.std.proofs.Common.{◌<◌, ◌^◌, ◌∙◌, ap, sym, Ok, refl, arith, slice_range, length}
use Rattle.ed_model.specs.Reading.{natural as natural_of}
use Rattle.macro_script.proofs.SpelledNumbers.{natural_some}
use Rattle.macro_script.proofs.LeadingNumbers.{field_read}
use Rattle.macro_script.proofs.fields.Fields.natural.Goals as goal

pub returns-in-Some : goal.returns-in-Some
returns-in-Some c =
    let low : c.in-Some.digit < 2 ^ 32 = omega (arith, c.from.ensures, c.from.type_inv) in
    ap (λ n. Ok (n, slice_range c.self.inside.rest.now 2 (length c.self.inside.rest.now))) c.from.ensures ∙
    field_read natural_of c.self.inside.rest.now _ c.in-Some.digit 2 c.in-Some.digit (sym c.self.view_is) c.in-Some.ensures.0 (natural_some _ c.in-Some.digit refl low)
