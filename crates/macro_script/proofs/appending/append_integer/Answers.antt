use Rattle.macro_script.proofs.Names.{sym, ap, ◌∙◌, to_z-of_z, signed_decimal, spelled_int-signed, is_64_bits-fits}
use Rattle.macro_script.proofs.Pieces.{in_words}
use Rattle.macro_script.proofs.appending.append_integer.Goals as goal

pub returns : goal.returns
returns c = in_words _ _ _ _ c.append_bytes.result
    (c.as_bytes.ensures.value ∙ c.format.ensures.text ∙ ap signed_decimal (to_z-of_z c.ranges.value) ∙ sym (spelled_int-signed c.args.value (is_64_bits-fits c.args.value c.ranges.value)))
    c.append_bytes.ensures
