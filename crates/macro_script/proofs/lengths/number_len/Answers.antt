use Rattle.macro_script.proofs.Names.{sym, ap, ◌∙◌, ◌+◌, length, to_z-of_z, signed_decimal, spelled_int-signed, is_64_bits-fits}
use Rattle.macro_script.proofs.lengths.number_len.Goals as goal

pub returns-clause-len : goal.returns-clause-len
returns-clause-len c =
    ap (λ bytes. length bytes + 1) (c.format.ensures.text ∙ ap signed_decimal (to_z-of_z c.ranges.value) ∙ sym (spelled_int-signed c.args.value (is_64_bits-fits c.args.value c.ranges.value)))
