use Rattle.macro_script.proofs.Names.{sym, ◌∙◌, arith, spelled-decimal}
use Rattle.macro_script.proofs.Pieces.{in_words}
use Rattle.macro_script.proofs.appending.append_number.Goals as goal

pub returns : goal.returns
returns c = in_words _ _ _ _ c.append_bytes.result (c.as_bytes.ensures.value ∙ c.format.ensures.text ∙ sym (spelled-decimal c.args.number (omega (arith, c.ranges.number)))) c.append_bytes.ensures
