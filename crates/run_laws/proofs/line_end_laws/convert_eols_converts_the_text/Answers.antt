use Rattle.run_laws.proofs.LineEndMessages.{convert_eols_converts}
use Rattle.run_laws.proofs.line_end_laws.convert_eols_converts_the_text.Goals as goal

pub returns : goal.returns
returns c = convert_eols_converts
