use Rattle.std.proofs.Common.{rules}
use Rattle.std.proofs.lemmas.Fmt.{hex_byte}
use Rattle.script_ends.proofs.shown.append_byte.Goals as goal

pub returns-else-is_printable : goal.returns-else-is_printable
returns-else-is_printable c = search (rules, hex_byte)
