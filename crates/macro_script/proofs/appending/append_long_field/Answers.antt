use Rattle.macro_script.proofs.Pieces.{stopped, first_part}
use Rattle.macro_script.proofs.appending.append_long_field.Goals as goal

pub returns-in_err-append_bytes : goal.returns-in_err-append_bytes
returns-in_err-append_bytes c = stopped _ _ _ c.from_residual.result c.from_residual.ensures.0 (first_part _ _ _ _ c.in_err-append_bytes.ensures)
