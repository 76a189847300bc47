use Rattle.std.proofs.Common.{arith}
use Rattle.macro_script.proofs.Pieces.{stopped_some, some_is_run, run_appended}
use Rattle.macro_script.proofs.appending.append_some.Goals as goal

pub returns-in_err-append_bytes : goal.returns-in_err-append_bytes
returns-in_err-append_bytes c = stopped_some _ _ _ c.from_residual.result c.from_residual.ensures.0
    (some_is_run c.args.text.now _ _ c.plain_len-run.result c.plain_len-run.ensures.within c.plain_len-run.ensures.plain c.in_err-append_bytes.ensures)

pub returns-then-run-gt1 : goal.returns-then-run-gt1
returns-then-run-gt1 c = (omega arith, c.plain_len-run.ensures.within, run_appended c.args.text.now _ _ c.plain_len-run.result c.plain_len-run.ensures.within c.plain_len-run.ensures.plain c.in_ok-append_bytes.ensures)
