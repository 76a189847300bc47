use Rattle.std.proofs.lemmas.Result.{err_from_is_err_and}
use Rattle.script_jobs.proofs.Printing.{run_cut, run_written, run_stopped, writes_failed, stopped_by}
use Rattle.script_jobs.proofs.running.print_outcomes.Goals as goal

pub returns-in_err-write_all-in-Ok-clause-written : goal.returns-in_err-write_all-in-Ok-clause-written
returns-in_err-write_all-in-Ok-clause-written g c =
    let p = err_from_is_err_and c.from_residual-in_err-write_all-in-Ok.result c.from_residual-in_err-write_all-in-Ok.ensures.1 in
    writes_failed c.from_residual-in_err-write_all-in-Ok.result _ _ _ _ p.1 p.2
    (run_cut _ _ _ _ _ _ _ c.in_ok-buffer.ensures.items c.deref.ensures.value c.in-Ok.ensures.put c.in_err-write_all-in-Ok.ensures.written)

pub returns-in-Ok-clause-written : goal.returns-in-Ok-clause-written
returns-in-Ok-clause-written g c = run_written _ _ _ _ _ _ _ c.in_ok-buffer.ensures.items c.deref.ensures.value c.in-Ok.ensures.put c.in_ok-write_all-in-Ok.ensures.written

pub returns-in-Err-Script-clause-written : goal.returns-in-Err-Script-clause-written
returns-in-Err-Script-clause-written g c =
    let put = stopped_by _ c.in-Err-Script.field-0 c.in-Err-Script.fault _ _ _ _ c.in-Err-Script.field-0-is c.in-Err-Script.ensures.put in
    (put.0, run_stopped _ _ _ _ _ _ _ _ c.in_ok-buffer.ensures.items c.deref-in-Err-Script.ensures.value put.1 c.write_all-in-Err-Script.ensures.written)
