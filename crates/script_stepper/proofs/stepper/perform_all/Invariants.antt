use Rattle.std.proofs.Common.{◌≡◌, drop}
use Rattle.ed_model.specs.Run.{run_to}
use Rattle.script_stepper.proofs.stepper.perform_all.Given as goal

abbrev pub invariant-loop-command : goal.invariant-loop-command
invariant-loop-command l = run_to l.files (drop l.command-index l.commands) l.run ≡ run_to l.files l.commands l.fn.run
