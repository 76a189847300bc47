use Rattle.std.proofs.Common.{◌≡◌, ◌≤◌, ◌+◌, drop, false}
use Rattle.std.specs.List.{count_by}
use Rattle.ed_model.specs.Printed.{printed}
use Rattle.ed_model.specs.Run.{outcomes, is_unmet}
use Rattle.script_jobs.specs.Runs.{shown_outcomes}
use Rattle.script_jobs.proofs.Printing.{Progress}
use Rattle.script_jobs.proofs.running.run_commands.Given as goal

abbrev pub invariant-loop-command : goal.invariant-loop-command
invariant-loop-command g l =
    let all = outcomes l.files l.commands l.fn.run in
    let rest = outcomes l.files (drop l.command-index l.commands) l.run in
    record {
      printed_so_far : Progress (g.W.Sink.contents l.fn.sink) (g.W.Sink.contents l.sink) l.fn.buffer.items l.buffer.items (printed (shown_outcomes l.notes all)) (printed (shown_outcomes l.notes rest));
      counted : l.unmet + count_by is_unmet rest ≡ count_by is_unmet all;
      few : l.unmet ≤ l.command-index;
      fresh : g.W.Sink.has_failed l.sink ≡ false;
    }
