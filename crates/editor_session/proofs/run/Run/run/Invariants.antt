use Rattle.editor_session.proofs.Names.{◌≡◌, ◌≤◌, ◌++◌, take, drop, length, vec_capacity, outcomes, run_to}
use Rattle.editor_session.proofs.run.Run.run.Given as goal

abbrev pub invariant-loop-command : goal.invariant-loop-command
invariant-loop-command l =
    record {
      room : length l.commands ≤ vec_capacity l.done;
      many : length l.done.items ≡ l.command-index;
      outcomes : l.done.items ++ outcomes l.files (drop l.command-index l.commands) l.self ≡ outcomes l.files l.commands l.fn.self;
      state : run_to l.files (drop l.command-index l.commands) l.self ≡ run_to l.files l.commands l.fn.self;
      so_far : l.self ≡ run_to l.files (take l.command-index l.commands) l.fn.self;
    }
