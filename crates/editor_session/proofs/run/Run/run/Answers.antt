use Rattle.editor_session.proofs.Names.{rules, ◌≡◌, Some, slice_get, refl, length}
use Rattle.std.proofs.lemmas.Option.{slice_get_read}
use Rattle.editor_session.proofs.RunLemmas.{one_more_outcome, one_more_state, one_more_done}
use Rattle.editor_session.proofs.run.Run.run.Goals as goal

pub loop-command-preserved : goal.loop-command-preserved
loop-command-preserved c =
    let i = c.loop-command.command-index in
    let item : slice_get c.args.commands.now i ≡ Some c.command-item.result = slice_get_read c.args.commands.now (length c.args.commands.now) i c.command-item.result refl (search rules) c.command-item.is in
    let was = c.loop-command.invariant in let state = c.in_ok-outcome.ensures.state in
    record {
      room = search rules;
      many = search rules;
      outcomes = one_more_outcome c.args.files.now c.args.commands.now i c.command-item.result c.loop-command.self c.step.new.self c.loop-command.done.items c.push_reserved.new.self.items _ c.in_ok-outcome.outcome item state c.in_ok-outcome.ensures.outcome c.push_reserved.ensures.items was.outcomes;
      state = one_more_state c.args.files.now c.args.commands.now i c.command-item.result c.loop-command.self c.step.new.self _ item state was.state;
      so_far = one_more_done c.args.files.now c.args.commands.now i c.command-item.result c.args.self.now c.loop-command.self c.step.new.self item state was.so_far;
    }
