use Rattle.run_laws.proofs.HandleLemmas.{handles_never_come_back}
use Rattle.run_laws.proofs.id_laws.handles_never_come_back.Goals as goal

pub returns : goal.returns
returns c =
    let given = c.no_handle_is_given_anew.ensures in
    handles_never_come_back c.plans_are_fit.ensures.in_range c.soundness_is_kept.ensures.by_commands given.steps given.changes given.next
