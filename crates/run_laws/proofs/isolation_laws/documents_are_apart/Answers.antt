use Rattle.run_laws.proofs.IsolationLemmas.{documents_are_apart}
use Rattle.run_laws.proofs.isolation_laws.documents_are_apart.Goals as goal

pub returns : goal.returns
returns c = documents_are_apart c.soundness_is_kept.ensures.by_commands
