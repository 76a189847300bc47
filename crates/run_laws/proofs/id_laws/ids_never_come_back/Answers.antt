use Rattle.run_laws.proofs.IdLemmas.{document_ids_never_come_back, view_ids_never_come_back, next_ids_never_fall}
use Rattle.run_laws.proofs.id_laws.ids_never_come_back.Goals as goal

pub returns : goal.returns
returns c = record {
  documents = document_ids_never_come_back c.plans_are_fit.ensures.in_range c.soundness_is_kept.ensures.by_commands;
  views = view_ids_never_come_back;
  next = next_ids_never_fall;
}
