use Rattle.run_laws.proofs.SmallLemmas.{messages_never_want_memory, opening_never_wants_memory, closing_never_wants_memory}
use Rattle.run_laws.proofs.small_laws.the_table_never_wants_memory.Goals as goal

pub returns : goal.returns
returns c = record {
  messages = messages_never_want_memory;
  opening = opening_never_wants_memory;
  closing = closing_never_wants_memory;
}
