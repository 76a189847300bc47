use Rattle.ed_model.proofs.HistoryLemmas.{not_collecting_appends_nothing, append_keeps_all_but_the_past, append_joins, append_begins, nothing_joins_none, append_counts}
use Rattle.ed_model.proofs.history_laws.a_change_is_appended.Goals as goal

pub returns : goal.returns
returns c = record {
  not_collecting = not_collecting_appends_nothing;
  others = append_keeps_all_but_the_past;
  joins = append_joins;
  begins = append_begins;
  joins_none = nothing_joins_none;
  count = append_counts;
}
