use Rattle.ed_model.proofs.HistoryLemmas.{seals_once, nothing_joins_a_sealed_one, seals_change_no_change, group_begun_changes_no_change, group_ended_changes_no_change, group_begun_is_deeper, group_ended_is_less_deep, others_keep_the_depth}
use Rattle.ed_model.proofs.history_laws.seals_and_groups.Goals as goal

pub returns : goal.returns
returns c = record {
  once = seals_once;
  end_joins = nothing_joins_a_sealed_one;
  seals = seals_change_no_change;
  group_begun = group_begun_changes_no_change;
  group_ended = group_ended_changes_no_change;
  deeper = group_begun_is_deeper;
  less_deep = group_ended_is_less_deep;
  others = others_keep_the_depth;
}
