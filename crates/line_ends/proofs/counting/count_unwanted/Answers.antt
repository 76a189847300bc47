use Rattle.std.proofs.Common.{◌++◌, ◌∙◌, sym}
use Rattle.line_ends.proofs.Completed.{none_of_both, all_feeds, all_returns, count_both}
use Rattle.line_ends.proofs.counting.count_unwanted.Goals as goal

pub returns-in-CrLf-clause-count : goal.returns-in-CrLf-clause-count
returns-in-CrLf-clause-count c = rw c.in-CrLf.is (sym (none_of_both (c.args.first.now ++ c.args.second.now)))

pub returns-in-Cr-clause-count : goal.returns-in-Cr-clause-count
returns-in-Cr-clause-count c =
    rw c.in-Cr.is (count_both 10 c.args.first.now c.args.second.now c.count_byte.result c.count_byte-in-Cr.result c.count_byte.ensures c.count_byte-in-Cr.ensures ∙ sym (all_feeds (c.args.first.now ++ c.args.second.now)))

pub returns-in-Lf-clause-count : goal.returns-in-Lf-clause-count
returns-in-Lf-clause-count c =
    rw c.in-Lf.is (count_both 13 c.args.first.now c.args.second.now c.count_byte-in-Lf.result c.count_byte-in-Lf-2.result c.count_byte-in-Lf.ensures c.count_byte-in-Lf-2.ensures ∙ sym (all_returns (c.args.first.now ++ c.args.second.now)))
