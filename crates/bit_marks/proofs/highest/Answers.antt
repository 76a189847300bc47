use Rattle.bit_marks.proofs.Clearing.{top_set, clear_above}
use Rattle.bit_marks.proofs.highest.Goals as goal

pub returns-clause-set : goal.returns-clause-set
returns-clause-set c = top_set _ _ c.ilog2.ensures.power_le c.ilog2.ensures.next_power_gt

pub returns-clause-above : goal.returns-clause-above
returns-clause-above c k l = clear_above _ _ k c.ilog2.ensures.next_power_gt l
