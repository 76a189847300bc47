use Rattle.split_vector.proofs.Names.{◌≡◌, ◌≤◌, ◌-◌}
use Rattle.split_vector.proofs.vector.SplitVector.slide_back.Given as goal

abbrev pub decreases-parts : goal.decreases-parts
decreases-parts g l = l.self.gap - l.place

-- some parts have been moved over the gap, which still has to move in the same direction
abbrev pub invariant-parts : goal.invariant-parts
invariant-parts g l = (l.self ≡ record l.initial.self { gap = l.self.gap }) × (l.place ≤ l.self.gap)
