use Rattle.decorations.proofs.Names.{◌≡◌, all_shown}
use Rattle.decorations.proofs.Masks.{mask_below}
use Rattle.decorations.proofs.slots.mask_in.Given as goal

-- the bits of the indicators before this one
abbrev pub invariant-loop-indicator : goal.invariant-loop-indicator
invariant-loop-indicator g l = l.mask ≡ mask_below l.indicator (all_shown l.size l.slots) l.place
