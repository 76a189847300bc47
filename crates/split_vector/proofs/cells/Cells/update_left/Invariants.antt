use Rattle.split_vector.proofs.Names.{◌≡◌, IsUpdated}
use Rattle.split_vector.proofs.cells.Cells.update_left.Given as goal

-- the items before `index` are replaced
abbrev pub invariant-loop-index : goal.invariant-loop-index
invariant-loop-index g l =
    record {
      others : l.self ≡ record l.initial.self { left = l.self.left };
      items : IsUpdated (goal.F-post g l.change) l.low l.index l.initial.self.left l.self.left;
    }
