use Rattle.std.proofs.Common.{◌-◌, ◌∷◌}
use Rattle.split_vector.proofs.cells.Cells.push_right.Given as goal

abbrev pub ghost-write_cell : goal.ghost-write_cell
ghost-write_cell g a = (a.self.now.left, a.self.now.spare - 1, a.item ∷ a.self.now.right)
