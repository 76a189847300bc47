use Rattle.split_vector.proofs.Names.{◌<◌, length, drop, ap, arith, length-take, length-drop, Some, length-map, cells_of}
use Rattle.split_vector.proofs.Items.{sole}
use Rattle.split_vector.proofs.cells.Cells.item.Goals as goal

pub returns : goal.returns
returns g c =
    let d = c.args.self.now in let cells = cells_of d.left d.spare d.right in let p = c.args.place in let run = c.slice.ensures in let items = c.slice.result.now in
    let some : 0 < length items = omega (arith, ap length run, length-map items Some, length-take 1 (drop p cells), length-drop p cells, c.requires.1.0) in
    sole (drop p cells) items c.index-slice-0.result run some c.index-slice-0.is
