use Rattle.split_vector.proofs.Names.{◌≡◌, ◌*◌, length, take, ap, arith, length-take, leb-true}
use Rattle.std.specs.Mem.{type_size}
use Rattle.split_vector.specs.contracts.block.is_small_part.{T-row}
use Rattle.split_vector.proofs.block.is_small_part.Goals as goal

pub returns : goal.returns
returns g c = λ small.
    let size = type_size (T-row g.row.T) in
    let count : length (take 4096 c.args.items.now) ≡ 4096 = omega (arith, length-take 4096 c.args.items.now, c.requires) in
    omega (arith, leb-true c.size_of_val.result 32768 small, c.size_of_val.ensures, ap (λ n. n * size) count)
