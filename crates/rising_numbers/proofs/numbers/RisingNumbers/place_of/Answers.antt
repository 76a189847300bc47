use Rattle.rising_numbers.proofs.Names.{◌<◌, length, map, ap, arith, length-map}
use Rattle.rising_numbers.proofs.Lists.{read_number}
use Rattle.rising_numbers.proofs.Steps.{length_numbers_of}
use Rattle.rising_numbers.proofs.numbers.RisingNumbers.place_of.Goals as goal

pub minus-requires : goal.minus-requires
minus-requires g c =
    let f = g.P.Place.number in
    let xs = c.self.inside.body.items in
    let l : c.args.index < length xs =
    omega (arith, length-map xs f, length_numbers_of (f c.self.inside.end) c.self.inside.step_at (map f xs), ap (λ r. length r.numbers) c.self.view_is) in
    omega (arith, read_number f xs c.args.index c.get-stored.result l c.get-stored.ensures, c.self.invariant.within c.args.index)
