use Rattle.rising_numbers.proofs.Names.{◌≡◌, ◌<◌, ◌-◌, length, get_or, map, arith, map-set, length-map}
use Rattle.rising_numbers.proofs.Lists.{read_number, turned_none, turned_more}
use Rattle.rising_numbers.proofs.stepping.turn_one.Goals as goal

pub minus-distance-requires : goal.minus-distance-requires
minus-distance-requires g c =
    omega (arith, read_number g.P.Place.number c.args.body.now.items c.args.index c.get.result c.requires.index c.get.ensures, c.requires.within c.args.index)

pub returns-clause-turned : goal.returns-clause-turned
returns-clause-turned g c =
    let f = g.P.Place.number in
    let xs = c.args.body.now.items in
    let i = c.args.index in
    let e : f c.minus-distance.result ≡ f c.args.end - get_or (map f xs) i 0 =
    omega (arith, c.minus-distance.ensures, read_number f xs i c.get.result c.requires.index c.get.ensures) in
    let l : i < length (map f xs) = rw (length-map xs f) c.requires.index in
    rw (c.set.ensures, map-set)
    (turned_more (f c.args.end) i i (f c.minus-distance.result) (map f xs) (map f xs) (turned_none (f c.args.end) i (map f xs)) (omega arith) l e)
