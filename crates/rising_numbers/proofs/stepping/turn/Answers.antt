use Rattle.rising_numbers.proofs.Names.{rules, arith, get_or-map}
use Rattle.rising_numbers.proofs.Lists.{turned_of_updated}
use Rattle.rising_numbers.proofs.stepping.turn.Goals as goal

pub update-requires-clause-callable : goal.update-requires-clause-callable
update-requires-clause-callable g c k d a b =
    let f = g.P.Place.number in let xs = c.args.body.now.items in
    omega (arith, get_or-map f xs k d 0 (omega (arith, c.requires.range)), c.requires.within k)

pub returns-clause-turned : goal.returns-clause-turned
returns-clause-turned g c =
    let f = g.P.Place.number in
    turned_of_updated f _ (f c.args.end) c.args.low c.args.high c.args.body.now.items c.update.new.self.items c.args.end
    c.requires.range.1 c.update.ensures.items (λ x y r. search rules)
