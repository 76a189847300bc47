use Rattle.rising_numbers.proofs.Names.{◌≡◌, ◌≤◌, ◌<◌, ◌-◌, length, get_or, map, ap, sym, ◌∙◌, arith, length-map, numbers_of}
use Rattle.rising_numbers.proofs.Lists.{read_number}
use Rattle.rising_numbers.proofs.Steps.{length_numbers_of, read_far}
use Rattle.rising_numbers.proofs.numbers.RisingNumbers.is_at_most.Goals as goal

pub returns-else-index-self : goal.returns-else-index-self
returns-else-index-self g c =
    let f = g.P.Place.number in
    let xs = c.self.inside.body.items in
    let e = f c.self.inside.end in
    let step = c.self.inside.step_at in
    let i = c.args.index in
    let s = c.get-stored.result in
    let w = f c.args.wanted in
    let l : i < length (numbers_of e step (map f xs)) = omega (arith, c.requires.index, ap (λ r. length r.numbers) c.self.view_is) in
    let m : i < length xs = omega (arith, length_numbers_of e step (map f xs), length-map xs f) in
    let number : get_or c.args.self.now.numbers i 0 ≡ e - f s =
    ap (λ r. get_or r.numbers i 0) (sym c.self.view_is) ∙ read_far f e step xs i s l c.if-index-self.false c.get-stored.ensures in
    let within : f s ≤ e = omega (arith, read_number f xs i s m c.get-stored.ensures, c.self.invariant.within i) in
    let before : w ≤ e = omega (arith, c.requires.wanted, ap (λ r. r.length) c.self.view_is) in
    let t = c.is_at_most-far.ensures in
    let r = c.minus.ensures in
    (λ yes. omega (arith, t.0 yes), λ at_most. t.1 (omega arith))
