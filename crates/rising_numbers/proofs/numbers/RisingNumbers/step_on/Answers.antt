use Rattle.rising_numbers.proofs.Names.{◌≡◌, ◌+◌, length, map, ap, arith, counted, Numbers}
use Rattle.rising_numbers.proofs.Steps.{length_numbers_of, numbers_of_turned, sound_turned}
use Rattle.rising_numbers.proofs.numbers.RisingNumbers.step_on.Goals as goal

pub invariant_of-self : goal.invariant_of-self
invariant_of-self g c =
    let n = length_numbers_of (g.P.Place.number c.self.inside.end) c.self.inside.step_at (map g.P.Place.number c.self.inside.body.items) in
    let v = ap (λ (r : Numbers). length r.numbers) c.self.view_is in
    let w = ap (λ (r : Numbers). r.step_at) c.self.view_is in
    sound_turned (c.self.inside.step_at + 1) c.self.invariant c.turn_one.ensures.turned (omega arith) (omega arith) (omega arith)

pub returns : goal.returns
returns g c =
    let d : c.saturating_add-self-inside.result ≡ counted c.self.inside.stepped 1 = omega arith in
    rw (numbers_of_turned (c.self.inside.step_at + 1) c.self.invariant c.turn_one.ensures.turned (omega arith) (omega arith), c.turn_one.ensures.capacity, d)
    (ap (λ (r : Numbers). record r { stepped = counted r.stepped 1; step_at = r.step_at + 1 }) c.self.view_is)
