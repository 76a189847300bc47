use Rattle.rising_numbers.proofs.Names.{length, map, ap, arith, counted, apart, Numbers}
use Rattle.rising_numbers.proofs.Steps.{counted_between, length_numbers_of, numbers_of_turned, sound_turned}
use Rattle.rising_numbers.proofs.numbers.RisingNumbers.step_far.Goals as goal

pub invariant_of-self : goal.invariant_of-self
invariant_of-self g c =
    let n = length_numbers_of (g.P.Place.number c.self.inside.end) c.self.inside.step_at (map g.P.Place.number c.self.inside.body.items) in
    let v = ap (λ (r : Numbers). length r.numbers) c.self.view_is in
    sound_turned c.args.index c.self.invariant c.turn.ensures.turned (omega arith) (omega arith) (omega arith)

pub returns : goal.returns
returns g c =
    let d =
    counted_between c.self.inside.stepped c.self.inside.step_at c.args.index c.min-low.result c.max-high.result c.saturating_add-self-inside.result
    c.min-low.ensures c.max-high.ensures c.saturating_add-self-inside.ensures in
    rw (numbers_of_turned c.args.index c.self.invariant c.turn.ensures.turned (omega arith) (omega arith), c.turn.ensures.capacity, d)
    (ap (λ (r : Numbers). record r { stepped = counted r.stepped (apart c.args.index r.step_at); step_at = c.args.index }) c.self.view_is)
