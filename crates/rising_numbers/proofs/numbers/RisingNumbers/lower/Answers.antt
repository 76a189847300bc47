use Rattle.rising_numbers.proofs.Names.{◌-◌, map, ap, ◌∙◌, Numbers, CanLower, numbers_of, lowered_from}
use Rattle.rising_numbers.proofs.Changes.{lowered}
use Rattle.rising_numbers.proofs.numbers.RisingNumbers.lower.Goals as goal

pub invariant_of-self : goal.invariant_of-self
invariant_of-self g c =
    let v = c.self.view_is ∙ c.step_to.ensures in
    let can : CanLower (numbers_of (g.P.Place.number c.self.inside.end) c.self.inside.step_at (map g.P.Place.number c.self.inside.body.items)) (g.P.Place.number c.self.inside.end) c.self.inside.step_at c.args.count =
    rw (ap (λ (r : Numbers). r.numbers) v, ap (λ (r : Numbers). r.length) v, ap (λ (r : Numbers). r.step_at) v) c.requires in
    rw (c.minus-self-inside.ensures, c.from_usize.ensures) (lowered c.args.count c.self.invariant can).0

pub returns-clause-lowered : goal.returns-clause-lowered
returns-clause-lowered g c =
    let v = c.self.view_is ∙ c.step_to.ensures in
    let can : CanLower (numbers_of (g.P.Place.number c.self.inside.end) c.self.inside.step_at (map g.P.Place.number c.self.inside.body.items)) (g.P.Place.number c.self.inside.end) c.self.inside.step_at c.args.count =
    rw (ap (λ (r : Numbers). r.numbers) v, ap (λ (r : Numbers). r.length) v, ap (λ (r : Numbers). r.step_at) v) c.requires in
    rw (c.minus-self-inside.ensures, c.from_usize.ensures, (lowered c.args.count c.self.invariant can).1)
    (ap (λ (r : Numbers). record r { numbers = lowered_from r.numbers r.step_at c.args.count; length = r.length - c.args.count }) v)

pub returns-clause-sound : goal.returns-clause-sound
returns-clause-sound g c = (invariant_of-self g c).sound
