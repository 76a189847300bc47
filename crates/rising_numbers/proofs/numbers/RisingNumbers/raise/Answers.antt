use Rattle.rising_numbers.proofs.Names.{◌+◌, ap, ◌∙◌, arith, Numbers, raised_from}
use Rattle.rising_numbers.proofs.Changes.{raised}
use Rattle.rising_numbers.proofs.numbers.RisingNumbers.raise.Goals as goal

pub invariant_of-self : goal.invariant_of-self
invariant_of-self g c =
    let v = c.self.view_is ∙ c.step_to.ensures in
    let t = raised c.args.count c.self.invariant (omega (arith, c.requires.fits, ap (λ (r : Numbers). r.length) v)) in
    rw (c.plus-self-inside.ensures, c.from_usize.ensures) t.0

pub returns-clause-raised : goal.returns-clause-raised
returns-clause-raised g c =
    let v = c.self.view_is ∙ c.step_to.ensures in
    let t = raised c.args.count c.self.invariant (omega (arith, c.requires.fits, ap (λ (r : Numbers). r.length) v)) in
    rw (c.plus-self-inside.ensures, c.from_usize.ensures, t.1)
    (ap (λ (r : Numbers). record r { numbers = raised_from r.numbers r.step_at c.args.count; length = r.length + c.args.count }) v)

pub returns-clause-sound : goal.returns-clause-sound
returns-clause-sound g c = (invariant_of-self g c).sound
