use Rattle.rising_numbers.proofs.Names.{◌-◌, remove, ap, arith, lt-ltb, le-ltb, Numbers, step_removed}
use Rattle.rising_numbers.proofs.Changes.{map_deleted, taken_out}
use Rattle.rising_numbers.proofs.numbers.RisingNumbers.remove.Goals as goal

pub invariant_of-self : goal.invariant_of-self
invariant_of-self g c =
    let t = taken_out (c.self.inside.step_at - 1) c.args.index c.self.invariant (omega (arith, c.if-index-self.true)) (rw (← c.self.view_is) at c.requires) in
    rw (c.delete.ensures, map_deleted) t.0

pub returns-then-index-self-clause-removed : goal.returns-then-index-self-clause-removed
returns-then-index-self-clause-removed g c =
    let t = taken_out (c.self.inside.step_at - 1) c.args.index c.self.invariant (omega (arith, c.if-index-self.true)) (rw (← c.self.view_is) at c.requires) in
    rw (c.delete.ensures, map_deleted, t.1)
    (rw (lt-ltb c.args.index c.self.inside.step_at c.if-index-self.true) at (ap (λ (r : Numbers). record r { numbers = remove r.numbers c.args.index; step_at = step_removed c.args.index r.step_at }) c.self.view_is))

pub returns-then-index-self-clause-sound : goal.returns-then-index-self-clause-sound
returns-then-index-self-clause-sound g c = (invariant_of-self g c).sound

pub invariant_of-self-else-index-self : goal.invariant_of-self-else-index-self
invariant_of-self-else-index-self g c =
    let t = taken_out c.self.inside.step_at c.args.index c.self.invariant (omega (arith, c.if-index-self.false)) (rw (← c.self.view_is) at c.requires) in
    rw (c.delete.ensures, map_deleted) t.0

pub returns-else-index-self-clause-removed : goal.returns-else-index-self-clause-removed
returns-else-index-self-clause-removed g c =
    let t = taken_out c.self.inside.step_at c.args.index c.self.invariant (omega (arith, c.if-index-self.false)) (rw (← c.self.view_is) at c.requires) in
    rw (c.delete.ensures, map_deleted, t.1)
    (rw (le-ltb c.args.index c.self.inside.step_at c.if-index-self.false) at (ap (λ (r : Numbers). record r { numbers = remove r.numbers c.args.index; step_at = step_removed c.args.index r.step_at }) c.self.view_is))

pub returns-else-index-self-clause-sound : goal.returns-else-index-self-clause-sound
returns-else-index-self-clause-sound g c = (invariant_of-self-else-index-self g c).sound
