use Rattle.rising_numbers.proofs.Names.{insert, ap, le-leb, lt-leb, Numbers, step_inserted}
use Rattle.rising_numbers.proofs.Changes.{map_inserted, put_in_near, put_in_far}
use Rattle.rising_numbers.proofs.numbers.RisingNumbers.insert_reserved.Goals as goal

pub invariant_of-self : goal.invariant_of-self
invariant_of-self g c =
    let t = put_in_near c.args.index c.args.number c.self.invariant c.if-index-self.true (rw (← c.self.view_is) at c.requires.number) in
    rw (c.insert_reserved.ensures, map_inserted, c.from_usize-place.ensures) t.0

pub returns-then-index-self-clause-inserted : goal.returns-then-index-self-clause-inserted
returns-then-index-self-clause-inserted g c =
    let t = put_in_near c.args.index c.args.number c.self.invariant c.if-index-self.true (rw (← c.self.view_is) at c.requires.number) in
    rw (c.insert_reserved.ensures, map_inserted, c.from_usize-place.ensures, t.1)
    (rw (le-leb c.args.index c.self.inside.step_at c.if-index-self.true) at (ap (λ (r : Numbers). record r { numbers = insert r.numbers c.args.index c.args.number; step_at = step_inserted c.args.index r.step_at }) c.self.view_is))

pub returns-then-index-self-clause-sound : goal.returns-then-index-self-clause-sound
returns-then-index-self-clause-sound g c = (invariant_of-self g c).sound

pub invariant_of-self-else-index-self : goal.invariant_of-self-else-index-self
invariant_of-self-else-index-self g c =
    let t = put_in_far c.args.index c.args.number c.self.invariant c.if-index-self.false (rw (← c.self.view_is) at c.requires.number) in
    rw (c.insert_reserved-else-index-self.ensures, map_inserted, c.minus-distance.ensures, c.from_usize-place.ensures) t.0

pub returns-else-index-self-clause-inserted : goal.returns-else-index-self-clause-inserted
returns-else-index-self-clause-inserted g c =
    let t = put_in_far c.args.index c.args.number c.self.invariant c.if-index-self.false (rw (← c.self.view_is) at c.requires.number) in
    rw (c.insert_reserved-else-index-self.ensures, map_inserted, c.minus-distance.ensures, c.from_usize-place.ensures, t.1)
    (rw (lt-leb c.args.index c.self.inside.step_at c.if-index-self.false) at (ap (λ (r : Numbers). record r { numbers = insert r.numbers c.args.index c.args.number; step_at = step_inserted c.args.index r.step_at }) c.self.view_is))

pub returns-else-index-self-clause-sound : goal.returns-else-index-self-clause-sound
returns-else-index-self-clause-sound g c = (invariant_of-self-else-index-self g c).sound
