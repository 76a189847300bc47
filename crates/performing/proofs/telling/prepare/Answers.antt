use Rattle.performing.proofs.Names.{◌≡◌, [], ap, arith, w64, to_z, pos, ints, Notice}
use Rattle.performing.proofs.telling.prepare.Goals as goal

pub returns-in-Nothing : goal.returns-in-Nothing
returns-in-Nothing c = rw c.in-Nothing.is (c.blank.ensures [])

pub returns-in-SavePointReached : goal.returns-in-SavePointReached
returns-in-SavePointReached c = rw c.in-SavePointReached.is (c.blank-in-SavePointReached.ensures [])

pub returns-in-SavePointLeft : goal.returns-in-SavePointLeft
returns-in-SavePointLeft c = rw c.in-SavePointLeft.is (c.blank-in-SavePointLeft.ensures [])

pub returns-in-StyleNeeded : goal.returns-in-StyleNeeded
returns-in-StyleNeeded c =
    let past = c.in-StyleNeeded.end in let fits = rw c.in-StyleNeeded.is at c.requires in let p : to_z w64 past ≡ pos past = omega (arith, ints, fits) in
    rw (c.in-StyleNeeded.is, p) (ap (λ (n : Notice). record n { position = pos past }) (c.blank-request.ensures []))
