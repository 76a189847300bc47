use Rattle.decorations.proofs.Names.{ℕ, ◌+◌, Option, None, refl, sym, subst, arith, get_or_past, Runs, SlotFits, stored}
use Rattle.decorations.proofs.Memory.{each_room}
use Rattle.decorations.proofs.decorations.Decorations.reserve.Goals as goal

pub returns-then-len-eq0-clause-reserved : goal.returns-then-len-eq0-clause-reserved
returns-then-len-eq0-clause-reserved g c =
    let d = c.self.inside in
    let Q : Option (Runs ℕ) → Type 0 = SlotFits (c.args.insertions + 2) in
    rw (← c.self.view_is)
    (each_room d.size (c.args.insertions + 2) (stored d.slots d.spare) (λ k. subst Q (sym (get_or_past d.slots.items k None (omega (arith, c.len.ensures, c.if-len-eq0.true)))) tt), λ _. (refl, refl))
