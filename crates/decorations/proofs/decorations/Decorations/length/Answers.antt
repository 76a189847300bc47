use Rattle.decorations.proofs.Names.{◌≡◌, length, sym, ap, ◌∙◌, slot_at, shown}
use Rattle.decorations.proofs.Numbered.{numbered_length, numbered_all}
use Rattle.decorations.proofs.Values.{shown_length}
use Rattle.decorations.proofs.decorations.Decorations.length.Goals as goal

pub returns-clause-count : goal.returns-clause-count
returns-clause-count g c =
    let d = c.self.inside in
    ap (λ v. length v.values) (sym c.self.view_is) ∙ numbered_length (λ k. shown d.size (slot_at d.slots.items k))

pub returns-clause-each : goal.returns-clause-each
returns-clause-each g c =
    let d = c.self.inside in
    rw (← c.self.view_is) (numbered_all (λ values. length values ≡ d.size) (λ k. shown d.size (slot_at d.slots.items k)) (λ k. shown_length d.size (slot_at d.slots.items k) (c.self.invariant.kept k)))
