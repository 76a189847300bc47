use Rattle.decorations.proofs.Names.{◌≡◌, ℕ, List, length, Option, Some, None, unwrap_or, refl, ap, sym, ◌∙◌, arith, pos, slice_get, at_place, slot_at, shown}
use Rattle.std.specs.Option.{option_copied}
use Rattle.decorations.proofs.Shown.{values_are, zero_past, zero_unused}
use Rattle.decorations.proofs.Values.{shown_length}
use Rattle.decorations.proofs.decorations.Decorations.value.Goals as goal

pub returns-in-Some : goal.returns-in-Some
returns-in-Some g c =
    let d = c.self.inside in
    let values = values_are c.args.self.now d.size d.slots.items c.args.indicator (Some c.in-Some.runs.now) c.requires c.self.view_is c.in-Some.ensures.runs in
    sym (ap (λ (vs : List ℕ). unwrap_or (slice_get vs c.args.place) 0) values ∙ ap (λ (o : Option ℕ). unwrap_or o 0) c.value_at.ensures)

pub returns-in_default : goal.returns-in_default
returns-in_default g c =
    let d = c.self.inside in
    let k = c.args.indicator in
    let slot = slot_at d.slots.items k in
    let values = values_are c.args.self.now d.size d.slots.items k slot c.requires c.self.view_is refl in
    let long : length (shown d.size slot) ≡ d.size = shown_length d.size slot (c.self.invariant.kept k) in
    zero_past (shown d.size slot) c.args.place (omega arith) ∙ sym (ap (λ (vs : List ℕ). at_place vs (pos c.args.place)) values)

pub returns-in_default-2 : goal.returns-in_default-2
returns-in_default-2 g c =
    let d = c.self.inside in
    let values = values_are c.args.self.now d.size d.slots.items c.args.indicator None c.requires c.self.view_is (ap option_copied (sym c.in_default.is) ∙ c.runs_in.ensures.runs) in
    zero_unused d.size c.args.place ∙ sym (ap (λ (vs : List ℕ). at_place vs (pos c.args.place)) values)
