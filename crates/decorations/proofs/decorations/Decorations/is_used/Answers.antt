use Rattle.decorations.proofs.Names.{refl, ◌∙◌, slot_at}
use Rattle.decorations.proofs.Shown.{values_are}
use Rattle.decorations.proofs.Values.{tells_used}
use Rattle.decorations.proofs.decorations.Decorations.is_used.Goals as goal

pub returns : goal.returns
returns g c =
    let d = c.self.inside in
    let k = c.args.indicator in
    let slot = slot_at d.slots.items k in
    let values = values_are c.args.self.now d.size d.slots.items k slot c.requires c.self.view_is refl in
    tells_used d.size slot _ c.is_some.result (c.self.invariant.kept k) (c.is_some.ensures ∙ c.runs_in.ensures.some) values
