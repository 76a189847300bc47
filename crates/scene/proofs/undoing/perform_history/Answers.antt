use Rattle.scene.proofs.Names.{ap, ◌∙◌}
use Rattle.scene.proofs.undoing.perform_history.Goals as goal

pub returns-clause-rooms : goal.returns-clause-rooms
returns-clause-rooms c =
    let stay = c.perform_changes-caret.ensures.all.rooms in
    rw c.finish_history.ensures (record { memory = stay.memory; capacity = ap (λ g. g.capacity) c.tell_save_point.ensures ∙ stay.capacity; table = stay.table })
