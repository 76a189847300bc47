use Rattle.decorations.proofs.Names.{◌≡◌, ◌+◌, ◌-◌, ap, ◌∙◌, arith, refl, indicators_after, Delete, Decorated, slot_at, stored}
use Rattle.decorations.proofs.Kept.{gave_all}
use Rattle.decorations.proofs.Memory.{room_each, each_room, runs_kept, gave_room, gave_runs}
use Rattle.decorations.proofs.decorations.Decorations.delete.Goals as goal

pub returns-clause-values : goal.returns-clause-values
returns-clause-values g c = λ bytes e.
    let d = c.self.inside in
    let size_is : d.size ≡ c.args.self.now.length = ap (λ (v : Decorated). v.length) c.self.view_is in
    gave_all d.size c.args.place c.args.count bytes d.slots.items c.delete_from_all.new.slots.items (omega arith) e c.self.invariant.kept c.delete_from_all.ensures.0
    ∙ ap (λ (v : Decorated). indicators_after (Delete c.args.place bytes) v.values) c.self.view_is

pub returns-clause-room : goal.returns-clause-room
returns-clause-room g c =
    let d = c.self.inside in
    let after = c.delete_from_all.new.slots in
    rw (← c.self.view_is)
    (λ n room.
    let each = room_each d.size (n + 2) (stored d.slots d.spare) c.self.invariant.few c.self.invariant.kept room in
    each_room (d.size - c.args.count) (n + 2) (stored after d.spare)
    (λ k. gave_room c.args.place c.args.count (n + 2) (slot_at d.slots.items k) (slot_at after.items k) (c.delete_from_all.ensures.0 k) (each k)))

pub returns-clause-capacity : goal.returns-clause-capacity
returns-clause-capacity g c =
    let d = c.self.inside in
    let after = c.delete_from_all.new.slots in
    rw (← c.self.view_is)
    (runs_kept d.size (d.size - c.args.count) (stored d.slots d.spare) (stored after d.spare)
    (λ k. gave_runs (d.size - c.args.count) c.args.place c.args.count (slot_at d.slots.items k) (slot_at after.items k) (c.delete_from_all.ensures.0 k)) refl c.delete_from_all.ensures.2)
