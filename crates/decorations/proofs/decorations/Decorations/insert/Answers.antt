use Rattle.decorations.proofs.Names.{◌≡◌, ◌+◌, ap, ◌∙◌, arith, refl, indicators_after, Insert, Decorated, slot_at, stored}
use Rattle.decorations.proofs.Kept.{took_slots, took_all}
use Rattle.decorations.proofs.Memory.{can_take, capacity_same, room_each, each_room, runs_kept, took_capacity, took_room, took_runs}
use Rattle.decorations.proofs.decorations.Decorations.insert.Goals as goal

pub insert_into_all-requires : goal.insert_into_all-requires
insert_into_all-requires g c = λ k.
    let d = c.self.inside in
    let size_is : d.size ≡ c.args.self.now.length = ap (λ (v : Decorated). v.length) c.self.view_is in
    let room = rw (← c.self.view_is) at c.requires.room in
    can_take g.P.Place.GREATEST d.size c.args.place c.args.count (slot_at d.slots.items k) (omega arith) (omega (arith, c.requires.fits)) (c.self.invariant.kept k)
    (room_each d.size 3 (stored d.slots d.spare) c.self.invariant.few c.self.invariant.kept room k)

pub invariant_of-self : goal.invariant_of-self
invariant_of-self g c =
    let d = c.self.inside in
    let size_is : d.size ≡ c.args.self.now.length = ap (λ (v : Decorated). v.length) c.self.view_is in
    took_slots g.P.Place.GREATEST d.size c.args.place c.args.count d.slots.items c.insert_into_all.new.slots.items c.self.invariant (omega arith) (omega (arith, c.requires.fits))
    c.insert_into_all.ensures.0 c.insert_into_all.ensures.1

pub returns-clause-values : goal.returns-clause-values
returns-clause-values g c = λ bytes e.
    let d = c.self.inside in
    let size_is : d.size ≡ c.args.self.now.length = ap (λ (v : Decorated). v.length) c.self.view_is in
    took_all d.size c.args.place c.args.count bytes d.slots.items c.insert_into_all.new.slots.items (omega arith) e c.self.invariant.kept c.insert_into_all.ensures.0
    ∙ ap (λ (v : Decorated). indicators_after (Insert c.args.place bytes) v.values) c.self.view_is

pub returns-clause-room : goal.returns-clause-room
returns-clause-room g c =
    let d = c.self.inside in
    let after = c.insert_into_all.new.slots in
    rw (← c.self.view_is)
    (λ n room.
    let each = room_each d.size (n + 1 + 2) (stored d.slots d.spare) c.self.invariant.few c.self.invariant.kept room in
    each_room (d.size + c.args.count) (n + 2) (stored after d.spare)
    (λ k. took_room c.args.place c.args.count n (slot_at d.slots.items k) (slot_at after.items k) (c.insert_into_all.ensures.0 k) (each k)))

pub returns-clause-capacity : goal.returns-clause-capacity
returns-clause-capacity g c =
    let d = c.self.inside in
    let after = c.insert_into_all.new.slots in
    capacity_same d.size (d.size + c.args.count) (stored d.slots d.spare) (stored after d.spare)
    (λ k. took_capacity c.args.place c.args.count (slot_at d.slots.items k) (slot_at after.items k) (c.insert_into_all.ensures.0 k)) c.insert_into_all.ensures.2 refl
    ∙ ap (λ (v : Decorated). v.capacity) c.self.view_is

pub returns-clause-runs : goal.returns-clause-runs
returns-clause-runs g c =
    let d = c.self.inside in
    let after = c.insert_into_all.new.slots in
    let size_is : d.size ≡ c.args.self.now.length = ap (λ (v : Decorated). v.length) c.self.view_is in
    let are = took_slots g.P.Place.GREATEST d.size c.args.place c.args.count d.slots.items after.items c.self.invariant (omega arith) (omega (arith, c.requires.fits))
    c.insert_into_all.ensures.0 c.insert_into_all.ensures.1 in
    rw (← c.self.view_is)
    (runs_kept d.size (d.size + c.args.count) (stored d.slots d.spare) (stored after d.spare)
    (λ k. took_runs (d.size + c.args.count) c.args.place c.args.count (slot_at d.slots.items k) (slot_at after.items k) (c.insert_into_all.ensures.0 k) (are.kept k)) refl c.insert_into_all.ensures.2)
