use Rattle.scene.proofs.Names.{◌≡◌, ◌∙◌, length, sym, nat_lt, true, sealed_outside_groups, room_of_steps}
use Rattle.document.specs.proved.Room.{seal_room}
use Rattle.scene.specs.Conversion.{conversion_of}
use Rattle.scene.specs.proved.Watched.{watched_with_history}
use Rattle.scene.proofs.conversion.convert.Goals as goal

pub make_all-requires-2 : goal.make_all-requires-2
make_all-requires-2 c =
    let k = c.args.document.now in
    let several : nat_lt 1 (length (conversion_of c.args.to k)) ≡ true = sym c.is_several.ensures ∙ c.if-not-is_several.false in
    rw c.seal_outside_groups.ensures (record {
      watched = watched_with_history k.document (sealed_outside_groups k.document.history) c.args.views.now c.requires.watched;
      room = seal_room k (room_of_steps k.document.line_end_types (conversion_of c.args.to k)) c.requires.room;
      holds = rw several at c.requires.holds;
    })

pub returns-clause-watched : goal.returns-clause-watched
returns-clause-watched c =
    let made = c.make_all-2.new in
    rw c.seal_outside_groups-2.ensures
    (watched_with_history made.document.document (sealed_outside_groups made.document.document.history) made.views c.make_all-2.ensures.watched)

pub returns-clause-rooms : goal.returns-clause-rooms
returns-clause-rooms c =
    let stay = rw c.seal_outside_groups.ensures at c.make_all-2.ensures.rooms in
    rw c.seal_outside_groups-2.ensures (record { memory = stay.memory; capacity = stay.capacity; table = stay.table })
