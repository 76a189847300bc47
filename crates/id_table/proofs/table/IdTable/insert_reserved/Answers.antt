-- A place and a value are appended.
use Rattle.std.proofs.Common.{refl, arith}
use Rattle.id_table.proofs.EntryLemmas.{added_table, has_room, has_place}
use Rattle.id_table.proofs.table.IdTable.insert_reserved.Goals as goal

pub insert_reserved-key-requires : goal.insert_reserved-key-requires
insert_reserved-key-requires g c = let h = rw (← c.self.view_is) at c.requires.room in has_room _ _ _ c.self.invariant 1 h.0

pub push_reserved-requires : goal.push_reserved-requires
push_reserved-requires g c = let h = rw (← c.self.view_is) at c.requires.room in omega (arith, has_place _ _ _ c.self.invariant _ h.1)

pub invariant_of-self : goal.invariant_of-self
invariant_of-self g c =
    let k = c.insert_reserved-key in
    rw c.push_reserved.ensures.items (added_table _ _ _ c.self.invariant _ c.args.value k.new.self refl k.ensures.was_vacant k.ensures.updates k.ensures.len).1

pub returns-clause-entries : goal.returns-clause-entries
returns-clause-entries g c =
    let k = c.insert_reserved-key in
    rw (← c.self.view_is, c.push_reserved.ensures.items) (added_table _ _ _ c.self.invariant _ c.args.value k.new.self refl k.ensures.was_vacant k.ensures.updates k.ensures.len).0
