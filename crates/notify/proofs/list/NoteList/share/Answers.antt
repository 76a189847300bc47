use Rattle.std.proofs.Common.{◌≡◌, ◌+◌, ◌++◌, drop, length, refl, arith}
use Rattle.std.proofs.lemmas.List.{length-append}
use Rattle.ed_types.specs.Heard.{heard_in}
use Rattle.notify.proofs.Pools.{ends_stay, heard_stay_twice, two_behind}
use Rattle.notify.proofs.list.NoteList.share.Goals as goal

pub invariant_of-self : goal.invariant_of-self
invariant_of-self c =
    let longer : length c.extend_reserved-2.new.vec.items ≡ length c.self.inside.pool.items + length c.args.first.now + length c.args.second.now =
    rw (c.extend_reserved-2.ensures.items, c.extend_reserved.ensures.items) (simp length-append) in
    record {
      texts = ends_stay (length c.self.inside.pool.items) (length c.extend_reserved-2.new.vec.items) c.self.inside.notes.items (omega arith) c.self.invariant.texts;
      shared = omega arith;
      notes = c.self.invariant.notes;
      held = let room = rw (← c.self.view_is) at c.requires in omega (arith, longer, room);
      pool = omega (arith, c.extend_reserved.ensures.room_stays, c.extend_reserved-2.ensures.room_stays, c.self.invariant.pool);
    }

pub returns : goal.returns
returns c =
    let pool = c.self.inside.pool.items in
    let all : c.extend_reserved-2.new.vec.items ≡ pool ++ c.args.first.now ++ c.args.second.now = rw (c.extend_reserved-2.ensures.items, c.extend_reserved.ensures.items) refl in
    let from : c.len-from.result ≡ length pool = omega arith in
    let texts : heard_in c.extend_reserved-2.new.vec.items c.self.inside.notes.items ≡ heard_in pool c.self.inside.notes.items = rw all (heard_stay_twice pool c.args.first.now c.args.second.now c.self.inside.notes.items c.self.invariant.texts) in
    let shared : drop c.len-from.result c.extend_reserved-2.new.vec.items ≡ c.args.first.now ++ c.args.second.now = rw (all, from) (two_behind pool c.args.first.now c.args.second.now) in
    let longer : length c.extend_reserved-2.new.vec.items ≡ length pool + (length c.args.first.now + length c.args.second.now) =
    rw all (simp length-append (omega arith)) in
    rw (← c.self.view_is, texts, shared, longer) refl
