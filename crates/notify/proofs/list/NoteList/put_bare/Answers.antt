use Rattle.std.proofs.Common.{drop, refl, ap, arith, length}
use Rattle.std.specs.Prelude.{vec_capacity}
use Rattle.notify.specs.Gathered.{gathered, note_capacity}
use Rattle.notify.proofs.Pools.{one_more_ends, heard_without}
use Rattle.notify.proofs.list.NoteList.put_bare.Goals as goal

pub invariant_of-self : goal.invariant_of-self
invariant_of-self c = record {
  texts = rw c.push_reserved.ensures.items (one_more_ends (length c.self.inside.pool.items) c.self.inside.notes.items _ c.self.invariant.texts (omega arith));
  shared = c.self.invariant.shared;
  notes = omega arith;
  held = c.self.invariant.held;
  pool = c.self.invariant.pool;
}

pub returns : goal.returns
returns c =
    rw (← c.self.view_is, c.push_reserved.ensures.items, c.push_reserved.ensures.capacity)
    (ap (λ notes. gathered notes (drop c.self.inside.shared_from c.self.inside.pool.items) (length c.self.inside.pool.items) (note_capacity (vec_capacity c.self.inside.notes) c.self.inside.text_capacity))
    (heard_without c.self.inside.pool.items c.self.inside.notes.items _ refl))
