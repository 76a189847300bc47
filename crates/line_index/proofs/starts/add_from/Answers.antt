use Rattle.std.proofs.Common.{◌+◌, ◌-◌, ◌≤◌, ◌++◌, arith}
use Rattle.line_index.proofs.Added.{can_go_on, added_both, added_past, added_nothing}
use Rattle.line_index.proofs.starts.add_from.Goals as goal

pub add_marked-line-requires-clause-can : goal.add_marked-line-requires-clause-can
add_marked-line-requires-clause-can g c =
    let inv = c.adding.invariant in
    can_go_on c.requires.can inv.added (c.adding.place + 64) inv.low (omega arith) (omega (arith, c.in-Some.ensures.0, inv.low, c.requires.near))

pub adding-preserved-in-Some : goal.adding-preserved-in-Some
adding-preserved-in-Some g c =
    let inv = c.adding.invariant in
    let base = c.args.base in
    let next = base + c.place_behind.result in
    let marked = added_both inv.added c.add_marked-line.ensures c.requires.can.free.within inv.low (omega arith) in
    let low : c.adding.place + 64 ≤ next = omega (arith, inv.low, c.requires.near, c.place_behind.ensures.within.0) in
    record {
      added = added_past marked next (λ k l m. c.place_behind.ensures.none (k - base) (omega (arith, inv.low, c.requires.near)) (omega (arith, inv.low, c.requires.near)))
          c.requires.can.free.within (omega (arith, inv.low)) low;
      low = omega (arith, inv.low, low);
      high = omega (arith, inv.low, inv.high, c.requires.near, c.place_behind.ensures.within.1);
    }

pub add_at-line-requires : goal.add_at-line-requires
add_at-line-requires g c =
    let inv = c.adding.invariant in
    (omega (arith, inv.low, c.requires.near), can_go_on c.requires.can inv.added (c.adding.place + 1) inv.low (omega arith) (omega arith))

pub adding-preserved : goal.adding-preserved
adding-preserved g c =
    let inv = c.adding.invariant in
    let base = c.args.base in
    let next = base + c.next_place.result in
    let one = added_both inv.added c.add_at-line.ensures c.requires.can.free.within inv.low (omega arith) in
    let low : c.adding.place + 1 ≤ next = omega (arith, inv.low, c.requires.near, c.next_place.ensures.within.0) in
    record {
      added = added_past one next (λ k l m. c.next_place.ensures.none (k - base) (omega (arith, inv.low, c.requires.near)) (omega (arith, inv.low, c.requires.near)))
          c.requires.can.free.within (omega (arith, inv.low)) low;
      low = omega (arith, inv.low, low);
      high = omega (arith, inv.low, inv.high, c.requires.near, c.next_place.ensures.within.1);
    }

pub adding-init : goal.adding-init
adding-init g c =
    record {
      added = added_nothing c.args.text.types (c.args.text.before.now ++ c.args.text.after.now) c.args.base c.args.from c.args.first c.args.starts.now;
      low = omega arith;
      high = c.requires.near.1;
    }
