use Rattle.line_index.proofs.Names.{◌≡◌, ◌+◌, ◌-◌, ◌++◌, arith}
use Rattle.line_index.proofs.Added.{can_go_on, added_both, added_none, counted}
use Rattle.line_index.proofs.starts.add_starts.Goals as goal

pub add_at-requires : goal.add_at-requires
add_at-requires g c =
    let none = added_none c.args.text.types (c.args.text.before.now ++ c.args.text.after.now) c.args.base c.args.from (c.args.base + c.next_place.result) c.args.first c.args.starts.now
    (λ k l m. c.next_place.ensures.none (k - c.args.base) (omega (arith, c.requires.behind)) (omega (arith, c.requires.behind))) in
    (omega arith, can_go_on c.requires.can none (c.args.base + c.next_place.result + 1) (omega (arith, c.requires.behind, c.next_place.ensures.within.0)) (omega arith) (omega (arith, c.if-place-to-2.true)))

pub add_from-requires-clause-can : goal.add_from-requires-clause-can
add_from-requires-clause-can g c =
    let none = added_none c.args.text.types (c.args.text.before.now ++ c.args.text.after.now) c.args.base c.args.from (c.args.base + c.next_place.result) c.args.first c.args.starts.now
    (λ k l m. c.next_place.ensures.none (k - c.args.base) (omega (arith, c.requires.behind)) (omega (arith, c.requires.behind))) in
    can_go_on c.requires.can none c.args.to (omega (arith, c.requires.behind, c.next_place.ensures.within.0)) (omega (arith, c.requires.near, c.requires.behind, c.next_place.ensures.within.1)) (omega arith)

pub returns-then-place-to : goal.returns-then-place-to
returns-then-place-to g c =
    counted (added_none c.args.text.types (c.args.text.before.now ++ c.args.text.after.now) c.args.base c.args.from c.args.to c.args.first c.args.starts.now
    (λ k l m. c.next_place.ensures.none (k - c.args.base) (omega (arith, c.requires.behind)) (omega (arith, c.requires.behind, c.if-place-to.true))))

pub returns-then-place-to-2 : goal.returns-then-place-to-2
returns-then-place-to-2 g c =
    let none = added_none c.args.text.types (c.args.text.before.now ++ c.args.text.after.now) c.args.base c.args.from (c.args.base + c.next_place.result) c.args.first c.args.starts.now
    (λ k l m. c.next_place.ensures.none (k - c.args.base) (omega (arith, c.requires.behind)) (omega (arith, c.requires.behind))) in
    let last : c.args.base + c.next_place.result + 1 ≡ c.args.to = omega (arith, c.if-place-to-2.true) in
    rw last at (counted (added_both none c.add_at.ensures c.requires.can.free.within (omega (arith, c.requires.behind, c.next_place.ensures.within.0)) (omega arith)))

pub returns : goal.returns
returns g c =
    let none = added_none c.args.text.types (c.args.text.before.now ++ c.args.text.after.now) c.args.base c.args.from (c.args.base + c.next_place.result) c.args.first c.args.starts.now
    (λ k l m. c.next_place.ensures.none (k - c.args.base) (omega (arith, c.requires.behind)) (omega (arith, c.requires.behind))) in
    counted (added_both none c.add_from.ensures c.requires.can.free.within (omega (arith, c.requires.behind, c.next_place.ensures.within.0)) (omega (arith, c.requires.near, c.requires.behind, c.next_place.ensures.within.1)))
