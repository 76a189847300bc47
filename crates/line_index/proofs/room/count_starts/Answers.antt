use Rattle.line_index.proofs.Names.{◌≡◌, ◌+◌, arith}
use Rattle.line_index.proofs.Blocks.{counted_none, counted_front}
use Rattle.line_index.proofs.room.count_starts.Goals as goal

pub returns-then-place-to : goal.returns-then-place-to
returns-then-place-to c = counted_none c.args.types c.args.bytes.now c.args.from c.args.to (λ k a b. c.first_place-place.ensures.none k a (omega (arith, c.if-place-to.true)))

pub returns : goal.returns
returns c = counted_front c.count_from.ensures c.args.from c.first_place-place.ensures.none c.first_place-place.ensures.within.0 c.first_place-place.ensures.within.1

pub returns-then-place-to-2 : goal.returns-then-place-to-2
returns-then-place-to-2 c =
    let last : c.first_place-place.result + 1 ≡ c.args.to = omega (arith, c.if-place-to-2.true) in
    counted_front (rw last at c.lines_at.ensures) c.args.from c.first_place-place.ensures.none c.first_place-place.ensures.within.0 c.first_place-place.ensures.within.1
