use Rattle.rising_numbers.proofs.Names.{◌≡◌, ◌+◌, ◌-◌, ◌*◌, ◌%◌, ◌^◌, length, arith, bool_byte}
use Rattle.rising_numbers.proofs.Halving.{whole, turned_by, found, one_at_least, one_at_most, power_quartered, quartered, moved_by}
use Rattle.rising_numbers.proofs.quarters.last_by_quarters.Goals as goal

pub quartering-init : goal.quartering-init
quartering-init g c =
    let s = c.args.numbers.now.numbers in
    let w = g.P.Place.number c.args.wanted in
    let level = c.ilog2-level.result in
    let log = c.ilog2-level.ensures in
    let many = c.count-count.ensures in
    let first = c.count-count.result - 1 * 2 ^ level % 18446744073709551616 in
    record {
      range =
          turned_by s c.args.numbers.now.length w 0 (length s) first first (bool_byte c.is_at_most.result * first) (2 ^ level) c.is_at_most.result many.sound
          (whole s w c.requires.low.0 c.requires.low.1) (omega (arith, log.power_le, many.fits, many.count)) (omega (arith, log.power_le, log.next_power_gt, many.fits, many.count))
          (omega arith) (omega arith) (omega (arith, log.power_le, many.fits, many.count)) c.is_at_most.ensures;
      fits = log.bound;
    }

pub overflow_shl-level : goal.overflow_shl-level
overflow_shl-level g c = omega (arith, c.quartering.invariant.fits)

pub overflow_shl-level-in-quartering : goal.overflow_shl-level-in-quartering
overflow_shl-level-in-quartering g c = omega (arith, c.quartering.invariant.fits)

pub overflow_shl-level-in-quartering-2 : goal.overflow_shl-level-in-quartering-2
overflow_shl-level-in-quartering-2 g c = omega (arith, c.quartering.invariant.fits)

pub overflow_shl-low : goal.overflow_shl-low
overflow_shl-low g c = omega (arith, c.quartering.invariant.fits)

pub overflow_add-low : goal.overflow_add-low
overflow_add-low g c = omega (arith, c.quartering.invariant.range.within, c.quartering.invariant.fits, power_quartered c.quartering.level c.quartering-test.true, c.count-count.ensures.fits, one_at_least (c.quartering.level - 2))

pub is_at_most-one-requires-clause-index : goal.is_at_most-one-requires-clause-index
is_at_most-one-requires-clause-index g c = omega (arith, c.quartering.invariant.range.within, c.quartering.invariant.fits, power_quartered c.quartering.level c.quartering-test.true, c.count-count.ensures.fits, one_at_least (c.quartering.level - 2))

pub overflow_add-low-in-quartering : goal.overflow_add-low-in-quartering
overflow_add-low-in-quartering g c = omega (arith, c.quartering.invariant.range.within, c.quartering.invariant.fits, power_quartered c.quartering.level c.quartering-test.true, c.count-count.ensures.fits, one_at_least (c.quartering.level - 2))

pub is_at_most-two-requires-clause-index : goal.is_at_most-two-requires-clause-index
is_at_most-two-requires-clause-index g c = omega (arith, c.quartering.invariant.range.within, c.quartering.invariant.fits, power_quartered c.quartering.level c.quartering-test.true, c.count-count.ensures.fits, one_at_least (c.quartering.level - 2))

pub overflow_add-low-in-quartering-2 : goal.overflow_add-low-in-quartering-2
overflow_add-low-in-quartering-2 g c = omega (arith, c.quartering.invariant.range.within, c.quartering.invariant.fits, power_quartered c.quartering.level c.quartering-test.true, c.count-count.ensures.fits, one_at_least (c.quartering.level - 2))

pub is_at_most-three-requires-clause-index : goal.is_at_most-three-requires-clause-index
is_at_most-three-requires-clause-index g c = omega (arith, c.quartering.invariant.range.within, c.quartering.invariant.fits, power_quartered c.quartering.level c.quartering-test.true, c.count-count.ensures.fits, one_at_least (c.quartering.level - 2))

pub overflow_add-low-in-quartering-5 : goal.overflow_add-low-in-quartering-5
overflow_add-low-in-quartering-5 g c =
    let h = c.quartering in let quarter = 2 ^ (h.level - 2) in let power = power_quartered h.level c.quartering-test.true in
    let moved = moved_by c.is_at_most-one.result c.is_at_most-two.result c.is_at_most-three.result quarter (omega (arith, h.invariant.range.within, power, c.count-count.ensures.fits)) in
    omega (arith, h.invariant.range.within, power, c.count-count.ensures.fits, moved.0, moved.1)

pub quartering-preserved : goal.quartering-preserved
quartering-preserved g c =
    let h = c.quartering in let quarter = 2 ^ (h.level - 2) in let power = power_quartered h.level c.quartering-test.true in
    let one = c.is_at_most-one in let two = c.is_at_most-two in let three = c.is_at_most-three in
    let small = c.count-count.ensures.fits in let within = h.invariant.range.within in
    let moved = moved_by one.result two.result three.result quarter (omega (arith, within, power, small)) in
    record {
      range =
          quartered c.args.numbers.now.numbers c.args.numbers.now.length (g.P.Place.number c.args.wanted) h.low (2 ^ h.level) quarter (h.low + 1 * quarter % 18446744073709551616)
          (h.low + 2 * quarter % 18446744073709551616) (h.low + 3 * quarter % 18446744073709551616)
          (h.low + (bool_byte one.result + bool_byte two.result + bool_byte three.result) * quarter % 18446744073709551616) one.result two.result three.result
          c.count-count.ensures.sound h.invariant.range (omega (arith, one_at_least (h.level - 2))) (omega (arith, power)) (omega (arith, moved.0)) (omega (arith, within, power, small))
          (omega (arith, within, power, small)) (omega (arith, within, power, small)) one.ensures two.ensures three.ensures;
      fits = omega (arith, h.invariant.fits);
    }

pub returns-then-level-eq0 : goal.returns-then-level-eq0
returns-then-level-eq0 g c =
    let h = c.quartering in
    let zero : h.level ≡ 0 = omega (arith, c.if-level-eq0.true) in
    found c.args.numbers.now.numbers c.args.numbers.now.length (g.P.Place.number c.args.wanted) h.low 1 c.count-count.ensures.sound (rw zero at h.invariant.range) (omega arith)

pub overflow_add-low-2 : goal.overflow_add-low-2
overflow_add-low-2 g c = let w = c.quartering.invariant.range.within in omega (arith, w, c.count-count.ensures.fits)

pub is_at_most-requires-2-clause-index : goal.is_at_most-requires-2-clause-index
is_at_most-requires-2-clause-index g c =
    let one : c.quartering.level ≡ 1 = omega (arith, c.quartering-test.false, c.if-level-eq0.false) in
    let range = rw one at c.quartering.invariant.range in omega (arith, range.within)

pub overflow_add-result : goal.overflow_add-result
overflow_add-result g c = let w = c.quartering.invariant.range.within in omega (arith, w, c.count-count.ensures.fits, one_at_most c.is_at_most-2.result)

pub returns : goal.returns
returns g c =
    let h = c.quartering in
    let one : h.level ≡ 1 = omega (arith, c.quartering-test.false, c.if-level-eq0.false) in
    let s = c.args.numbers.now.numbers in let w = g.P.Place.number c.args.wanted in
    found s c.args.numbers.now.length w (h.low + bool_byte c.is_at_most-2.result) 1 c.count-count.ensures.sound
    (turned_by s c.args.numbers.now.length w h.low 2 (h.low + 1) 1 (h.low + bool_byte c.is_at_most-2.result) 1 c.is_at_most-2.result c.count-count.ensures.sound (rw one at h.invariant.range)
    (omega arith) (omega arith) (omega arith) (omega arith) (omega arith) c.is_at_most-2.ensures) (omega arith)
