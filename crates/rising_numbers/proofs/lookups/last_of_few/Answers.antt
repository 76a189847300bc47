use Rattle.rising_numbers.proofs.Names.{◌≡◌, ◌+◌, ◌-◌, ◌*◌, ◌%◌, ◌^◌, ◌<◌, length, arith, bool_byte}
use Rattle.rising_numbers.proofs.Halving.{halved, halved_to_power, reads_counted, whole, turned_by, moved_up, power_halved, found}
use Rattle.rising_numbers.proofs.lookups.last_of_few.Goals as goal

pub halving-init : goal.halving-init
halving-init g c =
    let s = c.args.numbers.now.numbers in
    let w = g.P.Place.number c.args.wanted in
    let level = c.ilog2-level.result in
    let log = c.ilog2-level.ensures in
    let many = c.count-count.ensures in
    let first = c.count-count.result - 1 * 2 ^ level % 18446744073709551616 in
    record {
      range =
          turned_by s c.args.numbers.now.length w 0 (length s) first first (bool_byte c.is_at_most.result * first) (2 ^ level) c.is_at_most.result many.sound
          (whole s w c.requires.low.0 c.requires.low.1) (omega (arith, log.power_le, many.fits, many.count)) (omega (arith, log.power_le, log.next_power_gt, many.fits, many.count))
          (omega arith) (omega arith) (omega (arith, log.power_le, many.fits, many.count)) c.is_at_most.ensures.at_most;
      fits = log.bound;
      rises = omega arith;
      reads =
          halved_to_power (length s) c.args.probes.now c.is_at_most.new.probes level (omega (arith, log.power_le, many.count)) (omega (arith, log.next_power_gt, many.count))
          c.is_at_most.ensures.probes;
    }

pub halving-preserved : goal.halving-preserved
halving-preserved g c =
    let h = c.halving in
    let s = c.args.numbers.now.numbers in
    let power : 2 ^ h.level ≡ 2 ^ (h.level - 1) * 2 = power_halved h.level (omega arith) in
    let half = 2 ^ (h.level - 1) in
    let yes = c.is_at_most-in-halving.result in
    let small : half < 18446744073709551616 = omega (arith, h.invariant.range.within, c.count-count.ensures.fits) in
    record {
      range =
          turned_by s c.args.numbers.now.length (g.P.Place.number c.args.wanted) h.low (2 ^ h.level) (h.low + 1 * half % 18446744073709551616) half
          (h.low + bool_byte yes * half % 18446744073709551616) half yes c.count-count.ensures.sound h.invariant.range (omega arith) (omega arith)
          (omega arith) (omega (arith, moved_up yes half small)) (omega arith) c.is_at_most-in-halving.ensures.at_most;
      fits = omega (arith, h.invariant.fits);
      rises = omega (arith, h.invariant.rises, c.is_at_most-in-halving.ensures.rises);
      reads =
          halved 1 (length s) c.args.probes.now h.probes c.is_at_most-in-halving.new.probes (2 ^ h.level) half (omega arith) c.is_at_most-in-halving.ensures.probes
          (omega arith) h.invariant.reads;
    }

pub returns-clause-last : goal.returns-clause-last
returns-clause-last g c =
    let h = c.halving in
    let zero : h.level ≡ 0 = omega (arith, c.halving-test.false) in
    found c.args.numbers.now.numbers c.args.numbers.now.length (g.P.Place.number c.args.wanted) h.low 1 c.count-count.ensures.sound (rw zero at h.invariant.range) (omega arith)

pub returns-clause-reads : goal.returns-clause-reads
returns-clause-reads g c =
    let h = c.halving in
    let zero : h.level ≡ 0 = omega (arith, c.halving-test.false) in
    reads_counted 1 (length c.args.numbers.now.numbers) c.args.probes.now h.probes 1 (omega arith) (omega (arith, h.invariant.rises)) (rw zero at h.invariant.reads)
