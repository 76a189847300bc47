use Rattle.std.proofs.Common.{◌-◌, ◌/◌, refl, arith}
use Rattle.rising_numbers.proofs.Halving.{halved, reads_counted, later_half, earlier_half, found, below_where_not}
use Rattle.rising_numbers.proofs.lookups.last_among.Goals as goal

pub halving-preserved-then-is_at_most : goal.halving-preserved-then-is_at_most
halving-preserved-then-is_at_most g c =
    let h = c.halving in
    record {
      end = omega (arith, h.invariant.end);
      range =
          later_half c.args.numbers.now.numbers (g.P.Place.number c.args.wanted) h.low h.width (h.width / 2) h.invariant.range (omega arith)
          (omega (arith, c.if-is_at_most.ensures.0 refl, c.probe.ensures.number));
      rises = omega arith;
      reads = halved 0 _ _ h.probes c.probe.new.probes h.width (h.width - h.width / 2) (omega arith) c.probe.ensures.probes refl h.invariant.reads;
    }

pub halving-preserved : goal.halving-preserved
halving-preserved g c =
    let h = c.halving in
    record {
      end = omega (arith, h.invariant.end);
      range =
          earlier_half c.args.numbers.now.numbers c.args.numbers.now.length (g.P.Place.number c.args.wanted) h.low h.width (h.width / 2) c.are_rising.ensures
          h.invariant.range (omega arith) (omega arith) (omega (arith, below_where_not _ _ c.if-is_at_most.ensures.1, c.probe.ensures.number));
      rises = omega arith;
      reads = halved 0 _ _ h.probes c.probe.new.probes h.width (h.width - h.width / 2) (omega arith) c.probe.ensures.probes refl h.invariant.reads;
    }

pub returns-clause-last : goal.returns-clause-last
returns-clause-last g c =
    let h = c.halving in
    found c.args.numbers.now.numbers c.args.numbers.now.length (g.P.Place.number c.args.wanted) h.low h.width c.are_rising.ensures h.invariant.range (omega arith)

pub returns-clause-reads : goal.returns-clause-reads
returns-clause-reads g c = reads_counted 0 _ _ _ c.halving.width (omega arith) (omega arith) c.halving.invariant.reads
