use Rattle.script_ends.proofs.Names.{◌<◌, ◌≤◌, ◌+◌, ℕ, arith, length, sym, ap, subst, length-take, rules, Consumes}
use Rattle.script_ends.proofs.TakenBytes.{taken_none, taken_more, taken_kept, text_then_end, text_when_full, takes, takes_more, few_more}
use Rattle.script_ends.proofs.reading.fill.Goals as goal

pub loop-text-init : goal.loop-text-init
loop-text-init g c = record {
  consumed = subst (Consumes _ _) (sym c.requires.empty) (taken_none _);
  few = omega (arith, ap length c.requires.empty);
  fresh = c.requires.fresh;
}

pub returns-in_err-count-clause-taken : goal.returns-in_err-count-clause-taken
returns-in_err-count-clause-taken g c = takes _ _ _ c.loop-text.text.items c.loop-text.invariant.few (taken_kept _ _ _ c.loop-text.text.items c.loop-text.invariant.consumed c.in_err-count.ensures.bytes)

pub returns-then-count-eq0-clause-text : goal.returns-then-count-eq0-clause-text
returns-then-count-eq0-clause-text g c =
    let some : 0 < length c.read.new.buf = omega (arith, c.read.auto.buf, length-take {A = ℕ}) in
    text_then_end _ _ _ _ c.loop-text.text.items c.read.new.buf c.in_ok-count.count c.if-count-eq0.true c.loop-text.invariant.few c.loop-text.invariant.consumed c.in_ok-count.ensures.bytes.0 (c.in_ok-count.ensures.bytes.1 c.if-count-eq0.true some)

pub returns-then-count-eq0-clause-taken : goal.returns-then-count-eq0-clause-taken
returns-then-count-eq0-clause-taken g c = takes_more _ _ _ _ c.loop-text.text.items c.read.new.buf c.in_ok-count.count c.in_ok-count.ensures.bound.0 (omega (arith, c.read.auto.buf, length-take {A = ℕ})) c.loop-text.invariant.consumed c.in_ok-count.ensures.bytes.0

pub loop-text-preserved : goal.loop-text-preserved
loop-text-preserved g c =
    let room : length c.loop-text.text.items + length c.read.new.buf ≤ c.args.limit + 1 = omega (arith, c.read.auto.buf, length-take {A = ℕ}) in
    record {
      consumed = subst (Consumes _ _) (sym c.in_ok-extend_from_slice.ensures.items) (taken_more _ _ _ c.loop-text.text.items _ c.loop-text.invariant.consumed c.in_ok-count.ensures.bytes.0);
      few = few_more _ _ c.loop-text.text.items c.read.new.buf c.in_ok-count.count c.in_ok-extend_from_slice.ensures.items c.in_ok-count.ensures.bound.0 room;
      fresh = search rules;
    }

pub returns-in_err-extend_from_slice-clause-taken : goal.returns-in_err-extend_from_slice-clause-taken
returns-in_err-extend_from_slice-clause-taken g c = takes_more _ _ _ _ c.loop-text.text.items c.read.new.buf c.in_ok-count.count c.in_ok-count.ensures.bound.0 (omega (arith, c.read.auto.buf, length-take {A = ℕ})) c.loop-text.invariant.consumed c.in_ok-count.ensures.bytes.0

pub returns-clause-text : goal.returns-clause-text
returns-clause-text g c = text_when_full _ _ _ c.loop-text.text.items (omega arith) c.loop-text.invariant.consumed
