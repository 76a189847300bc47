use Rattle.undo_history.proofs.Names.{◌≡◌, ap, refl, arith, Kept}
use Rattle.std.proofs.Common.{rules}
use Rattle.std.proofs.lemmas.Result.{on_ok_weaker}
use Rattle.undo_history.proofs.Held.{held_in, blocks_fit}
use Rattle.undo_history.proofs.history.UndoHistory.grow.Goals as goal

pub returns-clause-ok : goal.returns-clause-ok
returns-clause-ok c =
    let steps = c.in_ok-reserve.ensures.reserved.0 in
    on_ok_weaker c.reserve-2.result
    (λ bytes. blocks_fit (record c.self.inside { steps = c.reserve.new.self; bytes = c.reserve-2.new.self }) _ c.args.steps c.args.bytes
    (rw (c.reserve.ensures.grown.0, c.reserve-2.ensures.grown.0) c.self.invariant.in_order) refl steps bytes)
    c.reserve-2.ensures.reserved.0

pub returns-clause-grown : goal.returns-clause-grown
returns-clause-grown c =
    let held = held_in c.self.inside c.args.self.now c.self.invariant.in_order c.self.view_is in
    let steps : c.self.inside.steps.capacity ≡ c.args.self.now.capacity.steps = ap (λ (k : Kept). k.capacity.steps) c.self.view_is in
    let bytes : c.self.inside.bytes.capacity ≡ c.args.self.now.capacity.bytes = ap (λ (k : Kept). k.capacity.bytes) c.self.view_is in (
      search rules,
      (omega (arith, steps, c.reserve.ensures.grown), omega (arith, bytes, c.reserve-2.ensures.grown)),
      (rw (held.0, ← steps) c.reserve.ensures.grown.2, rw (held.1, ← bytes) c.reserve-2.ensures.grown.2),
    )
