use Rattle.undo_history.proofs.Names.{◌∙◌, ap, sym, refl, arith, Kept}
use Rattle.std.proofs.lemmas.Result.{on_ok_weaker}
use Rattle.undo_history.proofs.Held.{blocks_fit, fits_in_blocks}
use Rattle.undo_history.proofs.history.UndoHistory.reserve.Goals as goal
use Rattle.undo_history.proofs.history.UndoHistory.reserve.Goals.{else-steps-spare-via-then-steps-spare+else-bytes-spare, else-steps-spare-via-else-steps-spare}

pub returns-then-bytes-spare-clause-reserved : goal.returns-then-bytes-spare-clause-reserved
returns-then-bytes-spare-clause-reserved c = (
  λ _. blocks_fit c.self.inside c.args.self.now c.args.steps c.args.bytes c.self.invariant.in_order c.self.view_is
      (omega (arith, c.if-steps-spare.true, c.spare.ensures)) (omega (arith, c.if-bytes-spare.true, c.spare-then-steps-spare.ensures)),
  λ _. (refl, refl),
)

pub returns-clause-reserved : goal.returns-clause-reserved
returns-clause-reserved c = (
  on_ok_weaker c.grow.result (λ fits _. fits) c.grow.ensures.ok,
  λ room.
      let fits = fits_in_blocks c.self.inside c.args.self.now c.args.steps c.args.bytes c.self.invariant.in_order c.self.view_is (room (sym (ap (λ (k : Kept). k.history.collecting) c.self.view_is) ∙ c.if-not-self.false)) in
      absurd (elim c.else-steps-spare.branch [
        | else-steps-spare-via-then-steps-spare+else-bytes-spare w ↦ omega (arith, w.if-bytes-spare.false, w.spare-then-steps-spare.ensures, fits)
        | else-steps-spare-via-else-steps-spare w ↦ omega (arith, w.if-steps-spare.false, c.spare.ensures, fits)
      ]),
)
