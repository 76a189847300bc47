use Rattle.scene.proofs.ChangeSteps.{small_lent}
use Rattle.scene.proofs.performing.tell_after_change.Goals as goal

pub tell_made-requires-clause-small : goal.tell_made-requires-clause-small
tell_made-requires-clause-small c =
    let s = c.requires.can.0 in
    let text = c.requires.can.1 in
    let there = c.requires.can.2 in
    let can = c.requires.can.3 in
    let at = c.step_at-step.ensures s text there can.fits in
    small_lent c.step_at-step.result s text at.0 at.1 can.place can.count

pub tell_made-requires-clause-can : goal.tell_made-requires-clause-can
tell_made-requires-clause-can c =
    let s = c.requires.can.0 in
    let text = c.requires.can.1 in
    let there = c.requires.can.2 in
    let can = c.requires.can.3 in
    let at = c.step_at-step.ensures s text there can.fits in
    rw c.bits_after-bits.ensures (
      text,
      record {
        on = at.1;
        unheard = λ none. absurd (cc);
        shared = rw at.0 (λ some. can.shared c.if-not-hears.false);
        room = rw at.0 can.room;
      },
    )
