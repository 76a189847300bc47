use Rattle.contraction.proofs.Names.{sym, ◌∙◌}
use Rattle.contraction.proofs.LineSets.{came, within_fresh}
use Rattle.contraction.proofs.line_set.LineSet.put_lines_in.Goals as goal

pub invariant_of-self : goal.invariant_of-self
invariant_of-self g c =
    let made = c.raise.ensures in
    let i = c.before-before.ensures in
    rw (made.raised, c.self.view_is)
    (record {
      rising = (rw (made.raised, c.self.view_is) at made.sound).rising;
      within = λ k h. within_fresh c.args.line c.args.count k i.sound c.requires.line (sym (came c.args.count k i.before) ∙ h);
    })
