use Rattle.contraction.proofs.Names.{◌-◌, sym, ap, ◌∙◌, arith}
use Rattle.contraction.proofs.LineSets.{none_within, went, within_without}
use Rattle.contraction.proofs.line_set.LineSet.take_lines_out.Goals as goal

pub lower-requires : goal.lower-requires
lower-requires g c =
    let i = c.before-before.ensures in
    let gone = c.remove_range.ensures in
    let far = none_within c.args.self.now.numbers i.before gone.told in
    rw c.self.view_is
    (record {
      within = i.before.some;
      at_most = omega (arith, gone.lines, c.requires);
      next = λ h. omega (arith, far h);
      behind = λ h.
          let last = i.before.before (c.before-before.result - 1) (omega arith) in
          (omega (arith, gone.lines, c.requires), λ l. omega (arith, far l));
    })

pub invariant_of-self : goal.invariant_of-self
invariant_of-self g c =
    let made = c.lower.ensures in
    let i = c.before-before.ensures in
    let gone = c.remove_range.ensures in
    rw (made.lowered, c.self.view_is, gone.lines)
    (record {
      rising = (rw (made.lowered, c.self.view_is) at made.sound).rising;
      within = λ k h.
          within_without c.args.line c.args.count k c.is_sound.ensures.sound c.requires
          (sym (went c.args.self.now.numbers c.args.count k i.sound i.before gone.told) ∙ h);
    })

pub returns : goal.returns
returns g c =
    let i = c.before-before.ensures in
    let gone = c.remove_range.ensures in
    rw (c.lower.ensures.lowered, c.self.view_is)
    (record {
      told = λ k. went c.args.self.now.numbers c.args.count k i.sound i.before gone.told;
      lines = ap (λ n. n - c.args.count) gone.lines;
      capacity = gone.capacity;
    })
