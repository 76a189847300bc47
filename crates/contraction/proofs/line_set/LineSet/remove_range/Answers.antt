use Rattle.contraction.proofs.Names.{◌≡◌, ℕ, ◌++◌, false, take, drop, ap, sym, ◌∙◌, arith, Numbers, holds, holds_after}
use Rattle.contraction.proofs.LineSets.{found_later, left, within_after}
use Rattle.contraction.proofs.line_set.LineSet.remove_range.Given as given
use Rattle.contraction.proofs.line_set.LineSet.remove_range.Goals as goal

told : (g : given.Over) (c : goal.After-loop-index g) (k : ℕ) → holds c.loop-index.self-inside.lines.numbers k ≡ holds_after false c.args.self.now.numbers c.args.first c.args.past k
told g c k =
    let one = c.before-before in
    let two = c.before-last in
    let s = c.args.self.now.numbers in
    let order = found_later one.ensures.before two.ensures.before (omega arith) in
    let e : c.loop-index.index ≡ two.result = omega (arith, c.loop-index.auto.index-end order) in
    ap (λ l. holds l k) (rw c.self.view_is at c.loop-index.invariant.lines) ∙ ap (λ j. holds (take one.result s ++ drop j s) k) e
    ∙ left k one.ensures.before two.ensures.before (omega arith)

pub invariant_of-self : goal.invariant_of-self
invariant_of-self g c =
    rw (c.loop-index.invariant.whole, c.self.view_is)
    (record {
      rising = c.loop-index.invariant.rising;
      within = λ k h. within_after false c.args.first c.args.past k c.before-before.ensures.sound c.requires (sym (told g c k) ∙ h);
    })

pub returns : goal.returns
returns g c =
    let inv = c.loop-index.invariant in
    record {
      told = told g c;
      lines = inv.whole ∙ ap (λ (r : Numbers). r.length) c.self.view_is;
      capacity = inv.capacity ∙ ap (λ (r : Numbers). r.capacity) c.self.view_is;
    }
