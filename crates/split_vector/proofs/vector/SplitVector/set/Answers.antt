use Rattle.split_vector.proofs.Names.{◌≡◌, ◌+◌, ◌-◌, ◌++◌, length, set, refl, sym, ap, ◌∙◌, arith, set-append_left, set-append_right, split}
use Rattle.split_vector.proofs.vector.SplitVector.set.Goals as goal

pub returns-then-index-self : goal.returns-then-index-self
returns-then-index-self g c =
    let v = c.self.inside in let e = c.replace_left.ensures in let xs = v.cells.left in let ys = v.cells.right in
    rw (← c.self.view_is) (ap (λ l. split l (v.filled + v.spare) v.gap v.moved) ((λ j. (e j).left ++ (e j).right) ∙ sym (set-append_left xs ys c.args.index c.args.item (omega (arith, c.self.invariant.gap.0, c.if-index-self.true)))))

pub returns-else-index-self : goal.returns-else-index-self
returns-else-index-self g c =
    let v = c.self.inside in let r = c.self.invariant in let e = c.replace_right.ensures in let xs = v.cells.left in let ys = v.cells.right in let i = c.args.index in let x = c.args.item in
    let place : i + v.spare - (length xs + v.cells.spare) ≡ i - length xs = omega (arith, r.gap.1) in
    rw (← c.self.view_is) (ap (λ l. split l (v.filled + v.spare) v.gap v.moved)
    ((λ j. (e j).left ++ (e j).right) ∙ ap (λ k. xs ++ set ys k x) place ∙ sym (set-append_right xs ys (length xs) i x refl (omega (arith, r.gap.0, c.if-index-self.false)))))
