use Rattle.split_vector.proofs.Names.{◌+◌, ◌++◌, ap, ◌∙◌, split}
use Rattle.split_vector.proofs.Splits.{moved_up}
use Rattle.split_vector.proofs.vector.SplitVector.slide_near.Goals as goal

pub returns-then-place-self : goal.returns-then-place-self
returns-then-place-self g c =
    let v = c.self.inside in let e = c.raise.ensures in
    rw (← c.self.view_is) (ap (λ l. split l (v.filled + v.spare) c.args.place v.moved) ((λ j. (e j).left ++ (e j).right) ∙ moved_up v.cells.left v.cells.right c.args.place))
