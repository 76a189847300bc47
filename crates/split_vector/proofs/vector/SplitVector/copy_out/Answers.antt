use Rattle.split_vector.proofs.Names.{◌+◌, ◌-◌, ◌++◌, length, take, drop, ap, ◌∙◌, arith, take_all, length-drop}
use Rattle.split_vector.proofs.Splits.{range_across}
use Rattle.split_vector.proofs.vector.SplitVector.copy_out.Goals as goal

pub returns-else-gap-start : goal.returns-else-gap-start
returns-else-gap-start g c =
    let v = c.self.inside in let items = v.cells.left ++ v.cells.right in let s = c.args.start in let e = s + length c.args.target.now in let left = take v.gap items in
    let before = rw (← c.self.view_is) at c.left-else-gap-start.ensures.0 in let behind = rw (← c.self.view_is) at c.right-else-gap-start.ensures.0 in
    rw (← c.self.view_is) ((λ j.
    (c.copy_from_slice-else-gap-start.ensures.after ∙ ap (λ l. take (length l - s) (drop s l)) before ∙ take_all (length left - s) (drop s left) (omega (arith, length-drop s left))) j
    ++ (c.copy_from_slice-else-gap-start-2.ensures.after ∙ ap (take (e - v.gap)) behind) j) ∙ range_across items s e v.gap (omega arith) (omega arith))
