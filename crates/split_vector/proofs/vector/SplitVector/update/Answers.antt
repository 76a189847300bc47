use Rattle.std.proofs.Common.{sym, ap, subst}
use Rattle.split_vector.specs.Split.{EachBetween, Split}
use Rattle.split_vector.proofs.Updating.{updated_joined, each_in_right}
use Rattle.split_vector.specs.declared.cells.Cells.{Cells}
use Rattle.split_vector.proofs.vector.SplitVector.update.Goals as goal

pub update_right-requires-clause-callable : goal.update_right-requires-clause-callable
update_right-requires-clause-callable g c k d f l =
    let v = c.self.inside in let P = goal.F-pre g c.args.change in
    rw (ap (λ (d : Cells g.row.T.Denot). d.right) c.update_left.ensures.others)
    (each_in_right P c.args.low c.args.high v.gap c.max.result c.max-2.result v.cells.left v.cells.right c.self.invariant.gap.0 c.max.ensures c.max-2.ensures
    (subst (λ (s : Split g.row.T.Denot). EachBetween P c.args.low c.args.high s.items) (sym c.self.view_is) c.requires.callable) k d f l)

pub returns-clause-items : goal.returns-clause-items
returns-clause-items g c =
    let v = c.self.inside in
    rw (← c.self.view_is, ap (λ (d : Cells g.row.T.Denot). d.left) c.update_right.ensures.others)
    (updated_joined (goal.F-post g c.args.change) c.args.low c.args.high v.gap c.min.result c.min-2.result c.max.result c.max-2.result
    v.cells.left v.cells.right c.update_left.new.self.left c.update_right.new.self.right c.self.invariant.gap.0
    c.min.ensures c.min-2.ensures c.max.ensures c.max-2.ensures c.update_left.ensures.items
    (rw (ap (λ (d : Cells g.row.T.Denot). d.right) c.update_left.ensures.others) at c.update_right.ensures.items))
