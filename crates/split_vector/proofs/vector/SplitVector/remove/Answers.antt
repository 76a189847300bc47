use Rattle.split_vector.proofs.Names.{◌≡◌, ◌+◌, ◌-◌, ◌≤◌, ◌++◌, length, ap, ◌∙◌, arith, length-append, deleted, split}
use Rattle.split_vector.specs.Split.{Split}
use Rattle.split_vector.proofs.Splits.{deleted_around}
use Rattle.split_vector.proofs.vector.SplitVector.remove.Goals as goal

pub returns : goal.returns
returns g c =
    let v = c.self.inside in let r = c.self.invariant in let w = c.widen.ensures in let xs = v.cells.left in let ys = v.cells.right in let p = c.args.place in let n = c.args.count in
    let is = c.self.view_is ∙ c.reach.ensures.0 in let here = ap (λ (s : Split g.row.T.Denot). s.gap) c.self.view_is in
    let items = ap (λ (s : Split g.row.T.Denot). s.items) is in let long = ap length items in
    let near : p ≤ v.gap = omega (arith, here, c.reach.ensures.1) in let far : v.gap ≤ p + n = omega (arith, here, c.reach.ensures.2) in
    let room : v.filled - n + (v.spare + n) ≡ v.filled + v.spare = omega (arith, long, length-append xs ys, r.len, c.requires) in
    (λ j. split (((λ i. (w i).left ++ (w i).right) ∙ deleted_around xs ys p n v.gap r.gap.0 near far ∙ ap (λ l. deleted l p n) items) j) ((room ∙ ap (λ (s : Split g.row.T.Denot). s.capacity) is) j) p (ap (λ (s : Split g.row.T.Denot). s.moved) is j))
