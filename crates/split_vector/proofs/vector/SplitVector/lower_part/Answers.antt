use Rattle.split_vector.proofs.Names.{◌≡◌, ◌+◌, ◌++◌, length, take, drop, sym, ap, ◌∙◌, arith, length-append, length-take, length-drop, take_all, take-append-drop, append_assoc, split}
use Rattle.std.proofs.lemmas.List.{drop_at}
use Rattle.split_vector.specs.declared.cells.Cells.{Cells}
use Rattle.split_vector.proofs.vector.SplitVector.lower_part.Goals as goal

pub invariant_of-self : goal.invariant_of-self
invariant_of-self g c =
    let v = c.self.inside in let r = c.self.invariant in let w = c.widen.ensures in let e = c.push_slice.ensures in let xs = v.cells.left in let ys = v.cells.right in
    let asked = rw (← c.self.view_is) at c.requires.here in
    let seen : c.right.result.now ≡ ys = (rw (← c.self.view_is) at c.right.ensures.0) ∙ drop_at xs ys v.gap (sym r.gap.0) in
    let part = ap length (c.in-Some.ensures.cases.same ∙ ap (take 4096) seen) in
    let kept = ap length (ap (λ (d : Cells g.row.T.Denot). d.left) w ∙ take_all v.gap xs (omega (arith, r.gap.0))) in let spare = ap (λ (d : Cells g.row.T.Denot). d.spare) w in
    let left = ap (λ (d : Cells g.row.T.Denot). length d.left) e in let left_spare = ap (λ (d : Cells g.row.T.Denot). d.spare) e in
    let right = ap (λ (d : Cells g.row.T.Denot). length d.right) e in let kept_right = ap (λ (d : Cells g.row.T.Denot). length d.right) w in
    record {
      block = ((λ j. (e j).at) ∙ (λ j. (w j).at) ∙ r.block.0, r.block.1);
      gap = (omega (arith, left, kept, part, length-append c.widen.new.self.left c.in-Some.part.now, length-take 4096 ys, length-append xs ys, asked, r.gap.0), omega (arith, spare, left_spare, part, length-take 4096 ys, length-append xs ys, asked, r.gap));
      len = omega (arith, left, kept, part, right, kept_right, length-append c.widen.new.self.left c.in-Some.part.now, length-take 4096 ys, length-drop 4096 ys, length-append xs ys, asked, r.gap.0, r.len);
      small = r.small;
    }

pub returns : goal.returns
returns g c =
    let v = c.self.inside in let r = c.self.invariant in let w = c.widen.ensures in let e = c.push_slice.ensures in let xs = v.cells.left in let ys = v.cells.right in
    let seen : c.right.result.now ≡ ys = (rw (← c.self.view_is) at c.right.ensures.0) ∙ drop_at xs ys v.gap (sym r.gap.0) in
    let part : c.in-Some.part.now ≡ take 4096 ys = c.in-Some.ensures.cases.same ∙ ap (take 4096) seen in
    rw (← c.self.view_is) (ap (λ l. split l (v.filled + v.spare) (v.gap + 4096) v.moved)
    ((λ j. (e j).left ++ (e j).right) ∙ (λ j. ((w j).left ++ part j) ++ (w j).right) ∙ ap (λ l. (l ++ take 4096 ys) ++ drop 4096 ys) (take_all v.gap xs (omega (arith, r.gap.0))) ∙ append_assoc xs (take 4096 ys) (drop 4096 ys) ∙ ap (λ l. xs ++ l) (take-append-drop 4096 ys)))
