use Rattle.split_vector.proofs.Names.{◌≡◌, ◌+◌, ◌-◌, ◌++◌, length, take, drop, sym, ap, ◌∙◌, arith, length-drop, take_all, split}
use Rattle.std.proofs.lemmas.List.{take_at}
use Rattle.split_vector.proofs.Splits.{moved_up}
use Rattle.split_vector.proofs.vector.SplitVector.raise_part.Goals as goal

pub returns : goal.returns
returns g c =
    let v = c.self.inside in let r = c.self.invariant in let w = c.widen.ensures in let e = c.push_right_slice.ensures in let xs = v.cells.left in let ys = v.cells.right in let p = v.gap - 4096 in
    let asked = rw (← c.self.view_is) at c.requires.here in
    let seen : c.left.result.now ≡ xs = (rw (← c.self.view_is) at c.left.ensures.0) ∙ take_at xs ys v.gap (sym r.gap.0) in
    let part : c.in-Some.part.now ≡ drop p xs =
    c.in-Some.ensures.cases.same ∙ ap (λ l. take 4096 (take (length l - p) (drop p l))) seen
    ∙ ap (take 4096) (take_all (length xs - p) (drop p xs) (omega (arith, length-drop p xs))) ∙ take_all 4096 (drop p xs) (omega (arith, length-drop p xs, r.gap.0, asked)) in
    rw (← c.self.view_is) (ap (λ l. split l (v.filled + v.spare) p v.moved) ((λ j. (e j).left ++ (e j).right) ∙ (λ j. (w j).left ++ (c.in-Some.part.now ++ (w j).right)) ∙ ap (λ l. take p xs ++ (l ++ ys)) part ∙ moved_up xs ys p))
