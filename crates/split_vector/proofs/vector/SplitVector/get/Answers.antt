use Rattle.split_vector.proofs.Names.{◌≡◌, ◌+◌, ◌<◌, ◌≤◌, ◌⊎◌, inl, inr, [], ◌∷◌, ◌++◌, length, take, drop, sym, ap, ◌∙◌, arith, length-append}
use Rattle.split_vector.proofs.Items.{cells_long, item_cell, read_one, somes_inj}
use Rattle.split_vector.proofs.vector.SplitVector.get.Goals as goal
use Rattle.split_vector.proofs.vector.SplitVector.get.Goals.{then-index-self, else-index-self}

pub item-requires : goal.item-requires
item-requires g c =
    let v = c.self.inside in let r = c.self.invariant in let xs = v.cells.left in let n = v.cells.spare in let ys = v.cells.right in let i = c.args.index in let p = c.if-index-self.place in
    let asked = rw (← c.self.view_is) at c.requires in
    let side : ((p ≡ i) × (i < length xs)) ⊎ ((p ≡ i + n) × (length xs ≤ i)) = elim c.if-index-self.branch [
      | then-index-self w ↦ inl (w.place-is, omega (arith, r.gap.0, w.if-index-self.true))
      | else-index-self w ↦ inr (w.place-is ∙ ap (λ k. i + k) r.gap.1, omega (arith, r.gap.0, w.if-index-self.false))
    ] in
    (sym r.block.0, (omega (arith, side, asked, length-append xs ys, cells_long xs n ys), (take 1 (drop i (xs ++ ys)), item_cell xs n ys i p side)))

pub returns : goal.returns
returns g c =
    let v = c.self.inside in let r = c.self.invariant in let xs = v.cells.left in let n = v.cells.spare in let ys = v.cells.right in let i = c.args.index in let p = c.if-index-self.place in
    let side : ((p ≡ i) × (i < length xs)) ⊎ ((p ≡ i + n) × (length xs ≤ i)) = elim c.if-index-self.branch [
      | then-index-self w ↦ inl (w.place-is, omega (arith, r.gap.0, w.if-index-self.true))
      | else-index-self w ↦ inr (w.place-is ∙ ap (λ k. i + k) r.gap.1, omega (arith, r.gap.0, w.if-index-self.false))
    ] in
    rw (← c.self.view_is) (read_one (xs ++ ys) i c.item.result (somes_inj (take 1 (drop i (xs ++ ys))) (c.item.result ∷ []) (sym (item_cell xs n ys i p side) ∙ c.item.ensures)))
