use Rattle.split_vector.proofs.Names.{length, sym, ap, ◌∙◌, arith, take, drop, cells_of}
use Rattle.split_vector.proofs.Items.{cells_long, right_run, somes_inj}
use Rattle.split_vector.proofs.cells.Cells.right.Goals as goal

pub slice-requires : goal.slice-requires
slice-requires g c =
    let d = c.args.self.now in let r = c.requires in
    (r.0, (omega (arith, r.1, r.2, cells_long d.left d.spare d.right), (d.right, ap (λ k. take k (drop c.args.place (cells_of d.left d.spare d.right))) r.2 ∙ ap (λ k. take (length d.right) (drop k (cells_of d.left d.spare d.right))) r.1 ∙ right_run d.left d.spare d.right)))

pub returns : goal.returns
returns g c =
    let d = c.args.self.now in let r = c.requires in
    somes_inj _ _ (sym c.slice.ensures ∙ ap (λ k. take k (drop c.args.place (cells_of d.left d.spare d.right))) r.2 ∙ ap (λ k. take (length d.right) (drop k (cells_of d.left d.spare d.right))) r.1 ∙ right_run d.left d.spare d.right)
