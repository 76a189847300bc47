use Rattle.split_vector.proofs.Names.{sym, ap, ◌∙◌, take, cells_of}
use Rattle.split_vector.proofs.Items.{left_run, somes_inj}
use Rattle.split_vector.proofs.cells.Cells.left.Goals as goal

pub returns : goal.returns
returns g c =
    let d = c.args.self.now in
    somes_inj _ _ (sym c.slice.ensures ∙ ap (λ k. take k (cells_of d.left d.spare d.right)) c.requires.1 ∙ left_run d.left d.spare d.right)
