use Rattle.marker_store.proofs.Names.{ap, ◌∙◌}
use Rattle.ed_model.specs.Changes.{without_first}
use Rattle.marker_store.specs.Chains.{all_put}
use Rattle.marker_store.proofs.Changes.{deleted_row}
use Rattle.marker_store.proofs.chains.Chains.delete_first.Goals as goal

pub returns : goal.returns
returns g c =
    c.put_back_but_first.ensures ∙ ap (all_put c.args.line (without_first c.args.number)) c.lay_all.ensures ∙ deleted_row c.args.line c.args.self.now c.requires.line c.requires.none (without_first c.args.number)
