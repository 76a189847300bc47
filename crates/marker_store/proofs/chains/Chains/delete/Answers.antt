use Rattle.marker_store.proofs.Names.{ap, ◌∙◌}
use Rattle.marker_store.specs.Chains.{all_put}
use Rattle.marker_store.specs.Dropping.{kept}
use Rattle.marker_store.proofs.Changes.{deleted_row}
use Rattle.marker_store.proofs.chains.Chains.delete.Goals as goal

pub returns : goal.returns
returns g c = c.put_all_back.ensures ∙ ap (all_put c.args.line (kept c.args.drops)) c.lay_all.ensures ∙ deleted_row c.args.line c.args.self.now c.requires.line c.requires.none (kept c.args.drops)
