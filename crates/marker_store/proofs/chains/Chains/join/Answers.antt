use Rattle.marker_store.proofs.Names.{◌+◌, ap, ◌∙◌, Chained}
use Rattle.marker_store.specs.Chains.{all_put}
use Rattle.marker_store.specs.Dropping.{kept}
use Rattle.marker_store.specs.declared.drops.Drops.TheVariants.{Nothing}
use Rattle.marker_store.proofs.Changes.{joined_line}
use Rattle.split_vector.specs.Split.{deleted}
use Rattle.marker_store.proofs.chains.Chains.join.Goals as goal

pub returns : goal.returns
returns g c =
    c.remove.ensures ∙ ap (λ (y : Chained). record y { rows = deleted y.rows (c.args.line + 1) 1 }) (c.put_all_back.ensures ∙ ap (all_put c.args.line (kept Nothing)) c.lay_all.ensures)
    ∙ joined_line c.args.line c.args.self.now c.requires.line c.requires.none
