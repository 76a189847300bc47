use Rattle.marker_store.proofs.Names.{List, [], get_or, set, ap, sym, ◌∙◌, Marker}
use Rattle.ed_model.specs.Changes.{without_marker}
use Rattle.marker_store.proofs.Stores.{kept_each}
use Rattle.marker_store.proofs.chains.Chains.delete_on.Goals as goal

pub returns-in-None : goal.returns-in-None
returns-in-None g c =
    c.delete.ensures ∙ ap (λ (r : List Marker). record c.args.self.now { rows = set c.args.self.now.rows c.args.line r }) (kept_each (get_or c.args.self.now.rows c.args.line []) ∙ ap (λ n. without_marker n (get_or c.args.self.now.rows c.args.line [])) (sym c.in-None.is))
