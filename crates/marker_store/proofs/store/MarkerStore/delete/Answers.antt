use Rattle.marker_store.proofs.Names.{ap, ◌∙◌, Chained}
use Rattle.ed_model.specs.Changes.{without_marker}
use Rattle.marker_store.specs.Lines.{without_marker_on}
use Rattle.marker_store.specs.Store.{all_lines}
use Rattle.marker_store.proofs.Stores.{set_all, marker_nil, less_on, less_sound, less_went, less_lines, less_fewer}
use Rattle.marker_store.proofs.store.MarkerStore.delete.Goals as goal

pub invariant_of-self : goal.invariant_of-self
invariant_of-self g c = less_sound _ _ _ c.self.invariant _ c.self.view_is _ (less_on _ _ c.args.number c.args.line c.delete_on.ensures)

pub returns-clause-went : goal.returns-clause-went
returns-clause-went g c = less_went _ _ _ c.self.invariant _ c.self.view_is _ (less_on _ _ c.args.number c.args.line c.delete_on.ensures) _ _ c.len.ensures.len c.len-markers.ensures.len

pub returns-clause-lines : goal.returns-clause-lines
returns-clause-lines g c =
    let d = c.self.inside in
    less_lines _ _ _ c.self.invariant _ c.self.view_is _ (less_on _ _ c.args.number c.args.line c.delete_on.ensures) (without_marker_on c.args.line c.args.number)
    (ap (λ (x : Chained). all_lines d.lines x.rows) c.delete_on.ensures ∙ set_all (without_marker c.args.number) d.lines c.args.line d.chains.rows (marker_nil c.args.number) c.self.invariant.headed)

pub returns-clause-fewer : goal.returns-clause-fewer
returns-clause-fewer g c = less_fewer _ _ _ c.self.invariant _ c.self.view_is _ (less_on _ _ c.args.number c.args.line c.delete_on.ensures)
