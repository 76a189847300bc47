use Rattle.marker_store.proofs.Names.{ap, ◌∙◌, Chained}
use Rattle.ed_model.specs.Changes.{is_of_number}
use Rattle.marker_store.specs.Dropping.{kept_rows}
use Rattle.marker_store.specs.Store.{all_lines}
use Rattle.marker_store.specs.Lines.{without}
use Rattle.marker_store.proofs.Stores.{number_rows, without_all, less_kept, less_sound, less_went, less_lines, less_fewer}
use Rattle.marker_store.proofs.store.MarkerStore.delete_all.Goals as goal

pub invariant_of-self : goal.invariant_of-self
invariant_of-self g c = less_sound _ _ _ c.self.invariant _ c.self.view_is _ (less_kept _ _ _ c.delete_all.ensures)

pub returns-clause-went : goal.returns-clause-went
returns-clause-went g c = less_went _ _ _ c.self.invariant _ c.self.view_is _ (less_kept _ _ _ c.delete_all.ensures) _ _ c.len.ensures.len c.len-markers.ensures.len

pub returns-clause-lines : goal.returns-clause-lines
returns-clause-lines g c =
    let d = c.self.inside in
    less_lines _ _ _ c.self.invariant _ c.self.view_is _ (less_kept _ _ _ c.delete_all.ensures) (without (is_of_number c.args.number))
    (ap (λ (x : Chained). all_lines d.lines x.rows) c.delete_all.ensures ∙ ap (λ n. all_lines d.lines (kept_rows n d.chains.rows)) c.of_number.ensures ∙ ap (all_lines d.lines) (number_rows c.args.number d.chains.rows) ∙ without_all (is_of_number c.args.number) d.lines d.chains.rows)

pub returns-clause-fewer : goal.returns-clause-fewer
returns-clause-fewer g c = less_fewer _ _ _ c.self.invariant _ c.self.view_is _ (less_kept _ _ _ c.delete_all.ensures)
