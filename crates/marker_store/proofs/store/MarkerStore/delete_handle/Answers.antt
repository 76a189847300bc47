use Rattle.marker_store.proofs.Names.{◌==◌, List, refl, ap, ◌∙◌, list_any, Chained, Marker}
use Rattle.marker_store.specs.declared.drops.Drops.TheVariants.{Handle}
use Rattle.marker_store.specs.Store.{all_lines}
use Rattle.marker_store.specs.Lines.{without}
use Rattle.marker_store.proofs.Stores.{without_all, first_all, less_kept, less_sound, less_lines, less_fewer}
use Rattle.marker_store.proofs.store.MarkerStore.delete_handle.Goals as goal

pub invariant_of-self : goal.invariant_of-self
invariant_of-self g c = less_sound _ _ _ c.self.invariant _ c.self.view_is _ (less_kept _ _ (Handle c.args.handle) c.delete_all.ensures)

pub returns-clause-line : goal.returns-clause-line
returns-clause-line g c =
    rw (← c.self.view_is) (c.line_of_handle-line.ensures ∙ first_all (λ (ms : List Marker). list_any (λ m. m.handle == c.args.handle) ms) refl c.self.inside.lines c.self.inside.chains.rows 0 c.self.invariant.headed)

pub returns-clause-lines : goal.returns-clause-lines
returns-clause-lines g c =
    let d = c.self.inside in
    less_lines _ _ _ c.self.invariant _ c.self.view_is _ (less_kept _ _ (Handle c.args.handle) c.delete_all.ensures) (without (λ (m : Marker). m.handle == c.args.handle))
    (ap (λ (x : Chained). all_lines d.lines x.rows) c.delete_all.ensures ∙ without_all (λ (m : Marker). m.handle == c.args.handle) d.lines d.chains.rows)

pub returns-clause-fewer : goal.returns-clause-fewer
returns-clause-fewer g c = less_fewer _ _ _ c.self.invariant _ c.self.view_is _ (less_kept _ _ (Handle c.args.handle) c.delete_all.ensures)
