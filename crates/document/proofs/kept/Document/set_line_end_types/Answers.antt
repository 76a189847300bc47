use Rattle.document.proofs.Names.{◌≡◌, ap, length, subst, sym, ◌∙◌, bytes_of, rows_together, LineEdit, List, after_edits, IsIndexOf, edits_of_setting, Kept, KeptRows, text_of, PlacesOf}
use Rattle.document.proofs.LineSteps.{lines_of_index}
use Rattle.document.proofs.kept.Document.set_line_end_types.Goals as goal

pub invariant_of-self : goal.invariant_of-self
invariant_of-self c =
    let d = c.self.inside in
    let was = c.self.invariant in
    let types = d.parts.places.index.types in
    let text = bytes_of d.parts.cells.cells in
    let set = c.set_types.ensures in
    let told : c.args.edits.now ≡ edits_of_setting types c.args.types text =
    c.requires.edits ∙ ap (λ (k : Kept). edits_of_setting k.document.line_end_types c.args.types (text_of k.document)) (sym c.self.view_is) in
    let index = subst (λ bytes. IsIndexOf bytes c.set_types.new.self.index) c.halves.ensures.joined set.index in
    let rows = ap (λ (k : KeptRows). k.rows) c.carry.ensures.rows
    ∙ ap (λ (es : List LineEdit). after_edits rows_together es d.parts.rows.rows) told
    ∙ sym (c.edits_of_settings.ensures.rows rows_together c.rows_that_meet.ensures.rows types c.args.types text d.parts.rows.rows (was.row_count ∙ ap length was.indexed.starts)) in
    record {
      indexed = index;
      row_count = ap length rows ∙ c.rows_match_lines.ensures.rows_regrouped rows_together types c.args.types text d.parts.rows.rows ∙ sym (lines_of_index c.args.types text c.set_types.new.self.index index set.set.0);
      indicator_count = ap (λ (p : PlacesOf). p.decorated.length) set.others ∙ was.indicator_count;
      width = ap (λ (p : PlacesOf). p.is_large) set.others ∙ was.width;
      fits = was.fits;
    }
