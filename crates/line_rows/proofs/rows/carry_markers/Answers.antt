use Rattle.line_rows.proofs.Names.{◌≡◌, ◌+◌, ◌<◌, ◌∷◌, List, length, drop, get_or, sym, ap, ◌∙◌, subst, arith, drop_more, LineEdit, Come, after_edits, FitLines, lines_after_edit, fresh_by, fresh_lines, markers_together, length_after_edit, edit_adds, MarkedLines}
use Rattle.line_rows.proofs.rows.carry_markers.Goals as goal

pub loop-edit-preserved : goal.loop-edit-preserved
loop-edit-preserved c =
    let edits = c.args.edits.now in
    let i = c.loop-edit.edit-index in
    let edit = get_or edits i (Come 0 0) in
    let left = drop (i + 1) edits in
    let old = c.loop-edit.markers in
    let same = c.carry_one.ensures in
    let inside : i < length edits = omega arith in
    let next : drop i edits ≡ edit ∷ left = drop_more edits i (Come 0 0) inside in
    let P : List LineEdit → Type 0 = λ es. FitLines (length old.lines) es in
    let fit = subst P next c.loop-edit.invariant.lines in
    let fresh : fresh_lines (drop i edits) ≡ fresh_by edit + fresh_lines left = ap fresh_lines next in
    let long : length c.carry_one.new.markers.lines ≡ lines_after_edit (length old.lines) edit = ap (λ (m : MarkedLines). length m.lines) same ∙ length_after_edit markers_together old.lines edit fit.0 in
    let adds = edit_adds (length old.lines) edit in
    record {
      markers = ap (λ (m : MarkedLines). record m { lines = after_edits markers_together left m.lines }) same ∙ ap (λ es. record old { lines = after_edits markers_together es old.lines }) (sym next) ∙ c.loop-edit.invariant.markers;
      lines = rw long fit.1;
      fits = omega (arith, c.loop-edit.invariant.fits);
      room = λ some.
          let held = c.loop-edit.invariant.room (omega (arith, some, ap (λ (m : MarkedLines). m.capacity) same)) in
          omega (arith, held, long, adds, fresh, ap (λ (m : MarkedLines). m.line_capacity) same);
    }
