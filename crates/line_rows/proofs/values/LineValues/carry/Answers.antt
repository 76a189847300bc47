use Rattle.line_rows.proofs.Names.{◌≡◌, ◌+◌, ◌<◌, ◌∷◌, List, length, drop, get_or, sym, ap, ◌∙◌, subst, arith, drop_more, LineEdit, Come, FitLines, lines_after_edit, fresh_by, fresh_lines, first_or, values_after, length_after_edit, edit_adds}
use Rattle.line_rows.specs.Values.{HasRoomForLines}
use Rattle.line_rows.proofs.Carried.{room_after_edit}
use Rattle.line_rows.proofs.values.LineValues.carry.Goals as goal

pub loop-edit-preserved : goal.loop-edit-preserved
loop-edit-preserved g c =
    let edits = c.args.edits.now in
    let i = c.loop-edit.edit-index in
    let edit = get_or edits i (Come 0 0) in
    let left = drop (i + 1) edits in
    let old = c.loop-edit.self in
    let inside : i < length edits = omega arith in
    let next : drop i edits ≡ edit ∷ left = drop_more edits i (Come 0 0) inside in
    let P : List LineEdit → Type 0 = λ es. FitLines (length old.values) es in
    let fit = subst P next c.loop-edit.invariant.lines in
    let fresh : fresh_lines (drop i edits) ≡ fresh_by edit + fresh_lines left = ap fresh_lines next in
    let long : length c.carry_one.new.self.values ≡ lines_after_edit (length old.values) edit =
    ap (λ v. length v.values) c.carry_one.ensures ∙ length_after_edit (first_or old.default) old.values edit fit.0 in
    record {
      values = ap (values_after left) c.carry_one.ensures ∙ ap (λ es. values_after es old) (sym next) ∙ c.loop-edit.invariant.values;
      lines = rw long fit.1;
      fits = omega (arith, c.loop-edit.invariant.fits, edit_adds (length old.values) edit);
      room = subst (HasRoomForLines (fresh_lines left)) (sym c.carry_one.ensures) (room_after_edit edit old.stored old.capacity (fresh_lines left) (λ was. omega (arith, c.loop-edit.invariant.room was, fresh)));
    }
