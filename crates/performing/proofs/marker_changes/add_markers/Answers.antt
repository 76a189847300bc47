use Rattle.ed_model.specs.LinePlans.{numbers_in}
use Rattle.performing.proofs.Changes.{[], ◌<◌, length, ap, sym, subst, arith, common_steps, nat_lt, document_of, heard, marker_notice, AddMarkers, Markers, some_added, is_made_if, flipped}
use Rattle.performing.proofs.marker_changes.add_markers.Goals as goal

pub returns : goal.returns
returns c =
    let k = c.args.document.now in let d = k.document in let line = c.args.line in let numbers = numbers_in c.args.mask in
    let within : line < length d.rows = subst (λ n. line < n) (sym c.parts_match_text.ensures.rows) c.requires.line in
    is_made_if (nat_lt 0 (length numbers)) [] (AddMarkers line c.args.mask) k c.reserve_markers.new.self c.add_markers_reserved.new.self (Markers line) c.note_if.result (ap document_of c.reserve_markers.ensures.grown.0)
    (rw c.count_numbers-count.ensures.count at c.note_if.ensures) (ap document_of c.add_markers_reserved.ensures)
    (λ v views. flipped _ _ (heard views (marker_notice d line)) (some_added line numbers d within)) c.requires.line (grind (arith, common_steps))
