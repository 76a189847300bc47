use Rattle.performing.proofs.Changes.{◌<◌, true, [], ◌∷◌, length, refl, ap, sym, subst, arith, common_steps, document_of, heard, marker_notice, AddMarker, Markers, some_added, is_made_if, flipped}
use Rattle.performing.proofs.marker_changes.add_marker.Goals as goal

pub returns : goal.returns
returns c =
    let k = c.args.document.now in let d = k.document in let line = c.args.line in let within : line < length d.rows = subst (λ n. line < n) (sym c.parts_match_text.ensures.rows) c.requires.line in
    is_made_if true [] (AddMarker line c.args.number) k c.reserve_markers.new.self c.add_marker_reserved.new.self (Markers line) (Markers line) (ap document_of c.reserve_markers.ensures.grown.0) refl
    (ap document_of c.add_marker_reserved.ensures.document)
    (λ v views. flipped _ true (heard views (marker_notice d line)) (some_added line (c.args.number ∷ []) d within)) c.requires.line (grind (arith, common_steps))
