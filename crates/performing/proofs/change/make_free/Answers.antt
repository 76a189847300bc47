use Rattle.performing.proofs.Changes.{refl, ap, arith, common_steps, document_of, heard, marker_notice, notice_of, DeleteMarker, DeleteMarkers, Markers, AllMarkers, is_made_if, flipped}
use Rattle.performing.proofs.change.make_free.Goals as goal

pub returns-in-DeleteMarker : goal.returns-in-DeleteMarker
returns-in-DeleteMarker c = λ text.
    let k = c.args.document.now in let line = c.in-DeleteMarker.line in let made = ap document_of c.delete_marker-changed.ensures.document in
    rw c.in-DeleteMarker.is
    (is_made_if c.delete_marker-changed.result text (DeleteMarker line c.in-DeleteMarker.number) k k c.delete_marker-changed.new.self (Markers line) c.note_if.result refl c.note_if.ensures made
    (λ v views. flipped _ _ (heard views (marker_notice k.document line)) (rw made at c.delete_marker-changed.ensures.went)) (rw c.in-DeleteMarker.is at c.requires.fits) (grind (arith, common_steps)))

pub returns-in-DeleteMarkers : goal.returns-in-DeleteMarkers
returns-in-DeleteMarkers c = λ text.
    let k = c.args.document.now in let made = ap document_of c.delete_markers-changed.ensures.document in
    rw c.in-DeleteMarkers.is
    (is_made_if c.delete_markers-changed.result text (DeleteMarkers c.in-DeleteMarkers.number) k k c.delete_markers-changed.new.self AllMarkers c.note_if-in-DeleteMarkers.result refl c.note_if-in-DeleteMarkers.ensures made
    (λ v views. flipped _ _ (heard views (notice_of k.document AllMarkers)) (rw made at c.delete_markers-changed.ensures.went)) tt (grind (arith, common_steps)))
