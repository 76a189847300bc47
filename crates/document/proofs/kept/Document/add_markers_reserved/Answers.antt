use Rattle.document.proofs.Names.{◌≡◌, ◌<◌, ◌+◌, ◌^◌, [], length, sym, subst, List, ℕ, numbers_in, Kept, after_change, kept_in}
use Rattle.ed_model.specs.declared.plan.DocumentChange.TheVariants.{AddMarkers}
use Rattle.document.specs.Kept.{HasMarkerRoom}
use Rattle.document.proofs.MarkerNumbers.{document_with_markers, numbers_are}
use Rattle.document.proofs.kept.Document.add_markers_reserved.Goals as goal

pub add_markers-requires-clause-room : goal.add_markers-requires-clause-room
add_markers-requires-clause-room c =
    subst (λ (ns : List ℕ). HasMarkerRoom (length ns) (kept_in c.self.inside)) (sym (numbers_are c.args.mask))
    (subst (λ (k : Kept). HasMarkerRoom (length (numbers_in c.args.mask)) k) (sym c.self.view_is) c.requires.room)

pub add_markers-requires-clause-handles : goal.add_markers-requires-clause-handles
add_markers-requires-clause-handles c =
    subst (λ ns. c.self.inside.parts.rows.next_handle + length ns < 2 ^ 32) (sym (numbers_are c.args.mask))
    (subst (λ (k : Kept). k.document.next_handle + length (numbers_in c.args.mask) < 2 ^ 32) (sym c.self.view_is) c.requires.handles)

pub returns : goal.returns
returns c =
    let d = c.self.inside in
    subst (λ (k : Kept). kept_in (record d { parts = record d.parts { rows = c.add_markers.new.rows } }) ≡ after_change [] (AddMarkers c.args.line c.args.mask) k) c.self.view_is
    (document_with_markers d c.args.line c.args.mask c.add_markers.new.rows c.add_markers.ensures)
