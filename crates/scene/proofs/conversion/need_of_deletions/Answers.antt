use Rattle.scene.proofs.Names.{◌+◌, ap, sym, ◌∙◌, length, false, slice_range, text_of, length_of_range, watchers, capped_room, completed, Delete, deletions_of, room_of_many, deletion_needs}
use Rattle.scene.proofs.StepsInTurn.{some_cells}
use Rattle.scene.proofs.ConversionNeeds.{counted_notes, counted_room, take_as, takes_as}
use Rattle.scene.proofs.conversion.need_of_deletions.Goals as goal

pub returns : goal.returns
returns c =
    let d = c.args.document.now.document in
    let W = watchers d c.args.views.now in
    let n = c.count_unwanted-count.result in
    let some = some_cells d c.halves.result.0.now c.halves.result.1.now n c.halves.ensures c.if-count-eq0.false c.count_unwanted-count.ensures.few in
    let one = Delete 0 (slice_range (text_of d) 0 (0 + 1)) in
    let all = takes_as d.line_end_types W one (take_as d.line_end_types W (slice_range (text_of d) 0 (0 + 1)) (length_of_range d.cells 0 1 some)) c.args.to (completed c.args.to (text_of d)) false 0 in
    let count = c.count_unwanted-count.ensures.count ∙ ap (λ t. length (deletions_of c.args.to t)) c.halves.ensures in
    record {
      notes = c.need_of_many.ensures.notes ∙ counted_notes d.line_end_types W one (deletions_of c.args.to (text_of d)) all n count;
      document = c.need_of_many.ensures.document ∙ ap (λ r. capped_room (room_of_many n r)) (sym (deletion_needs d.line_end_types d 0 1 some))
          ∙ counted_room d.line_end_types W one (deletions_of c.args.to (text_of d)) all n count;
    }
