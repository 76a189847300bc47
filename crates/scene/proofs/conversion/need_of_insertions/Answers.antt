use Rattle.scene.proofs.Names.{ap, ◌∙◌, length, false, missing_from, text_of, watchers}
use Rattle.scene.proofs.ConversionNeeds.{a_put, counted_notes, counted_room, puts_as}
use Rattle.scene.proofs.conversion.need_of_insertions.Goals as goal

pub returns : goal.returns
returns c =
    let d = c.args.document.now.document in
    let W = watchers d c.args.views.now in
    let steps = missing_from 0 false c.args.to (text_of d) in
    let all = puts_as d.line_end_types W c.args.to (text_of d) false 0 in
    let count = c.count_missing.ensures.count ∙ ap (λ t. length (missing_from 0 false c.args.to t)) c.halves.ensures in
    record {
      notes = c.need_of_many.ensures.notes ∙ counted_notes d.line_end_types W a_put steps all c.count_missing.result count;
      document = c.need_of_many.ensures.document ∙ counted_room d.line_end_types W a_put steps all c.count_missing.result count;
    }
