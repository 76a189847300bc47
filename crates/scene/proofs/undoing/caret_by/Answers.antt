use Rattle.scene.proofs.Names.{◌+◌, ◌∙◌, length, sym, arith, need_of_change, text_of, length_text}
use Rattle.scene.proofs.LatestStep.{ends_small}
use Rattle.scene.proofs.StepScenes.{short_enough}
use Rattle.scene.proofs.undoing.caret_by.Goals as goal

pub overflow_add-result : goal.overflow_add-result
overflow_add-result c =
    let d = c.args.document.now.document in
    let can = c.requires.can in
    let text = length_text d in
    let short = short_enough d (length d.cells + (need_of_change d.line_end_types can.0).text) can.3.width in
    omega (arith, ends_small d.line_end_types can.0 (text_of d) c.in-Insert.place c.in-Insert.count (sym c.in-Insert.is ∙ can.1) can.2 (omega arith))
