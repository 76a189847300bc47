use Rattle.macro_script.proofs.Names.{with_text, printed_note}
use Rattle.macro_script.proofs.Pieces.{stopped, item_stopped, one_item_more}
use Rattle.macro_script.proofs.printing.append_notes.Goals as goal

pub returns-in_err-append_note : goal.returns-in_err-append_note
returns-in_err-append_note c = stopped _ _ _ c.from_residual.result c.from_residual.ensures.0
    (item_stopped printed_note c.args.reply.now.notes c.loop-index.index (with_text c.note.result.0.now c.note.result.1.now) _ c.loop-index.out.items _ c.note.ensures c.loop-index.invariant c.in_err-append_note.ensures)

pub loop-index-preserved : goal.loop-index-preserved
loop-index-preserved c = one_item_more printed_note c.args.reply.now.notes c.loop-index.index (with_text c.note.result.0.now c.note.result.1.now) _ c.loop-index.out.items _ c.note.ensures c.loop-index.invariant c.in_ok-append_note.ensures
