use Rattle.cell_buffer.proofs.Names.{arith, take, get_or, take_more, length-take-le}
use Rattle.cell_buffer.proofs.Changed.{written_none, written_more}
use Rattle.cell_buffer.proofs.styling.overwrite.Goals as goal

pub loop-i-init : goal.loop-i-init
loop-i-init c = written_none c.args.start c.args.styles.now

pub loop-i-preserved : goal.loop-i-preserved
loop-i-preserved c =
    let new = c.args.new.now in
    let i = c.loop-i.i in
    written_more c.args.start i (get_or new i 0) (take i new) _ c.loop-i.ends c.put-ends.result c.args.styles.now c.loop-i.styles c.put-ends.new.styles c.loop-i.invariant c.put-ends.ensures.styles c.put-ends.ensures.changed
    (length-take-le i new (omega arith)) (omega arith) (take_more new i 0 (omega arith))
