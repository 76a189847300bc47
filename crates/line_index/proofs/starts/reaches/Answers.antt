use Rattle.line_index.proofs.Names.{◌<◌, arith, ltb-true}
use Rattle.line_index.proofs.Finding.{next_behind}
use Rattle.line_index.proofs.starts.reaches.Goals as goal

pub returns-else-line-count-clause-yes : goal.returns-else-line-count-clause-yes
returns-else-line-count-clause-yes g c = λ t.
    let higher : c.args.place < c.start_of.result = ltb-true c.args.place c.start_of.result t in
    next_behind c.args.starts.now.starts c.args.starts.now.length c.args.place c.args.line c.count-count.ensures.sound
    c.requires.1 (omega (arith, c.requires.0, c.if-line-count.false, c.count-count.ensures.count)) (omega (arith, higher, c.start_of.ensures.start))
