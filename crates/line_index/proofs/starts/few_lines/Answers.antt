use Rattle.line_index.proofs.Names.{◌≤◌, arith, slice_index}
use Rattle.line_index.proofs.Finding.{near_lines_are, one_line, last_of_all, next_behind}
use Rattle.line_index.proofs.starts.few_lines.Goals as goal

pub returns-clause-lines : goal.returns-clause-lines
returns-clause-lines g c =
    near_lines_are c.starts_are_sound.ensures.sound (omega (arith, c.starts_are_sound.ensures.long)) c.line_up_to.ensures c.line_up_to-2.ensures c.line_up_to-3.ensures c.saturating_add.ensures c.requires.last

pub returns-then-line-count-2-clause-lines : goal.returns-then-line-count-2-clause-lines
returns-then-line-count-2-clause-lines g c =
    let starts = c.args.starts.now.starts in
    let low : slice_index starts c.args.line ≤ c.args.front = omega (arith, c.start_of.ensures.start, c.if-start_of-front.false) in
    let far = last_of_all starts c.args.last c.args.line (omega (arith, low, c.requires.order, c.requires.last, c.ranges.place.fits)) (omega (arith, c.if-line-count-2.true, c.count-count.ensures.count)) in
    one_line c.starts_are_sound.ensures.sound (omega (arith, c.starts_are_sound.ensures.long)) far c.args.front c.args.place low c.requires.order (omega (arith, c.ranges.place.fits)) c.requires.last

pub returns-then-last-next-clause-front : goal.returns-then-last-next-clause-front
returns-then-last-next-clause-front g c =
    let starts = c.args.starts.now.starts in
    let low : slice_index starts c.args.line ≤ c.args.front = omega (arith, c.start_of.ensures.start, c.if-start_of-front.false) in
    next_behind starts c.args.starts.now.length c.args.front c.args.line c.count-count.ensures.sound low (omega (arith, c.if-line-count.false, c.if-line-count-2.false, c.count-count.ensures.count))
    (omega (arith, c.start_of-next.ensures.start, c.if-last-next.true, c.requires.order, c.requires.last, c.ranges.place.fits))

pub returns-then-last-next-clause-lines : goal.returns-then-last-next-clause-lines
returns-then-last-next-clause-lines g c =
    let starts = c.args.starts.now.starts in
    let low : slice_index starts c.args.line ≤ c.args.front = omega (arith, c.start_of.ensures.start, c.if-start_of-front.false) in
    let far = next_behind starts c.args.starts.now.length c.args.last c.args.line c.count-count.ensures.sound (omega (arith, low, c.requires.order, c.requires.last, c.ranges.place.fits))
    (omega (arith, c.if-line-count.false, c.if-line-count-2.false, c.count-count.ensures.count)) (omega (arith, c.start_of-next.ensures.start, c.if-last-next.true)) in
    one_line c.starts_are_sound.ensures.sound (omega (arith, c.starts_are_sound.ensures.long)) far c.args.front c.args.place low c.requires.order (omega (arith, c.ranges.place.fits)) c.requires.last
