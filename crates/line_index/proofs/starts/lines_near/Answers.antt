use Rattle.std.proofs.Common.{arith}
use Rattle.line_index.proofs.Finding.{near_lines_are, none_past_next, one_line}
use Rattle.line_index.proofs.starts.lines_near.Goals as goal

pub line_or_next-one_behind-requires-clause-high :
    goal.line_or_next-one_behind-requires-clause-high
line_or_next-one_behind-requires-clause-high g c =
    none_past_next c.args.starts.now.starts c.args.starts.now.length c.args.place c.line_from-at.result c.saturating_add.result c.starts_are_sound.ensures.sound c.line_from-at.ensures (omega (arith, c.saturating_add.ensures))

pub line_or_next-two_behind-requires-clause-high :
    goal.line_or_next-two_behind-requires-clause-high
line_or_next-two_behind-requires-clause-high g c =
    none_past_next c.args.starts.now.starts c.args.starts.now.length c.saturating_add.result c.line_or_next-one_behind.result c.saturating_add-last.result c.starts_are_sound.ensures.sound c.line_or_next-one_behind.ensures
    (omega (arith, c.saturating_add.ensures, c.saturating_add-last.ensures))

pub returns-clause-lines : goal.returns-clause-lines
returns-clause-lines g c =
    near_lines_are c.starts_are_sound.ensures.sound (omega (arith, c.starts_are_sound.ensures.long)) c.line_from-at.ensures c.line_or_next-one_behind.ensures c.line_or_next-two_behind.ensures c.saturating_add.ensures c.saturating_add-last.ensures

pub returns-then-reaches-clause-lines : goal.returns-then-reaches-clause-lines
returns-then-reaches-clause-lines g c =
    one_line c.starts_are_sound.ensures.sound (omega (arith, c.starts_are_sound.ensures.long)) (c.reaches.ensures.yes c.if-reaches.true) c.args.place c.args.place
    c.line_from-at.ensures.at_most (omega arith) (omega (arith, c.ranges.place.fits)) c.saturating_add-last.ensures
