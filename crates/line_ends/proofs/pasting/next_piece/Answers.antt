use Rattle.line_ends.proofs.Names.{◌+◌, ◌==◌, get_or, arith, ne_eqb}
use Rattle.line_ends.proofs.Pasted.{all_quiet, with_one, with_two, alone_behind, alone_at_end, not_alone}
use Rattle.line_ends.proofs.pasting.next_piece.Goals as goal
use Rattle.line_ends.proofs.pasting.next_piece.Goals.{else-bytes-quiet-eq13-via-then-bytes-quiet-eq13+then-behind-bytes+else-bytes-behind-eq10, else-bytes-quiet-eq13-via-then-bytes-quiet-eq13+else-behind-bytes, else-bytes-quiet-eq13-via-else-bytes-quiet-eq13}

pub returns-then-quiet-bytes-clause-pieces : goal.returns-then-quiet-bytes-clause-pieces
returns-then-quiet-bytes-clause-pieces c to =
    all_quiet to c.args.bytes.now c.quiet_bytes-quiet.result c.if-quiet-bytes.true c.quiet_bytes-quiet.ensures.quiet

pub returns-then-bytes-behind-eq10-clause-pieces : goal.returns-then-bytes-behind-eq10-clause-pieces
returns-then-bytes-behind-eq10-clause-pieces c to =
    with_two to c.args.bytes.now c.quiet_bytes-quiet.result (omega arith) c.quiet_bytes-quiet.ensures.quiet c.if-bytes-quiet-eq13.true c.if-bytes-behind-eq10.true

pub returns-clause-pieces : goal.returns-clause-pieces
returns-clause-pieces c to =
    let bs = c.args.bytes.now in
    let n = c.quiet_bytes-quiet.result in
    with_one to bs n (omega arith) c.quiet_bytes-quiet.ensures.quiet (c.quiet_bytes-quiet.ensures.end (omega arith))
    (elim c.else-bytes-quiet-eq13.branch [
      | else-bytes-quiet-eq13-via-then-bytes-quiet-eq13+then-behind-bytes+else-bytes-behind-eq10 w ↦ alone_behind bs n (get_or bs n 0 == 13) (ne_eqb (get_or bs (n + 1) 0) 10 w.if-bytes-behind-eq10.false)
      | else-bytes-quiet-eq13-via-then-bytes-quiet-eq13+else-behind-bytes w ↦ alone_at_end bs n (get_or bs n 0 == 13) w.if-behind-bytes.false
      | else-bytes-quiet-eq13-via-else-bytes-quiet-eq13 w ↦ not_alone bs n _ (ne_eqb (get_or bs n 0) 13 w.if-bytes-quiet-eq13.false)
    ])
