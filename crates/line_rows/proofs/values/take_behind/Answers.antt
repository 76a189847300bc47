use Rattle.line_rows.proofs.Names.{◌+◌, ◌-◌, ◌∙◌, ap, arith, deleted, padded}
use Rattle.line_rows.proofs.Padded.{padded_joined, padded_joined_behind}
use Rattle.line_rows.proofs.values.take_behind.Goals as goal
use Rattle.line_rows.proofs.values.take_behind.Goals.{then-before-line-via-then-before-line, then-before-line-via-else-before-line+then-before-line-le1}

pub returns-then-before-line-clause-values : goal.returns-then-before-line-clause-values
returns-then-before-line-clause-values g c = λ default lines h w.
    elim c.then-before-line.branch [
      | then-before-line-via-then-before-line b ↦ padded_joined_behind default c.args.stored.now.items lines c.args.line c.args.count h (omega arith) w
      | then-before-line-via-else-before-line+then-before-line-le1 b ↦ padded_joined_behind default c.args.stored.now.items lines c.args.line c.args.count h (omega arith) w
    ]

pub returns-clause-values : goal.returns-clause-values
returns-clause-values g c = λ default lines h w.
    let items = c.args.stored.now.items in
    ap (padded default (lines - c.args.count)) (ap (λ s. s.items) c.delete.ensures ∙ ap (deleted items (c.args.line + 1)) c.min.ensures)
    ∙ padded_joined default items lines c.args.line c.args.count (c.len-before.result - c.args.line - 1) h (omega arith) w (omega arith)
