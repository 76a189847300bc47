use Rattle.line_index.proofs.Names.{◌≡◌, ◌+◌, sym, ◌∙◌, arith}
use Rattle.line_index.proofs.Blocks.{counted_none}
use Rattle.line_index.proofs.room.lines_at.Goals as goal

pub returns-else-starts_at : goal.returns-else-starts_at
returns-else-starts_at c =
    counted_none c.args.types c.args.bytes.now c.args.place (c.args.place + 1) (λ k a b. let same : k ≡ c.args.place = omega arith in rw same (sym c.starts_at.ensures ∙ c.if-starts_at.false))
