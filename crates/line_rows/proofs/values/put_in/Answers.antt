use Rattle.std.proofs.Common.{arith}
use Rattle.line_rows.proofs.Padded.{padded_behind}
use Rattle.line_rows.proofs.values.put_in.Goals as goal

pub returns-then-len-line-clause-values : goal.returns-then-len-line-clause-values
returns-then-len-line-clause-values g c = λ lines h l. padded_behind c.args.default c.args.stored.now.items lines c.args.line c.args.count (omega arith) l
