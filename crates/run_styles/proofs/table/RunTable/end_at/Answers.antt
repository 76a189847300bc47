use Rattle.std.proofs.Common.{arith}
use Rattle.run_styles.proofs.Becoming.{split_becomes}
use Rattle.run_styles.proofs.table.RunTable.end_at.Goals as goal

pub returns-then-place-end_of-clause-becomes : goal.returns-then-place-end_of-clause-becomes
returns-then-place-end_of-clause-becomes g c =
    rw c.split.ensures (split_becomes c.args.index c.args.place c.end_of.ensures.sound c.requires.inside.0 c.requires.inside.1 (omega (arith, c.end_of.ensures.end)))
