use Rattle.std.proofs.Common.{arith}
use Rattle.run_styles.proofs.Becoming.{split_becomes}
use Rattle.run_styles.proofs.table.RunTable.start_at.Goals as goal

pub returns-clause-becomes : goal.returns-clause-becomes
returns-clause-becomes g c =
    rw c.split.ensures (split_becomes c.args.index c.args.place c.requires.run.sound c.requires.run.within (omega (arith, c.start_of.ensures, c.requires.run.from)) c.requires.run.to)
