use Rattle.run_styles.proofs.Names.{◌+◌, arith, get_or, get_or_default}
use Rattle.run_styles.proofs.Becoming.{cleared_becomes, dropped_becomes, shrunk_becomes}
use Rattle.run_styles.proofs.Neighbours.{differ_further}
use Rattle.run_styles.proofs.ByIndex.{drop_seam, length_table, run_top}
use Rattle.run_styles.proofs.table.RunTable.take_from.Goals as goal

pub returns-then-count-whole-clause-becomes : goal.returns-then-count-whole-clause-becomes
returns-then-count-whole-clause-becomes g c =
    let t = c.args.self.now in
    let within = c.requires.0 in
    rw (c.shrink.ensures, get_or_default t.starts c.args.index t.end 0 within)
    (shrunk_becomes c.args.index (get_or t.starts c.args.index 0) c.args.count c.end_of.ensures.sound within (omega (arith, c.end_of.ensures.end, c.start_of.ensures)) (omega arith) c.requires.2)

pub returns-then-count-eq1-clause-becomes : goal.returns-then-count-eq1-clause-becomes
returns-then-count-eq1-clause-becomes g c =
    rw c.clear.ensures (cleared_becomes c.args.index c.args.count c.end_of.ensures.sound (omega (arith, c.count.ensures.count)) c.requires.0 (omega (arith, c.end_of.ensures.end, c.start_of.ensures)))

pub returns-else-count-eq1-clause-becomes : goal.returns-else-count-eq1-clause-becomes
returns-else-count-eq1-clause-becomes g c =
    let top = run_top c.args.index c.end_of.ensures.sound.table c.requires.0 in
    rw c.drop_run.ensures (dropped_becomes c.args.index c.args.count c.end_of.ensures.sound (omega (arith, top, length_table c.end_of.ensures.sound.table, c.requires)) c.requires.0 (omega (arith, c.count.ensures.count, c.requires.0)) (omega (arith, c.end_of.ensures.end, c.start_of.ensures, c.requires)))

pub returns-else-count-eq1-clause-behind : goal.returns-else-count-eq1-clause-behind
returns-else-count-eq1-clause-behind g c = λ h.
    rw (c.drop_run.ensures, drop_seam c.args.self.now.values c.args.index (c.args.index + 1) (omega (arith, c.end_of.ensures.sound.table.paired, c.requires.0)))
    (differ_further c.args.self.now.values c.args.index (c.args.index + 1) h (omega arith))
