use Rattle.std.proofs.Common.{◌≤◌, arith, ⊎_elim}
use Rattle.run_styles.proofs.Becoming.{replaced_becomes}
use Rattle.run_styles.proofs.Neighbours.{differ_between, differ_shorter, differ_further}
use Rattle.run_styles.proofs.table.RunTable.replace_runs.Goals as goal

pub returns-clause-becomes : goal.returns-clause-becomes
returns-clause-becomes g c =
    rw c.unite.ensures (replaced_becomes c.args.first c.args.end c.widened_start-from.result c.widened_end-to.result c.args.value c.widened_end-to.ensures.sound (omega (arith, c.requires.range)) (omega (arith, c.requires.range)) (omega (arith, c.requires.range))
    c.widened_start-from.ensures.near c.widened_end-to.ensures.near c.widened_end-to.ensures.within)

pub returns-clause-differ : goal.returns-clause-differ
returns-clause-differ g c =
    let paired = c.widened_end-to.ensures.sound.table.paired in
    let low : c.widened_start-from.result ≤ c.args.first = ⊎_elim (λ e. omega (arith, e)) (λ p. omega (arith, p.0)) c.widened_start-from.ensures.near in
    let high : c.args.end ≤ c.widened_end-to.result = ⊎_elim (λ e. omega (arith, e)) (λ p. omega (arith, p.0)) c.widened_end-to.ensures.near in
    rw c.unite.ensures (differ_between c.args.self.now.values c.widened_start-from.result c.widened_end-to.result c.args.value (omega (arith, c.requires.range))
    (differ_shorter c.args.self.now.values c.args.first c.widened_start-from.result c.requires.front low)
    (differ_further c.args.self.now.values c.args.end c.widened_end-to.result c.requires.behind high)
    c.widened_start-from.ensures.longest c.widened_end-to.ensures.longest)
