use Rattle.run_styles.proofs.Names.{◌∙◌, ◌+◌, ◌-◌, sym, arith, true≢false}
use Rattle.run_styles.proofs.Becoming.{joined_becomes}
use Rattle.run_styles.proofs.Neighbours.{differ_before, differ_behind, differ_between, differ_further, differ_seam, differ_shorter}
use Rattle.run_styles.proofs.table.RunTable.join_at.Goals as goal

pub returns-then-has-clause-becomes : goal.returns-then-has-clause-becomes
returns-then-has-clause-becomes g c =
    rw c.unite.ensures (joined_becomes c.args.index c.value-value.result c.count-count.ensures.sound c.if-index-gt0.true (omega (arith, c.count-count.ensures.count)) (c.has.ensures.0 c.if-has.true) c.value-value.ensures)

pub returns-then-has-clause-differ : goal.returns-then-has-clause-differ
returns-then-has-clause-differ g c =
    let values = c.args.self.now.values in
    let before = c.has.ensures.0 c.if-has.true in
    rw c.unite.ensures (differ_between values (c.args.index - 1) (c.args.index + 1) c.value-value.result (omega (arith, c.count-count.ensures.count, c.count-count.ensures.sound.table.paired))
    (differ_shorter values c.args.index (c.args.index - 1) c.requires.front (omega arith))
    (differ_further values c.args.index (c.args.index + 1) c.requires.behind (omega arith))
    (λ pos. differ_before values c.args.index c.value-value.result c.requires.front pos before)
    (differ_behind values c.args.index c.value-value.result c.requires.behind c.value-value.ensures))

pub returns-else-has-clause-differ : goal.returns-else-has-clause-differ
returns-else-has-clause-differ g c =
    differ_seam c.args.self.now.values c.args.index (omega (arith, c.count-count.ensures.count, c.count-count.ensures.sound.table.paired)) c.requires.front c.requires.behind
    (λ v some before here. true≢false (sym (c.has.ensures.1 (before ∙ sym here ∙ c.value-value.ensures)) ∙ c.if-has.false))
