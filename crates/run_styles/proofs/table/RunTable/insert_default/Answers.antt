use Rattle.run_styles.proofs.Names.{◌≡◌, ◌∙◌, ◌+◌, ◌-◌, sym, arith, length, true≢false}
use Rattle.run_styles.specs.Table.{list_of}
use Rattle.run_styles.proofs.Becoming.{first_becomes, first_places_become, grown_becomes, last_becomes}
use Rattle.run_styles.proofs.ByIndex.{runs_some}
use Rattle.run_styles.proofs.Inserting.{end_grown, start_grown, value_at_end}
use Rattle.run_styles.proofs.Neighbours.{differ_push}
use Rattle.run_styles.proofs.table.RunTable.insert_default.Goals as goal

pub returns-then-length-eq0-clause-becomes : goal.returns-then-length-eq0-clause-becomes
returns-then-length-eq0-clause-becomes g c =
    rw (c.grow.ensures, c.set_value.ensures) (first_places_become c.args.place c.args.count c.args.default c.length-length.ensures.sound (omega (arith, c.length-length.ensures.length)) c.requires.within.1 c.requires.within.0)

pub returns-then-has-clause-becomes : goal.returns-then-has-clause-becomes
returns-then-has-clause-becomes g c =
    let sound = c.length-length.ensures.sound in
    rw (c.grow-then-has.ensures, c.if-place-eq0.true) (grown_becomes 1 0 c.args.count (runs_some sound.table) (start_grown c.args.count c.args.default sound c.requires.within.0 (c.has.ensures.0 c.if-has.true)))

pub returns-else-has-clause-becomes : goal.returns-else-has-clause-becomes
returns-else-has-clause-becomes g c =
    rw (c.insert_first.ensures, c.if-place-eq0.true) (first_becomes c.args.count c.args.default c.length-length.ensures.sound c.requires.within.0 (omega (arith, c.length-length.ensures.length, c.if-length-eq0.false)))

pub returns-then-has-2-clause-becomes : goal.returns-then-has-2-clause-becomes
returns-then-has-2-clause-becomes g c =
    let sound = c.length-length.ensures.sound in
    let last : c.count-last.result - 1 + 1 ≡ length c.args.self.now.starts = omega (arith, runs_some sound.table, c.count-last.ensures.count) in
    let at : c.args.place ≡ length (list_of c.args.self.now) = c.if-place-length.true ∙ c.length-length.ensures.length in
    rw (c.grow-then-has-2.ensures, at, value_at_end g.V.PartialEq.eq c.args.default (list_of c.args.self.now))
    (grown_becomes 1 (c.count-last.result - 1) c.args.count (omega (arith, last)) (end_grown (c.count-last.result - 1) c.args.count c.args.default sound last c.requires.within.0 (c.has-then-place-length.ensures.0 c.if-has-2.true)))

pub returns-else-has-2-clause-becomes : goal.returns-else-has-2-clause-becomes
returns-else-has-2-clause-becomes g c =
    let at : c.args.place ≡ length (list_of c.args.self.now) = c.if-place-length.true ∙ c.length-length.ensures.length in
    rw (c.insert_last.ensures, at, value_at_end g.V.PartialEq.eq c.args.default (list_of c.args.self.now))
    (last_becomes c.args.count c.args.default c.length-length.ensures.sound c.requires.within.0 (omega (arith, c.length-length.ensures.length, c.if-length-eq0.false)))

pub returns-else-has-2-clause-differ : goal.returns-else-has-2-clause-differ
returns-else-has-2-clause-differ g c =
    let last : length c.args.self.now.values ≡ c.count-last.result = omega (arith, c.count-last.ensures.sound.table.paired, c.count-last.ensures.count) in
    rw c.insert_last.ensures (differ_push c.args.self.now.values c.args.default (λ some. rw last (λ found. true≢false (sym (c.has-then-place-length.ensures.1 found) ∙ c.if-has-2.false))) c.requires.differ)
