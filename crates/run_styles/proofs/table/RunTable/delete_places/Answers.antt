use Rattle.run_styles.proofs.Names.{◌≡◌, ◌≢◌, ◌≤◌, ◌∙◌, ◌+◌, ◌-◌, sym, arith, get_or, get_or_default}
use Rattle.run_styles.specs.Table.{list_of}
use Rattle.run_styles.proofs.Becoming.{length-moved, shrunk_becomes}
use Rattle.run_styles.proofs.ByIndex.{length_table}
use Rattle.run_styles.proofs.Deleting.{deleted-deleted, next_shrunk}
use Rattle.run_styles.proofs.table.RunTable.delete_places.Goals as goal

pub delete_runs-requires-clause-range : goal.delete_runs-requires-clause-range
delete_runs-requires-clause-range g c =
    let t = c.args.self.now in
    let run = c.run_about-run.ensures in
    let same = get_or_default t.starts c.run_about-run.result t.end 0 run.within in
    (omega (arith, run.within), omega (arith, length_table c.run_about-run.ensures.sound.table, same, c.requires.within, c.start_of.ensures, c.if-start_of-place.true))

pub returns-then-start_of-place-clause-becomes : goal.returns-then-start_of-place-clause-becomes
returns-then-start_of-place-clause-becomes g c =
    let t = c.args.self.now in
    let at : get_or t.starts c.run_about-run.result t.end ≡ c.args.place = get_or_default t.starts c.run_about-run.result t.end 0 c.run_about-run.ensures.within ∙ sym c.start_of.ensures ∙ c.if-start_of-place.true in
    rw at at c.delete_runs.ensures.becomes

pub delete_runs-requires-then-cut-count-clause-range : goal.delete_runs-requires-then-cut-count-clause-range
delete_runs-requires-then-cut-count-clause-range g c =
    let t = c.args.self.now in
    let run = c.run_about-run.ensures in
    let next = next_shrunk t.starts t.end c.run_about-run.result c.min-cut.result run.within in
    rw c.shrink.ensures
    (omega (arith, length-moved (λ s. s - c.min-cut.result) t.starts (c.run_about-run.result + 1) (omega (arith, run.within)), run.within), omega (arith, next, length_table c.run_about-run.ensures.sound.table, c.requires.within, c.min-cut.ensures, c.end_of.ensures.end, run.to, c.if-cut-count.true))

pub returns-then-cut-count-clause-becomes : goal.returns-then-cut-count-clause-becomes
returns-then-cut-count-clause-becomes g c =
    let t = c.args.self.now in
    let run = c.run_about-run.ensures in
    let apart : get_or t.starts c.run_about-run.result 0 ≢ c.args.place = λ e. c.if-start_of-place.false (c.start_of.ensures ∙ e) in
    let part : c.args.place + c.min-cut.result ≤ get_or t.starts (c.run_about-run.result + 1) t.end = omega (arith, c.min-cut.ensures, c.end_of.ensures.end, run.to) in
    let next = next_shrunk t.starts t.end c.run_about-run.result c.min-cut.result run.within in
    let at : get_or t.starts (c.run_about-run.result + 1) t.end - c.min-cut.result ≡ c.args.place = omega (arith, c.min-cut.ensures, c.end_of.ensures.end, run.to, c.if-cut-count.true) in
    let whole : c.min-cut.result + (c.args.count - c.min-cut.result) ≡ c.args.count = omega (arith, c.if-cut-count.true) in
    let shrunk = shrunk_becomes c.run_about-run.result c.args.place c.min-cut.result c.run_about-run.ensures.sound run.within (omega (arith, part, apart, run.from)) run.from part in
    let gone = rw (c.shrink.ensures, next, at, shrunk.list, deleted-deleted (list_of t) c.args.place c.min-cut.result (c.args.count - c.min-cut.result), whole) at c.delete_runs-then-cut-count.ensures.becomes in
    record { list = gone.list; few = omega (arith, gone.few, shrunk.few); capacity = gone.capacity }

pub returns-else-cut-count-clause-becomes : goal.returns-else-cut-count-clause-becomes
returns-else-cut-count-clause-becomes g c =
    let t = c.args.self.now in
    let run = c.run_about-run.ensures in
    let apart : get_or t.starts c.run_about-run.result 0 ≢ c.args.place = λ e. c.if-start_of-place.false (c.start_of.ensures ∙ e) in
    let all : c.min-cut.result ≡ c.args.count = omega (arith, c.min-cut.ensures, c.if-cut-count.false) in
    rw (c.shrink.ensures, all) (shrunk_becomes c.run_about-run.result c.args.place c.args.count c.run_about-run.ensures.sound run.within (omega (arith, c.min-cut.ensures, c.end_of.ensures.end, all, run.to, run.from, apart)) run.from (omega (arith, c.min-cut.ensures, c.end_of.ensures.end, all, run.to)))
