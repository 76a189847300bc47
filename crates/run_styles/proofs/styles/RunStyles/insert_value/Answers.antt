use Rattle.run_styles.proofs.Names.{◌∙◌, arith, refl, get_or}
use Rattle.run_styles.specs.Table.{list_of}
use Rattle.run_styles.proofs.Inserting.{filled-inserted, grown_anywhere, length-inserted}
use Rattle.run_styles.proofs.Reading.{count_grown}
use Rattle.run_styles.proofs.styles.RunStyles.insert_value.Goals as goal

pub fill-requires-clause-within : goal.fill-requires-clause-within
fill-requires-clause-within g c =
    let run = c.run_at-run.ensures.run in
    let t = c.self.inside.table in
    let within = rw (← c.self.view_is) at c.requires.within in
    rw (c.grow.ensures, grown_anywhere c.run_at-run.result c.args.place c.args.count c.args.value c.run_at-run.ensures.sound run.0 (omega (arith, c.if-count-eq0.false)) run.1 run.2, length-inserted (list_of t) c.args.place c.args.count (get_or t.values c.run_at-run.result c.args.value) within)
    (omega (arith, within))

pub returns-clause-inserted : goal.returns-clause-inserted
returns-clause-inserted g c =
    let run = c.run_at-run.ensures.run in
    let t = c.self.inside.table in
    let within = rw (← c.self.view_is) at c.requires.within in
    c.fill.ensures.filled
    ∙ rw (← c.self.view_is, c.grow.ensures, grown_anywhere c.run_at-run.result c.args.place c.args.count c.args.value c.run_at-run.ensures.sound run.0 (omega (arith, c.if-count-eq0.false)) run.1 run.2, filled-inserted (list_of t) c.args.place c.args.count (get_or t.values c.run_at-run.result c.args.value) c.args.value within) refl

pub fill-requires-clause-room : goal.fill-requires-clause-room
fill-requires-clause-room g c =
    let sound = c.run_at-run.ensures.sound in
    let room = rw (← c.self.view_is) at c.requires.room in
    rw (c.grow.ensures, count_grown c.run_at-run.result c.args.count g.met.V.Eq.laws sound c.self.invariant c.run_at-run.ensures.run.0 (omega (arith, c.if-count-eq0.false))) room

pub returns-clause-runs : goal.returns-clause-runs
returns-clause-runs g c =
    let sound = c.run_at-run.ensures.sound in
    rw (← c.self.view_is) (rw (c.grow.ensures, count_grown c.run_at-run.result c.args.count g.met.V.Eq.laws sound c.self.invariant c.run_at-run.ensures.run.0 (omega (arith, c.if-count-eq0.false))) at c.fill.ensures.runs)
