use Rattle.std.proofs.Common.{ap, refl}
use Rattle.run_styles.specs.Runs.{runs}
use Rattle.run_styles.specs.Table.{list_of}
use Rattle.run_styles.proofs.Reading.{count_runs}
use Rattle.run_styles.proofs.styles.RunStyles.reserve.Goals as goal

pub returns-clause-reserved : goal.returns-clause-reserved
returns-clause-reserved g c =
    let there = count_runs g.met.V.Eq.laws c.count.ensures.sound.exact c.count.ensures.sound.table c.self.invariant in
    let kept = c.reserve.ensures.grown.0 in
    let told = rw kept at c.reserve.ensures.reserved in
    rw (← c.self.view_is, kept, ← there) (told.0, (λ room. let same = told.1 room in (same.0, ap (λ t. runs c.self.inside.default (list_of t) t.capacity) same.1)))

pub returns-clause-grown : goal.returns-clause-grown
returns-clause-grown g c =
    let there = count_runs g.met.V.Eq.laws c.count.ensures.sound.exact c.count.ensures.sound.table c.self.invariant in
    let kept = c.reserve.ensures.grown in
    rw (← c.self.view_is, kept.0, ← there) (refl, kept.1)
