use Rattle.std.proofs.Common.{arith}
use Rattle.state_plans.proofs.Runs.{run_about_bounded}
use Rattle.state_plans.proofs.style_plans.run_at.Goals as goal

pub returns-then-place-size-clause-bounded : goal.returns-then-place-size-clause-bounded
returns-then-place-size-clause-bounded c =
    let d = c.indicators-indicators.result.now.decorated in
    run_about_bounded d.values c.args.indicator _ d.length c.run.result c.run.ensures c.length.ensures.each (omega arith) (omega arith) (omega arith)
