use Rattle.state_plans.proofs.Names.{◌<◌, arith, line_total}
use Rattle.state_plans.proofs.Ranges.{header_within}
use Rattle.state_plans.proofs.folding_plans.fold_at.Goals as goal

pub fold_by-requires : goal.fold_by-requires
fold_by-requires c =
    let r = c.args.r.now in
    let among : c.in-Some.line < line_total r = omega (arith, c.in-Some.ensures.among, c.line_total.ensures.lines) in
    header_within c.levels.result c.in-Some.line (line_total r) c.fold_header.result among c.fold_header.ensures
