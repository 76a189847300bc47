use Rattle.text_plans.proofs.Searching.{match_bounded}
use Rattle.text_plans.proofs.target_plans.find_in_target.Goals as goal

pub returns-clause-bounded : goal.returns-clause-bounded
returns-clause-bounded c =
    match_bounded _ _ c.args.pattern.now c.target_start-start.result c.target_end-end.result c.find.result c.find.ensures
    c.target_start-start.ensures.bounded c.target_end-end.ensures.bounded
