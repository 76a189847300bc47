use Rattle.decorations.proofs.Names.{◌≡◌, Some, sym, ◌∙◌}
use Rattle.decorations.proofs.Memory.{spare_values}
use Rattle.decorations.proofs.spare.SpareRuns.take.Goals as goal

pub returns-clause-taken : goal.returns-clause-taken
returns-clause-taken g c =
    let there : c.self.inside.runs ≡ Some c.in-Some.runs = sym c.take.ensures.value ∙ c.in-Some.is in
    let are = rw there at c.self.invariant in
    rw (c.insert_space.ensures.inserted, spare_values c.in-Some.runs.default c.args.size c.in-Some.runs.values are.empty are.default, are.default, rw there at c.self.view_is)
