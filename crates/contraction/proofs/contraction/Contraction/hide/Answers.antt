use Rattle.contraction.proofs.Changed.{hidden}
use Rattle.contraction.proofs.contraction.Contraction.hide.Goals as goal

pub returns-clause-flags : goal.returns-clause-flags
returns-clause-flags g c =
    rw (← c.self.view_is) (hidden c.self.inside.hidden c.self.inside.contracted c.insert_range.new.self c.args.first c.max.result c.args.past c.max.ensures c.insert_range.ensures)
