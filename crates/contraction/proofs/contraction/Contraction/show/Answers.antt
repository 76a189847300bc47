use Rattle.contraction.proofs.Changed.{shown}
use Rattle.contraction.proofs.contraction.Contraction.show.Goals as goal

pub returns-clause-flags : goal.returns-clause-flags
returns-clause-flags g c = rw (← c.self.view_is) (shown c.self.inside.hidden c.self.inside.contracted c.remove_range.new.self c.args.first c.args.past c.remove_range.ensures)
