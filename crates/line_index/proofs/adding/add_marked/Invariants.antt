use Rattle.std.proofs.Common.{◌++◌}
use Rattle.line_index.proofs.Added.{AreSeen}
use Rattle.line_index.proofs.adding.add_marked.Given as goal

abbrev pub invariant-adding : goal.invariant-adding
invariant-adding g l = AreSeen l.text.types (l.text.before.now ++ l.text.after.now) l.base l.place l.first l.line l.left l.initial.starts l.starts

abbrev pub decreases-adding : goal.decreases-adding
decreases-adding g l = l.left
