use Rattle.contraction.proofs.Names.{ap}
use Rattle.contraction.specs.ViewLines.{fold_capacity}
use Rattle.contraction.proofs.Kept.{kept_fresh}
use Rattle.contraction.proofs.contraction.Contraction.new.Goals as goal

pub returns : goal.returns
returns g c = rw (c.new.ensures, c.new-2.ensures) (ap (λ fs. record { flags = fs; capacity = fold_capacity 0 0 }) (kept_fresh c.args.lines))
