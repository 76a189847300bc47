use Rattle.std.proofs.Common.{◌≡◌, ◌-◌, sym, arith}
use Rattle.std.proofs.lemmas.List.{append-nil}
use Rattle.split_vector.proofs.cells.Cells.push_fill.Goals as goal

pub loop-i-init : goal.loop-i-init
loop-i-init g c = let d = c.args.self.now in let none : d.spare ≡ d.spare - 0 = omega arith in (λ j. record d { left = sym (append-nil d.left) j; spare = none j })
