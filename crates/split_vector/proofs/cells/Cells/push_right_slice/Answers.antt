use Rattle.std.proofs.Common.{◌≡◌, ◌-◌, ◌++◌, length, sym, arith}
use Rattle.std.proofs.lemmas.List.{drop_all}
use Rattle.split_vector.proofs.cells.Cells.push_right_slice.Goals as goal

pub loop-i-init : goal.loop-i-init
loop-i-init g c =
    let d = c.args.self.now in let xs = c.args.source.now in let none : d.spare ≡ d.spare - 0 = omega arith in
    (λ j. record d { spare = none j; right = sym (drop_all (length xs - 0) xs (omega arith)) j ++ d.right })
