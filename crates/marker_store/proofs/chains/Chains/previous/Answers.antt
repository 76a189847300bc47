use Rattle.marker_store.proofs.Names.{◌≡◌, ◌+◌, ◌-◌, ◌==◌, length, ap, sym, ◌∙◌, arith, true, not, min, bit_and, ne_eqb, is_met}
use Rattle.marker_store.proofs.Finds.{last_none, last_some}
use Rattle.marker_store.proofs.chains.Chains.previous.Goals as goal

pub returns-then-mask-ne0 : goal.returns-then-mask-ne0
returns-then-mask-ne0 g c =
    let rows = c.args.self.now.rows in
    let i = c.passing.invariant in
    let met : is_met c.args.mask rows (c.passing.end - 1) ≡ true = ap not (ap (λ n. bit_and n c.args.mask == 0) (sym c.mask.ensures) ∙ ne_eqb (bit_and c.mask.result c.args.mask) 0 c.if-mask-ne0.true) in
    sym (last_some (is_met c.args.mask rows) (min (c.args.from + 1) (length rows)) (c.passing.end - 1) (omega (arith, i.0, c.passing-test.true)) met (λ k a b. i.1 k (omega arith) b))

pub returns : goal.returns
returns g c =
    let rows = c.args.self.now.rows in
    sym (last_none (is_met c.args.mask rows) (min (c.args.from + 1) (length rows)) (λ k a. c.passing.invariant.1 k (omega (arith, c.passing-test.false)) a))
