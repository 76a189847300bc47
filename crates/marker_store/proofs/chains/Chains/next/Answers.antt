use Rattle.marker_store.proofs.Names.{◌≡◌, ◌-◌, ◌==◌, length, ap, sym, ◌∙◌, arith, true, not, bit_and, ne_eqb, is_met}
use Rattle.marker_store.proofs.Finds.{find_none, find_some}
use Rattle.marker_store.proofs.chains.Chains.next.Goals as goal

pub returns-then-mask-ne0 : goal.returns-then-mask-ne0
returns-then-mask-ne0 g c =
    let rows = c.args.self.now.rows in
    let i = c.searching.invariant in
    let met : is_met c.args.mask rows c.searching.line ≡ true = ap not (ap (λ n. bit_and n c.args.mask == 0) (sym c.mask.ensures) ∙ ne_eqb (bit_and c.mask.result c.args.mask) 0 c.if-mask-ne0.true) in
    sym (find_some (is_met c.args.mask rows) c.args.from (length rows - c.args.from) c.searching.line i.0 (omega (arith, i.0, c.searching-test.true, c.lines-lines.ensures.lines)) met i.2)

pub returns : goal.returns
returns g c =
    let rows = c.args.self.now.rows in
    sym (find_none (is_met c.args.mask rows) c.args.from (length rows - c.args.from) (λ k a b. c.searching.invariant.2 k a (omega (arith, a, b, c.searching-test.false, c.lines-lines.ensures.lines))))
