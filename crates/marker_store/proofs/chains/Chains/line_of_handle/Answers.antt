use Rattle.marker_store.proofs.Names.{◌-◌, length, sym, ◌∙◌, arith, has_handle}
use Rattle.marker_store.proofs.Finds.{find_none, find_some}
use Rattle.marker_store.proofs.chains.Chains.line_of_handle.Goals as goal

pub returns-then-has : goal.returns-then-has
returns-then-has g c =
    let rows = c.args.self.now.rows in
    sym (find_some (has_handle c.args.handle rows) 0 (length rows - 0) c.searching.line (omega arith) (omega (arith, c.searching-test.true, c.lines-lines.ensures.lines)) (sym c.has.ensures ∙ c.if-has.true) (λ k a b. c.searching.invariant.1 k b))

pub returns : goal.returns
returns g c =
    let rows = c.args.self.now.rows in
    sym (find_none (has_handle c.args.handle rows) 0 (length rows - 0) (λ k a b. c.searching.invariant.1 k (omega (arith, b, c.searching-test.false, c.lines-lines.ensures.lines))))
