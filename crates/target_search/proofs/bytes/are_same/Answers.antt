use Rattle.target_search.proofs.Names.{sym, ◌∙◌, arith, below_more, folded}
use Rattle.target_search.proofs.Fronts.{front_true, front_false}
use Rattle.target_search.proofs.bytes.are_same.Goals as goal

pub returns-then-fold : goal.returns-then-fold
returns-then-fold c =
    sym (front_false (folded c.args.flags) c.args.bytes.now c.args.pattern.now c.loop-i.i c.loop-i-test.true (λ same. c.if-fold.true (c.fold.ensures ∙ same ∙ sym c.fold-in-loop-i.ensures)))

pub loop-i-preserved : goal.loop-i-preserved
loop-i-preserved c = below_more _ _ c.loop-i.invariant (sym c.fold.ensures ∙ c.if-fold.false ∙ c.fold-in-loop-i.ensures)

pub returns : goal.returns
returns c = sym (front_true (folded c.args.flags) c.args.bytes.now c.args.pattern.now (omega arith) (λ k b. c.loop-i.invariant k (omega arith)))
