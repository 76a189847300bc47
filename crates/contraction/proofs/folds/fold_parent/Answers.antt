use Rattle.contraction.proofs.Names.{◌≡◌, ◌≤◌, length, sym, ap, ◌∙◌, arith, rules, last_heading}
use Rattle.contraction.proofs.Headings.{heading_of_parts, in_part, none_from}
use Rattle.contraction.proofs.folds.fold_parent.Goals as goal

pub returns-in-Some-clause-parent : goal.returns-in-Some-clause-parent
returns-in-Some-clause-parent c =
    let n = c.number_at-number.result in let k = c.kept_before in let first = k.result.0.now in let others = k.result.1.now in
    let whole : last_heading n c.args.levels.now c.args.line ≡ in_part (length first) (last_heading n others (length others)) (last_heading n first (length first)) =
    heading_of_parts n c.args.line c.args.levels.now first others k.ensures.within k.ensures.first k.ensures.others k.ensures.base in
    ap (λ o. in_part (length first) o (last_heading n first (length first))) (sym c.in-Some.is ∙ c.last_heading.ensures.last)
    ∙ sym whole ∙ ap (λ m. last_heading m c.args.levels.now c.args.line) c.number_at-number.ensures

pub returns-clause-parent : goal.returns-clause-parent
returns-clause-parent c =
    let n = c.number_at-number.result in let k = c.kept_before in let first = k.result.0.now in let others = k.result.1.now in
    let whole : last_heading n c.args.levels.now c.args.line ≡ in_part (length first) (last_heading n others (length others)) (last_heading n first (length first)) =
    heading_of_parts n c.args.line c.args.levels.now first others k.ensures.within k.ensures.first k.ensures.others k.ensures.base in
    c.last_heading-2.ensures.last
    ∙ ap (λ o. in_part (length first) o (last_heading n first (length first))) (sym c.in_default.is ∙ c.last_heading.ensures.last)
    ∙ sym whole ∙ ap (λ m. last_heading m c.args.levels.now c.args.line) c.number_at-number.ensures

pub returns-then-number-least-clause-parent : goal.returns-then-number-least-clause-parent
returns-then-number-least-clause-parent c =
    let a = c.args in let none : c.number_at-number.result ≤ c.least.result = search rules in
    sym (none_from c.number_at-number.result c.least.result a.line a.levels.now (omega (arith, c.requires)) none c.least.ensures)
    ∙ ap (λ m. last_heading m a.levels.now a.line) c.number_at-number.ensures
