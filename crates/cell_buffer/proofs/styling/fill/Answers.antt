use Rattle.std.proofs.Common.{rules}
use Rattle.cell_buffer.proofs.Names.{◌-◌, ◌≤◌, ◌<◌, ◌+◌, ℕ, refl, ap, sym, ◌∙◌, arith, inl, inr, ◌⊎◌, nothing_changed}
use Rattle.std.proofs.lemmas.Bool.{cases_lt}
use Rattle.ed_model.specs.proved.Indicators.{changed_between}
use Rattle.cell_buffer.proofs.Filled.{is_filled}
use Rattle.cell_buffer.proofs.styling.fill.Goals as goal

pub returns-then-first-end-clause-styles : goal.returns-then-first-end-clause-styles
returns-then-first-end-clause-styles c =
    let xs = c.args.styles.now.items in let end = c.args.start + c.args.count in
    ap (λ ys. record c.args.styles.now { items = ys })
    (is_filled xs xs c.args.start c.args.count c.args.style end end c.requires (omega arith) (omega arith) refl
    (λ k a b. c.first_other-first.ensures.alike k a (omega (arith, c.if-first-end.true)))
    (λ k a b. absurd (omega arith)) (λ k a b. absurd (omega arith)) (λ k a. refl) (λ k a. refl))

pub returns-then-first-end-clause-changed : goal.returns-then-first-end-clause-changed
returns-then-first-end-clause-changed c = sym (nothing_changed c.args.styles.now.items)

pub returns-clause-styles : goal.returns-clause-styles
returns-clause-styles c =
    let xs = c.args.styles.now.items in let ys = c.update.new.self.items in let u = c.update.ensures.items in
    c.update.ensures.rest
    ∙ ap (λ zs. record c.args.styles.now { items = zs })
    (is_filled xs ys c.args.start c.args.count c.args.style c.first_other-first.result c.past_others-past.result c.requires
    (omega (arith, c.first_other-first.ensures.range)) (omega (arith, c.past_others-past.ensures.range)) u.same_length
    c.first_other-first.ensures.alike c.past_others-past.ensures.alike
    (λ k a b. let r = u.updated k 0 a b in search rules) (λ k a. u.kept_below k 0 a) (λ k a. u.kept_above k 0 a))

-- what cannot be the other way
apart : (first past : ℕ) → ((past ≤ first) → ⊥) → (first < past) ⊎ (past ≤ first) → first < past
apart first past not_behind (inl l) = l
apart first past not_behind (inr l) = absurd (not_behind l)

pub returns-clause-changed : goal.returns-clause-changed
returns-clause-changed c =
    let xs = c.args.styles.now.items in let ys = c.update.new.self.items in let u = c.update.ensures.items in
    let first = c.first_other-first.result in let past = c.past_others-past.result in
    let low : first < c.args.start + c.args.count = omega (arith, c.if-first-end.false, c.first_other-first.ensures.range) in
    let some : first < past = apart first past (λ l. c.first_other-first.ensures.other low (c.past_others-past.ensures.alike first l low)) (cases_lt first past) in
    sym (changed_between xs ys first past u.same_length some (omega (arith, c.requires, c.past_others-past.ensures.range))
    (λ e. c.first_other-first.ensures.other low (e ∙ (let r = u.updated first 0 (omega arith) some in search rules)))
    (λ e. c.past_others-past.ensures.other some (e ∙ (let r = u.updated (past - 1) 0 (omega arith) (omega arith) in search rules)))
    (λ k a. u.kept_below k 0 a) (λ k a. u.kept_above k 0 a))
