use Rattle.editor_session.proofs.Names.{rules, ◌≡◌, Ok, ap, sym, subst, ◌∙◌, opened, session_in}
use Rattle.editor_session.proofs.Keeping.{kept_after_opening, opened_is}
use Rattle.editor_session.proofs.session.Session.new_view.Goals as goal

pub invariant_of-self : goal.invariant_of-self
invariant_of-self c =
    let old = c.self.inside.state in let e = c.open.ensures in
    kept_after_opening c.soundness_is_kept.ensures.by_opening old c.open.new.state c.open.result c.self.invariant (opened_is old (search rules) (search rules) (search rules)) e.ok e.err e.limits e.documents e.views e.widths

pub invariant_of-self-2 : goal.invariant_of-self-2
invariant_of-self-2 c =
    let old = c.self.inside.state in let e = c.open.ensures in
    kept_after_opening c.soundness_is_kept.ensures.by_opening old c.open.new.state c.open.result c.self.invariant (opened_is old (search rules) (search rules) (search rules)) e.ok e.err e.limits e.documents e.views e.widths

pub returns-clause-answer : goal.returns-clause-answer
returns-clause-answer c =
    let old = c.self.inside.state in
    subst (λ s. opened s ≡ Ok (session_in c.open.new.state, c.in-Ok.view)) c.self.view_is
    (opened_is old (search rules) (search rules) (search rules)
    ∙ ap (λ x. Ok (x, old.views.next)) (sym c.in-Ok.ensures.ok) ∙ ap (λ n. Ok (session_in c.open.new.state, n)) (sym c.in-Ok.ensures.id))
