use Rattle.editor_session.proofs.Names.{◌≡◌, subst, ◌∙◌, is_some, Session, view_at}
use Rattle.editor_session.proofs.OneDocument.{some_seen}
use Rattle.editor_session.proofs.session.Session.has_view.Goals as goal

pub returns : goal.returns
returns c =
    subst (λ (s : Session). c.contains.result ≡ is_some (view_at s.views c.args.view)) c.self.view_is
    (c.contains.ensures ∙ some_seen c.self.inside.state.views.entries c.args.view c.self.invariant.views)
