use Rattle.editor_session.proofs.Keeping.{kept_after_closing}
use Rattle.editor_session.proofs.session.Session.close_view.Goals as goal

pub invariant_of-self : goal.invariant_of-self
invariant_of-self c =
    let e = c.close.ensures in
    kept_after_closing c.soundness_is_kept.ensures.by_closing c.self.inside.state c.close.new.state c.args.view c.close.result c.self.invariant e.closed e.same e.limits e.documents e.views e.widths
