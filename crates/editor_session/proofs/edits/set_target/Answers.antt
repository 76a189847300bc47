use Rattle.editor_session.proofs.Names.{sym, ap, ◌∙◌, option_copied_mut, KeptView, view_in, id_of_view, changed, named_with, keeping, width_of, rules}
use Rattle.editor_session.proofs.OneDocument.{no_view_changed}
use Rattle.editor_session.proofs.edits.set_target.Goals as goal

pub returns-in-Some : goal.returns-in-Some
returns-in-Some c =
    let a = c.args in let old = c.in-Some.view.now in
    let at = sym c.get_mut.ensures.value ∙ ap option_copied_mut c.in-Some.is in
    record {
      views = changed view_in id_of_view a.views.now.entries a.view a.views.now.next c.requires.named c.requires.rise old c.set_target.new.self at (λ v. record v { target_start = a.start; target_end = a.end })
          (ap (λ (k : KeptView). k.view) c.set_target.ensures);
      named = named_with view_in id_of_view a.views.now.entries a.view a.views.now.next c.requires.named c.requires.rise old c.set_target.new.self at (ap (λ (k : KeptView). k.view.id) c.set_target.ensures);
      next = search rules;
      widths = keeping view_in id_of_view a.views.now.entries a.view a.views.now.next c.requires.named c.requires.rise old c.set_target.new.self at width_of (ap width_of c.set_target.ensures);
    }

pub returns-in_default-clause-views : goal.returns-in_default-clause-views
returns-in_default-clause-views c =
    no_view_changed (λ v. record v { target_start = c.args.start; target_end = c.args.end }) c.args.views.now.entries c.args.view c.requires.named
    (sym c.get_mut.ensures.value ∙ ap option_copied_mut c.in_default.is)
