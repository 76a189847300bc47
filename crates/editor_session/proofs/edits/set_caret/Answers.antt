use Rattle.editor_session.proofs.Names.{sym, ap, ◌∙◌, option_copied_mut, KeptView, view_in, id_of_view, changed, named_with, keeping, width_of, rules}
use Rattle.selection.specs.declared.selections.Selection.{Selection}
use Rattle.editor_session.proofs.OneDocument.{no_view_changed}
use Rattle.editor_session.proofs.edits.set_caret.Goals as goal

pub returns-in-Some : goal.returns-in-Some
returns-in-Some c =
    let a = c.args in let old = c.in-Some.view.now in
    let at = sym c.get_mut.ensures.value ∙ ap option_copied_mut c.in-Some.is in
    record {
      views = changed view_in id_of_view a.views.now.entries a.view a.views.now.next c.requires.named c.requires.rise old c.select.new.self at (λ v. record v { anchor = a.place; caret = a.place })
          (ap (λ (k : KeptView). k.view) c.select.ensures ∙ ap (λ (s : Selection). let v = old.view in record v { anchor = s.anchor; caret = s.caret }) c.at.ensures);
      named = named_with view_in id_of_view a.views.now.entries a.view a.views.now.next c.requires.named c.requires.rise old c.select.new.self at (ap (λ (k : KeptView). k.view.id) c.select.ensures);
      next = search rules;
      widths = keeping view_in id_of_view a.views.now.entries a.view a.views.now.next c.requires.named c.requires.rise old c.select.new.self at width_of (ap width_of c.select.ensures);
    }

pub returns-in_default-clause-views : goal.returns-in_default-clause-views
returns-in_default-clause-views c =
    no_view_changed (λ v. record v { anchor = c.args.place; caret = c.args.place }) c.args.views.now.entries c.args.view c.requires.named
    (sym c.get_mut.ensures.value ∙ ap option_copied_mut c.in_default.is)
