use Rattle.performing.proofs.SessionLemmas.{[], refl, ap, sym, ◌∙◌, KeptView, changed_view_document, changed_view_id, view_in, view_there, document_for, levels_of, view_changed, only_view, capacity_stays}
use Rattle.performing.proofs.views.change_view.Goals as goal

pub at_mut-view-requires : goal.at_mut-view-requires
at_mut-view-requires c = record { there = view_there c.requires.kept c.requires.can.request }

pub returns-clause-changed : goal.returns-clause-changed
returns-clause-changed c =
    let levels = levels_of (document_for c.args.state.now c.args.view) in
    view_changed c.requires.kept c.requires.can.request c.args.change c.at_mut-view.result.now c.at_mut-view.ensures.value c.set.new.self levels refl (ap view_in (c.set.ensures levels))

pub returns-clause-stays : goal.returns-clause-stays
returns-clause-stays c =
    let old = c.at_mut-view.result.now in let made = c.set.ensures [] in
    only_view c.requires.kept c.requires.can.request c.args.change old c.at_mut-view.ensures.value c.set.new.self
    (ap (λ (v : KeptView). v.view.id) made ∙ changed_view_id [] c.args.change old.view) (ap (λ (v : KeptView). v.view.document) made ∙ changed_view_document [] c.args.change old.view)
    (capacity_stays c.args.change old c.set.new.self (ap (λ (v : KeptView). v.capacity) made) (ap (λ (v : KeptView). v.large) made))
