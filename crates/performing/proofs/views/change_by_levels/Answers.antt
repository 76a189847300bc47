use Rattle.performing.proofs.SessionLemmas.{◌≡◌, refl, map, length, Row, ap, sym, ◌∙◌, subst, rules, IsSomeAnd, View, KeptView, view_in, changed_view, changed_view_document, changed_view_id, err_from_is_err_and, HasRoomFor, GrowsAtMost, document_there, view_there, same_document, levels_of, lines_same, is_within, view_changed, view_unchanged, only_view}
use Rattle.performing.proofs.views.change_by_levels.Goals as goal

pub at-document-requires : goal.at-document-requires
at-document-requires c = record { there = document_there c.requires.kept c.requires.can.request }

pub at_mut-view-requires : goal.at_mut-view-requires
at_mut-view-requires c = record { there = view_there c.requires.kept c.requires.can.request }

pub change-requires-clause-levels : goal.change-requires-clause-levels
change-requires-clause-levels c =
    let there = c.at-document.ensures in let at = c.at_mut-view.ensures.value in
    c.fold_levels.ensures.lines ∙ ap length c.rows.ensures.rows ∙ c.rows.ensures.count ∙ lines_same c.requires.kept c.requires.can.request c.args.change c.at_mut-view.result.now at c.at-document.result.now there
    ∙ sym (ap (λ (v : KeptView). length v.view.flags) c.reserve_folding.ensures.grown.0)

pub change-requires-clause-within : goal.change-requires-clause-within
change-requires-clause-within c =
    let at = c.at_mut-view.ensures.value in
    rw c.reserve_folding.ensures.grown.0 (is_within c.requires.kept c.requires.can.request c.args.change c.at_mut-view.result.now at c.fit_changes_are_within.ensures c.requires.can)

pub returns-in_err-reserve_folding : goal.returns-in_err-reserve_folding
returns-in_err-reserve_folding c =
    let kept = c.requires.kept in let is = c.requires.can.request in let change = c.args.change in let old = c.at_mut-view.result.now in let new = c.reserve_folding.new.self in
    let at = c.at_mut-view.ensures.value in let same = c.reserve_folding.ensures.grown.0 in let grows : GrowsAtMost change old new = search rules in
    rw (err_from_is_err_and c.from_residual.result c.from_residual.ensures.1).1
    (record {
      changed = tt;
      same = view_unchanged kept is change old at new (ap view_in same);
      free = λ has. (c.in_err-reserve_folding.ensures.reserved.1 (rw c.fold_need-need.ensures (subst (λ o. IsSomeAnd o (HasRoomFor change)) at has))).0;
      stays = only_view kept is change old at new (ap (λ (v : KeptView). v.view.id) same) (ap (λ (v : KeptView). v.view.document) same) grows;
    })

pub returns : goal.returns
returns c =
    let kept = c.requires.kept in let is = c.requires.can.request in let change = c.args.change in let old = c.at_mut-view.result.now in let new = c.change.new.self in
    let there = c.at-document.ensures in let at = c.at_mut-view.ensures.value in
    let levels = c.fold_levels.ensures.levels ∙ ap (map (λ (row : Row). row.level)) c.rows.ensures.rows ∙ ap levels_of (same_document kept is c.at-document.result.now there) in
    let made : new.view ≡ changed_view c.fold_levels.result change old.view = ap view_in c.change.ensures ∙ ap (λ (v : KeptView). changed_view c.fold_levels.result change v.view) c.reserve_folding.ensures.grown.0 in
    let grows : GrowsAtMost change old new = search rules in
    record {
      changed = view_changed kept is change old at new c.fold_levels.result levels made;
      same = tt;
      free = λ _. refl;
      stays = only_view kept is change old at new (ap (λ (v : View). v.id) made ∙ changed_view_id c.fold_levels.result change old.view)
          (ap (λ (v : View). v.document) made ∙ changed_view_document c.fold_levels.result change old.view) grows;
    }
