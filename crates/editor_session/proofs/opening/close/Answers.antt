use Rattle.editor_session.proofs.Names.{documents_in, widths_changed, widths_living, widths_without, left_place, HaveWidths, ◌≡◌, ℕ, ◌<◌, ◌==◌, true, false, cond, List, [], ◌∷◌, map, refl, ap, sym, ◌∙◌, subst, Some, None, Ok, Err, NoSuchView, not, filter, Document, View, view_at, living, left_by, references, IsSoundDocument, ListsItsViews, closed, closed_view, Entry, Entries, value_at, without_id, Kept, KeptView, views_of, AreNamed, session_in, SessionState, IsKept, view_in, id_of_view, own_at, found_some, found_none, all_filter, all_weaker, map_where, changed_at, cond_both, eqb-false, id_of_document, option_copied}
use Rattle.document_table.specs.Leaving.{documents_in as entries_in, let_go, LeavesTheLiving}
use Rattle.performing.specs.proved.Leaving.{living_left, named_left, stays_alike}
use Rattle.editor_session.proofs.opening.close.Goals as goal

not_open : (s : SessionState) (view : ℕ) → IsKept s → value_at s.views.entries view ≡ None → closed (session_in s) view ≡ Err NoSuchView
not_open s view kept e = ap (closed_view (session_in s)) (found_none view_in id_of_view s.views.entries view kept.views e)

-- the views without one
others : (entries : List (Entry KeptView)) (view : ℕ) → AreNamed entries
    → map (λ (e : Entry KeptView). e.value.view) (without_id view entries) ≡ filter (λ (w : View). not (w.id == view)) (map (λ (e : Entry KeptView). e.value.view) entries)
others [] view all = refl
others (e ∷ es) view all =
    let seen = λ (x : Entry KeptView). x.value.view in let left = without_id view es in let rest = filter (λ (w : View). not (w.id == view)) (map seen es) in
    let same : map seen left ≡ rest = others es view all.1 in
    subst (λ n. map seen (cond (not (e.id == view)) (e ∷ left) left) ≡ cond (not (n == view)) (e.value.view ∷ rest) rest) all.0
    (elim (e.id == view) as (λ b. map seen (cond (not b) (e ∷ left) left) ≡ cond (not b) (e.value.view ∷ rest) rest) [ true ↦ same | false ↦ ap (λ ws. e.value.view ∷ ws) same ])

others_named : (entries : List (Entry KeptView)) (view : ℕ) → AreNamed entries → AreNamed (without_id view entries)
others_named entries view all = all_filter (λ (e : Entry KeptView). e.id ≡ e.value.view.id) (λ (e : Entry KeptView). not (e.id == view)) entries all

-- the documents without the view, and without its own if nothing else refers to that
left_so : LeavesTheLiving → (s : SessionState) (view : ℕ) (v : KeptView) (left : Entries Kept) → IsKept s → value_at s.views.entries view ≡ Some v
    → entries_in left.entries ≡ let_go v.view.document (left_by view) (entries_in s.documents.entries) → documents_in left ≡ living (map (left_by view) (documents_in s.documents))
left_so law s view v left kept at is =
    let old = session_in s in
    let referenced = all_weaker (IsSoundDocument s.limits) (λ (d : Document). 0 < references d) (λ d sound. sound.referenced) old.documents kept.sound.documents in
    living_left law v.view.document s.documents.next (left_by view) s.documents.entries left.entries kept.documents kept.sound.document_ids referenced is
    ∙ ap living (map_where (changed_at id_of_document v.view.document (left_by view)) (left_by view) old.documents
    (all_weaker (ListsItsViews old.views) (λ d. changed_at id_of_document v.view.document (left_by view) d ≡ left_by view d)
    (λ d lists. cond_both (d.id == v.view.document) (left_by view d) d (λ x. x ≡ left_by view d) (λ _. refl)
    (λ f. sym (stays_alike old.views v.view view d (found_some view_in id_of_view s.views.entries view v kept.views at) (eqb-false d.id v.view.document f) lists))) old.documents kept.sound.lists))

-- the session without the view, and without its document if nothing else refers to that
closed_so : LeavesTheLiving → (s : SessionState) (view : ℕ) (v : KeptView) (left : Entries Kept) (views : Entries KeptView) → IsKept s → value_at s.views.entries view ≡ Some v
    → entries_in left.entries ≡ let_go v.view.document (left_by view) (entries_in s.documents.entries) → left.next ≡ s.documents.next → views ≡ record s.views { entries = without_id view s.views.entries }
    → closed (session_in s) view ≡ Ok (session_in (record s { documents = left; views = views }))
closed_so law s view v left views kept at is next rest =
    let old = session_in s in
    let found : view_at old.views view ≡ Some v.view = found_some view_in id_of_view s.views.entries view v kept.views at in
    let own : v.view.id ≡ view = own_at id_of_view old.views view v.view found in
    let ds : documents_in left ≡ living (map (left_by view) old.documents) = left_so law s view v left kept at is in
    let vs : views_of views.entries ≡ filter (λ (w : View). not (w.id == view)) old.views = ap (λ (t : Entries KeptView). views_of t.entries) rest ∙ others s.views.entries view kept.views in
    let nv : views.next ≡ s.views.next = ap (λ (t : Entries KeptView). t.next) rest in
    rw (ds, vs, next, nv)
    (ap (closed_view old) found ∙ ap (λ n. Ok (record old { documents = living (map (left_by n) old.documents); views = filter (λ (w : View). not (w.id == n)) old.views })) own)

pub returns-in_default-clause-refused : goal.returns-in_default-clause-refused
returns-in_default-clause-refused c = not_open c.args.state.now c.args.view c.requires.kept (sym c.get.ensures ∙ ap option_copied c.in_default.is)

pub returns-clause-closed : goal.returns-clause-closed
returns-clause-closed c =
    let s = c.args.state.now in
    closed_so c.the_living_are_left.ensures s c.args.view c.in-Some.open.now c.leave.new.self c.remove.new.self c.requires.kept (sym c.get.ensures ∙ ap option_copied c.in-Some.is)
    (subst (λ id. entries_in c.leave.new.self.entries ≡ let_go id (left_by c.args.view) (entries_in s.documents.entries)) c.document.ensures c.leave.ensures.documents)
    c.leave.ensures.next c.remove.ensures.rest

pub returns-clause-documents : goal.returns-clause-documents
returns-clause-documents c = named_left c.document.result (left_by c.args.view) (λ d. refl) c.args.state.now.documents.entries c.leave.new.self.entries c.requires.kept.documents c.leave.ensures.documents

pub returns-clause-views : goal.returns-clause-views
returns-clause-views c = subst (λ (t : Entries KeptView). AreNamed t.entries) (sym c.remove.ensures.rest) (others_named c.args.state.now.views.entries c.args.view c.requires.kept.views)

pub returns-clause-widths : goal.returns-clause-widths
returns-clause-widths c =
    let s = c.args.state.now in let view = c.args.view in let kept = c.requires.kept in let views = c.remove.new.self in
    let ds : documents_in c.leave.new.self ≡ living (map (left_by view) (documents_in s.documents)) =
    left_so c.the_living_are_left.ensures s view c.in-Some.open.now c.leave.new.self kept (sym c.get.ensures ∙ ap option_copied c.in-Some.is)
    (subst (λ id. entries_in c.leave.new.self.entries ≡ let_go id (left_by view) (entries_in s.documents.entries)) c.document.ensures c.leave.ensures.documents) in
    subst (λ ds. HaveWidths ds views) (sym ds)
    (widths_living (map (left_by view) (documents_in s.documents)) views
    (widths_changed (left_by view) (left_place view) (documents_in s.documents) views
    (widths_without view (documents_in s.documents) s.views views (ap (λ (t : Entries KeptView). t.entries) c.remove.ensures.rest) kept.widths)))
