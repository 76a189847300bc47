use Rattle.editor_session.proofs.Names.{◌≡◌, ◌+◌, List, [], ◌∷◌, ◌++◌, map, refl, ap, sym, subst, ◌∙◌, documents_in, views_of, width_at, width_of, widths_opened, HaveWidths, map-append, new_document, new_view, Entry, Entries, entry, Kept, KeptView, session_in, SessionState, rules}
use Rattle.editor_session.specs.Opening.{document_for, with_view_on_new}
use Rattle.editor_session.proofs.opening.open.Goals as goal

-- one more value, behind those that a table had before it got room for it
added : {V : Type 0} (t mid : Entries V) (all : List (Entry V)) (v : V) → mid ≡ record t { capacity = mid.capacity } → all ≡ mid.entries ++ entry mid.next v ∷ [] → all ≡ t.entries ++ entry t.next v ∷ []
added {V} t mid all v grown is = is ∙ ap (λ (t : Entries V). t.entries ++ entry t.next v ∷ []) grown

-- the session with a view on a new document
opened_so : (s : SessionState) (documents : Entries Kept) (views : Entries KeptView) (k : Kept) (v : KeptView) → documents.entries ≡ s.documents.entries ++ entry s.documents.next k ∷ [] → documents.next ≡ s.documents.next + 1
    → views.entries ≡ s.views.entries ++ entry s.views.next v ∷ [] → views.next ≡ s.views.next + 1
    → k.document ≡ document_for s.views.next s.documents.next → v.view ≡ new_view s.views.next (new_document s.documents.next 0)
    → session_in (record s { documents = documents; views = views }) ≡ with_view_on_new (session_in s)
opened_so s documents views k v de dn ve vn kd vv =
    let old = session_in s in
    let ds : documents_in documents ≡ old.documents ++ document_for s.views.next s.documents.next ∷ [] =
    ap (map (λ (e : Entry Kept). e.value.document)) de ∙ map-append (λ (e : Entry Kept). e.value.document) s.documents.entries (entry s.documents.next k ∷ []) ∙ ap (λ d. old.documents ++ d ∷ []) kd in
    let vs : views_of views.entries ≡ old.views ++ new_view s.views.next (new_document s.documents.next 0) ∷ [] =
    ap (map (λ (e : Entry KeptView). e.value.view)) ve ∙ map-append (λ (e : Entry KeptView). e.value.view) s.views.entries (entry s.views.next v ∷ []) ∙ ap (λ x. old.views ++ x ∷ []) vv in
    rw (ds, vs, dn, vn) refl

pub returns-clause-ok : goal.returns-clause-ok
returns-clause-ok c =
    let s = c.args.state.now in let d = c.reserve.ensures.grown.0 in let v = c.reserve-2.ensures.grown.0 in let put = c.insert_reserved.ensures in let put_view = c.insert_reserved-2.ensures in
    opened_so s c.insert_reserved.new.self c.insert_reserved-2.new.self c.in_ok-document.document c.in_ok-document.view
    (added s.documents _ _ _ d put.entries) (put.next ∙ ap (λ (t : Entries Kept). t.next + 1) d) (added s.views _ _ _ v put_view.entries) (put_view.next ∙ ap (λ (t : Entries KeptView). t.next + 1) v)
    (search rules) (search rules)

pub returns-clause-widths : goal.returns-clause-widths
returns-clause-widths c =
    let s = c.args.state.now in let kept = c.requires.kept in let k = c.in_ok-document.document in let v = c.in_ok-document.view in
    let ds : documents_in c.insert_reserved.new.self ≡ documents_in s.documents ++ k.document ∷ [] =
    ap (map (λ (e : Entry Kept). e.value.document)) (added s.documents _ _ k c.reserve.ensures.grown.0 c.insert_reserved.ensures.entries)
    ∙ map-append (λ (e : Entry Kept). e.value.document) s.documents.entries (entry s.documents.next k ∷ []) in
    let widths : map width_at c.insert_reserved-2.new.self.entries ≡ map width_at s.views.entries ++ width_of v ∷ [] =
    ap (map width_at) (added s.views _ _ v c.reserve-2.ensures.grown.0 c.insert_reserved-2.ensures.entries) ∙ map-append width_at s.views.entries (entry s.views.next v ∷ []) in
    subst (λ ds. HaveWidths ds c.insert_reserved-2.new.self) (sym ds)
    (widths_opened (documents_in s.documents) s.documents.next k.document v s.views c.insert_reserved-2.new.self.entries widths kept.sound.document_ids kept.sound.views (search rules) (search rules) (search rules) kept.widths)
