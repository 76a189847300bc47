use Rattle.editor_session.proofs.Names.{rules, ◌≡◌, None, kind_of, ap, sym, ◌∙◌, session_in, table_from_view, table_from_kind}
use Rattle.editor_session.proofs.TableWay.{is_found, request_is}
use Rattle.editor_session.proofs.find.find.Goals as goal

pub returns-in_default-clause-refused : goal.returns-in_default-clause-refused
returns-in_default-clause-refused c = rw (sym c.session.view_is) (ap (table_from_view (session_in c.session.inside.state) c.args.message.now) c.in_default.ensures.none)

pub returns-in_default-kind-clause-refused : goal.returns-in_default-kind-clause-refused
returns-in_default-kind-clause-refused c =
    let s = session_in c.session.inside.state in let m = c.args.message.now in
    let unknown : kind_of m.number ≡ None = search rules in
    rw (sym c.session.view_is) (ap (table_from_view s m) c.in-Some.ensures.view ∙ ap (table_from_kind s c.in-Some.found.view.now.view m) unknown)

pub returns-clause-found : goal.returns-clause-found
returns-clause-found c =
    let a = c.args in let f = c.in-Some.found in let e = c.in-Some.ensures in
    rw (sym c.session.view_is) (is_found (session_in c.session.inside.state) a.view a.message.now f.view.now.view c.in-Some-kind.kind f.document.now.document c.session.invariant.sound e.view (search rules) e.document)

pub returns-clause-request : goal.returns-clause-request
returns-clause-request c =
    let a = c.args in let f = c.in-Some.found in let e = c.in-Some.ensures in
    rw (sym c.session.view_is) (c.request_to.ensures ∙ request_is (session_in c.session.inside.state) a.view a.message.now f.view.now.view f.document.now.document e.view e.document)
