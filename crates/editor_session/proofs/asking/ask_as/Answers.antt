use Rattle.editor_session.proofs.Names.{sym, ap, ◌∙◌, session_in, value_asked, value_from_document, value_from_view, value_from_kind}
use Rattle.editor_session.proofs.Questions.{value_answered}
use Rattle.editor_session.proofs.asking.ask_as.Goals as goal

pub returns-in_default : goal.returns-in_default
returns-in_default c =
    let a = c.args in let s = session_in c.session.inside.state in let m = a.message.now in
    rw (sym c.session.view_is) (record { value = sym (ap (value_from_kind s a.view m) c.requires.question ∙ ap (value_from_view s a.kind m) c.in_default.ensures.none); answer = tt })

pub returns : goal.returns
returns c =
    let a = c.args in let s = session_in c.session.inside.state in let m = a.message.now in let v = c.in-Some.found.view.now.view in let e = c.in-Some.ensures in
    let value = c.value_of.ensures ∙ ap (value_asked a.kind) c.request_to-request.ensures in
    rw (sym c.session.view_is)
    (record {
      value = value ∙ sym (ap (value_from_kind s a.view m) c.requires.question ∙ ap (value_from_view s a.kind m) e.view ∙ ap (value_from_document s v a.kind m) e.document);
      answer = value_answered c.kinds_and_numbers.ensures.found s a.view m e.view e.document c.requires.question c.value_of.result value;
    })
