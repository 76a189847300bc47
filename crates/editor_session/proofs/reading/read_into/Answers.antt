use Rattle.editor_session.proofs.Names.{rules, ◌≡◌, ◌∙◌, subst, sym, ap, Ok, Some, request, session_in, handed_asked}
use Rattle.editor_session.proofs.Questions.{sound_request, handing, handed_within, bytes_answered}
use Rattle.editor_session.proofs.reading.read_into.Goals as goal

pub read_bytes-requires : goal.read_bytes-requires
read_bytes-requires c =
    let a = c.args in let s = session_in c.session.inside.state in let f = c.in-Some.found in let r = request s f.view.now.view f.document.now.document a.message.now in
    let is : handed_asked a.kind r ≡ Some c.in-Some-handed_of.handed = subst (λ x. handed_asked a.kind x ≡ Some c.in-Some-handed_of.handed) c.request_to-request.ensures (sym c.handed_of.ensures ∙ c.in-Some-handed_of.is) in
    record { range = handed_within c.plans_are_fit.ensures.in_range a.kind r c.in-Some-handed_of.handed (sound_request s a.view a.message.now f.view.now.view f.document.now.document c.session.invariant.sound c.in-Some.ensures.view c.in-Some.ensures.document) is }

pub returns-in-Ok-clause-answer : goal.returns-in-Ok-clause-answer
returns-in-Ok-clause-answer c =
    let a = c.args in let s = session_in c.session.inside.state in let v = c.in-Some.found.view.now.view in let d = c.in-Some.found.document.now.document in let h = c.in-Some-handed_of.handed in
    let is : handed_asked a.kind (request s v d a.message.now) ≡ Some h = subst (λ x. handed_asked a.kind x ≡ Some h) c.request_to-request.ensures (sym c.handed_of.ensures ∙ c.in-Some-handed_of.is) in
    let left : handing d h ≡ c.replace_text-in-Ok.new.self = search rules in
    rw (sym c.session.view_is) (bytes_answered c.kinds_and_numbers.ensures.found s a.view a.message.now c.in-Some.ensures.view c.in-Some.ensures.document c.requires.question h is ∙ ap (λ x. Ok (s, x)) left)
