use Rattle.editor_session.proofs.Names.{rules, ◌≡◌, sym, ap, None, question_of, value_from_kind}
use Rattle.editor_session.proofs.asking.ask.Goals as goal

pub returns-in_default : goal.returns-in_default
returns-in_default c =
    let a = c.args in
    let none : question_of a.message.now.number ≡ None = search rules in
    record { value = sym (ap (value_from_kind a.session.now a.view a.message.now) none); answer = tt }
