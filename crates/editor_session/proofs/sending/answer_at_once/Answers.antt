use Rattle.editor_session.proofs.Names.{◌≡◌, ℕ, ℤ, List, Option, Some, None, Ok, IfSome, Session, Message, table, quiet, with_text}
use Rattle.editor_session.proofs.sending.answer_at_once.Goals as goal

-- what is answered with any text is answered with the message's own
with_its_text : (s : Session) (view : ℕ) (m : Message) (o : Option ℤ) → IfSome o (λ value. (text : List ℕ) → table s view (with_text m text) ≡ Ok (s, quiet value)) → IfSome o (λ value. table s view m ≡ Ok (s, quiet value))
with_its_text s view m None h = tt
with_its_text s view m (Some value) h = h m.text

pub returns-in-Question-clause-done : goal.returns-in-Question-clause-done
returns-in-Question-clause-done c = let a = c.args in with_its_text a.session.now a.view a.message.now c.ask_as.result c.ask_as.ensures.answer
