use Rattle.editor_session.proofs.Names.{rules, value_at, Kept, IsPastedFor}
use Rattle.editor_session.proofs.EditLemmas.{all_promised, pasted_none}
use Rattle.editor_session.proofs.editing.pasted_bytes.Goals as goal

pub returns-then-not-is_turned-clause-pasted : goal.returns-then-not-is_turned-clause-pasted
returns-then-not-is_turned-clause-pasted c =
    let a = c.args in
    all_promised (value_at a.state.now.documents.entries a.document) (λ (k : Kept). IsPastedFor a.edit a.state.now.clipboard.items k.document.line_end c.new.result.items)
    (λ (k : Kept). pasted_none a.edit a.state.now.clipboard.items c.new.result.items k.document.line_end (search rules))
