use Rattle.performing.proofs.Changes.{[], ◌≡◌, refl, ap, ◌∙◌, ◌==◌, not, w32, to_z-of_z, of_z, ℤ, arith, common_steps, document_of, changed_document, document_row, line_note, heard, change_line_state, SetState, State, is_made_if, flipped}
use Rattle.ed_model.specs.Numbers.{is_same}
use Rattle.ed_model.specs.proved.Numbers.{same_states}
use Rattle.performing.proofs.row_changes.set_state.Goals as goal

pub returns : goal.returns
returns c =
    let k = c.args.document.now in let line = c.args.line in let state = c.args.state in let old = (document_row k.document line).state in let mid = c.reserve_state.new.self in
    let same = ap document_of c.reserve_state.ensures.grown.0 in let before = c.set_state-before in let was : before.result ≡ old = before.ensures.before ∙ rw same refl in
    let states = same_states before.result state (record { sfits = before.type_inv }) c.ranges.state in
    is_made_if (not (of_z w32 before.result == of_z w32 state)) [] (SetState line state) k mid before.new.self (State line) c.note_if.result same c.note_if.ensures
    (ap document_of before.ensures.document ∙ ap (λ (z : ℤ). changed_document [] (SetState line z) mid.document) (to_z-of_z w32 state c.ranges.state))
    (λ v views. flipped (is_same old state) _ (heard views (line_note change_line_state line)) (ap not (states ∙ rw was refl))) c.requires (grind (arith, common_steps))
