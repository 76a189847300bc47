use Rattle.editor_session.proofs.Names.{rules, ◌≡◌, ◌++◌, ◌∷◌, [], to_z, of_z, w64, ap, ◌∙◌, Notice, Gathered, message_with, recording}
use Rattle.editor_session.proofs.recording.record.Goals as goal

pub returns : goal.returns
returns c =
    let a = c.args in let m = c.message.inside in
    let same : message_with m.number (to_z w64 (of_z w64 m.w)) (to_z w64 (of_z w64 m.l)) m.text.now ≡ message_with m.number m.w m.l m.text.now = search rules in
    let kept : c.reserve.new.self.notes ≡ a.notes.now.notes = search rules in
    record {
      note = ap (λ (g : Gathered). g.notes) c.put.ensures
          ∙ ap (λ (n : Notice). c.reserve.new.self.notes ++ (record n { view = a.view; message = m.number; w = to_z w64 (of_z w64 m.w); l = to_z w64 (of_z w64 m.l) }) ∷ []) (c.blank-note.ensures m.text.now)
          ∙ ap (λ ns. ns ++ recording a.view (message_with m.number (to_z w64 (of_z w64 m.w)) (to_z w64 (of_z w64 m.l)) m.text.now) ∷ []) kept
          ∙ ap (λ x. a.notes.now.notes ++ recording a.view x ∷ []) (same ∙ c.message.view_is);
    }
