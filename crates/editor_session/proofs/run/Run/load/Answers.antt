use Rattle.editor_session.proofs.Names.{rules, ◌≡◌, ◌<◌, ◌-◌, true, Some, pos, length, slice_get, ap, subst, is_some, Running, file_at, set_text_message, Session, view_at, table, message_with, refl}
use Rattle.editor_session.proofs.RunLemmas.{IsSaid, file_there, loading_says}
use Rattle.std.proofs.lemmas.Option.{slice_get_read}
use Rattle.editor_session.proofs.run.Run.load.Goals as goal

pub returns-clause-refused : goal.returns-clause-refused
returns-clause-refused c =
    let a = c.args in let s = a.self.now.session in let bytes = c.index-files-file.result in
    let own = ap (λ (r : Running). r.session) c.self.view_is in
    let there : is_some (view_at s.views a.view) ≡ true = search rules in
    let within : a.file - 1 < length a.files.now = search rules in
    let file : slice_get a.files.now (a.file - 1) ≡ Some bytes = slice_get_read a.files.now (length a.files.now) (a.file - 1) bytes refl within c.index-files-file.is in
    let some : 0 < a.file = search rules in
    let same : message_with c.number.result (pos 0) (pos 0) c.as_slice-text.result.now ≡ set_text_message bytes = search rules in
    let said = subst (λ m. IsSaid (table c.self.inside.session a.view m) c.send_lent.result) same c.send_lent.ensures.refused in
    loading_says s a.view (view_at s.views a.view) (file_at a.files.now a.file) bytes c.send_lent.result there (file_there a.files.now a.file bytes some file)
    (subst (λ (x : Session). IsSaid (table x a.view (set_text_message bytes)) c.send_lent.result) own said)
