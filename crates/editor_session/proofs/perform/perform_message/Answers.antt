use Rattle.editor_session.proofs.Names.{rules, ◌≡◌, false, true, Ok, refl, ap, ◌∙◌, response, first_note, err_from_is_err_and}
use Rattle.editor_session.proofs.TableWay.{answered_so, free_plan, replied_so, unperformed}
use Rattle.editor_session.proofs.perform.perform_message.Goals as goal

pub returns-clause-answered : goal.returns-clause-answered
returns-clause-answered c =
    let a = c.args in let n = c.perform.new in
    let first : c.record_if.new.notes.notes ≡ first_note a.task.now.is_recorded a.task.now.view a.task.now.message.now = search rules in
    let left : response c.in_ok-value.value n.handed_out.items n.notes.notes ≡ c.keep.new.reply = search rules in
    replied_so (answered_so c.requires.planned first c.in_ok-value.ensures.done ∙ ap (λ x. Ok (n.session, x)) left)

pub returns-in_err-record_if-clause-answered : goal.returns-in_err-record_if-clause-answered
returns-in_err-record_if-clause-answered c =
    let p = err_from_is_err_and c.from_residual.result c.from_residual.ensures.1 in
    rw (p.1, p.2) (unperformed c.requires.planned refl (λ free. let bad : false ≡ true = c.in_err-record_if.ensures.free (free_plan c.requires.planned free).1 in cc))

pub returns-in_err-value-clause-answered : goal.returns-in_err-value-clause-answered
returns-in_err-value-clause-answered c =
    let p = err_from_is_err_and c.from_residual-in_err-value.result c.from_residual-in_err-value.ensures.1 in
    rw (p.1, p.2) (unperformed c.requires.planned c.in_err-value.ensures.same (λ free. let bad : false ≡ true = c.in_err-value.ensures.free (free_plan c.requires.planned free).0 in cc))
