use Rattle.ed_model.specs.History.{at_save_point}
use Rattle.performing.proofs.Changes.{[], refl, cond, ap, ◌∙◌, w64, ◌&&◌, ℤ, to_z-of_z, common_steps, arith, document_of, changed_document, AppendContainer, SavePointLeft, Nothing, is_made_if}
use Rattle.performing.proofs.history_changes.append_container.Goals as goal

pub returns : goal.returns
returns c =
    let k = c.args.document.now in let mid = c.reserve_container.new.self in let same = ap document_of c.reserve_container.ensures.grown.0 in let h = k.document.history in
    is_made_if (h.collecting && at_save_point h) [] (AppendContainer c.args.token c.args.coalesce) k mid c.append_container_reserved.new.self SavePointLeft c.note_if.result same
    (rw same at (c.note_if.ensures ∙ ap (λ b. cond b SavePointLeft Nothing) c.leaves_save_point-is_left.ensures))
    (ap document_of c.append_container_reserved.ensures ∙ ap (λ (z : ℤ). changed_document [] (AppendContainer z c.args.coalesce) mid.document) (to_z-of_z w64 c.args.token c.ranges.token))
    (λ v views. refl) tt (grind (arith, common_steps))
