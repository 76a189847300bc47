use Rattle.performing.proofs.Changes.{[], ◌<◌, true, false, not, refl, sym, ap, ◌∙◌, subst, arith, common_steps, document_of, line_with_handle, lines_in, heard, marker_notice, IsMade, DeleteHandle, Markers, Nothing, left_within, left_line, left_none, is_made_if, flipped}
use Rattle.performing.proofs.marker_changes.delete_handle.Goals as goal

pub returns-in-Some : goal.returns-in-Some
returns-in-Some c =
    let k = c.args.document.now in let new = c.delete_handle.new.self in let what = DeleteHandle c.args.handle in let made = ap document_of c.delete_handle.ensures.document in
    let left = left_line _ _ _ (rw made at (sym c.delete_handle.ensures.line ∙ c.in-Some.is)) in let own = line_with_handle c.args.handle 0 k.document.rows in
    let within : own < lines_in k.document = (let w = left_within c.args.handle 0 k.document.rows left.0 in let n = c.parts_match_text.ensures.rows in omega arith) in
    subst (λ line. IsMade [] what k new (Markers line)) left.1
    (is_made_if true [] what k k new (Markers own) (Markers own) refl refl made (λ v views. flipped _ true (heard views (marker_notice k.document own)) (sym (ap not left.0))) within (grind (arith, common_steps)))

pub returns-in-None : goal.returns-in-None
returns-in-None c =
    let k = c.args.document.now in let made = ap document_of c.delete_handle.ensures.document in let none = left_none _ _ (rw made at (sym c.delete_handle.ensures.line ∙ c.in-None.is)) in
    is_made_if false [] (DeleteHandle c.args.handle) k k c.delete_handle.new.self Nothing Nothing refl refl made
    (λ v views. flipped _ false (heard views (marker_notice k.document (line_with_handle c.args.handle 0 k.document.rows))) (sym (ap not none))) tt (grind (arith, common_steps))
