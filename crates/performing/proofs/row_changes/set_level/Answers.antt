use Rattle.performing.proofs.Changes.{[], ◌≡◌, refl, ap, ◌∙◌, ◌==◌, not, arith, common_steps, document_of, document_row, heard, notice_of, SetLevel, Level, is_made_if, flipped}
use Rattle.performing.proofs.row_changes.set_level.Goals as goal

pub returns-clause-made : goal.returns-clause-made
returns-clause-made c =
    let k = c.args.document.now in let line = c.args.line in let before = (document_row k.document line).level in let note = Level line c.args.level before in
    let same = ap document_of c.reserve_level.ensures.grown.0 in let was : c.set_level-before.result ≡ before = c.set_level-before.ensures.before ∙ rw same refl in
    is_made_if (not (before == c.args.level)) [] (SetLevel line c.args.level) k c.reserve_level.new.self c.set_level-before.new.self note c.note_if.result same (rw was at c.note_if.ensures)
    (ap document_of c.set_level-before.ensures.document) (λ v views. flipped (before == c.args.level) _ (heard views (notice_of k.document note)) refl) c.requires (grind (arith, common_steps))
