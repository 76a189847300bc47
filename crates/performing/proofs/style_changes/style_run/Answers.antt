use Rattle.performing.proofs.Changes.{◌≡◌, refl, ap, ◌∙◌, subst, arith, common_steps, length-map, Option, ℕ, change_style, range_notes, notes_of, Cell, Kept, styles_of, range_small}
use Rattle.performing.proofs.style_changes.style_run.Goals as goal

pub range_note-requires : goal.range_note-requires
range_note-requires c =
    let d = c.args.document.now.document in let same : c.reserve_styles.new.self.document ≡ d = ap (λ (k : Kept). k.document) c.reserve_styles.ensures.grown.0 in
    let l = length-map d.cells (λ (c : Cell). c.style) in let small = c.document_is_small.ensures.text in
    range_small c.style_run-changed.result (styles_of d.cells) (styles_of c.style_run-changed.new.self.document.cells) (rw same at c.style_run-changed.ensures.changed) (omega arith)

pub returns-clause-made : goal.returns-clause-made
returns-clause-made c =
    let d = c.args.document.now.document in let new = c.style_run-changed.new.self in
    let same : c.reserve_styles.new.self.document ≡ d = ap (λ (k : Kept). k.document) c.reserve_styles.ensures.grown.0 in
    record {
      document = ap (λ (k : Kept). k.document) c.style_run-changed.ensures.document ∙ rw same refl;
      told = λ v views. subst (λ (o : Option (ℕ × ℕ)). range_notes change_style o views ≡ notes_of v views new.document c.range_note.result) (rw same at c.style_run-changed.ensures.changed)
          (c.range_note.ensures.told change_style v views new.document refl);
      fits = c.range_note.ensures.fits new.document;
      memory = grind (arith, common_steps);
    }
