use Rattle.performing.proofs.Changes.{◌≡◌, [], ℕ, length, refl, ap, ◌∙◌, subst, arith, Option, slice_index_or, change_indicator, range_notes, notes_of, Kept, range_small, values_length}
use Rattle.performing.proofs.style_changes.fill_indicator.Goals as goal

pub range_note-requires : goal.range_note-requires
range_note-requires c =
    let d = c.args.document.now.document in let i = c.args.indicator in let same : c.reserve_fill.new.self.document ≡ d = ap (λ (k : Kept). k.document) c.reserve_fill.ensures.grown.0 in
    let l = values_length d.indicators i (length d.cells) c.parts_match_text.ensures.indicators in let small = c.document_is_small.ensures.text in
    range_small c.fill-changed.result (slice_index_or d.indicators i []) (slice_index_or c.fill-changed.new.self.document.indicators i []) (rw same at c.fill-changed.ensures.changed) (omega arith)

pub returns : goal.returns
returns c =
    let d = c.args.document.now.document in let new = c.fill-changed.new.self in let same : c.reserve_fill.new.self.document ≡ d = ap (λ (k : Kept). k.document) c.reserve_fill.ensures.grown.0 in
    record {
      document = ap (λ (k : Kept). k.document) c.fill-changed.ensures.document ∙ rw same refl;
      told = λ v views. subst (λ (o : Option (ℕ × ℕ)). range_notes change_indicator o views ≡ notes_of v views new.document c.range_note.result) (rw same at c.fill-changed.ensures.changed)
          (c.range_note.ensures.told change_indicator v views new.document refl);
      fits = c.range_note.ensures.fits new.document;
      memory = record { ready = c.reserve_fill.new.self; reserved = c.reserve_fill.ensures.grown; kept = c.fill-changed.ensures.memory };
    }
