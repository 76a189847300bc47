-- The notes of a step are those of the model's step.
use Rattle.scene.proofs.Names.{◌≡◌, ℕ, ◌+◌, List, [], length, ap, sym, ◌∙◌, slice_range, ℤ, Note, with_text, Notice, step_bytes, before_note, after_note, length_slice, step_in, IsStepOn, before_kind, after_kind, place_in, count_in, text_before, IsRangeNote}
use Rattle.document.specs.declared.text_step.TextStep.{TextStep}
use Rattle.document.specs.declared.text_step.TextStep.TheVariants.{Insert, Delete}

pub note_before : (step : TextStep) (bits kind place count : ℕ) (text : List ℕ) (note : Note) → IsStepOn step (length text) → kind ≡ before_kind bits (step_in step text)
    → place ≡ place_in step → count ≡ count_in step → IsRangeNote kind place count note
    → with_text note (text_before (step_in step text)) ≡ before_note bits (step_in step text)
note_before (Insert p bytes) bits kind place count text note on k pl c tells = rw (k, pl, c) at (tells bytes.now)
note_before (Delete p n) bits kind place count text note on k pl c tells = rw (k, pl, c ∙ sym (length_slice text p n on)) at (tells [])

-- the same with the number of lines added
pub note_after : (step : TextStep) (bits kind place count : ℕ) (lines : ℤ) (text : List ℕ) (note : Note) → IsStepOn step (length text) → kind ≡ after_kind bits (step_in step text)
    → place ≡ place_in step → count ≡ count_in step → IsRangeNote kind place count note
    → with_text (record note { lines = lines }) (step_bytes (step_in step text)) ≡ after_note bits lines (step_in step text)
note_after (Insert p bytes) bits kind place count lines text note on k pl c tells = ap (λ (n : Notice). record n { lines = lines }) (rw (k, pl, c) at (tells bytes.now))
note_after (Delete p n) bits kind place count lines text note on k pl c tells =
    ap (λ (n : Notice). record n { lines = lines }) (rw (k, pl, c ∙ sym (length_slice text p n on)) at (tells (slice_range text p (p + n))))
