-- After a step of the text a sound document is sound, and its views fit it.
use Rattle.ed_model.proofs.Names.{◌≡◌, ℕ, ◌≤◌, List, [], ◌∷◌, length, replicate, ap, sym, ◌∙◌, subst, arith, AllByRecursion, length-map, length-replicate, Limits, Cell, plain_cells, plain_cell, line_count, Step, Insert, Delete, edited, edited_cells, place_of, moved_position, rows_together, flags_together, indicator_after, indicators_after, inserted_value, History, size_after, Document, View, text_of, limit_of, document_after, moved_view, IsStepOf, FitsText, IsSoundDocument, StandsOn, bytes_of_edited_cells, length_text}
use Rattle.ed_model.proofs.StepLemmas.{position_stays_in_range}
use Rattle.ed_model.proofs.CarryLemmas.{length-carried_by}
use Rattle.ed_model.proofs.SoundLists.{are_line_starts}
use Rattle.ed_model.proofs.SoundSteps.{InRange, fits_range, length_edited, length_deleted}
use Rattle.ed_model.proofs.SoundCarry.{first_carried_by, handles_carried_by}

pub length_cells_after : (step : Step) (cells : List Cell) → InRange (length cells) step → length (edited_cells step cells) ≡ size_after (length cells) step
length_cells_after (Insert p bytes) cells h = length_edited (length bytes) p cells (plain_cells bytes) (length-map bytes plain_cell) h
length_cells_after (Delete p bytes) cells h = length_deleted (length bytes) p cells h

length_indicator_after : (step : Step) (values : List ℕ) → InRange (length values) step → length (indicator_after step values) ≡ size_after (length values) step
length_indicator_after (Insert p bytes) values h =
    length_edited (length bytes) p values (replicate (length bytes) (inserted_value values p)) (length-replicate (length bytes) (inserted_value values p)) h
length_indicator_after (Delete p bytes) values h = length_deleted (length bytes) p values h

indicators_fit : (step : Step) (n : ℕ) (lists : List (List ℕ)) → InRange n step → AllByRecursion (λ (values : List ℕ). length values ≡ n) lists
    → AllByRecursion (λ (values : List ℕ). length values ≡ size_after n step) (indicators_after step lists)
indicators_fit step n [] h all = tt
indicators_fit step n (values ∷ lists) h all =
    (length_indicator_after step values (subst (λ k. InRange k step) (sym all.0) h) ∙ ap (λ k. size_after k step) all.0, indicators_fit step n lists h all.1)

place_within : (step : Step) (n : ℕ) → InRange n step → place_of step ≤ size_after n step
place_within (Insert p bytes) n h = omega arith
place_within (Delete p bytes) n h = omega arith

-- a step that can be performed is in range for the cells
pub cells_range : (d : Document) (step : Step) → IsStepOf (text_of d) step → InRange (length d.cells) step
cells_range d step f = subst (λ k. InRange k step) (length_text d) (fits_range (text_of d) step f)

-- the text after a step
pub text_after : (d : Document) (step : Step) → text_of (document_after step d) ≡ edited step (text_of d)
text_after d step = bytes_of_edited_cells step d.cells

-- a sound document is sound after such a step, with any history that fits the new text
pub document_made : (limits : Limits) (d : Document) (step : Step) (h : History) → IsSoundDocument limits d → IsStepOf (text_of d) step
    → size_after (length d.cells) step ≤ limit_of limits d → FitsText (limit_of limits d) (edited step (text_of d)) h
    → IsSoundDocument limits (record (document_after step d) { history = h })
document_made limits d step h sound fits room history =
    let range = cells_range d step fits in
    let n : length (edited_cells step d.cells) ≡ size_after (length d.cells) step = length_cells_after step d.cells range in
    let place = place_within step (length d.cells) range in
    record {
      line_starts = are_line_starts d.line_end_types (text_of (document_after step d));
      rows = length-carried_by rows_together d.line_end_types step (text_of d) d.rows ∙ ap (line_count d.line_end_types) (sym (text_after d step));
      indicator_count = length-map d.indicators (indicator_after step) ∙ sound.indicator_count;
      indicators = subst (λ k. AllByRecursion (λ (values : List ℕ). length values ≡ k) (indicators_after step d.indicators)) (sym n)
          (indicators_fit step (length d.cells) d.indicators range sound.indicators);
      styled = omega arith;
      bounded = subst (λ k. k ≤ limit_of limits d) (sym n) room;
      handles_differ = λ handle. let a = handles_carried_by handle d.line_end_types step (text_of d) d.rows in let b = sound.handles_differ handle in omega arith;
      handles_below = λ handle le. let a = handles_carried_by handle d.line_end_types step (text_of d) d.rows in let b = sound.handles_below handle le in omega arith;
      referenced = sound.referenced;
      history = subst (λ t. FitsText (limit_of limits d) t h) (sym (text_after d step)) history;
    }

-- a view fits the document after a step
pub view_made : (d : Document) (step : Step) (h : History) (v : View) → StandsOn d v → StandsOn (record (document_after step d) { history = h }) (moved_view step d v)
view_made d step h v stands = record {
  anchor = place v.anchor stands.anchor;
  caret = place v.caret stands.caret;
  target_start = place v.target_start stands.target_start;
  target_end = place v.target_end stands.target_end;
  lines = length-carried_by flags_together d.line_end_types step (text_of d) v.flags ∙ ap (line_count d.line_end_types) (sym (text_after d step));
  first_line = first_carried_by d.line_end_types step (text_of d) v.flags stands.first_line;
  indicator = stands.indicator;
  listed = stands.listed;
}
  where
    place : (q : ℕ) → q ≤ length d.cells → moved_position step q ≤ length (edited_cells step d.cells)
    place q le =
        let n : length (edited step (text_of d)) ≡ length (edited_cells step d.cells) = ap length (sym (text_after d step)) ∙ length_text (document_after step d) in
        subst (λ k. moved_position step q ≤ k) n (position_stays_in_range step (text_of d) q (subst (λ k. q ≤ k) (sym (length_text d)) le))
