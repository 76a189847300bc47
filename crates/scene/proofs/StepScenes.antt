-- A scene under a step: each view on the document can follow, all follow as the model says, and their positions are in the new text.
use Rattle.scene.proofs.Names.{◌≡◌, ℕ, ◌+◌, ◌^◌, ◌<◌, ◌≤◌, Bool, true, false, List, map, length, refl, ap, sym, ◌∙◌, subst, arith, Notice, fresh_lines, lines_for_step, EditsBringFewLines, movement_of, LineEndTypes, Step, History, View, Document, text_of, is_large, Scene, document_after, moved_view, view_after, StandsOn, length_text, length_slice, Entries, AreFewLines, KeptView, step_edits, MovesAreThoseOfSteps, StepsFitViews, DocumentNeed, Kept, HasHistoryRoom, HasTextRoom, bound_of, FitsWidth, step_in, IsStepOn, need_of, need_of_step, views_of, IsWatched, CanFollow, CanAllFollow, HaveFollowed, slice_range, IsSmallStep}
use Rattle.ed_model.specs.Steps as model
use Rattle.ed_model.specs.InverseLaws.{Fits}
use Rattle.ed_model.specs.StandingLaws.{StepsKeepViewsStanding}
use Rattle.ed_model.specs.proved.Lines.{few_lines}
use Rattle.undo_history.specs.Kept.{HistoryCapacity, kept, HasRoom as HistoryHasRoom}
use Rattle.document.specs.Changes.{with_history}
use Rattle.document.specs.declared.text_step.TextStep.{TextStep}
use Rattle.document.specs.declared.text_step.TextStep.TheVariants.{Insert, Delete}
use Rattle.scene.proofs.ChangeSteps.{ends_in_text, small_count}
use Rattle.scene.proofs.Watching.{watched_can, watched_as, watched_again}

abbrev pub scene_with : Document → List View → List Notice → Scene
scene_with d vs ns = record { document = d; views = vs; notes = ns }

-- a step that fits the cells fits the text
pub on_text : (step : TextStep) (d : Document) → IsStepOn step (length d.cells) → IsStepOn step (length (text_of d))
on_text step d h = subst (IsStepOn step) (sym (length_text d)) h

-- it is a step of the model that fits, and needs as many bytes of text
pub lent_fits : (step : TextStep) (text : List ℕ) → IsStepOn step (length text) → Fits (step_in step text) text
lent_fits (Insert p bytes) text h = h
lent_fits (Delete p n) text h = let l = length_slice text p n h in (omega arith, ap (λ m. slice_range text p (p + m)) l)

pub lent_text : (types : LineEndTypes) (step : TextStep) (text : List ℕ) → (need_of types step).text ≡ (need_of_step types (step_in step text)).text
lent_text types (Insert p bytes) text = refl
lent_text types (Delete p n) text = refl

-- the numbers of the step are small
pub small_step : (types : LineEndTypes) (step : TextStep) (size : ℕ) → IsStepOn step size → size + (need_of types step).text < 2 ^ 61 → IsSmallStep step
small_step types (Insert p bytes) size on bound = (omega arith, omega arith)
small_step types (Delete p n) size on bound = (omega arith, omega arith)

pub same_scene : (d d' : Document) (vs vs' : List View) (ns ns' : List Notice) → d ≡ d' → vs ≡ vs' → ns ≡ ns'
    → scene_with d vs ns ≡ scene_with d' vs' ns'
same_scene d d' vs vs' ns ns' a b c = cc

-- so few lines can be counted in the width of the document
pub few_enough : (large : Bool) (n k : ℕ) → n < bound_of large → k ≤ n + 7 → AreFewLines large k
few_enough true n k bound few = (omega arith, λ e. absurd (cc))
few_enough false n k bound few = (omega arith, λ e. omega arith)

-- a text that fits into the width of a document is short
pub short_enough : (d : Document) (n : ℕ) → FitsWidth d n → n < 2 ^ 61
short_enough d n wide = go (is_large d) wide
  where
    go : (large : Bool) → n < bound_of large → n < 2 ^ 61
    go true h = h
    go false h = omega arith

-- a step adds few lines beyond its bytes
pub few_for_step : (types : LineEndTypes) (step : Step) → lines_for_step types step ≤ (need_of_step types step).text + 6
few_for_step types (model.Insert place bytes) = let few = few_lines types bytes in omega arith
few_for_step types (model.Delete place bytes) = omega arith

-- The views that watch can follow a step, do so as the model says, and watch the document after it.
module _ (step : Step) (d : Document) (table : Entries KeptView) (w : IsWatched d table) (fits : Fits step (text_of d)) where
  pub all_can : StepsFitViews → EditsBringFewLines → FitsWidth d (length d.cells + (need_of_step d.line_end_types step).text) → CanAllFollow (movement_of step) (step_edits step d) d.views table
  all_can fit few wide =
      let size = length_text d in
      let short = short_enough d (length d.cells + (need_of_step d.line_end_types step).text) wide in
      let within = ends_in_text step (text_of d) fits in
      let count = small_count d.line_end_types step (text_of d) fits (omega arith) in
      let fresh = few d.line_end_types step (text_of d) within in
      let lines = few_for_step d.line_end_types step in
      let all = few_lines d.line_end_types (text_of d) in
      let one : (v : View) → StandsOn d v → CanFollow (movement_of step) (step_edits step d) (is_large d) v = λ v on.
      let a = on.anchor in let c = on.caret in let s = on.target_start in let e = on.target_end in let n = on.lines in
      record {
        anchor = omega arith;
        caret = omega arith;
        target_start = omega arith;
        target_end = omega arith;
        lines = fit step d v within on.lines;
        few = few_enough (is_large d) (length d.cells + (need_of_step d.line_end_types step).text) (length v.flags + fresh_lines (step_edits step d)) wide (omega arith);
      } in
      watched_can d table w (movement_of step) (step_edits step d) one

  module _ (new : Entries KeptView) (moves : MovesAreThoseOfSteps) (follow : HaveFollowed (movement_of step) (step_edits step d) d.views table new) where
    pub views_after : views_of new.entries ≡ map (view_after step d) (views_of table.entries)
    views_after = follow.views ∙ watched_as d table w (movement_of step) (step_edits step d) (moved_view step d) (λ v on. moves step d v (ends_in_text step (text_of d) fits) on.lines)

    pub watched_after : (h : History) → StepsKeepViewsStanding → IsWatched (record (document_after step d) { history = h }) new
    watched_after h law =
        watched_again d table w (record (document_after step d) { history = h }) (moved_view step d) new refl refl refl (λ v. refl) (λ v. refl) (λ v. law d step h v) views_after follow.named follow.stay

-- Room is what the document's parts say: another history keeps that for the text, and the same history in the same capacity keeps its own.

pub text_room_with_history : (k : Kept) (h : History) (need : DocumentNeed) → HasTextRoom need k → HasTextRoom need (with_history h k)
text_room_with_history k h need room = record { width = room.width; bytes = room.bytes; styles = room.styles; lines = room.lines; runs = room.runs }

pub same_history_room : (k k' : Kept) (need : DocumentNeed) → k'.document.history ≡ k.document.history → k'.capacity.history ≡ k.capacity.history
    → HasHistoryRoom need k → HasHistoryRoom need k'
same_history_room k k' need same capacity room =
    subst (λ (c : HistoryCapacity). HistoryHasRoom need.steps need.bytes (kept k'.document.history c)) (sym capacity)
    (subst (λ (h : History). HistoryHasRoom need.steps need.bytes (kept h k.capacity.history)) (sym same) room)
