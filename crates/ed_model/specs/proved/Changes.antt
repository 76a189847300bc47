-- What a step and a change keep of a document and of a view.
use Rattle.std.proofs.Common.{◌≡◌, ℕ, Bool, true, false, cond, List, ◌∷◌, length, ◌+◌, ◌++◌, take, drop, refl}
use Rattle.std.specs.Prelude.{◌==◌}
use Rattle.std.proofs.lemmas.Bool.{cond_both}
use Rattle.std.proofs.lemmas.List.{length-map}
use Rattle.std.proofs.lemmas.List.Sums.{sum_by-cons}
use Rattle.ed_model.specs.declared.plan.LineEndTypes.{LineEndTypes}
use Rattle.ed_model.specs.declared.plan.DocumentChange.{DocumentChange}
use Rattle.ed_model.specs.declared.plan.DocumentChange.TheVariants as document_change
use Rattle.ed_model.specs.declared.plan.ViewChange.{ViewChange}
use Rattle.ed_model.specs.declared.plan.ViewChange.TheVariants as view_change
use Rattle.ed_model.specs.Text.{Cell, bytes_of}
use Rattle.ed_model.specs.Carry.{regrouped}
use Rattle.ed_model.specs.Rows.{Row, flags_together}
use Rattle.ed_model.specs.Steps.{Step}
use Rattle.ed_model.specs.Session.{Document, View, text_of, keeps_no_styles}
use Rattle.ed_model.specs.Performing.{moved_view, view_after}
use Rattle.ed_model.specs.Changes.{restyled, styled, marker_count, changed_document, changed_lines, changed_view}
use Rattle.ed_model.specs.proved.Steps.{bytes_behind_restyled}

-- a text is as long as the list of its cells
pub length_text : (d : Document) → length (text_of d) ≡ length d.cells
length_text d = length-map d.cells (λ (c : Cell). c.byte)

-- the markers of one more row
pub marker_count-cons : (row : Row) (rows : List Row) → marker_count (row ∷ rows) ≡ length row.markers + marker_count rows
marker_count-cons row rows = sum_by-cons (λ (r : Row). length r.markers) row rows

-- A step of the text.

pub view_after_id : (step : Step) (d : Document) (v : View) → (view_after step d v).id ≡ v.id
view_after_id step d v = go (v.document == d.id)
  where
    go : (b : Bool) → (cond b (moved_view step d v) v).id ≡ v.id
    go true = refl
    go false = refl

pub view_after_document : (step : Step) (d : Document) (v : View) → (view_after step d v).document ≡ v.document
view_after_document step d v = go (v.document == d.id)
  where
    go : (b : Bool) → (cond b (moved_view step d v) v).document ≡ v.document
    go true = refl
    go false = refl

-- A change of a document.

-- styling changes no byte
pub text_of_styled : (styles : List ℕ) (d : Document) → text_of (styled styles d) ≡ text_of d
text_of_styled styles d =
    cond_both (keeps_no_styles d) d.cells (take d.end_styled d.cells ++ restyled styles (drop d.end_styled d.cells)) (λ (cells : List Cell). bytes_of cells ≡ bytes_of d.cells)
    (λ e. refl) (λ e. bytes_behind_restyled d.end_styled styles d.cells)

pub changed_id : (bytes : List ℕ) (what : DocumentChange) (d : Document) → (changed_document bytes what d).id ≡ d.id
changed_id bytes (document_change.SetReadOnly on) d = refl
changed_id bytes _ d = refl

pub changed_views : (bytes : List ℕ) (what : DocumentChange) (d : Document) → (changed_document bytes what d).views ≡ d.views
changed_views bytes (document_change.SetReadOnly on) d = refl
changed_views bytes _ d = refl

by_test_id : (d : Document) (to : LineEndTypes) (v : View) (b : Bool) → (cond b (record v { flags = regrouped flags_together d.line_end_types to (text_of d) v.flags }) v).id ≡ v.id
by_test_id d to v true = refl
by_test_id d to v false = refl

by_test_document : (d : Document) (to : LineEndTypes) (v : View) (b : Bool) → (cond b (record v { flags = regrouped flags_together d.line_end_types to (text_of d) v.flags }) v).document ≡ v.document
by_test_document d to v true = refl
by_test_document d to v false = refl

pub changed_lines_id : (what : DocumentChange) (d : Document) (v : View) → (changed_lines what d v).id ≡ v.id
changed_lines_id (document_change.SetLineEndTypes to) d v = by_test_id d to v (v.document == d.id)
changed_lines_id _ d v = refl

pub changed_lines_document : (what : DocumentChange) (d : Document) (v : View) → (changed_lines what d v).document ≡ v.document
changed_lines_document (document_change.SetLineEndTypes to) d v = by_test_document d to v (v.document == d.id)
changed_lines_document _ d v = refl

-- A change of a view.

pub changed_view_id : (levels : List ℕ) (what : ViewChange) (v : View) → (changed_view levels what v).id ≡ v.id
changed_view_id levels (view_change.Select anchor caret) v = refl
changed_view_id levels _ v = refl

pub changed_view_document : (levels : List ℕ) (what : ViewChange) (v : View) → (changed_view levels what v).document ≡ v.document
changed_view_document levels (view_change.Select anchor caret) v = refl
changed_view_document levels _ v = refl
