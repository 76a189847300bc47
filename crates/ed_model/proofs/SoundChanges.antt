-- Changes of a document that are no edit keep it sound, and its views fit it.
use Rattle.ed_model.proofs.Names.{◌≡◌, ℕ, zero, suc, ◌+◌, ◌<◌, ◌≤◌, min, true, false, List, [], ◌∷◌, ◌++◌, length, map, get_or, set, take, replicate, refl, ap, sym, ◌∙◌, subst, inl, inr, ◌⊎◌, arith, ◌==◌, not, filter, slice_set, slice_index_or, AllByRecursion, map-append, length-set, length-map, length-replicate, cases_lt, eq-eqb, ne_eqb, Limits, LineEndTypes, DocumentChange, Cell, bytes_of, line_count, line_starts, regrouped, Row, Marker, rows_together, flags_together, fresh_row, filled, meets, History, saved, group_begun, group_ended, emptied, collecting_set, with_container_step, Document, View, text_of, lines_in, limit_of, numbers_in, changed_document, changed_lines, with_markers, with_new_markers, new_markers, without_marker, without_markers, is_of_number, styled, FitsText, IsSoundDocument, StandsOn, occurrences, handles_in, text_of_styled, occurrences_append}
use Rattle.std.proofs.lemmas.List.{length-take}
use Rattle.ed_model.specs.declared.plan.DocumentChange.TheVariants as change
use Rattle.ed_model.specs.proved.Indicators.{length_filled}
use Rattle.ed_model.proofs.CarryLemmas.{length-carried}
use Rattle.ed_model.proofs.SoundLists.{are_line_starts}
use Rattle.ed_model.proofs.SoundCarry.{handles_carried, first_regrouped}
use Rattle.ed_model.proofs.SoundHistory.{saved_fits, group_begun_fits, group_ended_fits, emptied_fits, collecting_set_fits, container_step_fits}
use Rattle.ed_model.proofs.SoundMarkers.{set_occurrences, with_markers_occurrences, length_with_markers, new_below, new_above, new_once, without_marker_occurrences, without_markers_occurrences}

-- the numbers of a change are in range for the document
abbrev pub IsFitOn : Document → DocumentChange → Type 0
IsFitOn d (change.SetEndStyled place) = place ≤ length d.cells
IsFitOn d (change.StyleRun count style) = d.end_styled + count ≤ length d.cells
IsFitOn d (change.StyleBytes count) = d.end_styled + count ≤ length d.cells
IsFitOn d (change.FillIndicator indicator start count value) = start + count ≤ length d.cells
IsFitOn d other = Unit {0}

-- Changes of one part alone.

pub history_changed : (limits : Limits) (d : Document) (h : History) → IsSoundDocument limits d → FitsText (limit_of limits d) (text_of d) h → IsSoundDocument limits (record d { history = h })
history_changed limits d h was fits = record {
  line_starts = was.line_starts;
  rows = was.rows;
  indicator_count = was.indicator_count;
  indicators = was.indicators;
  styled = was.styled;
  bounded = was.bounded;
  handles_differ = was.handles_differ;
  handles_below = was.handles_below;
  referenced = was.referenced;
  history = fits;
}

pub end_styled_changed : (limits : Limits) (d : Document) (n : ℕ) → IsSoundDocument limits d → n ≤ length d.cells → IsSoundDocument limits (record d { end_styled = n })
end_styled_changed limits d n was le = record {
  line_starts = was.line_starts;
  rows = was.rows;
  indicator_count = was.indicator_count;
  indicators = was.indicators;
  styled = le;
  bounded = was.bounded;
  handles_differ = was.handles_differ;
  handles_below = was.handles_below;
  referenced = was.referenced;
  history = was.history;
}

pub rows_changed : (limits : Limits) (d : Document) (rows : List Row) → IsSoundDocument limits d → length rows ≡ length d.rows
    → ((h : ℕ) → occurrences h (handles_in rows) ≤ occurrences h (handles_in d.rows)) → IsSoundDocument limits (record d { rows = rows })
rows_changed limits d rows was n fewer = record {
  line_starts = was.line_starts;
  rows = n ∙ was.rows;
  indicator_count = was.indicator_count;
  indicators = was.indicators;
  styled = was.styled;
  bounded = was.bounded;
  handles_differ = λ h. let a = fewer h in let b = was.handles_differ h in omega arith;
  handles_below = λ h le. let a = fewer h in let b = was.handles_below h le in omega arith;
  referenced = was.referenced;
  history = was.history;
}

regrouped_sound : (limits : Limits) (d : Document) (to : LineEndTypes) → IsSoundDocument limits d
    → IsSoundDocument limits (record d { line_end_types = to; rows = regrouped rows_together d.line_end_types to (text_of d) d.rows })
regrouped_sound limits d to was = record {
  line_starts = are_line_starts to (text_of d);
  rows = length-carried rows_together (λ start. start) (line_starts d.line_end_types (text_of d)) (line_starts to (text_of d)) d.rows;
  indicator_count = was.indicator_count;
  indicators = was.indicators;
  styled = was.styled;
  bounded = was.bounded;
  handles_differ = λ h. let a = fewer h in let b = was.handles_differ h in omega arith;
  handles_below = λ h le. let a = fewer h in let b = was.handles_below h le in omega arith;
  referenced = was.referenced;
  history = was.history;
}
  where
    fewer : (h : ℕ) → occurrences h (handles_in (regrouped rows_together d.line_end_types to (text_of d) d.rows)) ≤ occurrences h (handles_in d.rows)
    fewer h = handles_carried h (λ start. start) (line_starts d.line_end_types (text_of d)) (line_starts to (text_of d)) d.rows

new_markers_sound : (limits : Limits) (d : Document) (line : ℕ) (numbers : List ℕ) → IsSoundDocument limits d → IsSoundDocument limits (with_new_markers line numbers d)
new_markers_sound limits d line numbers was = record {
  line_starts = was.line_starts;
  rows = length_with_markers line markers d.rows ∙ was.rows;
  indicator_count = was.indicator_count;
  indicators = was.indicators;
  styled = was.styled;
  bounded = was.bounded;
  handles_differ = λ h. by_place h (cases_lt h d.next_handle);
  handles_below = λ h le.
      let a = more h in let b = was.handles_below h (omega arith) in let c = new_above h d.next_handle numbers le in omega arith;
  referenced = was.referenced;
  history = was.history;
}
  where
    markers : List Marker
    markers = (slice_index_or d.rows line fresh_row).markers ++ new_markers d.next_handle numbers

    more : (h : ℕ) → occurrences h (handles_in (with_markers line ((slice_index_or d.rows line fresh_row).markers ++ new_markers d.next_handle numbers) d.rows))
        ≤ occurrences h (handles_in d.rows) + occurrences h (map (λ (m : Marker). m.handle) (new_markers d.next_handle numbers))
    more h =
        let a = with_markers_occurrences h line ((slice_index_or d.rows line fresh_row).markers ++ new_markers d.next_handle numbers) d.rows in
        let b = ap (occurrences h) (map-append (λ (m : Marker). m.handle) (slice_index_or d.rows line fresh_row).markers (new_markers d.next_handle numbers)) in
        let c = occurrences_append h (map (λ (m : Marker). m.handle) (slice_index_or d.rows line fresh_row).markers) (map (λ (m : Marker). m.handle) (new_markers d.next_handle numbers)) in
        omega arith

    by_place : (h : ℕ) → (h < d.next_handle) ⊎ (d.next_handle ≤ h)
        → occurrences h (handles_in (with_markers line ((slice_index_or d.rows line fresh_row).markers ++ new_markers d.next_handle numbers) d.rows)) ≤ 1
    by_place h (inl l) = let a = more h in let b = was.handles_differ h in let c = new_below h d.next_handle numbers l in omega arith
    by_place h (inr l) = let a = more h in let b = was.handles_below h l in let c = new_once h d.next_handle numbers in omega arith

fewer_markers_sound : (limits : Limits) (d : Document) (line : ℕ) (markers : List Marker) → IsSoundDocument limits d
    → ((h : ℕ) → occurrences h (map (λ (m : Marker). m.handle) markers) ≤ occurrences h (map (λ (m : Marker). m.handle) (slice_index_or d.rows line fresh_row).markers))
    → IsSoundDocument limits (record d { rows = with_markers line markers d.rows })
fewer_markers_sound limits d line markers was fewer =
    rows_changed limits d (with_markers line markers d.rows) was (length_with_markers line markers d.rows)
    (λ h. let a = with_markers_occurrences h line markers d.rows in let b = fewer h in omega arith)

row_sound : (limits : Limits) (d : Document) (line : ℕ) (row : Row) → IsSoundDocument limits d → row.markers ≡ (slice_index_or d.rows line fresh_row).markers
    → IsSoundDocument limits (record d { rows = slice_set d.rows line row })
row_sound limits d line row was same =
    rows_changed limits d (slice_set d.rows line row) was (length-set d.rows line row)
    (λ h. let a = set_occurrences h d.rows line row in let b = ap (λ ms. occurrences h (map (λ (m : Marker). m.handle) ms)) same in omega arith)

-- Styles.

length_from_bytes : (xs ys : List Cell) → bytes_of xs ≡ bytes_of ys → length xs ≡ length ys
length_from_bytes xs ys e = sym (length-map xs (λ (c : Cell). c.byte)) ∙ ap length e ∙ length-map ys (λ (c : Cell). c.byte)

styled_sound : (limits : Limits) (d : Document) (new : List ℕ) → IsSoundDocument limits d → d.end_styled + length new ≤ length d.cells → IsSoundDocument limits (styled new d)
styled_sound limits d new was le =
    let bytes = text_of_styled new d in
    let n : length (styled new d).cells ≡ length d.cells = length_from_bytes (styled new d).cells d.cells bytes in
    record {
      line_starts = are_line_starts d.line_end_types (text_of (styled new d));
      rows = was.rows ∙ ap (line_count d.line_end_types) (sym bytes);
      indicator_count = was.indicator_count;
      indicators = subst (λ k. AllByRecursion (λ (values : List ℕ). length values ≡ k) d.indicators) (sym n) was.indicators;
      styled = subst (λ k. d.end_styled + length new ≤ k) (sym n) le;
      bounded = subst (λ k. k ≤ limit_of limits d) (sym n) was.bounded;
      handles_differ = was.handles_differ;
      handles_below = was.handles_below;
      referenced = was.referenced;
      history = subst (λ t. FitsText (limit_of limits d) t d.history) (sym bytes) was.history;
    }

-- Indicators.

all_set : {X : Type 0} (P : X → Type 0) (xs : List X) (i : ℕ) (y : X) → AllByRecursion P xs → (i < length xs → P y) → AllByRecursion P (set xs i y)
all_set P [] i y all p = tt
all_set P (x ∷ xs) zero y all p = (p (let n : 0 < suc (length xs) = omega arith in n), all.1)
all_set P (x ∷ xs) (suc i) y all p = (all.0, all_set P xs i y all.1 (λ l. p (let n : suc i < suc (length xs) = omega arith in n)))

pub all_get_or : {X : Type 0} (P : X → Type 0) (xs : List X) (i : ℕ) (d : X) → AllByRecursion P xs → i < length xs → P (get_or xs i d)
all_get_or P [] i d all l = absurd (omega arith)
all_get_or P (x ∷ xs) zero d all l = all.0
all_get_or P (x ∷ xs) (suc i) d all l = all_get_or P xs i d all.1 (let m : suc i < suc (length xs) = l in omega arith)

filled_sound : (limits : Limits) (d : Document) (indicator start count value : ℕ) → IsSoundDocument limits d → start + count ≤ length d.cells
    → IsSoundDocument limits (record d { indicators = slice_set d.indicators indicator (filled start count value (slice_index_or d.indicators indicator [])) })
filled_sound limits d indicator start count value was h = record {
  line_starts = was.line_starts;
  rows = was.rows;
  indicator_count = length-set d.indicators indicator (filled start count value (slice_index_or d.indicators indicator [])) ∙ was.indicator_count;
  indicators = all_set (λ (values : List ℕ). length values ≡ length d.cells) d.indicators indicator (filled start count value (slice_index_or d.indicators indicator [])) was.indicators
      (λ l. let e = all_get_or (λ (values : List ℕ). length values ≡ length d.cells) d.indicators indicator [] was.indicators l in
      length_filled start count value (get_or d.indicators indicator []) (subst (λ k. start + count ≤ k) (sym e) h) ∙ e);
  styled = was.styled;
  bounded = was.bounded;
  handles_differ = was.handles_differ;
  handles_below = was.handles_below;
  referenced = was.referenced;
  history = was.history;
}

-- The document after a change that fits it is sound.
pub changed_sound : (limits : Limits) (bytes : List ℕ) (what : DocumentChange) (d : Document) → IsSoundDocument limits d → IsFitOn d what
    → IsSoundDocument limits (changed_document bytes what d)
changed_sound limits bytes (change.SetReadOnly on) d was fit = record {
  line_starts = was.line_starts;
  rows = was.rows;
  indicator_count = was.indicator_count;
  indicators = was.indicators;
  styled = was.styled;
  bounded = was.bounded;
  handles_differ = was.handles_differ;
  handles_below = was.handles_below;
  referenced = was.referenced;
  history = was.history;
}
changed_sound limits bytes (change.SetLineEnd to) d was fit = record {
  line_starts = was.line_starts;
  rows = was.rows;
  indicator_count = was.indicator_count;
  indicators = was.indicators;
  styled = was.styled;
  bounded = was.bounded;
  handles_differ = was.handles_differ;
  handles_below = was.handles_below;
  referenced = was.referenced;
  history = was.history;
}
changed_sound limits bytes (change.SetLineEndTypes to) d was fit = regrouped_sound limits d to was
changed_sound limits bytes change.SetSavePoint d was fit = history_changed limits d (saved d.history) was (saved_fits (text_of d) d.history was.history)
changed_sound limits bytes change.BeginGroup d was fit = history_changed limits d (group_begun d.history) was (group_begun_fits (text_of d) d.history was.history)
changed_sound limits bytes change.EndGroup d was fit = history_changed limits d (group_ended d.history) was (group_ended_fits (text_of d) d.history was.history)
changed_sound limits bytes change.ForgetHistory d was fit = history_changed limits d (emptied d.history) was (emptied_fits (text_of d) d.history)
changed_sound limits bytes (change.CollectUndo on) d was fit = history_changed limits d (collecting_set on d.history) was (collecting_set_fits on (text_of d) d.history was.history)
changed_sound limits bytes (change.AppendContainer token coalesce) d was fit = history_changed limits d (with_container_step token coalesce d.history) was (container_step_fits token coalesce (text_of d) d.history was.history)
changed_sound limits bytes (change.AddMarker line number) d was fit = new_markers_sound limits d line (number ∷ []) was
changed_sound limits bytes (change.AddMarkers line mask) d was fit = new_markers_sound limits d line (numbers_in mask) was
changed_sound limits bytes (change.DeleteMarker line number) d was fit =
    fewer_markers_sound limits d line (without_marker number (slice_index_or d.rows line fresh_row).markers) was (λ h. without_marker_occurrences h number (slice_index_or d.rows line fresh_row).markers)
changed_sound limits bytes (change.DeleteMarkers number) d was fit =
    rows_changed limits d (without_markers (is_of_number number) d.rows) was (length-map d.rows (λ (row : Row). record row { markers = filter (λ m. not (is_of_number number m)) row.markers }))
    (λ h. without_markers_occurrences h (is_of_number number) d.rows)
changed_sound limits bytes (change.DeleteHandle handle) d was fit =
    rows_changed limits d (without_markers (λ m. m.handle == handle) d.rows) was (length-map d.rows (λ (row : Row). record row { markers = filter (λ m. not (m.handle == handle)) row.markers }))
    (λ h. without_markers_occurrences h (λ m. m.handle == handle) d.rows)
changed_sound limits bytes (change.SetLevel line level) d was fit =
    let row = slice_index_or d.rows line fresh_row in row_sound limits d line (record row { level = level }) was refl
changed_sound limits bytes (change.SetState line state) d was fit =
    let row = slice_index_or d.rows line fresh_row in row_sound limits d line (record row { state = state }) was refl
changed_sound limits bytes (change.SetEndStyled place) d was fit = end_styled_changed limits d place was fit
changed_sound limits bytes (change.StyleRun count style) d was fit =
    styled_sound limits d (replicate count style) was (subst (λ k. d.end_styled + k ≤ length d.cells) (sym (length-replicate count style)) fit)
changed_sound limits bytes (change.StyleBytes count) d was fit =
    let n = length-take count bytes in styled_sound limits d (take count bytes) was (omega arith)
changed_sound limits bytes (change.NeedStyle start past) d was fit = end_styled_changed limits d (min d.end_styled start) was (let le = was.styled in omega arith)
changed_sound limits bytes (change.FillIndicator indicator start count value) d was fit = filled_sound limits d indicator start count value was fit

-- The views on it.

pub stands_kept : (d d' : Document) (v : View) → length d'.cells ≡ length d.cells → lines_in d' ≡ lines_in d → d'.views ≡ d.views → StandsOn d v → StandsOn d' v
stands_kept d d' v n l vs on = record {
  anchor = subst (λ k. v.anchor ≤ k) (sym n) on.anchor;
  caret = subst (λ k. v.caret ≤ k) (sym n) on.caret;
  target_start = subst (λ k. v.target_start ≤ k) (sym n) on.target_start;
  target_end = subst (λ k. v.target_end ≤ k) (sym n) on.target_end;
  lines = on.lines ∙ sym l;
  first_line = on.first_line;
  indicator = on.indicator;
  listed = ap (occurrences v.id) vs ∙ on.listed;
}

regrouped_stands : (d : Document) (to : LineEndTypes) (rows : List Row) (v : View) → StandsOn d v
    → StandsOn (record d { line_end_types = to; rows = rows }) (record v { flags = regrouped flags_together d.line_end_types to (text_of d) v.flags })
regrouped_stands d to rows v on = record {
  anchor = on.anchor;
  caret = on.caret;
  target_start = on.target_start;
  target_end = on.target_end;
  lines = length-carried flags_together (λ start. start) (line_starts d.line_end_types (text_of d)) (line_starts to (text_of d)) v.flags;
  first_line = first_regrouped d.line_end_types to (text_of d) v.flags on.first_line;
  indicator = on.indicator;
  listed = on.listed;
}

styled_stands : (new : List ℕ) (d : Document) (v : View) → StandsOn d v → StandsOn (styled new d) v
styled_stands new d v on =
    stands_kept d (styled new d) v (length_from_bytes (styled new d).cells d.cells (text_of_styled new d)) (ap (line_count d.line_end_types) (text_of_styled new d)) refl on

pub changed_stands : (bytes : List ℕ) (what : DocumentChange) (d : Document) (v : View) → v.document ≡ d.id → StandsOn d v → StandsOn (changed_document bytes what d) (changed_lines what d v)
changed_stands bytes (change.SetLineEndTypes to) d v e on =
    let t : (v.document == d.id) ≡ true = eq-eqb v.document d.id e in
    rw t (regrouped_stands d to (regrouped rows_together d.line_end_types to (text_of d) d.rows) v on)
changed_stands bytes (change.StyleRun count style) d v e on = styled_stands (replicate count style) d v on
changed_stands bytes (change.StyleBytes count) d v e on = styled_stands (take count bytes) d v on
changed_stands bytes _ d v e on = stands_kept d _ v refl refl refl on

pub changed_lines_others : (what : DocumentChange) (d : Document) (v : View) → (v.document ≡ d.id → ⊥) → changed_lines what d v ≡ v
changed_lines_others (change.SetLineEndTypes to) d v ne =
    let t : (v.document == d.id) ≡ false = ne_eqb v.document d.id ne in rw t refl
changed_lines_others _ d v ne = refl
