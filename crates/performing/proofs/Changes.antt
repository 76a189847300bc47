-- Changes of a document: what they leave unmoved, what there is to tell of them, and the numbers that they give.
pub use Rattle.performing.proofs.Names.{◌≡◌, ℕ, false, List, [], ◌∷◌, ◌++◌, map, length, take, replicate, refl, ap, sym, ◌∙◌, AllByRecursion, DocumentChange, line_count, Document, View, lines_in, is_large, changed_document, changed_lines, change_told, styled, text_of_styled, Entries, Gathered, KeptView, views_of, watchers, StandsIfOn, IsWatched, is_of_types, StyleBytes, StyleRun, SetLineEndTypes, ◌≤◌, Bool, true, cond, not, subst, arith, filter, bit_or, Option, Some, None, length-map, append-nil, Result, Ok, Err, is_ok, Notice, told, heard, blank, save_point_reached, save_point_left, change_line_state, change_style, change_indicator, range_note, performed_user, changed_range, styles_of, range_notes, line_note, line_with_handle, document_row, slice_index_or, Kept, hearers, with_notes, IsMade, Makes, Changes, IsMadeUnheard, ChangeNote, TakesMemory, IsFitNote, notes_of, notice_of, marker_notice, notes_of_change, change_note_need, AllocError, CanPut, with_room, is_full, eqb-true, needs_room, IsReady, ReservesFor, FillIndicator, AppendContainer, SetSavePoint, SetLevel, DeleteHandle, AddMarkers, DeleteMarkers, SetState, NeedStyle, DeleteMarker, AddMarker, Nothing, AllMarkers, Level, zero, suc, ◌+◌, ◌<◌, get_or, set, length-append, ◌==◌, nat_lt, eqb-false, eq-eqb, ne_eqb, lt-ltb, Row, Marker, fresh_row, new_markers, with_new_markers, without_markers, marker_count, marker_count-cons, ◌^◌, slice_index, unwrap_or, IfSome, range_with_len, last_or, changed_places, extent, ℤ, pos, negsuc, int_le, ◌&&◌, w32, to_z, of_z, to_z-of_z, SFits, length-filter_both, all_filter, w64, common_steps, document_of, SavePointLeft, Cell, State, Markers, err_from_is_err_and, rules, inl, inr, new_view, new_document, nil_from_length, take_all, map-id}
use Rattle.scene.specs.proved.Watched.{KeepsPlaces, watched_still}
use Rattle.ed_model.specs.proved.Steps.{length_of_bytes}
use Rattle.ed_model.specs.Numbers.{meets}
use Rattle.std.proofs.lemmas.Bool.{and_parts, leb-true, le-leb}
use Rattle.std.proofs.lemmas.Bool.Decides.{Decides-eqb, Decides-like, same_from_decides}

-- Styles do not change the text.

styled_places : (new : List ℕ) (d : Document) → KeepsPlaces d (styled new d)
styled_places new d = record {
  id = refl;
  views = refl;
  size = sym (length_of_bytes (styled new d).cells) ∙ ap length (text_of_styled new d) ∙ length_of_bytes d.cells;
  lines = ap (line_count d.line_end_types) (text_of_styled new d);
  large = refl;
}

keeps_places : (text : List ℕ) (what : DocumentChange) (d : Document) → is_of_types what ≡ false → KeepsPlaces d (changed_document text what d)
keeps_places text (SetLineEndTypes to) d h = absurd (cc)
keeps_places text (StyleRun count style) d h = styled_places (replicate count style) d
keeps_places text (StyleBytes count) d h = styled_places (take count text) d
keeps_places text _ d h = record { id = refl; views = refl; size = refl; lines = refl; large = refl }

pub watchers_stay : (text : List ℕ) (what : DocumentChange) (d : Document) (table : Entries KeptView) → watchers (changed_document text what d) table ≡ watchers d table
watchers_stay text (SetLineEndTypes to) d table = refl
watchers_stay text _ d table = refl

views_stay : (what : DocumentChange) (d : Document) (vs : List View) → is_of_types what ≡ false → vs ≡ map (changed_lines what d) vs
views_stay (SetLineEndTypes to) d vs h = absurd (cc)
views_stay _ d vs h = sym (map-id vs)

-- What there is to tell if something changed.

told_if : (b : Bool) (n : ChangeNote) (v : View) (views : List View) (d : Document) → cond b (notes_of v views d n) [] ≡ notes_of v views d (cond b n Nothing)
told_if true n v views d = refl
told_if false n v views d = refl

fits_if : (b : Bool) (n : ChangeNote) (d : Document) → IsFitNote d n → IsFitNote d (cond b n Nothing)
fits_if true n d h = h
fits_if false n d h = tt

-- the change was made once there was room for it (`mid`), and there is something to tell of it if `b`
pub is_made_if : (b : Bool) (text : List ℕ) (what : DocumentChange) (old mid new : Kept) (n m : ChangeNote) → mid.document ≡ old.document → m ≡ cond b n Nothing → new.document ≡ changed_document text what mid.document
    → ((v : View) (views : List View) → let d = changed_document text what old.document in change_told v views old.document d what ≡ cond b (notes_of v views d n) [])
    → IsFitNote (changed_document text what old.document) n → TakesMemory what old new → IsMade text what old new m
is_made_if b text what old mid new n m same is after told fits memory =
    let made : new.document ≡ changed_document text what old.document = after ∙ ap (changed_document text what) same in
    record {
      document = made;
      told = λ v views. rw (made, is) (told v views ∙ told_if b n v views (changed_document text what old.document));
      fits = rw (made, is) (fits_if b n (changed_document text what old.document) fits);
      memory = memory;
    }

-- nothing is told if nothing changed
pub flipped : (same changed : Bool) (ns : List Notice) → changed ≡ not same → cond same [] ns ≡ cond changed ns []
flipped true changed ns e = rw e refl
flipped false changed ns e = rw e refl

-- A change has at most as many notes as it needs.

heard_count : (views : List View) (n : Notice) → length (heard views n) ≤ hearers n.kind views
heard_count views n = omega (arith, length-map (filter (λ (v : View). meets v.mask n.kind) views) (λ (v : View). record n { view = v.id }))

unless_count : (b : Bool) (views : List View) (n : Notice) → length (cond b [] (heard views n)) ≤ hearers n.kind views
unless_count true views n = omega arith
unless_count false views n = heard_count views n

range_count : (bits : ℕ) (range : Option (ℕ × ℕ)) (views : List View) → length (range_notes bits range views) ≤ hearers (bit_or bits performed_user) views
range_count bits None views = omega arith
range_count bits (Some range) views = heard_count views (range_note (bit_or bits performed_user) range.0 range.1)

leaving_is_counted : (b : Bool) (views : List View) (n : Notice) → length (cond b (told views n) []) ≤ cond b (length views) 0
leaving_is_counted true views n = omega (arith, length-map views (λ (v : View). record n { view = v.id }))
leaving_is_counted false views n = omega arith

need_is_enough : (v : View) (views : List View) (old new : Document) (what : DocumentChange) → length (change_told v views old new what) ≤ notes_of_change what old.history views
need_is_enough v views old new SetSavePoint = leaving_is_counted true views (blank save_point_reached)
need_is_enough v views old new (AppendContainer token coalesce) = leaving_is_counted _ views (blank save_point_left)
need_is_enough v views old new (AddMarker line number) = unless_count _ views (marker_notice old line)
need_is_enough v views old new (AddMarkers line mask) = unless_count _ views (marker_notice old line)
need_is_enough v views old new (DeleteMarker line number) = unless_count _ views (marker_notice old line)
need_is_enough v views old new (DeleteMarkers number) = unless_count _ views (notice_of old AllMarkers)
need_is_enough v views old new (DeleteHandle handle) = unless_count _ views (marker_notice old (line_with_handle handle 0 old.rows))
need_is_enough v views old new (SetLevel line level) = unless_count _ views (notice_of old (Level line level (document_row old line).level))
need_is_enough v views old new (SetState line state) = unless_count _ views (line_note change_line_state line)
need_is_enough v views old new (StyleRun count style) = range_count change_style (changed_range (styles_of old.cells) (styles_of new.cells)) views
need_is_enough v views old new (StyleBytes count) = range_count change_style (changed_range (styles_of old.cells) (styles_of new.cells)) views
need_is_enough v views old new (NeedStyle start past) = omega arith
need_is_enough v views old new (FillIndicator indicator start count value) =
    range_count change_indicator (changed_range (slice_index_or old.indicators indicator []) (slice_index_or new.indicators indicator [])) views
need_is_enough v views old new _ = omega arith

-- A change that was made is told to the views that watch.

none_of : (ns : List Notice) → length ns ≤ 0 → ns ≡ []
none_of ns h = nil_from_length ns (omega arith)

room_for : (count need : ℕ) (g : Gathered) → count ≤ need → CanPut count (with_room need 0 g)
room_for count need g h = omega arith

nothing_fits : (count : ℕ) (g : Gathered) → CanPut count g → is_full g ≡ true → count ≤ 0
nothing_fits count g h full = let e = eqb-true (length g.notes) g.capacity.notes full in omega arith

module _ (text : List ℕ) (what : DocumentChange) (old new : Kept) (n : ChangeNote) (views : Entries KeptView) (alone : is_of_types what ≡ false) (watched : IsWatched old.document views) (made : IsMade text what old new n) where
  told_is : (v : View) → notes_of v (watchers new.document views) new.document n ≡ change_told v (watchers old.document views) old.document new.document what
  told_is v =
      let same : watchers new.document views ≡ watchers old.document views = ap (λ (d : Document). watchers d views) made.document ∙ watchers_stay text what old.document views in
      sym (made.told v (watchers new.document views)) ∙ ap (λ (ws : List View). change_told v ws old.document new.document what) same

  pub few_told : (v : View) → length (notes_of v (watchers new.document views) new.document n) ≤ change_note_need what old views
  few_told v = subst (λ (ns : List Notice). length ns ≤ change_note_need what old views) (sym (told_is v)) (need_is_enough v (watchers old.document views) old.document new.document what)

  pub changed_and_told : (sender : ℕ) (notes reserved notes' : Gathered) → reserved.notes ≡ notes.notes
      → ((v : View) → v.id ≡ sender → notes' ≡ with_notes (notes_of v (watchers new.document views) new.document n) reserved) → Changes text what sender old new views views notes notes'
  changed_and_told sender notes reserved notes' same told = record {
    document = made.document;
    lines = views_stay what old.document (views_of views.entries) alone;
    told = λ v own. ap (λ (g : Gathered). g.notes) (told v own) ∙ rw (same, told_is v) refl;
    watched = rw made.document (watched_still old.document (changed_document text what old.document) views (keeps_places text what old.document alone) watched);
    stay = record { ids = refl; next = refl; view_capacity = refl; widths = refl; fold_capacities = refl };
  }

  -- if there are no notes, none is put into the list
  untold : (sender : ℕ) (notes reserved : Gathered) → reserved.notes ≡ notes.notes → ((v : View) → length (notes_of v (watchers new.document views) new.document n) ≤ 0) → Changes text what sender old new views views notes reserved
  untold sender notes reserved same none =
      changed_and_told sender notes reserved reserved same
      (λ v own. rw (none_of (notes_of v (watchers new.document views) new.document n) (none v)) (ap (λ (ns : List Notice). record reserved { notes = ns }) (sym (append-nil reserved.notes))))

  pub unheard : change_note_need what old views ≡ 0 → IsMadeUnheard text what old new views
  unheard none = λ sender notes. untold sender notes notes refl (λ v. let few = few_told v in omega arith)

  -- its notes fit in once as many were reserved as the change needs, and there are none if the list is full then
  module _ (notes reserved : Gathered) (is : reserved ≡ with_room (change_note_need what old views) 0 notes) where
    pub fits_in : (v : View) → CanPut (length (notes_of v (watchers new.document views) new.document n)) reserved
    fits_in v = rw is (room_for (length (notes_of v (watchers new.document views) new.document n)) (change_note_need what old views) notes (few_told v))

    pub untold_if_full : (sender : ℕ) → is_full reserved ≡ true → Changes text what sender old new views views notes reserved
    untold_if_full sender full =
        untold sender notes reserved (ap (λ (g : Gathered). g.notes) is) (λ v. nothing_fits (length (notes_of v (watchers new.document views) new.document n)) reserved (fits_in v) full)

-- there is room in the document for a change that needs none
pub free_is_ready : (what : DocumentChange) (k : Kept) → needs_room what ≡ false → IsReady what k
free_is_ready SetSavePoint k h = tt
free_is_ready _ k h = first_of (cc, search rules)

pub by_outcome : (text : List ℕ) (what : DocumentChange) (old new : Kept) (r : Result ChangeNote AllocError) → Makes text what old new r
    → (is_ok r ≡ true → (n : ChangeNote) × IsMade text what old new n) × (IsReady what old → is_ok r ≡ true) × (is_ok r ≡ false → (new.document ≡ old.document) × ReservesFor what old new)
by_outcome text what old new (Ok n) made = (λ _. (n, made), λ _. refl, λ e. absurd (cc))
by_outcome text what old new (Err e) refused = (λ e. absurd (cc), λ ready. absurd (refused.0 ready), λ _. (refused.1, refused.2))

length_new : (handle : ℕ) (ns : List ℕ) → length (new_markers handle ns) ≡ length ns
length_new handle [] = refl
length_new handle (n ∷ ns) = ap suc (length_new (handle + 1) ns)

set_count : (rows : List Row) (line : ℕ) (new : Row) → line < length rows → marker_count (set rows line new) + length (get_or rows line fresh_row).markers ≡ marker_count rows + length new.markers
set_count [] line new h = absurd (omega arith)
set_count (row ∷ rows) zero new h = let a = marker_count-cons row rows in let b = marker_count-cons new rows in omega arith
set_count (row ∷ rows) (suc line) new h =
    let a = marker_count-cons row rows in let b = marker_count-cons row (set rows line new) in let rest = set_count rows line new (omega arith) in
    omega arith

added_count : (line : ℕ) (numbers : List ℕ) (d : Document) → line < length d.rows → marker_count (with_new_markers line numbers d).rows ≡ marker_count d.rows + length numbers
added_count line numbers d h =
    let row = slice_index_or d.rows line fresh_row in let a = set_count d.rows line (record row { markers = row.markers ++ new_markers d.next_handle numbers }) h in
    let b = length-append row.markers (new_markers d.next_handle numbers) in let c = length_new d.next_handle numbers in
    omega arith

grown : (a n b : ℕ) → b ≡ a + n → nat_lt 0 n ≡ not (a == b)
grown a zero b e = rw (eq-eqb a b (omega arith)) refl
grown a (suc n) b e = rw (ne_eqb a b (λ same. omega arith)) (lt-ltb 0 (suc n) (omega arith))

-- markers are added if there are numbers
pub some_added : (line : ℕ) (numbers : List ℕ) (d : Document) → line < length d.rows → nat_lt 0 (length numbers) ≡ not (marker_count d.rows == marker_count (with_new_markers line numbers d).rows)
some_added line numbers d h = grown (marker_count d.rows) (length numbers) (marker_count (with_new_markers line numbers d).rows) (added_count line numbers d h)

-- A marker deleted by its handle.

-- it is deleted from one of the lines
pub left_within : (handle line : ℕ) (rows : List Row) → (marker_count rows == marker_count (without_markers (λ m. m.handle == handle) rows)) ≡ false
    → line_with_handle handle line rows < line + length rows
left_within handle line [] h = absurd (cc)
left_within handle line (row ∷ rows) h =
    go (length (filter (λ (m : Marker). m.handle == handle) row.markers) == 0) refl (λ h. left_within handle (line + 1) rows h)
  where
    go : (b : Bool) → (length (filter (λ (m : Marker). m.handle == handle) row.markers) == 0) ≡ b
        → ((marker_count rows == marker_count (without_markers (λ m. m.handle == handle) rows)) ≡ false → line_with_handle handle (line + 1) rows < line + 1 + length rows)
        → cond b (line_with_handle handle (line + 1) rows) line < line + suc (length rows)
    go true t rest =
        let a = marker_count-cons row rows in
        let b = marker_count-cons (record row { markers = filter (λ m. not (m.handle == handle)) row.markers }) (without_markers (λ m. m.handle == handle) rows) in
        let own = length-filter_both (λ (m : Marker). m.handle == handle) (λ (m : Marker). not (m.handle == handle)) (λ _. refl) row.markers in
        let none = eqb-true (length (filter (λ (m : Marker). m.handle == handle) row.markers)) 0 t in
        let whole = eqb-false (marker_count (row ∷ rows)) (marker_count (without_markers (λ m. m.handle == handle) (row ∷ rows))) h in
        let behind = rest (ne_eqb (marker_count rows) (marker_count (without_markers (λ m. m.handle == handle) rows)) (λ e. whole (omega arith))) in
        omega arith
    go false t rest = omega arith

pub left_line : (b : Bool) (l line : ℕ) → cond b None (Some l) ≡ Some line → (b ≡ false) × (l ≡ line)
left_line true l line e = absurd (cc)
left_line false l line e = let same : l ≡ line = cc in (refl, same)

pub left_none : (b : Bool) (l : ℕ) → cond b None (Some l) ≡ None → b ≡ true
left_none true l e = refl
left_none false l e = absurd (cc)

-- A range of changed bytes lies within what the change affects.

abbrev AreBelow : ℕ → List ℕ → Type 0
AreBelow n ks = AllByRecursion (λ k. k < n) ks

range_below : (n start count : ℕ) → start + count ≤ n → AreBelow n (range_with_len start count)
range_below n start zero h = tt
range_below n start (suc count) h = (omega arith, range_below n (start + 1) count (omega arith))

last_below : (n k : ℕ) (ks : List ℕ) → k < n → AreBelow n ks → unwrap_or (last_or None (k ∷ ks)) k < n
last_below n k ks h all = go k ks h all
  where
    go : (j : ℕ) (ks : List ℕ) → j < n → AreBelow n ks → unwrap_or (last_or (Some j) ks) k < n
    go j [] h all = h
    go j (i ∷ is) h all = go i is all.0 all.1

extent_below : (n bound : ℕ) → n < bound → (ks : List ℕ) → AreBelow n ks → IfSome (extent ks) (λ (range : ℕ × ℕ). (range.0 < bound) × (range.1 < bound))
extent_below n bound h [] all = tt
extent_below n bound h (k ∷ ks) all = let l = last_below n k ks all.0 all.1 in let a = all.0 in (omega arith, omega arith)

pub range_small : (changed : Option (ℕ × ℕ)) (old new : List ℕ) → changed ≡ changed_range old new → length old < 2 ^ 61 → IfSome changed (λ (range : ℕ × ℕ). (range.0 < 2 ^ 63) × (range.1 < 2 ^ 63))
range_small changed old new e small =
    let all = range_below (length old) 0 (length old) (omega arith) in
    rw e (extent_below (length old) (2 ^ 63) (omega arith) (changed_places old new) (all_filter (λ k. k < length old) (λ k. not (slice_index old k == slice_index new k)) (range_with_len 0 (length old)) all))

-- each indicator has one value for each byte of the text
pub values_length : (values : List (List ℕ)) (k n : ℕ) → AllByRecursion (λ (vs : List ℕ). length vs ≡ n) values → length (slice_index_or values k []) ≤ n
values_length [] k n all = omega arith
values_length (v ∷ vs) zero n all = let a = all.0 in omega arith
values_length (v ∷ vs) (suc k) n all = values_length vs k n all.1
