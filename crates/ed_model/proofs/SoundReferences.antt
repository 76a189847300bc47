-- A session stays sound when documents are attached, created, held and released, and when views are opened and closed.
use Rattle.ed_model.proofs.Names.{◌≡◌, ℕ, zero, suc, ◌+◌, ◌-◌, ◌<◌, ◌≤◌, Bool, true, false, cond, List, [], ◌∷◌, ◌++◌, length, map, replicate, refl, ap, sym, ◌∙◌, subst, arith, Option, Some, None, ◌==◌, ◌||◌, nat_lt, nat_le, not, filter, IfOk, AllByRecursion, length-replicate, cond_both, eqb-true, eqb-false, eq-eqb, ne_eqb, lt-ltb, ltb-true, Limits, fresh_flags, is_visible, Session, Document, View, document_at, view_at, in_place_of_view, references, living, without, left_by, new_document, new_view, attached_to, lines_in, is_large, attached_last, with_attached, attached, with_new_document, held_more, held_less, opened, closed, closed_view, Rise, occurrences, IsSound, IsSoundDocument, IsSoundView, StandsOn, ListsItsViews, all_map, all_weaker, all_append, document_id, with_view_ids, documents_added, views_added, occurrences_append}
use Rattle.ed_model.specs.declared.plan.LineEndTypes.TheVariants.{Default}
use Rattle.ed_model.proofs.SoundLists.{rise_from, are_line_starts}
use Rattle.ed_model.proofs.SoundHistory.{fresh_fits}
use Rattle.ed_model.proofs.SoundMarkers.{one_if, occurrences_cons}
use Rattle.ed_model.proofs.SoundListing.{lists_attached, lists_before, lists_left, lists_less, lists_more, view_last}

-- A document with other views and references.

abbrev pub with_references : List ℕ → ℕ → Document → Document
with_references views held_by_callers d = record d { views = views; held_by_callers = held_by_callers }

pub relisted_sound : (limits : Limits) (d : Document) (views views' : List ℕ) (held_by_callers held' : ℕ) → IsSoundDocument limits (with_references views held_by_callers d)
    → 0 < length views' + held' → IsSoundDocument limits (with_references views' held' d)
relisted_sound limits d views views' held_by_callers held' was some = record {
  line_starts = was.line_starts;
  rows = was.rows;
  indicator_count = was.indicator_count;
  indicators = was.indicators;
  styled = was.styled;
  bounded = was.bounded;
  handles_differ = was.handles_differ;
  handles_below = was.handles_below;
  referenced = some;
  history = was.history;
}

pub relisted_stands : (d : Document) (v : View) (views : List ℕ) (held_by_callers : ℕ) → StandsOn d v → occurrences v.id views ≡ 1 → StandsOn (with_references views held_by_callers d) v
relisted_stands d v views held_by_callers on listed = record {
  anchor = on.anchor;
  caret = on.caret;
  target_start = on.target_start;
  target_end = on.target_end;
  lines = on.lines;
  first_line = on.first_line;
  indicator = on.indicator;
  listed = listed;
}

-- a change of views and references alone
pub record Relists (g : Document → Document) : Type 0 where
  pub views : Document → List ℕ
  pub held_by_callers : Document → ℕ
  pub is : (d : Document) → g d ≡ with_references (views d) (held_by_callers d) d

-- a document that is sound, or would be if it had a reference
abbrev pub IsSoundIfHeld : Limits → Document → Type 0
IsSoundIfHeld limits d = IsSoundDocument limits (with_references d.views (d.held_by_callers + 1) d)

pub sound_if_held : (limits : Limits) (d : Document) → IsSoundDocument limits d → IsSoundIfHeld limits d
sound_if_held limits d was = relisted_sound limits d d.views d.views d.held_by_callers (d.held_by_callers + 1) was (omega arith)

-- The documents with a reference, among changed documents.

living_sound_one : (limits : Limits) (g : Document → Document) → Relists g → (d : Document) → IsSoundIfHeld limits d → nat_lt 0 (references (g d)) ≡ true → IsSoundDocument limits (g d)
living_sound_one limits g r d was t =
    let some : 0 < length (r.views d) + r.held_by_callers d = subst (λ e. 0 < references e) (r.is d) (ltb-true 0 (references (g d)) t) in
    subst (λ e. IsSoundDocument limits e) (sym (r.is d)) (relisted_sound limits d d.views (r.views d) (d.held_by_callers + 1) (r.held_by_callers d) was some)

pub living_sound : (limits : Limits) (g : Document → Document) → Relists g → (ds : List Document) → AllByRecursion (IsSoundIfHeld limits) ds
    → AllByRecursion (IsSoundDocument limits) (living (map g ds))
living_sound limits g r [] all = tt
living_sound limits g r (d ∷ ds) all =
    cond_both (nat_lt 0 (references (g d))) (g d ∷ living (map g ds)) (living (map g ds)) (AllByRecursion (IsSoundDocument limits))
    (λ t. (living_sound_one limits g r d all.0 t, living_sound limits g r ds all.1)) (λ t. living_sound limits g r ds all.1)

pub relisted_id : (g : Document → Document) → Relists g → (d : Document) → (g d).id ≡ d.id
relisted_id g r d = ap (λ (e : Document). e.id) (r.is d)

living_ids : (g : Document → Document) → Relists g → (low high : ℕ) (ds : List Document) → Rise low high (map (λ (d : Document). d.id) ds) → Rise low high (map (λ (d : Document). d.id) (living (map g ds)))
living_ids g r low high [] h = tt
living_ids g r low high (d ∷ ds) h =
    let same = relisted_id g r d in
    let rest = living_ids g r (d.id + 1) high ds h.2 in
    let le : low ≤ d.id = h.0 in
    let lt : d.id < high = h.1 in
    cond_both (nat_lt 0 (references (g d))) (g d ∷ living (map g ds)) (living (map g ds)) (λ es. Rise low high (map (λ (d : Document). d.id) es))
    (λ t. (omega arith, omega arith, subst (λ n. Rise (n + 1) high (map (λ (d : Document). d.id) (living (map g ds)))) (sym same) rest))
    (λ t. rise_from (d.id + 1) low high (map (λ (d : Document). d.id) (living (map g ds))) (omega arith) rest)

pub mapped_found : (g : Document → Document) → Relists g → (ds : List Document) (id : ℕ) (d : Document) → document_at ds id ≡ Some d → document_at (map g ds) id ≡ Some (g d)
mapped_found g r [] id d e = absurd (cc)
mapped_found g r (x ∷ xs) id d e =
    subst (λ n. cond (n == id) (Some (g x)) (document_at (map g xs) id) ≡ Some (g d)) (sym (relisted_id g r x))
    (go (x.id == id) refl e (λ e. mapped_found g r xs id d e))
  where
    go : (b : Bool) → (x.id == id) ≡ b → cond b (Some x) (document_at xs id) ≡ Some d → (document_at xs id ≡ Some d → document_at (map g xs) id ≡ Some (g d))
        → cond b (Some (g x)) (document_at (map g xs) id) ≡ Some (g d)
    go true t e rest = let same : x ≡ d = cc in ap (λ y. Some (g y)) same
    go false t e rest = rest e

pub living_found : (ds : List Document) (id : ℕ) (d : Document) → document_at ds id ≡ Some d → 0 < references d → document_at (living ds) id ≡ Some d
living_found [] id d e some = absurd (cc)
living_found (x ∷ xs) id d e some = go (x.id == id) refl e (λ e. living_found xs id d e some)
  where
    kept : (b : Bool) → nat_lt 0 (references x) ≡ b → (x.id == id) ≡ true → x ≡ d → document_at (cond b (x ∷ living xs) (living xs)) id ≡ Some d
    kept true k t same = rw t (ap (λ y. Some y) same)
    kept false k t same =
        let some' : 0 < references x = subst (λ y. 0 < references y) (sym same) some in
        let yes = lt-ltb 0 (references x) some' in absurd (cc)

    skipped : (b : Bool) → (x.id == id) ≡ false → document_at (living xs) id ≡ Some d → document_at (cond b (x ∷ living xs) (living xs)) id ≡ Some d
    skipped true t rest = rw t rest
    skipped false t rest = rest

    go : (b : Bool) → (x.id == id) ≡ b → cond b (Some x) (document_at xs id) ≡ Some d → (document_at xs id ≡ Some d → document_at (living xs) id ≡ Some d)
        → document_at (cond (nat_lt 0 (references x)) (x ∷ living xs) (living xs)) id ≡ Some d
    go true t e rest = kept (nat_lt 0 (references x)) refl t (let same : x ≡ d = cc in same)
    go false t e rest = skipped (nat_lt 0 (references x)) t (rest e)

-- a document that lists one view lists some
listed_some : (id : ℕ) (ids : List ℕ) → occurrences id ids ≡ 1 → 0 < length ids
listed_some id [] e = absurd (omega arith)
listed_some id (x ∷ xs) e = omega arith

-- a view on a document that still lists it
pub living_view : (g : Document → Document) → Relists g → (ds : List Document) (v : View) → IsSoundView ds v
    → ((d : Document) → document_at ds v.document ≡ Some d → occurrences v.id (g d).views ≡ 1)
    → IsSoundView (living (map g ds)) v
living_view g r ds v h listed =
    let d = h.document in
    let once : occurrences v.id (g d).views ≡ 1 = listed d h.found in
    let is : g d ≡ with_references (r.views d) (r.held_by_callers d) d = r.is d in
    let once' : occurrences v.id (r.views d) ≡ 1 = subst (λ e. occurrences v.id e.views ≡ 1) is once in
    let some : 0 < references (g d) = (let n = listed_some v.id (g d).views once in omega arith) in
    record {
      document = g d;
      found = living_found (map g ds) v.document (g d) (mapped_found g r ds v.document d h.found) some;
      stands = subst (λ e. StandsOn e v) (sym is) (relisted_stands d v (r.views d) (r.held_by_callers d) h.stands once');
    }

-- Detaching a view.

pub without_other : (id other : ℕ) (ids : List ℕ) → (other ≡ id → ⊥) → occurrences other (without id ids) ≡ occurrences other ids
without_other id other [] ne = refl
without_other id other (x ∷ xs) ne = go (x == id) refl (without_other id other xs ne)
  where
    go : (b : Bool) → (x == id) ≡ b → occurrences other (without id xs) ≡ occurrences other xs
        → occurrences other (cond (not b) (x ∷ without id xs) (without id xs)) ≡ occurrences other (x ∷ xs)
    go true t rest =
        let same = eqb-true x id t in
        let no : (x == other) ≡ false = ne_eqb x other (λ e. ne (sym e ∙ same)) in
        rw no rest
    go false t rest = occurrences_cons other x (without id xs) ∙ ap (λ n. one_if (x == other) + n) rest ∙ sym (occurrences_cons other x xs)

pub without_itself : (id : ℕ) (ids : List ℕ) → occurrences id (without id ids) ≡ 0
without_itself id [] = refl
without_itself id (x ∷ xs) = go (x == id) refl (without_itself id xs)
  where
    go : (b : Bool) → (x == id) ≡ b → occurrences id (without id xs) ≡ 0 → occurrences id (cond (not b) (x ∷ without id xs) (without id xs)) ≡ 0
    go true t rest = rest
    go false t rest = rw t rest

left_relists : (id : ℕ) → Relists (left_by id)
left_relists id = record { views = λ d. without id d.views; held_by_callers = λ d. d.held_by_callers; is = λ d. refl }

attached_relists : (view id : ℕ) → Relists (attached_last view id)
attached_relists view id = record { views = λ d. cond (d.id == id) (without view d.views ++ view ∷ []) (without view d.views); held_by_callers = λ d. d.held_by_callers; is = λ d. by_test d (d.id == id) }
  where
    by_test : (d : Document) (b : Bool) → cond b (record d { views = without view d.views ++ view ∷ [] }) (left_by view d)
        ≡ with_references (cond b (without view d.views ++ view ∷ []) (without view d.views)) d.held_by_callers d
    by_test d true = refl
    by_test d false = refl

pub attached_lists_other : (view id other : ℕ) (d : Document) → (other ≡ view → ⊥) → occurrences other (attached_last view id d).views ≡ occurrences other d.views
attached_lists_other view id other d ne = go (d.id == id)
  where
    go : (b : Bool) → occurrences other (cond b (record d { views = without view d.views ++ view ∷ [] }) (left_by view d)).views ≡ occurrences other d.views
    go true =
        let no : (view == other) ≡ false = ne_eqb view other (λ e. ne (sym e)) in
        let none : occurrences other (view ∷ []) ≡ 0 = rw no refl in
        let a = occurrences_append other (without view d.views) (view ∷ []) in
        let b = without_other view other d.views ne in
        omega arith
    go false = without_other view other d.views ne

pub attached_lists_itself : (view : ℕ) (d : Document) → occurrences view (attached_last view d.id d).views ≡ 1
attached_lists_itself view d =
    let t : (d.id == d.id) ≡ true = eq-eqb d.id d.id refl in
    let u : (view == view) ≡ true = eq-eqb view view refl in
    let one : occurrences view (view ∷ []) ≡ 1 = rw u refl in
    let a = occurrences_append view (without view d.views) (view ∷ []) in
    let b = without_itself view d.views in
    rw t (omega arith)

-- A view just attached to a document.

pub fresh_visible : (n : ℕ) → is_visible (replicate n fresh_flags) 0 ≡ true
fresh_visible zero = refl
fresh_visible (suc n) = refl

pub fresh_stands : (d : Document) (v : View) → occurrences v.id d.views ≡ 1 → v.anchor ≡ 0 → v.caret ≡ 0 → v.target_start ≡ 0 → v.target_end ≡ 0 → v.flags ≡ replicate (lines_in d) fresh_flags
    → v.indicator < 32 → StandsOn d v
fresh_stands d v listed a b c e l i = record {
  anchor = omega arith;
  caret = omega arith;
  target_start = omega arith;
  target_end = omega arith;
  lines = ap length l ∙ length-replicate (lines_in d) fresh_flags;
  first_line = ap (λ f. is_visible f 0) l ∙ fresh_visible (lines_in d);
  indicator = i;
  listed = listed;
}

-- Attaching.

-- a session whose documents are sound if they have a reference
pub record IsSoundIfAllHeld (s : Session) : Type 0 where
  pub document_ids : Rise 0 s.next_document (map (λ (d : Document). d.id) s.documents)
  pub view_ids : Rise 0 s.next_view (map (λ (v : View). v.id) s.views)
  pub documents : AllByRecursion (IsSoundIfHeld s.limits) s.documents
  pub views : AllByRecursion (IsSoundView s.documents) s.views
  pub lists : AllByRecursion (ListsItsViews s.views) s.documents

pub if_all_held : (s : Session) → IsSound s → IsSoundIfAllHeld s
if_all_held s h = record {
  document_ids = h.document_ids;
  view_ids = h.view_ids;
  documents = all_weaker (IsSoundDocument s.limits) (IsSoundIfHeld s.limits) (sound_if_held s.limits) s.documents h.documents;
  views = h.views;
  lists = h.lists;
}

pub attached_sound : (s : Session) (id : ℕ) (d : Document) (v : View) → IsSoundIfAllHeld s → view_at s.views v.id ≡ Some v → v.indicator < 32 → document_at s.documents id ≡ Some d → IsSound (with_attached (Some d) v s)
unfolding attached_relists
attached_sound s id d v h there indicator found = record {
  document_ids = living_ids (attached_last v.id d.id) (attached_relists v.id d.id) 0 s.next_document s.documents h.document_ids;
  view_ids = subst (λ ids. Rise 0 s.next_view ids) (sym (with_view_ids (attached_to d v) s.views)) h.view_ids;
  documents = living_sound s.limits (attached_last v.id d.id) (attached_relists v.id d.id) s.documents h.documents;
  views = all_map (IsSoundView s.documents) (IsSoundView (living (map (attached_last v.id d.id) s.documents))) (in_place_of_view (attached_to d v))
      (λ w k. go w k (w.id == v.id) refl) s.views h.views;
  lists = lists_attached s.views d v s.documents there h.lists;
}
  where
    go : (w : View) → IsSoundView s.documents w → (b : Bool) → (w.id == v.id) ≡ b → IsSoundView (living (map (attached_last v.id d.id) s.documents)) (cond b (attached_to d v) w)
    go w k true t =
        let at : document_at s.documents d.id ≡ Some d = ap (document_at s.documents) (document_id s.documents id d found) ∙ found in
        let once = attached_lists_itself v.id d in
        let t' : (d.id == d.id) ≡ true = eq-eqb d.id d.id refl in
        let some : 0 < references (attached_last v.id d.id d) = (let n = listed_some v.id (attached_last v.id d.id d).views once in omega arith) in
        record {
          document = attached_last v.id d.id d;
          found = living_found (map (attached_last v.id d.id) s.documents) d.id (attached_last v.id d.id d)
              (mapped_found (attached_last v.id d.id) (attached_relists v.id d.id) s.documents d.id d at) some;
          stands = subst (λ (e : Document). StandsOn e (attached_to d v)) (sym ((attached_relists v.id d.id).is d))
              (fresh_stands (with_references ((attached_relists v.id d.id).views d) d.held_by_callers d) (attached_to d v)
              (ap (λ (e : Document). occurrences v.id e.views) (sym ((attached_relists v.id d.id).is d)) ∙ once) refl refl refl refl refl indicator);
        }
    go w k false t =
        living_view (attached_last v.id d.id) (attached_relists v.id d.id) s.documents w k
        (λ e at. attached_lists_other v.id d.id w.id e (eqb-false w.id v.id t)
        ∙ (let same : k.document ≡ e = (let f : document_at s.documents w.document ≡ Some k.document = k.found in cc) in subst (λ (x : Document). occurrences w.id x.views ≡ 1) same k.stands.listed))

-- A new document.

pub found_before : (ds es : List Document) (id : ℕ) (d : Document) → document_at ds id ≡ Some d → document_at (ds ++ es) id ≡ Some d
found_before [] es id d e = absurd (cc)
found_before (x ∷ xs) es id d e = go (x.id == id) e (λ e. found_before xs es id d e)
  where
    go : (b : Bool) → cond b (Some x) (document_at xs id) ≡ Some d → (document_at xs id ≡ Some d → document_at (xs ++ es) id ≡ Some d) → cond b (Some x) (document_at (xs ++ es) id) ≡ Some d
    go true e rest = e
    go false e rest = rest e

pub found_last : (low high : ℕ) (ds : List Document) (d : Document) → d.id ≡ high → Rise low high (map (λ (d : Document). d.id) ds) → document_at (ds ++ d ∷ []) high ≡ Some d
found_last low high [] d e r = let t : (d.id == high) ≡ true = eq-eqb d.id high e in rw t refl
found_last low high (x ∷ xs) d e r =
    let lt : x.id < high = r.1 in
    let t : (x.id == high) ≡ false = ne_eqb x.id high (λ p. omega arith) in
    rw t (found_last (x.id + 1) high xs d e r.2)

pub view_before : (ds es : List Document) (v : View) → IsSoundView ds v → IsSoundView (ds ++ es) v
view_before ds es v h = record { document = h.document; found = found_before ds es v.document h.document h.found; stands = h.stands }

-- a new document with a reference is sound
pub new_document_sound : (limits : Limits) (id options : ℕ) (views : List ℕ) (held_by_callers : ℕ) → 0 < length views + held_by_callers → IsSoundDocument limits (with_references views held_by_callers (new_document id options))
new_document_sound limits id options views held_by_callers some = record {
  line_starts = are_line_starts Default [];
  rows = refl;
  indicator_count = refl;
  indicators = nothing_kept 32;
  styled = omega arith;
  bounded = omega arith;
  handles_differ = λ h. omega arith;
  handles_below = λ h le. refl;
  referenced = some;
  history = fresh_fits [];
}
  where
    nothing_kept : (n : ℕ) → AllByRecursion (λ (values : List ℕ). length values ≡ 0) (replicate n [])
    nothing_kept zero = tt
    nothing_kept (suc n) = (refl, nothing_kept n)

-- a session with one more document, held once by a caller
pub created_sound : (s : Session) (options : ℕ) → IsSound s → IsSound (with_new_document (with_references [] 1 (new_document s.next_document options)) s)
created_sound s options h = record {
  document_ids = documents_added s.next_document s.documents (with_references [] 1 (new_document s.next_document options)) refl h.document_ids;
  view_ids = h.view_ids;
  documents = all_append (IsSoundDocument s.limits) s.documents (with_references [] 1 (new_document s.next_document options) ∷ []) h.documents
      (new_document_sound s.limits s.next_document options [] 1 (omega arith), tt);
  views = all_weaker (IsSoundView s.documents) (IsSoundView (s.documents ++ with_references [] 1 (new_document s.next_document options) ∷ []))
      (view_before s.documents (with_references [] 1 (new_document s.next_document options) ∷ [])) s.views h.views;
  lists = all_append (ListsItsViews s.views) s.documents (with_references [] 1 (new_document s.next_document options) ∷ []) h.lists (tt, tt);
}

-- a session with one more document that has no reference yet
pub with_unheld : (s : Session) → IsSound s → IsSoundIfAllHeld (with_new_document (new_document s.next_document 0) s)
with_unheld s h = record {
  document_ids = documents_added s.next_document s.documents (new_document s.next_document 0) refl h.document_ids;
  view_ids = h.view_ids;
  documents = all_append (IsSoundIfHeld s.limits) s.documents (new_document s.next_document 0 ∷ []) (if_all_held s h).documents
      (new_document_sound s.limits s.next_document 0 [] 1 (omega arith), tt);
  views = all_weaker (IsSoundView s.documents) (IsSoundView (s.documents ++ new_document s.next_document 0 ∷ []))
      (view_before s.documents (new_document s.next_document 0 ∷ [])) s.views h.views;
  lists = all_append (ListsItsViews s.views) s.documents (new_document s.next_document 0 ∷ []) h.lists (tt, tt);
}

pub attached_new_sound : (s : Session) (v : View) → IsSound s → view_at s.views v.id ≡ Some v → v.indicator < 32 → IsSound (attached s.next_document v (with_new_document (new_document s.next_document 0) s))
attached_new_sound s v h there indicator =
    let found = found_last 0 s.next_document s.documents (new_document s.next_document 0) refl h.document_ids in
    rw found (attached_sound (with_new_document (new_document s.next_document 0) s) s.next_document (new_document s.next_document 0) v (with_unheld s h) there indicator found)

pub attached_any_sound : (s : Session) (id : ℕ) (v : View) → IsSound s → view_at s.views v.id ≡ Some v → v.indicator < 32 → IsSound (attached id v s)
attached_any_sound s id v h there indicator = go (document_at s.documents id) refl
  where
    go : (o : Option Document) → document_at s.documents id ≡ o → IsSound (with_attached o v s)
    go None e = h
    go (Some d) e = attached_sound s id d v (if_all_held s h) there indicator e

-- References that callers hold.

more_relists : (id : ℕ) → Relists (held_more id)
more_relists id = record { views = λ d. d.views; held_by_callers = λ d. cond (d.id == id) (d.held_by_callers + 1) d.held_by_callers; is = λ d. by_test d (d.id == id) }
  where
    by_test : (d : Document) (b : Bool) → cond b (record d { held_by_callers = d.held_by_callers + 1 }) d ≡ with_references d.views (cond b (d.held_by_callers + 1) d.held_by_callers) d
    by_test d true = refl
    by_test d false = refl

less_relists : (id : ℕ) → Relists (held_less id)
less_relists id = record { views = λ d. d.views; held_by_callers = λ d. cond (d.id == id) (d.held_by_callers - 1) d.held_by_callers; is = λ d. by_test d (d.id == id) }
  where
    by_test : (d : Document) (b : Bool) → cond b (record d { held_by_callers = d.held_by_callers - 1 }) d ≡ with_references d.views (cond b (d.held_by_callers - 1) d.held_by_callers) d
    by_test d true = refl
    by_test d false = refl

pub held_more_sound : (s : Session) (id : ℕ) → IsSound s → IsSound (record s { documents = map (held_more id) s.documents })
held_more_sound s id h = record {
  document_ids = subst (λ ids. Rise 0 s.next_document ids) (sym (ids s.documents)) h.document_ids;
  view_ids = h.view_ids;
  documents = all_map (IsSoundDocument s.limits) (IsSoundDocument s.limits) (held_more id) (λ d was. one d was (d.id == id)) s.documents h.documents;
  views = all_weaker (IsSoundView s.documents) (IsSoundView (map (held_more id) s.documents)) (λ v k. record {
    document = held_more id k.document;
    found = mapped_found (held_more id) (more_relists id) s.documents v.document k.document k.found;
    stands = on k.document v (k.document.id == id) k.stands;
  }) s.views h.views;
  lists = lists_more s.views id s.documents h.lists;
}
  where
    ids : (ds : List Document) → map (λ (d : Document). d.id) (map (held_more id) ds) ≡ map (λ (d : Document). d.id) ds
    ids [] = refl
    ids (d ∷ ds) = let a = relisted_id (held_more id) (more_relists id) d in let b = ids ds in cc

    one : (d : Document) → IsSoundDocument s.limits d → (b : Bool) → IsSoundDocument s.limits (cond b (record d { held_by_callers = d.held_by_callers + 1 }) d)
    one d was true = relisted_sound s.limits d d.views d.views d.held_by_callers (d.held_by_callers + 1) was (omega arith)
    one d was false = was

    on : (d : Document) (v : View) (b : Bool) → StandsOn d v → StandsOn (cond b (record d { held_by_callers = d.held_by_callers + 1 }) d) v
    on d v true k = relisted_stands d v d.views (d.held_by_callers + 1) k k.listed
    on d v false k = k

pub released_sound : (s : Session) (id : ℕ) → IsSound s → IsSound (record s { documents = living (map (held_less id) s.documents) })
unfolding less_relists
released_sound s id h = record {
  document_ids = living_ids (held_less id) (less_relists id) 0 s.next_document s.documents h.document_ids;
  view_ids = h.view_ids;
  documents = living_sound s.limits (held_less id) (less_relists id) s.documents (if_all_held s h).documents;
  views = all_weaker (IsSoundView s.documents) (IsSoundView (living (map (held_less id) s.documents)))
      (λ v k. living_view (held_less id) (less_relists id) s.documents v k
      (λ e at. subst (λ (x : Document). occurrences v.id x.views ≡ 1) (sym ((less_relists id).is e))
      (let same : k.document ≡ e = (let f : document_at s.documents v.document ≡ Some k.document = k.found in cc) in subst (λ (x : Document). occurrences v.id x.views ≡ 1) same k.stands.listed)))
      s.views h.views;
  lists = lists_less s.views id s.documents h.lists;
}

-- Opening and closing.

pub opened_session_sound : (s : Session) → IsSound s
    → IsSound (record s {
      documents = s.documents ++ with_references (s.next_view ∷ []) 0 (new_document s.next_document 0) ∷ [];
      next_document = s.next_document + 1;
      views = s.views ++ new_view s.next_view (with_references (s.next_view ∷ []) 0 (new_document s.next_document 0)) ∷ [];
      next_view = s.next_view + 1;
    })
opened_session_sound s h = record {
  document_ids = documents_added s.next_document s.documents (with_references (s.next_view ∷ []) 0 (new_document s.next_document 0)) refl h.document_ids;
  view_ids = views_added s.next_view s.views (new_view s.next_view (with_references (s.next_view ∷ []) 0 (new_document s.next_document 0))) refl h.view_ids;
  documents = all_append (IsSoundDocument s.limits) s.documents (with_references (s.next_view ∷ []) 0 (new_document s.next_document 0) ∷ []) h.documents
      (new_document_sound s.limits s.next_document 0 (s.next_view ∷ []) 0 (omega arith), tt);
  views = all_append (IsSoundView (s.documents ++ with_references (s.next_view ∷ []) 0 (new_document s.next_document 0) ∷ [])) s.views (new_view s.next_view (with_references (s.next_view ∷ []) 0 (new_document s.next_document 0)) ∷ [])
      (all_weaker (IsSoundView s.documents) (IsSoundView (s.documents ++ with_references (s.next_view ∷ []) 0 (new_document s.next_document 0) ∷ []))
      (view_before s.documents (with_references (s.next_view ∷ []) 0 (new_document s.next_document 0) ∷ [])) s.views h.views) (
        record {
          document = with_references (s.next_view ∷ []) 0 (new_document s.next_document 0);
          found = found_last 0 s.next_document s.documents (with_references (s.next_view ∷ []) 0 (new_document s.next_document 0)) refl h.document_ids;
          stands = fresh_stands (with_references (s.next_view ∷ []) 0 (new_document s.next_document 0)) (new_view s.next_view (with_references (s.next_view ∷ []) 0 (new_document s.next_document 0)))
              (let t : (s.next_view == s.next_view) ≡ true = eq-eqb s.next_view s.next_view refl in rw t refl) refl refl refl refl refl (omega arith);
        },
        tt,
      );
  lists = all_append (ListsItsViews (s.views ++ new_view s.next_view (with_references (s.next_view ∷ []) 0 (new_document s.next_document 0)) ∷ [])) s.documents (with_references (s.next_view ∷ []) 0 (new_document s.next_document 0) ∷ [])
      (lists_before s.views (new_view s.next_view (with_references (s.next_view ∷ []) 0 (new_document s.next_document 0)) ∷ []) s.documents h.lists)
      (((new_view s.next_view (with_references (s.next_view ∷ []) 0 (new_document s.next_document 0)), view_last 0 s.next_view s.views (new_view s.next_view (with_references (s.next_view ∷ []) 0 (new_document s.next_document 0))) refl h.view_ids, refl), tt), tt);
}

pub opened_sound : (s : Session) → IsSound s → IfOk (opened s) (λ (done : Session × ℕ). IsSound done.0)
opened_sound s h =
    cond_both (nat_le s.limits.views (length s.views) || nat_lt s.limits.ids s.next_view || nat_lt s.limits.ids s.next_document) _ _
    (λ o. IfOk o (λ (done : Session × ℕ). IsSound done.0)) (λ _. tt) (λ _. opened_session_sound s h)

kept_views : (P : View → Type 0) (id : ℕ) (vs : List View) → AllByRecursion P vs → AllByRecursion (λ (v : View). P v × (v.id ≡ id → ⊥)) (filter (λ (w : View). not (w.id == id)) vs)
kept_views P id [] all = tt
kept_views P id (v ∷ vs) all = go (v.id == id) refl (kept_views P id vs all.1)
  where
    go : (b : Bool) → (v.id == id) ≡ b → AllByRecursion (λ (v : View). P v × (v.id ≡ id → ⊥)) (filter (λ (w : View). not (w.id == id)) vs)
        → AllByRecursion (λ (v : View). P v × (v.id ≡ id → ⊥)) (cond (not b) (v ∷ filter (λ (w : View). not (w.id == id)) vs) (filter (λ (w : View). not (w.id == id)) vs))
    go true t rest = rest
    go false t rest = ((all.0, eqb-false v.id id t), rest)

kept_ids : (p : View → Bool) (low high : ℕ) (vs : List View) → Rise low high (map (λ (v : View). v.id) vs) → Rise low high (map (λ (v : View). v.id) (filter p vs))
kept_ids p low high [] r = tt
kept_ids p low high (v ∷ vs) r =
    let le : low ≤ v.id = r.0 in
    let rest = kept_ids p (v.id + 1) high vs r.2 in
    cond_both (p v) (v ∷ filter p vs) (filter p vs) (λ ws. Rise low high (map (λ (v : View). v.id) ws))
    (λ t. (r.0, r.1, rest)) (λ t. rise_from (v.id + 1) low high (map (λ (v : View). v.id) (filter p vs)) (omega arith) rest)

closed_session_sound : (s : Session) (id : ℕ) → IsSound s
    → IsSound (record s { documents = living (map (left_by id) s.documents); views = filter (λ (w : View). not (w.id == id)) s.views })
closed_session_sound s id h = record {
  document_ids = living_ids (left_by id) (left_relists id) 0 s.next_document s.documents h.document_ids;
  view_ids = kept_ids (λ (w : View). not (w.id == id)) 0 s.next_view s.views h.view_ids;
  documents = living_sound s.limits (left_by id) (left_relists id) s.documents (if_all_held s h).documents;
  views = all_weaker (λ (v : View). IsSoundView s.documents v × (v.id ≡ id → ⊥)) (IsSoundView (living (map (left_by id) s.documents)))
      (λ v k. living_view (left_by id) (left_relists id) s.documents v k.0
      (λ e at. without_other id v.id e.views k.1
      ∙ (let same : k.0.document ≡ e = (let f : document_at s.documents v.document ≡ Some k.0.document = k.0.found in cc) in subst (λ (x : Document). occurrences v.id x.views ≡ 1) same k.0.stands.listed)))
      (filter (λ (w : View). not (w.id == id)) s.views) (kept_views (IsSoundView s.documents) id s.views h.views);
  lists = lists_left s.views id s.documents h.lists;
}

closed_view_sound : (s : Session) (o : Option View) → IsSound s → IfOk (closed_view s o) IsSound
closed_view_sound s None h = tt
closed_view_sound s (Some v) h = closed_session_sound s v.id h

pub closed_sound : (s : Session) (view : ℕ) → IsSound s → IfOk (closed s view) IsSound
closed_sound s view h = closed_view_sound s (view_at s.views view) h
