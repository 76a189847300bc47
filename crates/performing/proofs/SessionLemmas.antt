-- Sessions: the view and the document of a request, a view that is moved, and what fits in after a change.
pub use Rattle.performing.proofs.Names.{◌≡◌, ℕ, ◌==◌, List, [], map, length, refl, ap, sym, ◌∙◌, subst, arith, Option, Some, None, IfSome, IsSome, IsSomeAnd, if◌then◌else◌, ViewChange, Document, View, Session, Row, view_at, document_at, lines_in, IsSoundView, StandsOn, changed_view, view_change_performed, changed_view_document, changed_view_id, FitChangesAreWithin, IsWithin, FoldCapacity, KeptView, view_in, Kept, document_of, value_at, with_value_at, views_of, documents_in, session_in, SessionState, IsKept, IsAsked, CanChangeView, asked, view_asked, document_asked, GrowsAtMost, OnlyViewChanges, id_of_view, id_of_document, own_at, found_all, found_some, found_none, unchanged, named_with, other_replaced, value_replaced, at_each, by_id, changed_at, ◌≢◌, ◌+◌, ◌<◌, Bool, true, false, cond, ◌∷◌, ◌++◌, map-map, filter, option_map, nat_lt, not, width_at, width_of, HasWidths, HaveWidths, AllByRecursion, eqb-true, eqb-false, lt-ltb, cond_both, length-append, length-filter_both, all_map, all_weaker, map_where, mapped_ids, references, living, left_by, without, Rise, attached_last, Entry, Entries, value_of, HasViewRoom, let_go, LeavesTheLiving, DocumentsAreNamed, CanMove, ◌≤◌, max, option_or, unwrap_or, eq-eqb, ne_eqb, find-append, SessionChange, Attach, entry, new_kept, KeepsRest, DocumentsRise, found_below, own_document, request_document, request_stands, TableGrows, attaches_to, kept_or_new, KeepsRoom, RoomsGrow, KeepsClipboard, Stays, TableStays, AllStays, ◌-◌, ◌^◌, length-map, map-append, text_of, is_allowed, is_large, attached_to, new_document, with_view, IsSoundDocument, ListsItsViews, held_less, attached, with_attached, with_new_document, documents_added, all_added, all_append, append-nil, released, HasFewLines, AreFewLines, CanAttach, with_added, keeping, nat_tests, Limits, allowed_lengths, few_lines, Cell, option_copied_mut, rules, option_copied, err_from_is_err_and, HasRoomFor, changed, with_attached_view, AttachNew, Create, with_held_by_callers, IsFitSessionChange, session_changed, text_from, ids_of, living_left, named_left, stays_alike}
use Rattle.document_table.specs.Leaving.{documents_in as entries_in}
pub use Rattle.ed_model.specs.FoldingPlans.{levels_of}
use Rattle.ed_view.specs.Flags.{kept_capacity}
use Rattle.performing.specs.SessionMemory.{KeepFolds}
use Rattle.scene.specs.proved.ViewWidths.{KeepsPlace, width_found, widths_changed, widths_living, widths_of_new, widths_replaced}
use Rattle.std.specs.Prelude.{find}

-- The view and the document of a request, as the session keeps them; and a change of the view.

pub some_same : {V : Type 0} (a b : V) → Some a ≡ Some b → a ≡ b
some_same a b e = cc

pub not_both : {V : Type 0} (o : Option V) (v : V) → o ≡ None → o ≡ Some v → ⊥
not_both o v none some = absurd (cc)

pub is_some_and : {V : Type 0} (P : V → Type 0) (o : Option V) → (o ≡ None → ⊥) → ((v : V) → o ≡ Some v → P v) → IsSomeAnd o P
is_some_and P None there has = there refl
is_some_and P (Some v) there has = has v refl

is_there : {V : Type 0} (o : Option V) → (o ≡ None → ⊥) → IsSome o
is_there None there = absurd (there refl)
is_there (Some v) there = refl

-- A document that the model finds.
module _ {s : SessionState} (kept : IsKept s) (id : ℕ) (d : Document) (found : document_at (documents_in s.documents) id ≡ Some d) where
  pub document_is : (k : Kept) → value_at s.documents.entries id ≡ Some k → k.document ≡ d
  document_is k at = some_same k.document d (sym (found_some document_of id_of_document s.documents.entries id k kept.documents at) ∙ found)

  no_document_at : value_at s.documents.entries id ≡ None → ⊥
  no_document_at none = not_both (document_at (documents_in s.documents) id) d (found_none document_of id_of_document s.documents.entries id kept.documents none) found

  pub document_there_at : IsSome (value_at s.documents.entries id)
  document_there_at = is_there (value_at s.documents.entries id) no_document_at

abbrev pub sender_of : SessionState → ℕ → View
sender_of s view = view_asked (views_of s.views.entries) view

abbrev pub document_for : SessionState → ℕ → Document
document_for s view = document_asked (documents_in s.documents) (sender_of s view).document

-- a request with another text is as sound
pub without_text : {s : Session} {document view : ℕ} {text : List ℕ} → IsAsked s document view text → IsAsked s document view []
without_text is = record { sound = record { sound = is.sound.sound; view = is.sound.view; document = is.sound.document }; document_id = is.document_id; view_id = is.view_id }

module _ {s : SessionState} {document view : ℕ} {text : List ℕ} (kept : IsKept s) (is : IsAsked (session_in s) document view text) where
  pub view_found : view_at (views_of s.views.entries) view ≡ Some (sender_of s view)
  view_found = ap (view_at (views_of s.views.entries)) (sym is.view_id) ∙ is.sound.view

  pub on_document : (sender_of s view).document ≡ document
  on_document = sym (own_at id_of_document (documents_in s.documents) (sender_of s view).document (document_for s view) is.sound.document) ∙ is.document_id

  pub document_found : document_at (documents_in s.documents) document ≡ Some (document_for s view)
  document_found = ap (document_at (documents_in s.documents)) (sym is.document_id) ∙ own_document (asked (session_in s) view text) is.sound

  pub same_view : (v : KeptView) → value_at s.views.entries view ≡ Some v → v.view ≡ sender_of s view
  same_view v at = some_same v.view (sender_of s view) (sym (found_some view_in id_of_view s.views.entries view v kept.views at) ∙ view_found)

  no_view : value_at s.views.entries view ≡ None → ⊥
  no_view none = not_both (view_at (views_of s.views.entries) view) (sender_of s view) (found_none view_in id_of_view s.views.entries view kept.views none) view_found

  pub view_there : IsSome (value_at s.views.entries view)
  view_there = is_there (value_at s.views.entries view) no_view

  pub same_document : (k : Kept) → value_at s.documents.entries document ≡ Some k → k.document ≡ document_for s view
  same_document = document_is kept document (document_for s view) document_found

  pub document_there : IsSome (value_at s.documents.entries document)
  document_there = document_there_at kept document (document_for s view) document_found

  pub stands : StandsOn (document_for s view) (sender_of s view)
  stands = request_stands (asked (session_in s) view text) is.sound

-- A view changes.

-- what fits into the view stays
pub capacity_stays : (change : ViewChange) (old new : KeptView) → new.capacity ≡ old.capacity → new.large ≡ old.large → GrowsAtMost change old new
capacity_stays change old new same width =
    let hidden : new.capacity.hidden ≡ old.capacity.hidden = ap (λ (c : FoldCapacity). c.hidden) same in
    let contracted : new.capacity.contracted ≡ old.capacity.contracted = ap (λ (c : FoldCapacity). c.contracted) same in
    record { width = width; enough = λ _. same; hidden = omega arith; contracted = omega arith }

module _ {s : SessionState} {document view : ℕ} (kept : IsKept s) (is : IsAsked (session_in s) document view []) (change : ViewChange) (old : KeptView) (at : value_at s.views.entries view ≡ Some old) where
  -- the lines of its document are those of the view, and a fit change is within them
  pub lines_same : (k : Kept) → value_at s.documents.entries document ≡ Some k → lines_in k.document ≡ length old.view.flags
  lines_same k there = ap lines_in (same_document kept is k there) ∙ sym (stands kept is).lines ∙ sym (ap (λ (v : View). length v.flags) (same_view kept is old at))

  pub is_within : FitChangesAreWithin → CanChangeView (session_in s) document view change → IsWithin (length old.view.flags) change
  is_within law can =
      subst (λ n. IsWithin n change) (sym (stands kept is).lines ∙ sym (ap (λ (v : View). length v.flags) (same_view kept is old at))) (law (asked (session_in s) view []) change can.fit)

  module _ (new : KeptView) where
    abbrev pub with_new : SessionState
    with_new = record s { views = record s.views { entries = with_value_at view new s.views.entries } }

    -- the session is the model's after the change
    pub view_changed : (levels : List ℕ) → levels ≡ levels_of (document_for s view) → new.view ≡ changed_view levels change old.view
        → session_in with_new ≡ view_change_performed (session_in s) (sender_of s view) (document_for s view) change
    view_changed levels are made =
        let ls = levels_of (document_for s view) in let made_so = changed_view ls change (sender_of s view) in
        ap (λ views. let x = session_in s in record x { views = views })
        (changed view_in id_of_view s.views.entries view s.views.next kept.views kept.sound.view_ids old new at (λ _. made_so)
        (made ∙ ap (λ ls. changed_view ls change old.view) are ∙ ap (changed_view ls change) (same_view kept is old at))
        ∙ ap (λ id. map (λ (v : View). if v.id == id then made_so else v) (views_of s.views.entries)) (sym (changed_view_id ls change (sender_of s view) ∙ is.view_id)))

    -- the model sees no change
    pub view_unchanged : new.view ≡ old.view → session_in with_new ≡ session_in s
    view_unchanged same =
        ap (λ views. let x = session_in s in record x { views = views }) (unchanged view_in id_of_view s.views.entries view s.views.next kept.views kept.sound.view_ids old new at same)

    pub only_view : new.view.id ≡ old.view.id → new.view.document ≡ old.view.document → GrowsAtMost change old new → OnlyViewChanges view change s with_new
    only_view same on grows = record {
      rest = refl;
      views = named_with view_in id_of_view s.views.entries view s.views.next kept.views kept.sound.view_ids old new at same;
      widths = keeping view_in id_of_view s.views.entries view s.views.next kept.views kept.sound.view_ids old new at width_of
          (ap (λ n. record (width_of new) { document = n }) on ∙ ap (λ b. record (width_of old) { large = b }) grows.width);
      others = λ other differs. other_replaced s.views.entries view other new differs;
      room = rw (at, value_replaced s.views.entries view old new at) grows;
    }

-- The capacity of views for folds.

kept_same : (b : Bool) (capacity : FoldCapacity) → capacity ≡ kept_capacity b b capacity
kept_same true capacity = refl
kept_same false capacity = refl

abbrev KeepsFolds : Option KeptView → Option KeptView → Type 0
KeepsFolds old new = IfSome old (λ was. IfSome new (λ now. now.capacity ≡ kept_capacity was.large now.large was.capacity))

keeps_own : (o : Option KeptView) → KeepsFolds o o
keeps_own None = tt
keeps_own (Some k) = kept_same k.large k.capacity

pub folds_same : (entries : List (Entry KeptView)) → KeepFolds entries entries
folds_same entries id = keeps_own (value_at entries id)

pub folds_replaced : (entries : List (Entry KeptView)) (view : ℕ) (old new : KeptView) → value_at entries view ≡ Some old → new.capacity ≡ kept_capacity old.large new.large old.capacity → KeepFolds entries (with_value_at view new entries)
folds_replaced entries view old new at keeps = at_each (λ _. KeepsFolds) (λ _. keeps_own) entries view old new at keeps

-- The view is attached behind the others.

abbrev pub with_view_last : ℕ → Document → Document
with_view_last view d = record d { views = d.views ++ view ∷ [] }

abbrev IsElsewhere : ℕ → ℕ → Document → Type 0
IsElsewhere view from d = d.id ≢ from → left_by view d ≡ d

all_living : (ds : List Document) → AllByRecursion (λ (d : Document). 0 < references d) ds → living ds ≡ ds
all_living [] all = refl
all_living (d ∷ ds) all = rw (lt-ltb 0 (references d) all.0) (ap (λ xs. d ∷ xs) (all_living ds all.1))

module _ (view to : ℕ) where
  -- the document with the id lists the view last, once it was changed so
  abbrev pub last_after : (Document → Document) → Document → Document
  last_after change = changed_at id_of_document to (λ d. with_view_last view (change d))

  all_referenced_after : (change : Document → Document) (ds : List Document) → AllByRecursion (λ (d : Document). d.id ≢ to → 0 < references d) ds
      → AllByRecursion (λ (d : Document). 0 < references d) (map (last_after change) ds)
  all_referenced_after change ds all =
      all_map (λ (d : Document). d.id ≢ to → 0 < references d) (λ (d : Document). 0 < references d) (last_after change)
      (λ d h. cond_both (d.id == to) (with_view_last view (change d)) d (λ (x : Document). 0 < references x)
      (λ _. omega (arith, length-append (change d).views (view ∷ []))) (λ f. h (eqb-false d.id to f))) ds all

  -- To another document: the view is attached to it, and then detached from its own.

  passed : (from : ℕ) → from ≢ to → (d : Document) → IsElsewhere view from d → changed_at id_of_document from (left_by view) (last_after (λ d. d) d) ≡ attached_last view to d
  passed from other d elsewhere = go (d.id == to) refl (d.id == from) refl
    where
      go : (b : Bool) → (d.id == to) ≡ b → (own : Bool) → (d.id == from) ≡ own
          → changed_at id_of_document from (left_by view) (cond b (with_view_last view d) d) ≡ cond b (with_view_last view (left_by view d)) (left_by view d)
      go true t true e = absurd (other (sym (eqb-true d.id from e) ∙ eqb-true d.id to t))
      go true t false e = rw e (ap (with_view_last view) (sym (elsewhere (eqb-false d.id from e))))
      go false t true e = rw e refl
      go false t false e = rw e (sym (elsewhere (eqb-false d.id from e)))

  pub passed_on : LeavesTheLiving → (from : ℕ) → from ≢ to → (old : Entries Kept) (put : List (Entry Kept)) (left : Entries Kept) → CanMove old from view to → map (λ (e : Entry Kept). e.value.document) put ≡ map (last_after (λ d. d)) (documents_in old)
      → DocumentsAreNamed put → entries_in left.entries ≡ let_go from (left_by view) (entries_in put) → documents_in left ≡ living (map (attached_last view to) (documents_in old))
  passed_on law from other old put left can is named gone =
      let ds = documents_in old in let last = last_after (λ d. d) in let leave = changed_at id_of_document from (left_by view) in
      let ids : ids_of (map last ds) ≡ ids_of ds =
      mapped_ids id_of_document last (λ d. cond_both (d.id == to) (with_view_last view d) d (λ (x : Document). x.id ≡ d.id) (λ _. refl) (λ _. refl)) ds in
      living_left law from old.next (left_by view) put left.entries named (subst (λ xs. Rise 0 old.next (ids_of xs)) (sym is) (subst (Rise 0 old.next) (sym ids) can.rise))
      (subst (AllByRecursion (λ (d : Document). 0 < references d)) (sym is) (all_referenced_after (λ d. d) ds can.referenced)) gone
      ∙ ap (λ xs. living (map leave xs)) is
      ∙ ap living (map-map leave last ds ∙ map_where (λ d. leave (last d)) (attached_last view to) ds (all_weaker (IsElsewhere view from) (λ d. leave (last d) ≡ attached_last view to d) (passed from other) ds can.elsewhere))

  -- To the end of its own document's list.

  -- a document that has room for a view has room for one once a view was detached from it
  pub room_behind : (old new : Kept) → new ≡ record old { document = left_by view old.document } → HasViewRoom old → HasViewRoom new
  room_behind old new is room =
      let parts : length (filter (λ k. k == view) old.document.views) + length (without view old.document.views) ≡ length old.document.views =
      length-filter_both (λ k. k == view) (λ k. not (k == view)) (λ _. refl) old.document.views in
      let left : length (without view old.document.views) < old.capacity.views = omega (arith, room, parts) in
      subst HasViewRoom (sym is) left

  stays_within : (d : Document) → IsElsewhere view to d → last_after (left_by view) d ≡ attached_last view to d
  stays_within d elsewhere = go (d.id == to) refl
    where
      go : (b : Bool) → (d.id == to) ≡ b → cond b (with_view_last view (left_by view d)) d ≡ cond b (with_view_last view (left_by view d)) (left_by view d)
      go true t = refl
      go false f = sym (elsewhere (eqb-false d.id to f))

  pub moved_within : (old : Entries Kept) (new : List Document) → CanMove old to view to → new ≡ map (last_after (left_by view)) (documents_in old) → new ≡ living (map (attached_last view to) (documents_in old))
  moved_within old new can is =
      let ds = documents_in old in let last = last_after (left_by view) in
      is ∙ sym (all_living (map last ds) (all_referenced_after (left_by view) ds can.referenced))
      ∙ ap living (map_where last (attached_last view to) ds (all_weaker (IsElsewhere view to) (λ d. last d ≡ attached_last view to d) stays_within ds can.elsewhere))

-- Documents that keep what is stored of them, and what fits in but perhaps for views.

abbrev Keeps : Bool → Option Kept → Option Kept → Type 0
Keeps b old new = IfSome new (λ now. IsSomeAnd old (λ was. KeepsRoom b was now))

keeps_itself : (b : Bool) (o : Option Kept) → Keeps b o o
keeps_itself b None = tt
keeps_itself false (Some k) = refl
keeps_itself true (Some k) = (refl, omega arith)

keeps_then : (b : Bool) (o m n : Option Kept) → Keeps b o m → Keeps false m n → Keeps b o n
keeps_then b o m None first after = tt
keeps_then b o None (Some n) first after = absurd after
keeps_then b None (Some m) (Some n) first after = absurd first
keeps_then false (Some o) (Some m) (Some n) first after = after ∙ ap (λ (k : Kept). record k { document = n.document }) first
keeps_then true (Some o) (Some m) (Some n) first after = subst (KeepsRoom true o) (sym after) (ap (λ (k : Kept). record k { document = n.document }) first.0, first.1)

-- one document changes, but not in what is stored of it
pub one_stays : (table : Entries Kept) (id : ℕ) → DocumentsAreNamed table.entries → DocumentsRise table → (old new : Kept) → value_at table.entries id ≡ Some old → new ≡ record old { document = new.document }
    → new.document.id ≡ old.document.id → TableStays table (record table { entries = with_value_at id new table.entries })
one_stays table id named rise old new at is same = record {
  next = refl;
  capacity = refl;
  named = named_with document_of id_of_document table.entries id table.next named rise old new at same;
  rest = at_each (λ _. Keeps false) (λ _. keeps_itself false) table.entries id old new at is;
}

-- one document lost a reference
pub one_left : (id : ℕ) (change : Document → Document) → ((d : Document) → (change d).id ≡ d.id) → (old new : Entries Kept) → DocumentsAreNamed old.entries
    → entries_in new.entries ≡ let_go id change (entries_in old.entries) → ((other : ℕ) → other ≢ id → value_at new.entries other ≡ value_at old.entries other) → KeepsRest id old.entries new.entries
    → new.next ≡ old.next → new.capacity ≡ old.capacity → TableStays old new
one_left id change stays old new named is others rest next capacity = record {
  next = next;
  capacity = capacity;
  named = named_left id change stays old.entries new.entries named is;
  rest = by_id (λ k. KeepsRest k old.entries new.entries) id rest (λ k differs. subst (Keeps false (value_at old.entries k)) (sym (others k differs)) (keeps_itself false (value_at old.entries k)));
}

pub stays_twice : (old mid new : Entries Kept) → TableStays old mid → TableStays mid new → TableStays old new
stays_twice old mid new a b = record {
  next = b.next ∙ a.next;
  capacity = b.capacity ∙ a.capacity;
  named = b.named;
  rest = λ id. keeps_then false (value_at old.entries id) (value_at mid.entries id) (value_at new.entries id) (a.rest id) (b.rest id);
}

-- Documents of which one may get room for a view.

pub has_room : (old new : Kept) → new ≡ record old { capacity = record old.capacity { views = new.capacity.views } }
    → new.capacity.views ≤ max old.capacity.views (length old.document.views + max 1 (length old.document.views)) → KeepsRoom true old new
has_room old new is most = (is ∙ ap (λ d. record old { document = d; capacity = record old.capacity { views = new.capacity.views } }) (sym (ap document_of is)), most)

room_stays : (b : Bool) (new : Kept) (o : Option Kept) → IfSome o (KeepsRoom b (unwrap_or o new))
room_stays b new None = tt
room_stays b new (Some k) = keeps_itself b (Some k)

pub rooms_reserved : (old : Entries Kept) (to : ℕ) (was now : Kept) → value_at old.entries to ≡ Some was → KeepsRoom true was now → RoomsGrow (Attach to) old (with_value_at to now old.entries)
rooms_reserved old to was now at room =
    at_each (λ k o n. IfSome n (KeepsRoom (k == to) (unwrap_or o (new_kept k 0)))) (λ k. room_stays (k == to) (new_kept k 0)) old.entries to was now at
    (subst (λ b. KeepsRoom b was now) (sym (eq-eqb to to refl)) room)

-- A document is added.
module _ (table : Entries Kept) (named : DocumentsAreNamed table.entries) (rise : DocumentsRise table) (k : Kept) where
  abbrev pub more : List (Entry Kept)
  more = table.entries ++ entry table.next k ∷ []

  value_added : (id : ℕ) → value_at more id ≡ option_or (value_at table.entries id) (cond (table.next == id) (Some k) None)
  value_added id =
      ap (option_map value_of) (find-append (λ (e : Entry Kept). e.id == id) table.entries (entry table.next k ∷ [])) ∙ go (find (λ (e : Entry Kept). e.id == id) table.entries) (table.next == id)
    where
      go : (o : Option (Entry Kept)) (b : Bool) → option_map value_of (option_or o (cond b (Some (entry table.next k)) None)) ≡ option_or (option_map value_of o) (cond b (Some k) None)
      go (Some e) b = refl
      go None true = refl
      go None false = refl

  none_next : value_at table.entries table.next ≡ None
  none_next = go (value_at table.entries table.next) refl
    where
      go : (o : Option Kept) → value_at table.entries table.next ≡ o → o ≡ None
      go None e = refl
      go (Some w) e =
          let below : table.next < table.next =
          found_below 0 table.next (documents_in table) table.next w.document rise (found_some document_of id_of_document table.entries table.next w named e) in
          absurd (omega (arith, below))

  pub last_at : value_at more table.next ≡ Some k
  last_at =
      value_added table.next ∙ ap (λ o. option_or o (cond (table.next == table.next) (Some k) None)) none_next ∙ ap (λ b. cond b (Some k) None) (eq-eqb table.next table.next refl)

  pub rooms_added : (change : SessionChange) → KeepsRoom (attaches_to change table.next table.next) (new_kept table.next 0) k → RoomsGrow change table more
  rooms_added change room id =
      subst (λ o. IfSome o (KeepsRoom (attaches_to change table.next id) (kept_or_new table.entries id))) (sym (value_added id)) (go (value_at table.entries id) (table.next == id) refl)
    where
      go : (o : Option Kept) (b : Bool) → (table.next == id) ≡ b → IfSome (option_or o (cond b (Some k) None)) (KeepsRoom (attaches_to change table.next id) (unwrap_or o (new_kept id 0)))
      go (Some w) b e = keeps_itself (attaches_to change table.next id) (Some w)
      go None true e = subst (λ id. KeepsRoom (attaches_to change table.next id) (new_kept id 0) k) (eqb-true table.next id e) room
      go None false e = tt

-- Sessions whose documents alone are others.

documents_changed : {s : SessionState} → IsKept s → (change : SessionChange) (documents : Entries Kept) → KeepsClipboard change s.clipboard s.clipboard → DocumentsAreNamed documents.entries
    → TableGrows change s.documents documents.capacity → RoomsGrow change s.documents documents.entries → HaveWidths (documents_in documents) s.views → Stays change s (record s { documents = documents })
documents_changed {s} kept change documents clipboard named table rooms widths =
    record { limits = refl; clipboard = clipboard; documents = named; table = table; rooms = rooms; views = kept.views; widths = widths; folds = folds_same s.views.entries; view_capacity = refl }

pub documents_alone : {s : SessionState} → IsKept s → (documents : Entries Kept) → TableStays s.documents documents → HaveWidths (documents_in documents) s.views → AllStays s (record s { documents = documents })
documents_alone {s} kept documents stays widths =
    record { limits = refl; clipboard = refl; documents = stays; views = kept.views; widths = widths; folds = folds_same s.views.entries; view_capacity = refl }

pub stays_then : (change : SessionChange) (old mid new : SessionState) → mid.views ≡ old.views → Stays change old mid → AllStays mid new → Stays change old new
stays_then change old mid new same a b = record {
  limits = b.limits ∙ a.limits;
  clipboard = subst (KeepsClipboard change old.clipboard) (sym b.clipboard) a.clipboard;
  documents = b.documents.named;
  table = subst (TableGrows change old.documents) (sym b.documents.capacity) a.table;
  rooms = λ id.
      keeps_then (attaches_to change old.documents.next id) (Some (kept_or_new old.documents.entries id)) (value_at mid.documents.entries id)
      (value_at new.documents.entries id) (a.rooms id) (b.documents.rest id);
  views = b.views;
  widths = b.widths;
  folds = subst (λ (v : Entries KeptView). KeepFolds v.entries new.views.entries) same b.folds;
  view_capacity = b.view_capacity ∙ a.view_capacity;
}

allowed_few : (l : Limits) → is_allowed l ≡ true → (l.ids ≤ 2 ^ 31 - 1) × (l.refs ≤ 2 ^ 31 - 1)
allowed_few l h = (grind (arith, nat_tests), grind (arith, nat_tests))

pub few_ids : {s : SessionState} → IsKept s → s.documents.next ≤ s.limits.ids → s.documents.next + 1 < 2 ^ 32
few_ids {s} kept few = let most = (allowed_few s.limits kept.limits).0 in omega (arith, few, most)

-- one more caller can hold a document that is below its limit of references
pub few_held : {s : SessionState} → IsKept s → (id : ℕ) (d : Document) → document_at (documents_in s.documents) id ≡ Some d → references d < s.limits.refs
    → IsSomeAnd (value_at s.documents.entries id) (λ k. k.document.held_by_callers + 1 < 2 ^ 32)
few_held {s} kept id d found few =
    is_some_and (λ k. k.document.held_by_callers + 1 < 2 ^ 32) (value_at s.documents.entries id) (no_document_at kept id d found)
    (λ k at.
    let held : k.document.held_by_callers ≡ d.held_by_callers = ap (λ (x : Document). x.held_by_callers) (document_is kept id d found k at) in
    let most = (allowed_few s.limits kept.limits).1 in omega (arith, few, most, held))

all_referenced : {s : SessionState} → IsKept s → AllByRecursion (λ (d : Document). 0 < references d) (documents_in s.documents)
all_referenced {s} kept = all_weaker (IsSoundDocument s.limits) (λ (d : Document). 0 < references d) (λ d sound. sound.referenced) (documents_in s.documents) kept.sound.documents

-- a reference is released
pub released_so : LeavesTheLiving → {s : SessionState} → IsKept s → (id : ℕ) (left : Entries Kept) → entries_in left.entries ≡ let_go id released (entries_in s.documents.entries) → left.next ≡ s.documents.next
    → session_in (record s { documents = left }) ≡ (let old = session_in s in record old { documents = living (map (held_less id) old.documents) })
released_so law {s} kept id left gone next =
    let old = session_in s in
    ap (λ x. record old { documents = x; next_document = left.next }) (living_left law id s.documents.next released s.documents.entries left.entries kept.documents kept.sound.document_ids (all_referenced kept) gone)
    ∙ ap (λ n. record old { documents = living (map (held_less id) old.documents); next_document = n }) next

-- A view is attached.

-- texts within the limit have fewer lines than the width of their document can count
limit_few : (b : Bool) (l : Limits) (n : ℕ) → (l.doc_bytes ≤ 2 ^ 31 - 1) × (l.large_bytes ≤ 2 ^ 40) → n ≤ cond b l.large_bytes l.doc_bytes + 1 → AreFewLines b (n + 1)
limit_few true l n h few = (let large = h.1 in omega (arith, large), λ e. absurd (cc))
limit_few false l n h few = (let small = h.0 in omega (arith, small), λ e. let small = h.0 in omega (arith, small))

module _ {s : SessionState} {document view : ℕ} {text : List ℕ} (kept : IsKept s) (is_asked : IsAsked (session_in s) document view text) where
  few_flags : IsSomeAnd (value_at s.views.entries view) HasFewLines
  few_flags =
      is_some_and HasFewLines (value_at s.views.entries view) (no_view kept is_asked)
      (λ v at.
      let d = document_for s view in let same = same_view kept is_asked v at in
      let flags : length v.view.flags ≡ lines_in d = ap (λ (x : View). length x.flags) same ∙ (stands kept is_asked).lines in
      let sound : IsSoundDocument s.limits d = request_document (asked (session_in s) view text) is_asked.sound in
      let cells : length (text_of d) ≡ length d.cells = length-map d.cells (λ (c : Cell). c.byte) in
      let has = found_all (HasWidths (map width_at s.views.entries)) (λ (d : Document). d.id == document) (documents_in s.documents) d kept.widths (document_found kept is_asked) in
      let large : v.large ≡ is_large d = width_found s.views.entries view v d has at (ap (λ (x : View). x.document) same ∙ on_document kept is_asked ∙ sym is_asked.document_id) in
      subst (λ large. AreFewLines large (length v.view.flags + 1)) (sym large)
      (limit_few (is_large d) s.limits (length v.view.flags) (allowed_lengths s.limits kept.limits) (omega (arith, flags, few_lines d.line_end_types (text_of d), cells, sound.bounded))))

  elsewhere : AllByRecursion (λ (d : Document). d.id ≢ document → left_by view d ≡ d) (documents_in s.documents)
  elsewhere =
      let views = views_of s.views.entries in
      all_weaker (ListsItsViews views) (λ (d : Document). d.id ≢ document → left_by view d ≡ d)
      (λ d listed other. stays_alike views (sender_of s view) view d (view_found kept is_asked) (λ is. other (is ∙ on_document kept is_asked)) listed)
      (documents_in s.documents) kept.sound.lists

  -- the view can be attached to a document of these, which are those of the session and perhaps more
  pub can_attach : (documents : Entries Kept) (to : ℕ) (more : List Document) → documents_in documents ≡ documents_in s.documents ++ more → DocumentsAreNamed documents.entries → DocumentsRise documents
      → AllByRecursion (λ (d : Document). d.id ≢ document → left_by view d ≡ d) more → AllByRecursion (λ (d : Document). d.id ≢ to → 0 < references d) more
      → IsSomeAnd (value_at documents.entries to) HasViewRoom → HaveWidths more s.views → CanAttach (record s { documents = documents }) document view to
  can_attach documents to more is named rise alone referenced place widths =
      let Alone : Document → Type 0 = λ d. d.id ≢ document → left_by view d ≡ d in let Referenced : Document → Type 0 = λ d. d.id ≢ to → 0 < references d in
      let moves : CanMove documents document view to = record {
        named = named;
        rise = rise;
        elsewhere = subst (AllByRecursion Alone) (sym is) (all_append Alone (documents_in s.documents) more elsewhere alone);
        referenced = subst (AllByRecursion Referenced) (sym is) (all_append Referenced (documents_in s.documents) more (all_weaker (IsSoundDocument s.limits) Referenced (λ d sound other. sound.referenced) (documents_in s.documents) kept.sound.documents) referenced);
        place = place;
      } in
      record {
        documents = moves;
        views = kept.views;
        rise = kept.sound.view_ids;
        there = view_found kept is_asked;
        few = few_flags;
        widths = subst (λ ds. HaveWidths ds s.views) (sym is) (all_append (HasWidths (map width_at s.views.entries)) (documents_in s.documents) more kept.widths widths);
      }

  -- A document that exists gets room for the view.
  module _ (to : ℕ) (old new : Kept) (at : value_at s.documents.entries to ≡ Some old) (rest : new ≡ record old { capacity = record old.capacity { views = new.capacity.views } }) where
    abbrev pub with_place : SessionState
    with_place = record s { documents = record s.documents { entries = with_value_at to new s.documents.entries } }

    documents_same : documents_in with_place.documents ≡ documents_in s.documents
    documents_same = unchanged document_of id_of_document s.documents.entries to s.documents.next kept.documents kept.sound.document_ids old new at (ap document_of rest)

    named_there : DocumentsAreNamed with_place.documents.entries
    named_there = named_with document_of id_of_document s.documents.entries to s.documents.next kept.documents kept.sound.document_ids old new at (ap (λ (k : Kept). k.document.id) rest)

    pub session_same : session_in with_place ≡ session_in s
    session_same = ap (λ ds. let x = session_in s in record x { documents = ds }) documents_same

    pub place_stays : new.capacity.views ≤ max old.capacity.views (length old.document.views + max 1 (length old.document.views)) → Stays (Attach to) s with_place
    place_stays most =
        documents_changed kept (Attach to) with_place.documents refl named_there refl (rooms_reserved s.documents to old new at (has_room old new rest most)) (subst (λ ds. HaveWidths ds s.views) (sym documents_same) kept.widths)

    pub can_attach_there : HasViewRoom new → CanAttach with_place document view to
    can_attach_there room =
        can_attach with_place.documents to [] (documents_same ∙ sym (append-nil (documents_in s.documents))) named_there
        (subst (λ ds. Rise 0 s.documents.next (map (λ (d : Document). d.id) ds)) (sym documents_same) kept.sound.document_ids) tt tt
        (subst (λ o. IsSomeAnd o HasViewRoom) (sym (value_replaced s.documents.entries to old new at)) room) tt

-- the session after the view is attached
module _ {s : SessionState} {from view to : ℕ} (can : CanAttach s from view to) (k : Kept) (document_at_to : value_at s.documents.entries to ≡ Some k) (old new : KeptView) (at : value_at s.views.entries view ≡ Some old)
    (made : new.view ≡ attached_to k.document old.view) where
  abbrev with_moved : Entries Kept → SessionState
  with_moved documents = record s { documents = documents; views = record s.views { entries = with_value_at view new s.views.entries } }

  pub attached_so : (documents : Entries Kept) → documents_in documents ≡ living (map (attached_last view to) (documents_in s.documents)) → documents.next ≡ s.documents.next
      → session_in (with_moved documents) ≡ attached to (sender_of s view) (session_in s)
  attached_so documents moved next =
      let x = session_in s in let d = k.document in let v = sender_of s view in
      let found : document_at x.documents to ≡ Some d = found_some document_of id_of_document s.documents.entries to k can.documents.named document_at_to in
      let id : d.id ≡ to = own_at id_of_document x.documents to d found in let own : v.id ≡ view = own_at id_of_view x.views view v can.there in
      let same : old.view ≡ v = some_same old.view v (sym (found_some view_in id_of_view s.views.entries view old can.views at) ∙ can.there) in
      let ds : documents_in documents ≡ living (map (attached_last v.id d.id) x.documents) =
      moved ∙ ap (λ n. living (map (attached_last n to) x.documents)) (sym own) ∙ ap (λ n. living (map (attached_last v.id n) x.documents)) (sym id) in
      let vs : views_of (with_value_at view new s.views.entries) ≡ with_view (attached_to d v) x.views =
      changed view_in id_of_view s.views.entries view s.views.next can.views can.rise old new at (λ _. attached_to d v) (made ∙ ap (attached_to d) same)
      ∙ ap (λ n. map (λ (w : View). if w.id == n then attached_to d v else w) x.views) (sym own) in
      ap (λ y. record x { documents = y; views = views_of (with_value_at view new s.views.entries); next_document = documents.next }) ds
      ∙ ap (λ y. record (with_attached (Some d) v x) { views = y; next_document = documents.next }) vs ∙ ap (λ n. record (with_attached (Some d) v x) { next_document = n }) next
      ∙ ap (λ o. with_attached o v x) (sym found)

  same_place : KeepsPlace (attached_last view to)
  same_place d =
      let left = left_by view d in
      cond_both (d.id == to) (record left { views = left.views ++ view ∷ [] }) left (λ (x : Document). (x.id ≡ d.id) × (is_large x ≡ is_large d)) (λ _. (refl, refl)) (λ _. (refl, refl))

  pub attached_stays : new.large ≡ is_large k.document → new.capacity ≡ kept_capacity old.large new.large old.capacity → (documents : Entries Kept) → TableStays s.documents documents
      → documents_in documents ≡ living (map (attached_last view to) (documents_in s.documents)) → AllStays s (with_moved documents)
  attached_stays large folds documents stays moved = record {
    limits = refl;
    clipboard = refl;
    documents = stays;
    views = named_with view_in id_of_view s.views.entries view s.views.next can.views can.rise old new at (ap id_of_view made);
    widths =
        let ds = documents_in s.documents in let d = k.document in let views = (with_moved documents).views in
        let found : document_at ds to ≡ Some d = found_some document_of id_of_document s.documents.entries to k can.documents.named document_at_to in
        let id : d.id ≡ to = own_at id_of_document ds to d found in
        subst (λ ds. HaveWidths ds views) (sym moved)
        (widths_living (map (attached_last view to) ds) views
        (widths_changed (attached_last view to) same_place ds views
        (widths_replaced s.views.entries view new ds s.documents.next d can.documents.rise (ap (document_at ds) id ∙ found) (ap (λ (v : View). v.document) made) large can.widths)));
    folds = folds_replaced s.views.entries view old new at folds;
    view_capacity = refl;
  }

-- A new document.

module _ {s : SessionState} (kept : IsKept s) (k : Kept) (table : Entries Kept) (is : table ≡ with_added k table.capacity s.documents) where
  entries : table.entries ≡ more s.documents kept.documents kept.sound.document_ids k
  entries = ap (λ (t : Entries Kept). t.entries) is

  documents_more : documents_in table ≡ documents_in s.documents ++ k.document ∷ []
  documents_more = ap (map (λ (e : Entry Kept). e.value.document)) entries ∙ map-append (λ (e : Entry Kept). e.value.document) s.documents.entries (entry s.documents.next k ∷ [])

  named_more : k.document.id ≡ s.documents.next → DocumentsAreNamed table.entries
  named_more own = subst DocumentsAreNamed (sym entries) (all_added (λ (e : Entry Kept). e.id ≡ e.value.document.id) s.documents.entries (entry s.documents.next k) kept.documents (sym own))

  -- it is the model's session with this new document
  pub session_more : (d : Document) → k.document ≡ d → session_in (record s { documents = table }) ≡ with_new_document d (session_in s)
  session_more d made =
      let x = session_in s in
      ap (λ ds. record x { documents = ds; next_document = table.next }) (documents_more ∙ ap (λ d. x.documents ++ d ∷ []) made)
      ∙ ap (λ (t : Entries Kept). record x { documents = x.documents ++ d ∷ []; next_document = t.next }) is

  no_view_on : k.document.id ≡ s.documents.next → HasWidths (map width_at s.views.entries) k.document
  no_view_on own = widths_of_new (documents_in s.documents) s.documents.next s.views.entries k.document own kept.sound.document_ids kept.sound.views

  pub stays_more : (change : SessionChange) → k.document.id ≡ s.documents.next → KeepsClipboard change s.clipboard s.clipboard → TableGrows change s.documents table.capacity
      → KeepsRoom (attaches_to change s.documents.next s.documents.next) (new_kept s.documents.next 0) k → Stays change s (record s { documents = table })
  stays_more change own clipboard grows room =
      documents_changed kept change table clipboard (named_more own) grows (subst (RoomsGrow change s.documents) (sym entries) (rooms_added s.documents kept.documents kept.sound.document_ids k change room))
      (subst (λ ds. HaveWidths ds s.views) (sym documents_more) (all_added (HasWidths (map width_at s.views.entries)) (documents_in s.documents) k.document kept.widths (no_view_on own)))

  -- the view can be attached to it
  pub can_attach_new : {document view : ℕ} {text : List ℕ} → IsAsked (session_in s) document view text → k.document ≡ new_document s.documents.next 0 → HasViewRoom k
      → CanAttach (record s { documents = table }) document view s.documents.next
  can_attach_new {document} {view} asked made room =
      let own : k.document.id ≡ s.documents.next = ap id_of_document made in let next : table.next ≡ s.documents.next + 1 = ap (λ (t : Entries Kept). t.next) is in
      can_attach kept asked table s.documents.next (k.document ∷ []) documents_more (named_more own)
      (subst (λ ds. Rise 0 table.next (map (λ (d : Document). d.id) ds)) (sym documents_more)
      (subst (λ n. Rise 0 n (map (λ (d : Document). d.id) (documents_in s.documents ++ k.document ∷ []))) (sym next)
      (documents_added s.documents.next (documents_in s.documents) k.document own kept.sound.document_ids)))
      (subst (λ (d : Document). d.id ≢ document → left_by view d ≡ d) (sym made) (λ _. refl), tt) (λ other. absurd (other own), tt)
      (subst (λ o. IsSomeAnd o HasViewRoom) (sym (ap (λ es. value_at es s.documents.next) entries ∙ last_at s.documents kept.documents kept.sound.document_ids k)) room)
      (no_view_on own, tt)
