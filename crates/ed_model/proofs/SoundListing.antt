-- Documents list only views that are attached to them; this is kept when views change, are added and are removed.
use Rattle.ed_model.proofs.Names.{◌≡◌, ℕ, ◌+◌, ◌-◌, ◌<◌, Bool, true, false, cond, List, [], ◌∷◌, ◌++◌, map, refl, ap, sym, ◌∙◌, subst, arith, Some, ◌==◌, filter, not, nat_lt, AllByRecursion, eqb-true, eqb-false, eq-eqb, ne_eqb, Document, View, view_at, with_view, in_place_of_view, without, left_by, attached_to, living, references, attached_last, held_more, held_less, Rise, IsViewOn, ListsItsViews, all_map, all_weaker, all_append, all_filter, view_id, in_place_id}

-- Views that change.

pub view_mapped : (f : View → View) → ((v : View) → (f v).id ≡ v.id) → (views : List View) (id : ℕ) (v : View) → view_at views id ≡ Some v → view_at (map f views) id ≡ Some (f v)
view_mapped f ids [] id v e = absurd (cc)
view_mapped f ids (x ∷ xs) id v e =
    subst (λ n. cond (n == id) (Some (f x)) (view_at (map f xs) id) ≡ Some (f v)) (sym (ids x))
    (go (x.id == id) e (λ e. view_mapped f ids xs id v e))
  where
    go : (b : Bool) → cond b (Some x) (view_at xs id) ≡ Some v → (view_at xs id ≡ Some v → view_at (map f xs) id ≡ Some (f v))
        → cond b (Some (f x)) (view_at (map f xs) id) ≡ Some (f v)
    go true e rest = let same : x ≡ v = cc in ap (λ y. Some (f y)) same
    go false e rest = rest e

on_mapped : (f : View → View) → ((v : View) → (f v).id ≡ v.id) → (views : List View) → ((v : View) → view_at views v.id ≡ Some v → (f v).document ≡ v.document)
    → (document id : ℕ) → IsViewOn views document id → IsViewOn (map f views) document id
on_mapped f ids views keeps document id on =
    let itself : view_at views on.0.id ≡ Some on.0 = ap (view_at views) (view_id views id on.0 on.1) ∙ on.1 in
    (f on.0, view_mapped f ids views id on.0 on.1, keeps on.0 itself ∙ on.2)

-- the views keep their ids and documents
pub lists_mapped : (f : View → View) → ((v : View) → (f v).id ≡ v.id) → (views : List View) → ((v : View) → view_at views v.id ≡ Some v → (f v).document ≡ v.document)
    → (ds : List Document) → AllByRecursion (ListsItsViews views) ds → AllByRecursion (ListsItsViews (map f views)) ds
lists_mapped f ids views keeps ds all =
    all_weaker (ListsItsViews views) (ListsItsViews (map f views))
    (λ d l. all_weaker (IsViewOn views d.id) (IsViewOn (map f views) d.id) (on_mapped f ids views keeps d.id) d.views l) ds all

-- a document with the same id and the same list of views
pub lists_alike : (views : List View) (d d' : Document) → d'.id ≡ d.id → d'.views ≡ d.views → ListsItsViews views d → ListsItsViews views d'
lists_alike views d d' same_id same_views l =
    subst (λ ids. AllByRecursion (IsViewOn views d'.id) ids) (sym same_views) (subst (λ n. AllByRecursion (IsViewOn views n) d.views) (sym same_id) l)

-- Views that are added.

view_before_others : (vs ws : List View) (id : ℕ) (v : View) → view_at vs id ≡ Some v → view_at (vs ++ ws) id ≡ Some v
view_before_others [] ws id v e = absurd (cc)
view_before_others (x ∷ xs) ws id v e = go (x.id == id) e (λ e. view_before_others xs ws id v e)
  where
    go : (b : Bool) → cond b (Some x) (view_at xs id) ≡ Some v → (view_at xs id ≡ Some v → view_at (xs ++ ws) id ≡ Some v) → cond b (Some x) (view_at (xs ++ ws) id) ≡ Some v
    go true e rest = e
    go false e rest = rest e

pub lists_before : (views others : List View) (ds : List Document) → AllByRecursion (ListsItsViews views) ds → AllByRecursion (ListsItsViews (views ++ others)) ds
lists_before views others ds all =
    all_weaker (ListsItsViews views) (ListsItsViews (views ++ others))
    (λ d l. all_weaker (IsViewOn views d.id) (IsViewOn (views ++ others) d.id) (λ id on. (on.0, view_before_others views others id on.0 on.1, on.2)) d.views l) ds all

pub view_last : (low high : ℕ) (views : List View) (v : View) → v.id ≡ high → Rise low high (map (λ (v : View). v.id) views) → view_at (views ++ v ∷ []) high ≡ Some v
view_last low high [] v e r = let t : (v.id == high) ≡ true = eq-eqb v.id high e in rw t refl
view_last low high (x ∷ xs) v e r =
    let lt : x.id < high = r.1 in
    let t : (x.id == high) ≡ false = ne_eqb x.id high (λ p. omega arith) in
    rw t (view_last (x.id + 1) high xs v e r.2)

-- Views that are removed.

all_without : (P Q : ℕ → Type 0) (id : ℕ) → ((n : ℕ) → (n ≡ id → ⊥) → P n → Q n) → (ids : List ℕ) → AllByRecursion P ids → AllByRecursion Q (without id ids)
all_without P Q id h [] all = tt
all_without P Q id h (x ∷ xs) all = go (x == id) refl (all_without P Q id h xs all.1)
  where
    go : (b : Bool) → (x == id) ≡ b → AllByRecursion Q (without id xs) → AllByRecursion Q (cond (not b) (x ∷ without id xs) (without id xs))
    go true t rest = rest
    go false t rest = (h x (eqb-false x id t) all.0, rest)

view_kept : (views : List View) (id other : ℕ) (v : View) → (other ≡ id → ⊥) → view_at views other ≡ Some v → view_at (filter (λ (w : View). not (w.id == id)) views) other ≡ Some v
view_kept [] id other v ne e = absurd (cc)
view_kept (x ∷ xs) id other v ne e = go (x.id == id) refl e (λ e. view_kept xs id other v ne e)
  where
    found : (b : Bool) → cond b (Some x) (view_at xs other) ≡ Some v → (view_at xs other ≡ Some v → view_at (filter (λ (w : View). not (w.id == id)) xs) other ≡ Some v)
        → cond b (Some x) (view_at (filter (λ (w : View). not (w.id == id)) xs) other) ≡ Some v
    found true e rest = e
    found false e rest = rest e

    go : (b : Bool) → (x.id == id) ≡ b → cond (x.id == other) (Some x) (view_at xs other) ≡ Some v
        → (view_at xs other ≡ Some v → view_at (filter (λ (w : View). not (w.id == id)) xs) other ≡ Some v)
        → view_at (cond (not b) (x ∷ filter (λ (w : View). not (w.id == id)) xs) (filter (λ (w : View). not (w.id == id)) xs)) other ≡ Some v
    go true t e rest =
        let is = eqb-true x.id id t in
        let no : (x.id == other) ≡ false = ne_eqb x.id other (λ p. ne (sym p ∙ is)) in
        rest (subst (λ b. cond b (Some x) (view_at xs other) ≡ Some v) no e)
    go false t e rest = found (x.id == other) e rest

-- the view is removed, and no document lists it
pub lists_left : (views : List View) (id : ℕ) (ds : List Document) → AllByRecursion (ListsItsViews views) ds
    → AllByRecursion (ListsItsViews (filter (λ (w : View). not (w.id == id)) views)) (living (map (left_by id) ds))
lists_left views id ds all =
    all_filter (ListsItsViews (filter (λ (w : View). not (w.id == id)) views)) (λ (d : Document). nat_lt 0 (references d)) (map (left_by id) ds)
    (all_map (ListsItsViews views) (ListsItsViews (filter (λ (w : View). not (w.id == id)) views)) (left_by id)
    (λ d l. all_without (IsViewOn views d.id) (IsViewOn (filter (λ (w : View). not (w.id == id)) views) d.id) id
    (λ n ne on. (on.0, view_kept views id n on.0 ne on.1, on.2)) d.views l) ds all)

-- A view that is attached to another document.

pub lists_attached : (views : List View) (d : Document) (v : View) (ds : List Document) → view_at views v.id ≡ Some v → AllByRecursion (ListsItsViews views) ds
    → AllByRecursion (ListsItsViews (with_view (attached_to d v) views)) (living (map (attached_last v.id d.id) ds))
lists_attached views d v ds there all =
    all_filter (ListsItsViews (with_view (attached_to d v) views)) (λ (e : Document). nat_lt 0 (references e)) (map (attached_last v.id d.id) ds)
    (all_map (ListsItsViews views) (ListsItsViews (with_view (attached_to d v) views)) (attached_last v.id d.id) (λ e l. go e (e.id == d.id) refl l) ds all)
  where
    others : (document n : ℕ) → (n ≡ v.id → ⊥) → IsViewOn views document n → IsViewOn (with_view (attached_to d v) views) document n
    others document n ne on =
        let is : on.0.id ≡ n = view_id views n on.0 on.1 in
        let no : (on.0.id == v.id) ≡ false = ne_eqb on.0.id v.id (λ p. ne (sym is ∙ p)) in
        let same : in_place_of_view (attached_to d v) on.0 ≡ on.0 = ap (λ b. cond b (attached_to d v) on.0) no in
        (on.0, view_mapped (in_place_of_view (attached_to d v)) (in_place_id (attached_to d v)) views n on.0 on.1 ∙ ap (λ w. Some w) same, on.2)

    itself : IsViewOn (with_view (attached_to d v) views) d.id v.id
    itself =
        let yes : (v.id == v.id) ≡ true = eq-eqb v.id v.id refl in
        let same : in_place_of_view (attached_to d v) v ≡ attached_to d v = ap (λ b. cond b (attached_to d v) v) yes in
        (attached_to d v, view_mapped (in_place_of_view (attached_to d v)) (in_place_id (attached_to d v)) views v.id v there ∙ ap (λ w. Some w) same, refl)

    go : (e : Document) (b : Bool) → (e.id == d.id) ≡ b → ListsItsViews views e
        → ListsItsViews (with_view (attached_to d v) views) (cond b (record e { views = without v.id e.views ++ v.id ∷ [] }) (left_by v.id e))
    go e true t l =
        all_append (IsViewOn (with_view (attached_to d v) views) e.id) (without v.id e.views) (v.id ∷ [])
        (all_without (IsViewOn views e.id) (IsViewOn (with_view (attached_to d v) views) e.id) v.id (others e.id) e.views l)
        (subst (λ n. IsViewOn (with_view (attached_to d v) views) n v.id) (sym (eqb-true e.id d.id t)) itself, tt)
    go e false t l = all_without (IsViewOn views e.id) (IsViewOn (with_view (attached_to d v) views) e.id) v.id (others e.id) e.views l

-- References that callers hold do not matter.

pub lists_more : (views : List View) (id : ℕ) (ds : List Document) → AllByRecursion (ListsItsViews views) ds → AllByRecursion (ListsItsViews views) (map (held_more id) ds)
lists_more views id ds all = all_map (ListsItsViews views) (ListsItsViews views) (held_more id) (λ d l. go d (d.id == id) l) ds all
  where
    go : (d : Document) (b : Bool) → ListsItsViews views d → ListsItsViews views (cond b (record d { held_by_callers = d.held_by_callers + 1 }) d)
    go d true l = l
    go d false l = l

pub lists_less : (views : List View) (id : ℕ) (ds : List Document) → AllByRecursion (ListsItsViews views) ds → AllByRecursion (ListsItsViews views) (living (map (held_less id) ds))
lists_less views id ds all =
    all_filter (ListsItsViews views) (λ (d : Document). nat_lt 0 (references d)) (map (held_less id) ds)
    (all_map (ListsItsViews views) (ListsItsViews views) (held_less id) (λ d l. go d (d.id == id) l) ds all)
  where
    go : (d : Document) (b : Bool) → ListsItsViews views d → ListsItsViews views (cond b (record d { held_by_callers = d.held_by_callers - 1 }) d)
    go d true l = l
    go d false l = l
