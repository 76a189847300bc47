-- Documents and views found by their ids, in lists in which one is replaced, all are changed, one is added or some are dropped.
use Rattle.std.proofs.Common.{◌≡◌, ℕ, ◌+◌, ◌<◌, ◌≤◌, Bool, true, false, cond, List, [], ◌∷◌, ◌++◌, map, refl, ap, sym, ◌∙◌, subst, arith, length-append, Option, Some}
use Rattle.std.specs.Prelude.{◌==◌, find, nat_lt, option_map}
use Rattle.std.specs.List.{AllByRecursion}
use Rattle.std.specs.Option.{option_or}
use Rattle.std.proofs.lemmas.Bool.{cond_both, eqb-true, eqb-false, eq-eqb, ne_eqb}
use Rattle.std.proofs.lemmas.List.{map-append}
use Rattle.std.proofs.lemmas.List.Elements.{filter-append}
use Rattle.std.proofs.lemmas.List.Folds.{find-append}
use Rattle.ed_types.specs.declared.limits.Limits.{Limits}
use Rattle.ed_model.specs.Session.{Document, View, document_at, view_at, with_document, with_view, in_place_of_document, in_place_of_view, living, references}
use Rattle.ed_model.specs.SoundLaws.{Rise, occurrences, IsSoundDocument}
use Rattle.ed_types.specs.proved.Found.{found_test}
use Rattle.ed_model.specs.proved.Elements.{all_map, found_all}

pub document_id : (documents : List Document) (id : ℕ) (d : Document) → document_at documents id ≡ Some d → d.id ≡ id
document_id documents id d e = eqb-true d.id id (found_test (λ (d : Document). d.id == id) documents d e)

pub view_id : (views : List View) (id : ℕ) (v : View) → view_at views id ≡ Some v → v.id ≡ id
view_id views id v e = eqb-true v.id id (found_test (λ (v : View). v.id == id) views v e)

pub document_sound : (limits : Limits) (documents : List Document) (id : ℕ) (d : Document) → AllByRecursion (IsSoundDocument limits) documents
    → document_at documents id ≡ Some d → IsSoundDocument limits d
document_sound limits documents id d all e = found_all (IsSoundDocument limits) (λ (d : Document). d.id == id) documents d all e

-- a look-up that finds two documents finds the same one
pub same_document : (found : Option Document) (d e : Document) → found ≡ Some d → found ≡ Some e → d ≡ e
same_document found d e p q = cc

-- One element replaced.

put_in_place : {X : Type 0} (id_of : X → ℕ) (xs : List X) (old new : X) → find (λ (x : X). id_of x == id_of new) xs ≡ Some old
    → find (λ (x : X). id_of x == id_of new) (map (λ (x : X). cond (id_of x == id_of new) new x) xs) ≡ Some new
put_in_place id_of [] old new e = absurd (cc)
put_in_place {X} id_of (x ∷ xs) old new e = go (id_of x == id_of new) refl e (λ f. put_in_place id_of xs old new f)
  where
    rest : Option X
    rest = find (λ (x : X). id_of x == id_of new) (map (λ (x : X). cond (id_of x == id_of new) new x) xs)

    go : (b : Bool) → (id_of x == id_of new) ≡ b → cond b (Some x) (find (λ (x : X). id_of x == id_of new) xs) ≡ Some old
        → (find (λ (x : X). id_of x == id_of new) xs ≡ Some old → rest ≡ Some new)
        → cond (id_of (cond b new x) == id_of new) (Some (cond b new x)) rest ≡ Some new
    go true t f later = let same : (id_of new == id_of new) ≡ true = eq-eqb (id_of new) (id_of new) refl in rw same refl
    go false t f later = rw t (later f)

-- the new element is found by its id, if the old one was
pub put_found : {X : Type 0} (id_of : X → ℕ) (xs : List X) (id : ℕ) (old new : X) → id_of new ≡ id → find (λ (x : X). id_of x == id) xs ≡ Some old
    → find (λ (x : X). id_of x == id) (map (λ (x : X). cond (id_of x == id_of new) new x) xs) ≡ Some new
put_found {X} id_of xs id old new is e =
    subst (λ n. find (λ (x : X). id_of x == n) xs ≡ Some old → find (λ (x : X). id_of x == n) (map (λ (x : X). cond (id_of x == id_of new) new x) xs) ≡ Some new) is
    (put_in_place id_of xs old new) e

pub replaced_found : (documents : List Document) (id : ℕ) (old new : Document) → new.id ≡ id → document_at documents id ≡ Some old
    → document_at (with_document new documents) id ≡ Some new
replaced_found documents id old new is e = put_found (λ (d : Document). d.id) documents id old new is e

pub replaced_other : (documents : List Document) (new : Document) (id : ℕ) → (id ≡ new.id → ⊥) → document_at (with_document new documents) id ≡ document_at documents id
replaced_other [] new id ne = refl
replaced_other (d ∷ ds) new id ne = go (d.id == new.id) refl (replaced_other ds new id ne)
  where
    go : (b : Bool) → (d.id == new.id) ≡ b → document_at (with_document new ds) id ≡ document_at ds id
        → cond ((cond b new d).id == id) (Some (cond b new d)) (document_at (with_document new ds) id) ≡ cond (d.id == id) (Some d) (document_at ds id)
    go true t e =
        let same = eqb-true d.id new.id t in
        let a : (new.id == id) ≡ false = ne_eqb new.id id (λ p. ne (sym p)) in
        let b : (d.id == id) ≡ false = ne_eqb d.id id (λ p. ne (sym p ∙ same)) in
        rw (a, b) e
    go false t e = rw e refl

pub replaced_all : (P : Document → Type 0) (new : Document) (documents : List Document) → P new → AllByRecursion P documents → AllByRecursion P (with_document new documents)
replaced_all P new documents p all =
    all_map P P (in_place_of_document new) (λ d q. cond_both (d.id == new.id) new d P (λ _. p) (λ _. q)) documents all

pub replaced_ids : (new : Document) (documents : List Document) → map (λ (d : Document). d.id) (with_document new documents) ≡ map (λ (d : Document). d.id) documents
replaced_ids new [] = refl
replaced_ids new (d ∷ ds) = go (d.id == new.id) refl (replaced_ids new ds)
  where
    go : (b : Bool) → (d.id == new.id) ≡ b → map (λ (d : Document). d.id) (with_document new ds) ≡ map (λ (d : Document). d.id) ds
        → (cond b new d).id ∷ map (λ (d : Document). d.id) (with_document new ds) ≡ d.id ∷ map (λ (d : Document). d.id) ds
    go true t e = let same = eqb-true d.id new.id t in cc
    go false t e = cc

pub replaced_twice : (first second : Document) (documents : List Document) → first.id ≡ second.id → with_document second (with_document first documents) ≡ with_document second documents
replaced_twice first second [] e = refl
replaced_twice first second (d ∷ ds) e = go (d.id == first.id) refl (replaced_twice first second ds e)
  where
    go : (b : Bool) → (d.id == first.id) ≡ b → with_document second (with_document first ds) ≡ with_document second ds
        → in_place_of_document second (cond b first d) ∷ with_document second (with_document first ds) ≡ in_place_of_document second d ∷ with_document second ds
    go true t rest =
        let same = eqb-true d.id first.id t in
        let a : (first.id == second.id) ≡ true = eq-eqb first.id second.id e in
        let b : (d.id == second.id) ≡ true = eq-eqb d.id second.id (same ∙ e) in
        rw (a, b) (ap (λ t. second ∷ t) rest)
    go false t rest = ap (λ t. in_place_of_document second d ∷ t) rest

-- Elements that are changed one by one.

pub mapped_found : {X : Type 0} (id_of : X → ℕ) (g : X → X) → ((x : X) → id_of (g x) ≡ id_of x) → (xs : List X) (id : ℕ)
    → find (λ (x : X). id_of x == id) (map g xs) ≡ option_map g (find (λ (x : X). id_of x == id) xs)
mapped_found id_of g same [] id = refl
mapped_found {X} id_of g same (x ∷ xs) id =
    ap (λ n. cond (n == id) (Some (g x)) (find (λ (x : X). id_of x == id) (map g xs))) (same x) ∙ go (id_of x == id) (mapped_found id_of g same xs id)
  where
    go : (b : Bool) → find (λ (x : X). id_of x == id) (map g xs) ≡ option_map g (find (λ (x : X). id_of x == id) xs)
        → cond b (Some (g x)) (find (λ (x : X). id_of x == id) (map g xs)) ≡ option_map g (cond b (Some x) (find (λ (x : X). id_of x == id) xs))
    go true rest = refl
    go false rest = rest

pub mapped_ids : {X : Type 0} (id_of : X → ℕ) (g : X → X) → ((x : X) → id_of (g x) ≡ id_of x) → (xs : List X) → map id_of (map g xs) ≡ map id_of xs
mapped_ids id_of g same [] = refl
mapped_ids id_of g same (x ∷ xs) = ap (λ n. n ∷ map id_of (map g xs)) (same x) ∙ ap (λ ids. id_of x ∷ ids) (mapped_ids id_of g same xs)

abbrev pub ids_of : List View → List ℕ
ids_of views = map (λ (v : View). v.id) views

pub same_ids : (f : View → View) → ((v : View) → (f v).id ≡ v.id) → (views : List View) → ids_of (map f views) ≡ ids_of views
same_ids f h views = mapped_ids (λ (v : View). v.id) f h views

-- a view in the place of the one with its id has that id
pub in_place_id : (new v : View) → (in_place_of_view new v).id ≡ v.id
in_place_id new v = go (v.id == new.id) refl
  where
    go : (b : Bool) → (v.id == new.id) ≡ b → (cond b new v).id ≡ v.id
    go true t = sym (eqb-true v.id new.id t)
    go false t = refl

pub with_view_ids : (new : View) (views : List View) → ids_of (with_view new views) ≡ ids_of views
with_view_ids new views = same_ids (in_place_of_view new) (in_place_id new) views

-- all views with the id are on the document
abbrev pub IsOwner : ℕ → ℕ → List View → Type 0
IsOwner sender document views = AllByRecursion (λ (v : View). v.id ≡ sender → v.document ≡ document) views

-- Each id is given once: ids rise.

none_above : {X : Type 0} (own : X → ℕ) (P : X → Type 0) (id low high : ℕ) (xs : List X) → Rise low high (map own xs) → id < low → AllByRecursion (λ x. own x ≡ id → P x) xs
none_above own P id low high [] r l = tt
none_above own P id low high (x ∷ xs) r l =
    let ge : low ≤ own x = r.0 in ((λ e. absurd (omega arith)), none_above own P id (own x + 1) high xs r.2 (omega arith))

pub found_once : {X : Type 0} (own : X → ℕ) (low high : ℕ) (xs : List X) (id : ℕ) (w : X) → Rise low high (map own xs) → find (λ x. own x == id) xs ≡ Some w
    → AllByRecursion (λ x. own x ≡ id → x ≡ w) xs
found_once own low high [] id w r e = tt
found_once {X} own low high (x ∷ xs) id w r e = go (own x == id) refl e (λ e. found_once own (own x + 1) high xs id w r.2 e)
  where
    go : (b : Bool) → (own x == id) ≡ b → cond b (Some x) (find (λ x. own x == id) xs) ≡ Some w
        → (find (λ x. own x == id) xs ≡ Some w → AllByRecursion (λ x. own x ≡ id → x ≡ w) xs)
        → (own x ≡ id → x ≡ w) × AllByRecursion (λ x. own x ≡ id → x ≡ w) xs
    go true t e rest =
        let same = eqb-true (own x) id t in
        let is : x ≡ w = cc in
        ((λ _. is), none_above own (λ x. x ≡ w) id (own x + 1) high xs r.2 (omega arith))
    go false t e rest = ((λ same. absurd (eqb-false (own x) id t same)), rest e)

-- the id of a document in a rising list is within the list's bounds
rise_found : (low high : ℕ) (ds : List Document) (id : ℕ) (d : Document) → Rise low high (map (λ (x : Document). x.id) ds) → document_at ds id ≡ Some d → (low ≤ id) × (id < high)
rise_found low high [] id d rise e = cc
rise_found low high (x ∷ xs) id d rise e = go (x.id == id) refl e (λ f. rise_found (x.id + 1) high xs id d rise.2 f)
  where
    go : (b : Bool) → (x.id == id) ≡ b → cond b (Some x) (document_at xs id) ≡ Some d → (document_at xs id ≡ Some d → (x.id + 1 ≤ id) × (id < high)) → (low ≤ id) × (id < high)
    go true t f rest =
        let same = eqb-true x.id id t in
        let first : low ≤ x.id = rise.0 in
        let last : x.id < high = rise.1 in
        (omega arith, omega arith)
    go false t f rest =
        let first : low ≤ x.id = rise.0 in
        let later : x.id + 1 ≤ id = (rest f).0 in
        (omega arith, (rest f).1)

pub found_below : (low high : ℕ) (ds : List Document) (id : ℕ) (d : Document) → Rise low high (map (λ (x : Document). x.id) ds) → document_at ds id ≡ Some d → id < high
found_below low high ds id d rise e = (rise_found low high ds id d rise e).1

-- a document that still has a reference was in the list before, unchanged
pub living_from : (low high : ℕ) (ds : List Document) (id : ℕ) (d : Document) → Rise low high (map (λ (x : Document). x.id) ds) → document_at (living ds) id ≡ Some d → document_at ds id ≡ Some d
living_from low high [] id d rise e = e
living_from low high (x ∷ xs) id d rise e = go (nat_lt 0 (references x)) e (λ f. living_from (x.id + 1) high xs id d rise.2 f)
  where
    first : (b : Bool) → (document_at (living xs) id ≡ Some d → document_at xs id ≡ Some d) → cond b (Some x) (document_at (living xs) id) ≡ Some d → cond b (Some x) (document_at xs id) ≡ Some d
    first true rest f = f
    first false rest f = rest f

    later : (b : Bool) → (x.id == id) ≡ b → x.id + 1 ≤ id → document_at xs id ≡ Some d → cond b (Some x) (document_at xs id) ≡ Some d
    later true t above f = let same = eqb-true x.id id t in absurd (omega arith)
    later false t above f = f

    go : (b : Bool) → document_at (cond b (x ∷ living xs) (living xs)) id ≡ Some d → (document_at (living xs) id ≡ Some d → document_at xs id ≡ Some d) → cond (x.id == id) (Some x) (document_at xs id) ≡ Some d
    go true f rest = first (x.id == id) rest f
    go false f rest = later (x.id == id) refl (rise_found (x.id + 1) high xs id d rise.2 (rest f)).0 (rest f)

-- the next id is added last
pub rise_added : (low high : ℕ) (xs : List ℕ) → low ≤ high → Rise low high xs → Rise low (high + 1) (xs ++ high ∷ [])
rise_added low high [] le r = (le, (let a : high < high + 1 = omega arith in a), tt)
rise_added low high (x ∷ xs) le r =
    let lt : x < high = r.1 in (r.0, (let a : x < high + 1 = omega arith in a), rise_added (x + 1) high xs (omega arith) r.2)

pub documents_added : (high : ℕ) (ds : List Document) (d : Document) → d.id ≡ high → Rise 0 high (map (λ (d : Document). d.id) ds)
    → Rise 0 (high + 1) (map (λ (d : Document). d.id) (ds ++ d ∷ []))
documents_added high ds d e r =
    subst (λ ids. Rise 0 (high + 1) ids) (sym (map-append (λ (d : Document). d.id) ds (d ∷ []) ∙ ap (λ n. map (λ (d : Document). d.id) ds ++ n ∷ []) e))
    (rise_added 0 high (map (λ (d : Document). d.id) ds) (omega arith) r)

pub views_added : (high : ℕ) (vs : List View) (v : View) → v.id ≡ high → Rise 0 high (ids_of vs) → Rise 0 (high + 1) (ids_of (vs ++ v ∷ []))
views_added high vs v e r =
    subst (λ ids. Rise 0 (high + 1) ids) (sym (map-append (λ (v : View). v.id) vs (v ∷ []) ∙ ap (λ n. map (λ (v : View). v.id) vs ++ n ∷ []) e))
    (rise_added 0 high (map (λ (v : View). v.id) vs) (omega arith) r)

-- a look-up after one document is added finds one of the documents before, or the added one
pub added_at : (ds : List Document) (new : Document) (id : ℕ) → document_at (ds ++ new ∷ []) id ≡ option_or (document_at ds id) (document_at (new ∷ []) id)
added_at ds new id = find-append (λ (x : Document). x.id == id) ds (new ∷ [])

-- how often an id or a handle is in two appended lists
pub occurrences_append : (n : ℕ) (xs ys : List ℕ) → occurrences n (xs ++ ys) ≡ occurrences n xs + occurrences n ys
occurrences_append n xs ys = simp (filter-append, length-append)
