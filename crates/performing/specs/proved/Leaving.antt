-- The documents that are left after one has lost a reference: they have one, and are kept under their own ids. And no document lists a view except the view's own.
use Rattle.std.proofs.Common.{◌≡◌, ◌≢◌, ◌<◌, ◌+◌, ℕ, ◌==◌, cond, List, [], ◌∷◌, map, map-id, refl, ap, ap₂, sym, ◌∙◌, subst, Option, Some, None, option_map}
use Rattle.std.specs.Prelude.{not, nat_lt}
use Rattle.std.specs.List.{AllByRecursion}
use Rattle.std.proofs.lemmas.Bool.{cond_both, eq-eqb, ne_eqb}
use Rattle.std.proofs.lemmas.Simd.{map-map}
use Rattle.ed_model.specs.Session.{Document, View, living, left_by, references, view_at, without}
use Rattle.ed_model.specs.SoundLaws.{IsViewOn, ListsItsViews, Rise}
use Rattle.ed_model.specs.proved.Elements.{all_filter, all_map, all_weaker}
use Rattle.id_table.specs.Entries.{Entry, Rise as IdsRise, entry, id_of, value_of, value_at, with_value_at, without_id}
use Rattle.document.specs.Kept.{Kept}
use Rattle.document_table.specs.Leaving.{document_in, documents_in as entries_in, left_over_of, let_go, IsChangedAlike, LeavesTheLiving}
use Rattle.scene.specs.proved.Finding.{all_unmapped, changed_at, found_has, id_of_document, still_named}
use Rattle.performing.specs.Kept.{DocumentsAreNamed}

-- The documents of a table without their capacity.

abbrev pub seen : List (Entry Kept) → List Document
seen entries = map (λ (e : Entry Kept). e.value.document) entries

abbrev pub ids_of : List Document → List ℕ
ids_of ds = map (λ (d : Document). d.id) ds

-- under their own ids
abbrev own_entry : Document → Entry Document
own_entry d = entry d.id d

own_entries : (entries : List (Entry Kept)) → DocumentsAreNamed entries → entries_in entries ≡ map own_entry (seen entries)
own_entries [] named = refl
own_entries (e ∷ es) named = ap₂ (λ x xs. x ∷ xs) (ap (λ n. entry n e.value.document) named.0) (own_entries es named.1)

rise_same : (low next : ℕ) (ids : List ℕ) → Rise low next ids → IdsRise low next ids
rise_same low next [] r = tt
rise_same low next (id ∷ ids) r = (r.0, r.1, rise_same (id + 1) next ids r.2)

-- the documents that are left after one has lost a reference
pub living_left : LeavesTheLiving → (id next : ℕ) (change : Document → Document) (entries left : List (Entry Kept)) → DocumentsAreNamed entries → Rise 0 next (ids_of (seen entries))
    → AllByRecursion (λ (d : Document). 0 < references d) (seen entries) → entries_in left ≡ let_go id change (entries_in entries) → seen left ≡ living (map (changed_at id_of_document id change) (seen entries))
living_left law id next change entries left named rise referenced is =
    let ds = seen entries in let each = changed_at id_of_document id change in
    sym (map-map value_of document_in left) ∙ ap (map value_of) (is ∙ ap (let_go id change) (own_entries entries named))
    ∙ law id 0 next change each (map own_entry ds) (subst (IdsRise 0 next) (sym (map-map id_of own_entry ds)) (rise_same 0 next (ids_of ds) rise))
    (all_map (λ (d : Document). 0 < references d) (λ (e : Entry Document). 0 < references e.value) own_entry (λ d h. h) ds referenced)
    (all_map (λ (d : Document). 0 < references d) (IsChangedAlike id change each) own_entry
    (λ d _. (λ is. ap (λ b. cond b (change d) d) (eq-eqb d.id id is), λ other. ap (λ b. cond b (change d) d) (ne_eqb d.id id other))) ds referenced)
    ∙ ap (λ ds. living (map each ds)) (map-map value_of own_entry ds ∙ map-id ds)

-- Documents stay under their own ids.

abbrev IsNamedDocument : Entry Document → Type 0
IsNamedDocument e = e.id ≡ e.value.id

pub named_left : (id : ℕ) (change : Document → Document) → ((d : Document) → (change d).id ≡ d.id) → (old left : List (Entry Kept)) → DocumentsAreNamed old → entries_in left ≡ let_go id change (entries_in old)
    → DocumentsAreNamed left
named_left id change stays old left named is = all_unmapped IsNamedDocument document_in left (subst (AllByRecursion IsNamedDocument) (sym is) (go (value_at (entries_in old) id) refl))
  where
    all : AllByRecursion IsNamedDocument (entries_in old)
    all = all_map (λ (e : Entry Kept). e.id ≡ e.value.document.id) IsNamedDocument document_in (λ e h. h) old named

    go : (o : Option Document) → value_at (entries_in old) id ≡ o → AllByRecursion IsNamedDocument (left_over_of id (entries_in old) (option_map change o))
    go None e = all
    go (Some d) e =
        let entries = entries_in old in
        cond_both (nat_lt 0 (references (change d))) (with_value_at id (change d) entries) (without_id id entries) (AllByRecursion IsNamedDocument)
        (λ _. still_named (λ x. x) id_of_document entries id (change d) (stays d ∙ sym (found_has IsNamedDocument entries id d all e)) all) (λ _. all_filter IsNamedDocument (λ (e : Entry Document). not (e.id == id)) entries all)

-- No document lists a view except the view's own.

without_itself : (view : ℕ) (ids : List ℕ) → AllByRecursion (λ id. id ≢ view) ids → without view ids ≡ ids
without_itself view [] all = refl
without_itself view (id ∷ ids) all = rw (ne_eqb id view all.0) (ap (λ xs. id ∷ xs) (without_itself view ids all.1))

pub stays_alike : (views : List View) (v : View) (view : ℕ) (d : Document) → view_at views view ≡ Some v → d.id ≢ v.document → ListsItsViews views d → left_by view d ≡ d
stays_alike views v view d found other lists =
    ap (λ ids. record d { views = ids }) (without_itself view d.views
    (all_weaker (IsViewOn views d.id) (λ id. id ≢ view)
    (λ id listed e. let same : listed.0 ≡ v = cc (listed.1, ap (view_at views) e ∙ found) in other (sym listed.2 ∙ ap (λ (x : View). x.document) same)) d.views lists))
