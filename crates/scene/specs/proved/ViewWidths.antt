-- Views go on having line numbers of their document's width, when documents and views change, come and go.
use Rattle.std.proofs.Common.{◌≡◌, ◌<◌, ℕ, ◌+◌, ◌==◌, List, [], ◌∷◌, ◌++◌, map, refl, ap, sym, ◌∙◌, subst, arith, nat_lt, Some}
use Rattle.std.specs.Prelude.{not}
use Rattle.std.specs.List.{AllByRecursion}
use Rattle.std.proofs.lemmas.Bool.{cond_both}
use Rattle.ed_model.specs.Session.{Document, document_at, is_large, living, references, left_by}
use Rattle.ed_model.specs.SoundLaws.{IsSoundView, Rise}
use Rattle.ed_model.specs.proved.Elements.{all_added, all_filter, all_map, all_two, all_weaker}
use Rattle.ed_model.specs.proved.Finding.{found_below, found_once}
use Rattle.id_table.specs.Entries.{Entries, Entry, value_at, with_value_at, without_id}
use Rattle.document.specs.Kept.{Kept}
use Rattle.ed_view.specs.Kept.{KeptView}
use Rattle.scene.specs.Scenes.{ViewWidth, width_at, width_of, views_of, HasWidthIfOn, HasWidths, HaveWidths, KeepWidths}
use Rattle.scene.specs.proved.Finding.{all_put, all_unmapped, changed_at, found_has, id_of_document}

-- Documents change, but neither their ids nor their widths.

abbrev pub KeepsPlace : (Document → Document) → Type 0
KeepsPlace g = (d : Document) → ((g d).id ≡ d.id) × (is_large (g d) ≡ is_large d)

-- if a change does so, it does so to the document with the id alone
pub one_place : (g : Document → Document) → KeepsPlace g → (id : ℕ) → KeepsPlace (changed_at id_of_document id g)
one_place g keeps id d = cond_both (d.id == id) (g d) d (λ (x : Document). (x.id ≡ d.id) × (is_large x ≡ is_large d)) (λ _. keeps d) (λ _. (refl, refl))

pub has_still : (widths : List ViewWidth) (d e : Document) → e.id ≡ d.id → is_large e ≡ is_large d → HasWidths widths d → HasWidths widths e
has_still widths d e id large all = all_weaker (HasWidthIfOn d) (HasWidthIfOn e) (λ w has on. has (on ∙ id) ∙ sym large) widths all

pub widths_changed : (g : Document → Document) → KeepsPlace g → (ds : List Document) (views : Entries KeptView) → HaveWidths ds views → HaveWidths (map g ds) views
widths_changed g keeps ds views all =
    let widths = map width_at views.entries in
    all_map (HasWidths widths) (HasWidths widths) g (λ d has. has_still widths d (g d) (keeps d).0 (keeps d).1 has) ds all

pub widths_living : (ds : List Document) (views : Entries KeptView) → HaveWidths ds views → HaveWidths (living ds) views
widths_living ds views all = all_filter (HasWidths (map width_at views.entries)) (λ d. nat_lt 0 (references d)) ds all

-- the views change, but neither their documents nor their widths
pub widths_kept : (ds : List Document) (old new : Entries KeptView) → KeepWidths old new → HaveWidths ds old → HaveWidths ds new
widths_kept ds old new same all = subst (λ widths. AllByRecursion (HasWidths widths) ds) (sym same) all

-- one of the documents is replaced, and the views keep their documents and their widths
pub widths_put : (documents : List (Entry Kept)) (id : ℕ) (k : Kept) (old new : Entries KeptView) → KeepWidths old new → HasWidths (map width_at new.entries) k.document
    → HaveWidths (map (λ (e : Entry Kept). e.value.document) documents) old → HaveWidths (map (λ (e : Entry Kept). e.value.document) (with_value_at id k documents)) new
widths_put documents id k old new same has all =
    all_put (HasWidths (map width_at new.entries)) (λ (e : Entry Kept). e.value.document) id k has documents (widths_kept (map (λ (e : Entry Kept). e.value.document) documents) old new same all)

-- a view is closed
pub widths_without : (view : ℕ) (ds : List Document) (old new : Entries KeptView) → new.entries ≡ without_id view old.entries → HaveWidths ds old → HaveWidths ds new
widths_without view ds old new is all =
    subst (λ es. AllByRecursion (HasWidths (map width_at es)) ds) (sym is)
    (all_weaker (HasWidths (map width_at old.entries)) (HasWidths (map width_at (without_id view old.entries)))
    (λ d has. all_map (λ (e : Entry KeptView). HasWidthIfOn d (width_at e)) (HasWidthIfOn d) width_at (λ e h. h) (without_id view old.entries)
    (all_filter (λ (e : Entry KeptView). HasWidthIfOn d (width_at e)) (λ (e : Entry KeptView). not (e.id == view)) old.entries (all_unmapped (HasWidthIfOn d) width_at old.entries has))) ds all)

-- the views on a document without one of them
pub left_place : (view : ℕ) → KeepsPlace (left_by view)
left_place view d = (refl, refl)

-- No view is on a document whose id is new.
pub widths_of_new : (documents : List Document) (next : ℕ) (entries : List (Entry KeptView)) (d : Document) → d.id ≡ next → Rise 0 next (map (λ (e : Document). e.id) documents)
    → AllByRecursion (IsSoundView documents) (views_of entries) → HasWidths (map width_at entries) d
widths_of_new documents next entries d is rise all =
    all_map (λ (e : Entry KeptView). IsSoundView documents e.value.view) (HasWidthIfOn d) width_at
    (λ e h on. let below : e.value.view.document < next = found_below 0 next documents e.value.view.document h.document rise h.found in absurd (omega (arith, below, on, is))) entries
    (all_unmapped (IsSoundView documents) (λ (e : Entry KeptView). e.value.view) entries all)

-- a view is replaced by one that is on a document and has its width
pub widths_replaced : (entries : List (Entry KeptView)) (view : ℕ) (new : KeptView) (ds : List Document) (high : ℕ) (d : Document) → Rise 0 high (map (λ (e : Document). e.id) ds)
    → document_at ds d.id ≡ Some d → new.view.document ≡ d.id → new.large ≡ is_large d
    → AllByRecursion (HasWidths (map width_at entries)) ds → AllByRecursion (HasWidths (map width_at (with_value_at view new entries))) ds
widths_replaced entries view new ds high d rise there on large all =
    all_two (λ (e : Document). e.id ≡ d.id → e ≡ d) (HasWidths (map width_at entries)) (HasWidths (map width_at (with_value_at view new entries))) ds
    (λ e once has. all_put (HasWidthIfOn e) width_at view new (λ is. large ∙ ap is_large (sym (once (sym is ∙ on)))) entries has)
    (found_once (λ (e : Document). e.id) 0 high ds d.id d rise there) all

-- the width of a view that is found
pub width_found : (entries : List (Entry KeptView)) (id : ℕ) (v : KeptView) (d : Document) → HasWidths (map width_at entries) d → value_at entries id ≡ Some v → HasWidthIfOn d (width_of v)
width_found entries id v d all at = found_has (λ (e : Entry KeptView). HasWidthIfOn d (width_at e)) entries id v (all_unmapped (HasWidthIfOn d) width_at entries all) at

-- A document is opened with a view on it.
pub widths_opened : (ds : List Document) (next : ℕ) (d : Document) (v : KeptView) (old : Entries KeptView) (entries : List (Entry KeptView)) → map width_at entries ≡ map width_at old.entries ++ width_of v ∷ []
    → Rise 0 next (map (λ (e : Document). e.id) ds) → AllByRecursion (IsSoundView ds) (views_of old.entries) → d.id ≡ next → v.view.document ≡ next → v.large ≡ is_large d → HaveWidths ds old
    → AllByRecursion (HasWidths (map width_at entries)) (ds ++ d ∷ [])
widths_opened ds next d v old entries is rise sound own on large all =
    let before = map width_at old.entries in
    subst (λ widths. AllByRecursion (HasWidths widths) (ds ++ d ∷ [])) (sym is)
    (all_added (HasWidths (before ++ width_of v ∷ [])) ds d (go 0 ds rise all)
    (all_added (HasWidthIfOn d) before (width_of v) (widths_of_new ds next old.entries d own rise sound) (λ _. large)))
  where
    go : (low : ℕ) (es : List Document) → Rise low next (map (λ (e : Document). e.id) es) → AllByRecursion (HasWidths (map width_at old.entries)) es
        → AllByRecursion (HasWidths (map width_at old.entries ++ width_of v ∷ [])) es
    go low [] r all = tt
    go low (e ∷ es) r all = (
      all_added (HasWidthIfOn e) (map width_at old.entries) (width_of v) all.0 (λ here. let below = r.1 in absurd (omega (arith, below, here, on))),
      go (e.id + 1) es r.2 all.1,
    )
