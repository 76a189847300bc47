-- The views that watch a document follow a step or another change of it: each of them once, and no other view.
use Rattle.scene.proofs.Names.{◌≡◌, ℕ, ◌+◌, ◌<◌, ◌≤◌, Bool, true, false, cond, List, [], ◌∷◌, map, length, refl, ap, sym, ◌∙◌, subst, arith, ◌==◌, Some, filter, if◌then◌else◌, option_map, AllByRecursion, cond_both, eqb-true, eqb-false, eq-eqb, ne_eqb, LineEdit, Movement, View, Document, view_at, Rise, StandsOn, IsViewOn, occurrences, ids_of, same_ids, mapped_found, all_two, all_unmapped, all_map, all_weaker, map_where, Entry, Entries, KeptView, view_moved, views_of, width_at, HasWidthIfOn, AreNamed, StandsIfOn, IsWatched, ViewsStay, followed, CanFollow, CanFollowInTurn, CanFollowAt, CanAllFollow, is_large}
use Rattle.scene.proofs.Followed.{named_ids}

-- A view whose id is in the list never, or once.
module _ (movement : Movement) (edits : List LineEdit) where
  never : (ids : List ℕ) (v : View) → occurrences v.id ids ≡ 0 → (followed movement edits ids v ≡ v) × ((large : Bool) → CanFollowInTurn movement edits ids large v)
  never [] v e = (refl, λ large. tt)
  never (id ∷ ids) v e = go (id == v.id) refl e (λ e. never ids v e)
    where
      go : (b : Bool) → (id == v.id) ≡ b → length (cond b (id ∷ filter (λ m. m == v.id) ids) (filter (λ m. m == v.id) ids)) ≡ 0
          → (occurrences v.id ids ≡ 0 → (followed movement edits ids v ≡ v) × ((large : Bool) → CanFollowInTurn movement edits ids large v))
          → (followed movement edits (id ∷ ids) v ≡ v) × ((large : Bool) → CanFollowInTurn movement edits (id ∷ ids) large v)
      go true t e rest = absurd (omega arith)
      go false t e rest =
          let other : (v.id == id) ≡ false = ne_eqb v.id id (λ p. eqb-false id v.id t (sym p)) in
          rw other ((rest e).0, λ large. ((λ own. absurd (eqb-false id v.id t (sym own))), (rest e).1 large))

  once : (ids : List ℕ) (v : View) → occurrences v.id ids ≡ 1
      → (followed movement edits ids v ≡ view_moved movement edits v) × ((large : Bool) → CanFollow movement edits large v → CanFollowInTurn movement edits ids large v)
  once [] v e = absurd (omega arith)
  once (id ∷ ids) v e = go (id == v.id) refl e (λ e. once ids v e)
    where
      go : (b : Bool) → (id == v.id) ≡ b → length (cond b (id ∷ filter (λ m. m == v.id) ids) (filter (λ m. m == v.id) ids)) ≡ 1
          → (occurrences v.id ids ≡ 1 → (followed movement edits ids v ≡ view_moved movement edits v) × ((large : Bool) → CanFollow movement edits large v → CanFollowInTurn movement edits ids large v))
          → (followed movement edits (id ∷ ids) v ≡ view_moved movement edits v) × ((large : Bool) → CanFollow movement edits large v → CanFollowInTurn movement edits (id ∷ ids) large v)
      go true t e rest =
          let own : (v.id == id) ≡ true = eq-eqb v.id id (sym (eqb-true id v.id t)) in
          let behind = never ids (view_moved movement edits v) (omega arith) in
          rw own (behind.0, λ large can. ((λ _. can), behind.1 large))
      go false t e rest =
          let other : (v.id == id) ≡ false = ne_eqb v.id id (λ p. eqb-false id v.id t (sym p)) in
          rw other ((rest e).0, λ large can. ((λ _. can), (rest e).1 large can))

-- Views with rising ids.

above : (P : View → Type 0) (low high : ℕ) (vs : List View) → Rise low high (ids_of vs) → ((v : View) → low ≤ v.id → P v) → AllByRecursion P vs
above P low high [] r h = tt
above P low high (v ∷ vs) r h = (h v r.0, above P (v.id + 1) high vs r.2 (λ u le. h u (let l : low ≤ v.id = r.0 in omega arith)))

-- each view is found by its id
each_found : (low high : ℕ) (vs : List View) → Rise low high (ids_of vs) → AllByRecursion (λ (v : View). view_at vs v.id ≡ Some v) vs
each_found low high [] r = tt
each_found low high (u ∷ us) r =
    let own : (u.id == u.id) ≡ true = eq-eqb u.id u.id refl in (
      rw own refl,
      all_two (λ v. view_at us v.id ≡ Some v) (λ v. u.id < v.id) (λ (v : View). view_at (u ∷ us) v.id ≡ Some v) us
          (λ v found l. let other : (u.id == v.id) ≡ false = ne_eqb u.id v.id (λ p. omega arith) in rw other found)
          (each_found (u.id + 1) high us r.2) (above (λ v. u.id < v.id) (u.id + 1) high us r.2 (λ v le. omega arith)),
    )

-- a view of another document is not in the list
not_listed : (d : ℕ) (ids : List ℕ) (vs : List View) (v : View) → view_at vs v.id ≡ Some v → (v.document ≡ d → ⊥) → AllByRecursion (IsViewOn vs d) ids
    → occurrences v.id ids ≡ 0
not_listed d [] vs v found ne all = refl
not_listed d (id ∷ ids) vs v found ne all = go (id == v.id) refl (not_listed d ids vs v found ne all.1)
  where
    go : (b : Bool) → (id == v.id) ≡ b → occurrences v.id ids ≡ 0 → length (cond b (id ∷ filter (λ m. m == v.id) ids) (filter (λ m. m == v.id) ids)) ≡ 0
    go true t rest =
        let u = all.0.0 in
        let is : Some u ≡ Some v = sym (ap (view_at vs) (sym (eqb-true id v.id t)) ∙ all.0.1) ∙ found in
        let same : u ≡ v = cc in
        absurd (ne (ap (λ (w : View). w.document) (sym same) ∙ all.0.2))
    go false t rest = rest

-- the view after a change of the views on the document
abbrev pub on_document : Document → (View → View) → View → View
on_document d f v = if v.document == d.id then f v else v

-- The views of a watched document.
module _ (d : Document) (table : Entries KeptView) (w : IsWatched d table) where
  -- what holds of the views on the document, and of the others
  by_document : (P : Bool → View → Type 0) → ((v : View) → StandsOn d v → P true v) → ((v : View) → occurrences v.id d.views ≡ 0 → P false v)
      → AllByRecursion (λ (v : View). P (v.document == d.id) v) (views_of table.entries)
  by_document P on off =
      all_two (λ v. view_at (views_of table.entries) v.id ≡ Some v) (StandsIfOn d) (λ (v : View). P (v.document == d.id) v) (views_of table.entries)
      (λ v found stand. go v found stand (v.document == d.id) refl) (each_found 0 table.next (views_of table.entries) w.rise) w.stand
    where
      go : (v : View) → view_at (views_of table.entries) v.id ≡ Some v → StandsIfOn d v → (b : Bool) → (v.document == d.id) ≡ b → P b v
      go v found stand true t = on v (stand (eqb-true v.document d.id t))
      go v found stand false t = off v (not_listed d.id d.views (views_of table.entries) v found (eqb-false v.document d.id t) w.listed)

  pub watched_can : (movement : Movement) (edits : List LineEdit) → ((v : View) → StandsOn d v → CanFollow movement edits (is_large d) v) → CanAllFollow movement edits d.views table
  watched_can movement edits can = record {
    named = w.named;
    rise = subst (Rise 0 table.next) (sym (named_ids table.entries w.named)) w.rise;
    can =
        let InWidth : Bool → View → Type 0 = λ on v. (large : Bool) → (on ≡ true → large ≡ is_large d) → CanFollowInTurn movement edits d.views large v in
        let all = by_document InWidth
        (λ v on large same. subst (λ x. CanFollowInTurn movement edits d.views x v) (sym (same refl)) ((once movement edits d.views v on.listed).1 (is_large d) (can v on)))
        (λ v none large same. (never movement edits d.views v none).1 large) in
        all_two (λ (e : Entry KeptView). InWidth (e.value.view.document == d.id) e.value.view) (λ e. HasWidthIfOn d (width_at e)) (CanFollowAt movement edits d.views) table.entries
        (λ e can width. can e.value.large (λ on. width (eqb-true e.value.view.document d.id on)))
        (all_unmapped (λ (v : View). InWidth (v.document == d.id) v) (λ (e : Entry KeptView). e.value.view) table.entries all)
        (all_unmapped (HasWidthIfOn d) width_at table.entries w.widths);
  }

  -- the views on the document become what they should, and the others stay
  pub watched_as : (movement : Movement) (edits : List LineEdit) (f : View → View) → ((v : View) → StandsOn d v → view_moved movement edits v ≡ f v)
      → map (followed movement edits d.views) (views_of table.entries) ≡ map (on_document d f) (views_of table.entries)
  watched_as movement edits f becomes =
      map_where (followed movement edits d.views) (on_document d f) (views_of table.entries)
      (by_document (λ b v. followed movement edits d.views v ≡ cond b (f v) v) (λ v on. (once movement edits d.views v on.listed).0 ∙ becomes v on) (λ v none. (never movement edits d.views v none).0))

  -- a document of the same width with the same views is watched after its views changed so that they stand on it
  pub watched_again : (after : Document) (f : View → View) (new : Entries KeptView) → after.id ≡ d.id → after.views ≡ d.views → is_large after ≡ is_large d → ((v : View) → (f v).id ≡ v.id)
      → ((v : View) → (f v).document ≡ v.document) → ((v : View) → StandsOn d v → StandsOn after (f v))
      → views_of new.entries ≡ map (on_document d f) (views_of table.entries) → AreNamed new.entries → ViewsStay table new → IsWatched after new
  watched_again after f new same_id same_views same_width ids on stands views named stay =
      let vs = views_of table.entries in
      let own : (v : View) → (on_document d f v).id ≡ v.id = λ v. cond_both (v.document == d.id) (f v) v (λ (u : View). u.id ≡ v.id) (λ t. ids v) (λ t. refl) in
      record {
        named = named;
        rise = subst (λ n. Rise 0 n (ids_of (views_of new.entries))) (sym stay.next)
            (subst (λ us. Rise 0 table.next (ids_of us)) (sym views) (subst (Rise 0 table.next) (sym (same_ids (on_document d f) own vs)) w.rise));
        listed = subst (λ us. AllByRecursion (IsViewOn us after.id) after.views) (sym views) (rw (same_id, same_views) (all_weaker (IsViewOn vs d.id) (IsViewOn (map (on_document d f) vs) d.id)
            (λ id h. (
              on_document d f h.0,
              mapped_found (λ (v : View). v.id) (on_document d f) own vs id ∙ ap (option_map (on_document d f)) h.1,
              cond_both (h.0.document == d.id) (f h.0) h.0 (λ (u : View). u.document ≡ h.0.document) (λ t. on h.0) (λ t. refl) ∙ h.2,
            )) d.views w.listed));
        stand = subst (AllByRecursion (StandsIfOn after)) (sym views) (all_map (StandsIfOn d) (StandsIfOn after) (on_document d f)
            (λ v stand. cond_both (v.document == d.id) (f v) v (StandsIfOn after) (λ t at. stands v (stand (eqb-true v.document d.id t))) (λ t at. absurd (eqb-false v.document d.id t (at ∙ same_id))))
            vs w.stand);
        widths = subst (AllByRecursion (HasWidthIfOn after)) (sym stay.widths)
            (all_weaker (HasWidthIfOn d) (HasWidthIfOn after) (λ width has at. has (at ∙ same_id) ∙ sym same_width) (map width_at table.entries) w.widths);
      }
