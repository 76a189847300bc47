-- The views follow in the order of their ids: what becomes of their entries, and what the views behind can still do.
use Rattle.scene.proofs.Names.{◌≡◌, ℕ, Bool, true, false, cond, List, [], ◌∷◌, map, refl, ap, ap₂, sym, ◌∙◌, subst, ◌==◌, Option, Some, None, find, option_map, AllByRecursion, eqb-true, eqb-false, eq-eqb, ne_eqb, map-map, map-id, LineEdit, Movement, View, Rise, view_id, entry_once, found_has, found_some, id_of_view, view_in, all_map, all_two, all_both, Entry, Entries, entry, id_of, value_at, value_of, in_place_at, with_value_at, KeptView, ViewWidth, width_of, view_moved, views_of, views_in, width_at, AreNamed, followed_at, followed, CanFollow, CanFollowInTurn, CanFollowAt, CanAllFollow, HaveFollowed, ViewsStay}
use Rattle.scene.proofs.Staying.{views_stay}

pub named_ids : (entries : List (Entry KeptView)) → AreNamed entries → map id_of entries ≡ map (λ (v : View). v.id) (views_of entries)
named_ids [] named = refl
named_ids (x ∷ xs) named = let a = named.0 in let b = named_ids xs named.1 in cc

module _ (movement : Movement) (edits : List LineEdit) (id : ℕ) where
  -- the view of the entry followed if the id is its own; its name, its id, its width and its capacity stay
  abbrev pub IsAfter : Entry KeptView → Entry KeptView → Type 0
  IsAfter e e' =
      (e'.value.view ≡ followed_at movement edits id e.value.view) × (e'.id ≡ e'.value.view.id) × (e'.id ≡ e.id) × (width_at e' ≡ width_at e) × (e'.value.capacity ≡ e.value.capacity)

  -- an entry with another id stays
  other_after : (e : Entry KeptView) → e.id ≡ e.value.view.id → (e.id ≡ id → ⊥) → IsAfter e e
  other_after e named differs =
      let other : (e.value.view.id == id) ≡ false = ne_eqb e.value.view.id id (λ own. differs (named ∙ own)) in
      rw other (refl, named, refl, refl, refl)

  entry_after : (k moved : KeptView) → moved ≡ record k { view = view_moved movement edits k.view } → (e : Entry KeptView) → (e.id ≡ id → e ≡ entry id k) → e.id ≡ e.value.view.id
      → IsAfter e (in_place_at id moved e)
  entry_after k moved follows e one named = go (e.id == id) refl
    where
      go : (b : Bool) → (e.id == id) ≡ b → IsAfter e (cond b (entry id moved) e)
      go true t =
          let here = eqb-true e.id id t in
          let own : e.value.view.id ≡ id = sym named ∙ here in
          let test : (e.value.view.id == id) ≡ true = eq-eqb e.value.view.id id own in
          let is : moved ≡ record e.value { view = view_moved movement edits e.value.view } =
          follows ∙ ap (λ (x : KeptView). record x { view = view_moved movement edits x.view }) (sym (ap value_of (one here))) in
          rw test (ap (λ (x : KeptView). x.view) is, sym (ap (λ (x : KeptView). x.view.id) is ∙ own), sym here, ap width_of is, ap (λ (x : KeptView). x.capacity) is)
      go false t = other_after e named (λ own. eqb-false e.id id t own)

  all_after : (f : Entry KeptView → Entry KeptView) (entries : List (Entry KeptView)) → AllByRecursion (λ e. IsAfter e (f e)) entries
      → (views_of (map f entries) ≡ map (followed_at movement edits id) (views_of entries)) × AreNamed (map f entries) × (map id_of (map f entries) ≡ map id_of entries)
      × (map width_at (map f entries) ≡ map width_at entries) × (map (λ (e : Entry KeptView). e.value.capacity) (map f entries) ≡ map (λ (e : Entry KeptView). e.value.capacity) entries)
  all_after f [] all = (refl, tt, refl, refl, refl)
  all_after f (x ∷ xs) all =
      let rest = all_after f xs all.1 in
      (ap₂ (λ y l. y ∷ l) all.0.0 rest.0, (all.0.1, rest.1), ap₂ (λ y l. y ∷ l) all.0.2 rest.2, ap₂ (λ y l. y ∷ l) all.0.3 rest.3, ap₂ (λ y l. y ∷ l) all.0.4 rest.4)

  -- if no view has the id, all entries stay
  missing : (entries : List (Entry KeptView)) → AreNamed entries → value_at entries id ≡ None → AllByRecursion (λ e. IsAfter e e) entries
  missing [] named e = tt
  missing (x ∷ xs) named e = go (x.id == id) refl e (λ e. missing xs named.1 e)
    where
      go : (b : Bool) → (x.id == id) ≡ b → option_map value_of (cond b (Some x) (find (λ (e : Entry KeptView). e.id == id) xs)) ≡ None
          → (value_at xs id ≡ None → AllByRecursion (λ e. IsAfter e e) xs) → IsAfter x x × AllByRecursion (λ e. IsAfter e e) xs
      go true t e rest = absurd (cc)
      go false t e rest = (other_after x named.0 (λ own. eqb-false x.id id t own), rest e)

-- The loop.

pub record IsFollowedSoFar (movement : Movement) (edits : List LineEdit) (order rest : List ℕ) (old now : Entries KeptView) : Type 0 where
  pub can : CanAllFollow movement edits rest now
  pub views : map (followed movement edits rest) (views_in now) ≡ map (followed movement edits order) (views_in old)
  pub stay : ViewsStay old now

module _ (movement : Movement) (edits : List LineEdit) (order after : List ℕ) (id : ℕ) (old now : Entries KeptView)
    (so : IsFollowedSoFar movement edits order (id ∷ after) old now) where
  -- the view whose turn it is can follow
  pub next_can : (k : KeptView) → value_at now.entries id ≡ Some k → CanFollow movement edits k.large k.view
  next_can k found =
      (found_has (CanFollowAt movement edits (id ∷ after)) now.entries id k so.can.can found).0 (view_id (views_in now) id k.view (found_some view_in id_of_view now.entries id k so.can.named found))

  -- the entries after its turn
  turn : (f : Entry KeptView → Entry KeptView) → AllByRecursion (λ e. IsAfter movement edits id e (f e)) now.entries
      → IsFollowedSoFar movement edits order after old (record now { entries = map f now.entries })
  turn f afters =
      let all = all_after movement edits id f now.entries afters in
      record {
        can = record {
          named = all.1;
          rise = rw all.2 so.can.rise;
          can = all_map (λ e. CanFollowAt movement edits (id ∷ after) e × IsAfter movement edits id e (f e)) (CanFollowAt movement edits after) f
              (λ e h. subst (λ (w : ViewWidth). CanFollowInTurn movement edits after w.large (f e).value.view) (sym h.1.3)
              (subst (CanFollowInTurn movement edits after e.value.large) (sym h.1.0) h.0.1))
              now.entries (all_both (CanFollowAt movement edits (id ∷ after)) (λ e. IsAfter movement edits id e (f e)) now.entries so.can.can afters);
        };
        views = ap (map (followed movement edits after)) all.0 ∙ map-map (followed movement edits after) (followed_at movement edits id) (views_in now) ∙ so.views;
        stay = views_stay so.stay (record { ids = all.2; next = refl; view_capacity = refl; widths = all.3; fold_capacities = all.4 });
      }

  -- that view follows
  pub follow_one : (k moved : KeptView) (new : Entries KeptView) → value_at now.entries id ≡ Some k → moved ≡ record k { view = view_moved movement edits k.view }
      → new ≡ record now { entries = with_value_at id moved now.entries } → IsFollowedSoFar movement edits order after old new
  follow_one k moved new found follows put =
      rw put (turn (in_place_at id moved)
      (all_two (λ (x : Entry KeptView). x.id ≡ id → x ≡ entry id k) (λ (x : Entry KeptView). x.id ≡ x.value.view.id) (λ x. IsAfter movement edits id x (in_place_at id moved x)) now.entries
      (entry_after movement edits id k moved follows) (entry_once now.entries now.next id k so.can.rise found) so.can.named))

  -- no view has the id whose turn it is
  pub follow_missing : (new : Entries KeptView) → value_at now.entries id ≡ None → new ≡ now → IsFollowedSoFar movement edits order after old new
  follow_missing new found put =
      subst (λ t. IsFollowedSoFar movement edits order after old t) (ap (λ es. record now { entries = es }) (map-id now.entries) ∙ sym put)
      (turn (λ e. e) (missing movement edits id now.entries so.can.named found))

pub follow_all : (movement : Movement) (edits : List LineEdit) (order : List ℕ) (old now : Entries KeptView) → IsFollowedSoFar movement edits order [] old now
    → HaveFollowed movement edits order old now
follow_all movement edits order old now so = record { views = sym (map-id (views_in now)) ∙ so.views; named = so.can.named; stay = so.stay }
