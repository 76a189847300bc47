-- Values that are kept by id: what is found by an id, what the model finds by it, and what all have once the value of one id is replaced.
use Rattle.std.proofs.Common.{◌≡◌, ◌≢◌, ℕ, ◌==◌, Bool, true, false, cond, List, [], ◌∷◌, map, map-id, refl, ap, sym, ◌∙◌, subst, Option, Some, None, option_map}
use Rattle.std.specs.Prelude.{find, if◌then◌else◌}
use Rattle.std.specs.List.{AllByRecursion}
use Rattle.std.proofs.lemmas.Bool.{cond_both, eqb-true, eqb-false, eq-eqb, ne_eqb}
use Rattle.std.proofs.lemmas.Simd.{map-map}
use Rattle.ed_model.specs.SoundLaws.{Rise}
use Rattle.ed_model.specs.Session.{Document, View}
use Rattle.ed_types.specs.proved.Found.{found_test}
use Rattle.ed_model.specs.proved.Elements.{all_map, all_two, found_all, map_where}
use Rattle.ed_model.specs.proved.Finding.{found_once, mapped_found}
use Rattle.id_table.specs.Entries.{Entry, entry, id_of, in_place_at, value_of, value_at, with_value_at}

-- what holds of one id, and of all others
pub by_id : (P : ℕ → Type 0) (id : ℕ) → P id → ((other : ℕ) → other ≢ id → P other) → (k : ℕ) → P k
by_id P id here others k = go (k == id) refl
  where
    go : (b : Bool) → (k == id) ≡ b → P k
    go true t = subst P (sym (eqb-true k id t)) here
    go false f = others k (eqb-false k id f)

pub all_unmapped : {X Y : Type 0} (P : Y → Type 0) (f : X → Y) (xs : List X) → AllByRecursion P (map f xs) → AllByRecursion (λ x. P (f x)) xs
all_unmapped P f [] all = tt
all_unmapped P f (x ∷ xs) all = (all.0, all_unmapped P f xs all.1)

-- Values with ids of their own.
module _ {X : Type 0} (own : X → ℕ) where
  abbrev pub at_id : List X → ℕ → Option X
  at_id xs id = find (λ x. own x == id) xs

  pub own_at : (xs : List X) (id : ℕ) (x : X) → at_id xs id ≡ Some x → own x ≡ id
  own_at xs id x e = eqb-true (own x) id (found_test (λ x. own x == id) xs x e)

  -- the value, changed if it has this id
  abbrev pub changed_at : ℕ → (X → X) → X → X
  changed_at id change x = if own x == id then change x else x

-- The value of an id is found, or replaced.
module _ {V : Type 0} where
  -- the entry that the value was found in
  entry_at : (entries : List (Entry V)) (id : ℕ) (v : V) → value_at entries id ≡ Some v → find (λ (e : Entry V). e.id == id) entries ≡ Some (entry id v)
  entry_at entries id v at = go (find (λ (e : Entry V). e.id == id) entries) refl at
    where
      go : (o : Option (Entry V)) → find (λ (e : Entry V). e.id == id) entries ≡ o → option_map value_of o ≡ Some v → find (λ (e : Entry V). e.id == id) entries ≡ Some (entry id v)
      go None f at = absurd (cc)
      go (Some e) f at = let is : e.value ≡ v = cc in f ∙ ap (λ i. Some (entry i e.value)) (own_at id_of entries id e f) ∙ ap (λ x. Some (entry id x)) is

  -- it has what all entries have
  pub found_has : (P : Entry V → Type 0) (entries : List (Entry V)) (id : ℕ) (v : V) → AllByRecursion P entries → value_at entries id ≡ Some v → P (entry id v)
  found_has P entries id v all at = found_all P (λ (e : Entry V). e.id == id) entries (entry id v) all (entry_at entries id v at)

  -- ids rise, so no other entry has the id
  pub entry_once : (entries : List (Entry V)) (high id : ℕ) (v : V) → Rise 0 high (map id_of entries) → value_at entries id ≡ Some v → AllByRecursion (λ (e : Entry V). e.id ≡ id → e ≡ entry id v) entries
  entry_once entries high id v rise at = found_once id_of 0 high entries id (entry id v) rise (entry_at entries id v at)

  in_place_id : (id : ℕ) (new : V) (e : Entry V) → (in_place_at id new e).id ≡ e.id
  in_place_id id new e = cond_both (e.id == id) (entry id new) e (λ (x : Entry V). x.id ≡ e.id) (λ t. sym (eqb-true e.id id t)) (λ _. refl)

  -- the entry of each id, once that of one id is replaced
  replaced_at : (entries : List (Entry V)) (id other : ℕ) (new : V)
      → value_at (with_value_at id new entries) other ≡ option_map value_of (option_map (in_place_at id new) (find (λ (e : Entry V). e.id == other) entries))
  replaced_at entries id other new = ap (option_map value_of) (mapped_found (λ (e : Entry V). e.id) (in_place_at id new) (in_place_id id new) entries other)

  pub other_replaced : (entries : List (Entry V)) (id other : ℕ) (new : V) → other ≢ id → value_at (with_value_at id new entries) other ≡ value_at entries other
  other_replaced entries id other new differs = replaced_at entries id other new ∙ go (find (λ (e : Entry V). e.id == other) entries) refl
    where
      go : (o : Option (Entry V)) → find (λ (e : Entry V). e.id == other) entries ≡ o → option_map value_of (option_map (in_place_at id new) o) ≡ option_map value_of o
      go None f = refl
      go (Some e) f = ap (λ b. Some (value_of (cond b (entry id new) e))) (ne_eqb e.id id (λ same. differs (sym (own_at id_of entries other e f) ∙ same)))

  pub value_replaced : (entries : List (Entry V)) (id : ℕ) (old new : V) → value_at entries id ≡ Some old → value_at (with_value_at id new entries) id ≡ Some new
  value_replaced entries id old new at =
      replaced_at entries id id new ∙ ap (λ o. option_map value_of (option_map (in_place_at id new) o)) (entry_at entries id old at) ∙ ap (λ b. Some (value_of (cond b (entry id new) (entry id old)))) (eq-eqb id id refl)

  -- what holds of each value and the one that stands there once that of one id is replaced
  pub at_each : (R : ℕ → Option V → Option V → Type 0) → ((k : ℕ) (o : Option V) → R k o o) → (entries : List (Entry V)) (id : ℕ) (old new : V) → value_at entries id ≡ Some old → R id (Some old) (Some new)
      → (k : ℕ) → R k (value_at entries k) (value_at (with_value_at id new entries) k)
  at_each R same entries id old new at here =
      by_id (λ k. R k (value_at entries k) (value_at (with_value_at id new entries) k)) id
      (subst (λ o. R id o (value_at (with_value_at id new entries) id)) (sym at) (subst (R id (Some old)) (sym (value_replaced entries id old new at)) here))
      (λ k differs. subst (R k (value_at entries k)) (sym (other_replaced entries id k new differs)) (same k (value_at entries k)))

  -- what all have, once one is replaced by one that has it
  pub all_put : {X : Type 0} (P : X → Type 0) (g : Entry V → X) (id : ℕ) (new : V) → P (g (entry id new)) → (entries : List (Entry V)) → AllByRecursion P (map g entries) → AllByRecursion P (map g (with_value_at id new entries))
  all_put P g id new here [] all = tt
  all_put P g id new here (e ∷ es) all = (cond_both (e.id == id) (entry id new) e (λ x. P (g x)) (λ _. here) (λ _. all.0), all_put P g id new here es all.1)

-- Entries whose values have the entry's id.
module _ {V X : Type 0} (f : V → X) (own : X → ℕ) where
  abbrev pub IsNamed : Entry V → Type 0
  IsNamed e = e.id ≡ own (f e.value)

  abbrev pub seen : List (Entry V) → List X
  seen entries = map (λ (e : Entry V). f e.value) entries

  pub found : (entries : List (Entry V)) (id : ℕ) → AllByRecursion IsNamed entries → at_id own (seen entries) id ≡ option_map f (value_at entries id)
  found [] id all = refl
  found (e ∷ es) id all = rw (sym all.0) (go (e.id == id) (found es id all.1))
    where
      go : (b : Bool) → at_id own (seen es) id ≡ option_map f (value_at es id)
          → cond b (Some (f e.value)) (at_id own (seen es) id) ≡ option_map f (option_map value_of (cond b (Some e) (find (λ (e : Entry V). e.id == id) es)))
      go true rest = refl
      go false rest = rest

  pub found_some : (entries : List (Entry V)) (id : ℕ) (v : V) → AllByRecursion IsNamed entries → value_at entries id ≡ Some v → at_id own (seen entries) id ≡ Some (f v)
  found_some entries id v all e = found entries id all ∙ ap (option_map f) e

  pub found_none : (entries : List (Entry V)) (id : ℕ) → AllByRecursion IsNamed entries → value_at entries id ≡ None → at_id own (seen entries) id ≡ None
  found_none entries id all e = found entries id all ∙ ap (option_map f) e

  -- a value is kept, and `x` is what the model sees of it
  pub record IsKeptAs (o : Option V) (x : X) : Type 0 where
    pub value : V
    pub there : o ≡ Some value
    pub is : f value ≡ x

  some_kept : (o : Option V) (x : X) → option_map f o ≡ Some x → IsKeptAs o x
  some_kept None x e = absurd (cc)
  some_kept (Some v) x e = record { value = v; there = refl; is = (let same : f v ≡ x = cc in same) }

  pub kept_as : (entries : List (Entry V)) (id : ℕ) (x : X) → AllByRecursion IsNamed entries → at_id own (seen entries) id ≡ Some x → IsKeptAs (value_at entries id) x
  kept_as entries id x all e = some_kept (value_at entries id) x (sym (found entries id all) ∙ e)

  pub still_named : (entries : List (Entry V)) (id : ℕ) (w : V) → own (f w) ≡ id → AllByRecursion IsNamed entries → AllByRecursion IsNamed (with_value_at id w entries)
  still_named entries id w is all = all_map IsNamed IsNamed (in_place_at id w) (λ e named. cond_both (e.id == id) (entry id w) e IsNamed (λ _. sym is) (λ _. named)) entries all

  -- the value of one id is replaced
  module _ (entries : List (Entry V)) (id high : ℕ) (named : AllByRecursion IsNamed entries) (rise : Rise 0 high (map own (seen entries))) (old new : V) (at : value_at entries id ≡ Some old) where
    pub id_of_old : own (f old) ≡ id
    id_of_old = sym (found_has IsNamed entries id old named at)

    -- `g` of the new entries is `h` of the old ones, if that is so at this id and at all others
    each : {Y : Type 0} (g h : Entry V → Y) → g (entry id new) ≡ h (entry id old) → ((e : Entry V) → IsNamed e → (e.id == id) ≡ false → g e ≡ h e) → map g (with_value_at id new entries) ≡ map h entries
    each g h here others =
        map-map g (in_place_at id new) entries
        ∙ map_where (λ e. g (in_place_at id new e)) h entries
        (all_two IsNamed (λ (e : Entry V). e.id ≡ id → e ≡ entry id old) (λ e. g (in_place_at id new e) ≡ h e) entries
        (λ e is once. cond_both (e.id == id) (entry id new) e (λ x. g x ≡ h e) (λ t. here ∙ ap h (sym (once (eqb-true e.id id t)))) (others e is)) named
        (entry_once entries high id old (subst (Rise 0 high) ids rise) at))
      where
        ids : map own (seen entries) ≡ map id_of entries
        ids = map-map own (λ (e : Entry V). f e.value) entries ∙ sym (map_where id_of (λ (e : Entry V). own (f e.value)) entries named)

    pub changed : (change : X → X) → f new ≡ change (f old) → seen (with_value_at id new entries) ≡ map (changed_at own id change) (seen entries)
    changed change made =
        each (λ (e : Entry V). f e.value) (λ (e : Entry V). changed_at own id change (f e.value)) (made ∙ sym (ap (λ b. cond b (change (f old)) (f old)) (eq-eqb (own (f old)) id id_of_old)))
        (λ e is other. sym (ap (λ b. cond b (change (f e.value)) (f e.value)) (subst (λ n. (n == id) ≡ false) is other)))
        ∙ sym (map-map (changed_at own id change) (λ (e : Entry V). f e.value) entries)

    -- what is the same of the old and the new value stays the same of all values
    pub keeping : {Y : Type 0} (g : V → Y) → g new ≡ g old → map (λ (e : Entry V). g e.value) (with_value_at id new entries) ≡ map (λ (e : Entry V). g e.value) entries
    keeping g same = each (λ (e : Entry V). g e.value) (λ (e : Entry V). g e.value) same (λ e _ _. refl)

    -- if the model sees no difference between the old and the new value, it sees none between the tables
    pub unchanged : f new ≡ f old → seen (with_value_at id new entries) ≡ seen entries
    unchanged same = keeping f same

    pub named_with : own (f new) ≡ own (f old) → AllByRecursion IsNamed (with_value_at id new entries)
    named_with same = still_named entries id new (same ∙ id_of_old) named

    -- if the new value is the old one, no entry changes
    pub staying : new ≡ old → with_value_at id new entries ≡ entries
    staying same = sym (map-id (with_value_at id new entries)) ∙ each (λ (e : Entry V). e) (λ (e : Entry V). e) (ap (entry id) same) (λ e _ _. refl) ∙ map-id entries

abbrev pub id_of_view : View → ℕ
id_of_view v = v.id

abbrev pub id_of_document : Document → ℕ
id_of_document d = d.id
