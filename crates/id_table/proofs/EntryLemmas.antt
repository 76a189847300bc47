-- The entries that places and a slab make, and how a change of one value changes them.
use Rattle.id_table.proofs.Names.{◌≡◌, ◌≢◌, ℕ, zero, suc, ◌+◌, ◌<◌, ◌≤◌, true, cond, List, [], ◌∷◌, ◌++◌, length, map, get_or, Option, Some, None, is_some, refl, sym, ap, subst, ◌∙◌, arith, IsSome, IfSome, IfNone, ne_eqb, length-append, eq-eqb, Slab, get, Updates, with_value, ContainsKey, HasRoomFor, slab_len, Place, entry, id_of, value_at, with_value_at, without_id, Rise, entries_by, InOrder, IsTable, IsOrdered, IsAt, IsNowhere}
use Rattle.std.specs.List.{AllByRecursion, remove}
use Rattle.std.proofs.lemmas.List.Sums.{sum_by-set}
use Rattle.std.proofs.lemmas.List.Edits.{length-remove}
use Rattle.slab.proofs.SlabLemmas.{Updates-with_value, ContainsKey-within}

-- an answer that is there
some_of : {T : Type 0} (o : Option T) → IsSome o → (x : T) × (o ≡ Some x)
some_of None h = absurd (cc)
some_of (Some x) h = (x, refl)

is_there : {T : Type 0} (o : Option T) (x : T) → o ≡ Some x → IsSome o
is_there o x e = rw e refl

all_at : {X : Type 0} (P : X → Type 0) (xs : List X) (i : ℕ) (d : X) → i < length xs → AllByRecursion P xs → P (get_or xs i d)
all_at P [] i d lt h = absurd (omega (arith, lt))
all_at P (x ∷ xs) zero d lt h = h.0
all_at P (x ∷ xs) (suc i) d lt h = all_at P xs i d (omega (arith, lt)) h.1

all_without : {X : Type 0} (P : X → Type 0) (xs : List X) (i : ℕ) → AllByRecursion P xs → AllByRecursion P (remove xs i)
all_without P [] zero h = tt
all_without P [] (suc i) h = tt
all_without P (x ∷ xs) zero h = h.1
all_without P (x ∷ xs) (suc i) h = (h.0, all_without P xs i h.1)

all_added : {X : Type 0} (P : X → Type 0) (xs : List X) (x : X) → AllByRecursion P xs → P x → AllByRecursion P (xs ++ x ∷ [])
all_added P [] x h p = (p, tt)
all_added P (y ∷ ys) x h p = (h.0, all_added P ys x h.1 p)

module _ {V : Type 0} where
  -- Ids rise.

  pub below_next : (slab : Slab V) (floor next : ℕ) (ps : List Place) → InOrder slab floor next ps → floor < next
  below_next slab floor next [] h = h
  below_next slab floor next (p ∷ ps) h = omega (arith, h.0, below_next slab p.id next ps h.3)

  -- There are fewer than the next id.
  fewer : (slab : Slab V) (floor next : ℕ) (ps : List Place) → InOrder slab floor next ps → length ps + floor < next
  fewer slab floor next [] h = omega (arith, h)
  fewer slab floor next (p ∷ ps) h = omega (arith, h.0, fewer slab p.id next ps h.3)

  above : (slab : Slab V) (floor next : ℕ) (ps : List Place) (i : ℕ) (d : Place) → i < length ps → InOrder slab floor next ps → floor < (get_or ps i d).id
  above slab floor next [] i d lt h = absurd (omega (arith, lt))
  above slab floor next (p ∷ ps) zero d lt h = h.0
  above slab floor next (p ∷ ps) (suc i) d lt h = omega (arith, h.0, above slab p.id next ps i d (omega (arith, lt)) h.3)

  up : (slab : Slab V) (floor next : ℕ) (ps : List Place) → InOrder slab floor next ps → IsOrdered ps
  up slab floor next [] h i j d le lt = absurd (omega (arith, lt))
  up slab floor next (p ∷ ps) h zero zero d le lt = omega arith
  up slab floor next (p ∷ ps) h zero (suc j) d le lt = omega (arith, above slab p.id next ps j d (omega (arith, lt)) h.3)
  up slab floor next (p ∷ ps) h (suc i) zero d le lt = absurd (omega (arith, le))
  up slab floor next (p ∷ ps) h (suc i) (suc j) d le lt = up slab p.id next ps h.3 i j d (omega (arith, le)) (omega (arith, lt))

  lower : (slab : Slab V) (low floor next : ℕ) (ps : List Place) → low ≤ floor → InOrder slab floor next ps → InOrder slab low next ps
  lower slab low floor next [] le h = omega (arith, le, h)
  lower slab low floor next (p ∷ ps) le h = (omega (arith, le, h.0), h.1, h.2, h.3)

  -- A look-up among the entries.

  pub entries_cons : (slab : Slab V) (p : Place) (ps : List Place) (v : V) → get slab p.key ≡ Some v → entries_by slab (p ∷ ps) ≡ entry p.id v ∷ entries_by slab ps
  entries_cons slab p ps v e = rw e refl

  pub length_entries : (slab : Slab V) (floor next : ℕ) (ps : List Place) → InOrder slab floor next ps → length (entries_by slab ps) ≡ length ps
  length_entries slab floor next [] h = refl
  length_entries slab floor next (p ∷ ps) h =
      let v = some_of (get slab p.key) h.1 in
      rw (entries_cons slab p ps v.0 v.1, length_entries slab p.id next ps h.3) refl

  ids_from : (slab : Slab V) (floor next : ℕ) (ps : List Place) → InOrder slab floor next ps → Rise (floor + 1) next (map (id_of {V = V}) (entries_by slab ps))
  ids_from slab floor next [] h = tt
  ids_from slab floor next (p ∷ ps) h =
      let v = some_of (get slab p.key) h.1 in
      rw (entries_cons slab p ps v.0 v.1) (omega (arith, h.0), below_next slab p.id next ps h.3, ids_from slab p.id next ps h.3)

  pub found : (slab : Slab V) (floor next id : ℕ) (ps : List Place) (at : ℕ) (d : Place) → InOrder slab floor next ps → at < length ps → (get_or ps at d).id ≡ id → value_at (entries_by slab ps) id ≡ get slab (get_or ps at d).key
  found slab floor next id [] at d h lt same = absurd (omega (arith, lt))
  found slab floor next id (p ∷ ps) zero d h lt same =
      let v = some_of (get slab p.key) h.1 in
      rw (entries_cons slab p ps v.0 v.1, eq-eqb p.id id same) (sym v.1)
  found slab floor next id (p ∷ ps) (suc at) d h lt same =
      let v = some_of (get slab p.key) h.1 in
      let low = above slab p.id next ps at d (omega (arith, lt)) h.3 in
      rw (entries_cons slab p ps v.0 v.1, ne_eqb p.id id (λ k. omega (arith, k, low, same))) (found slab p.id next id ps at d h.3 (omega (arith, lt)) same)

  missing : (slab : Slab V) (floor next id : ℕ) (ps : List Place) → InOrder slab floor next ps → IsNowhere id ps → value_at (entries_by slab ps) id ≡ None
  missing slab floor next id [] h nowhere = refl
  missing slab floor next id (p ∷ ps) h nowhere =
      let v = some_of (get slab p.key) h.1 in
      rw (entries_cons slab p ps v.0 v.1, ne_eqb p.id id (nowhere 0 p (omega arith) (omega arith))) (missing slab p.id next id ps h.3 (λ k d low high. nowhere (suc k) d (omega arith) (omega (arith, high))))

  nothing_to_remove : (slab : Slab V) (floor next id : ℕ) (ps : List Place) → InOrder slab floor next ps → IsNowhere id ps → without_id id (entries_by slab ps) ≡ entries_by slab ps
  nothing_to_remove slab floor next id [] h nowhere = refl
  nothing_to_remove slab floor next id (p ∷ ps) h nowhere =
      let v = some_of (get slab p.key) h.1 in
      rw (entries_cons slab p ps v.0 v.1, ne_eqb p.id id (nowhere 0 p (omega arith) (omega arith)), nothing_to_remove slab p.id next id ps h.3 (λ k d low high. nowhere (suc k) d (omega arith) (omega (arith, high)))) refl

  -- A change at an id leaves the entries above it alone.

  with_above : (slab : Slab V) (floor next id : ℕ) (w : V) (ps : List Place) → id ≤ floor → InOrder slab floor next ps → with_value_at id w (entries_by slab ps) ≡ entries_by slab ps
  with_above slab floor next id w [] le h = refl
  with_above slab floor next id w (p ∷ ps) le h =
      let v = some_of (get slab p.key) h.1 in
      rw (entries_cons slab p ps v.0 v.1, ne_eqb p.id id (λ k. omega (arith, k, le, h.0)), with_above slab p.id next id w ps (omega (arith, le, h.0)) h.3) refl

  without_above : (slab : Slab V) (floor next id : ℕ) (ps : List Place) → id ≤ floor → InOrder slab floor next ps → without_id id (entries_by slab ps) ≡ entries_by slab ps
  without_above slab floor next id [] le h = refl
  without_above slab floor next id (p ∷ ps) le h =
      let v = some_of (get slab p.key) h.1 in
      rw (entries_cons slab p ps v.0 v.1, ne_eqb p.id id (λ k. omega (arith, k, le, h.0)), without_above slab p.id next id ps (omega (arith, le, h.0)) h.3) refl

  -- One key changes: the entries of other places stay.
  module _ (old new : Slab V) (key : ℕ) (others : (k : ℕ) → k ≢ key → get new k ≡ get old k) where
    entries_kept : (ps : List Place) → AllByRecursion (λ (q : Place). q.key ≢ key) ps → entries_by new ps ≡ entries_by old ps
    entries_kept [] apart = refl
    entries_kept (p ∷ ps) apart = rw (others p.key apart.0, entries_kept ps apart.1) refl

    order_kept : (floor next : ℕ) (ps : List Place) → AllByRecursion (λ (q : Place). q.key ≢ key) ps → InOrder old floor next ps → InOrder new floor next ps
    order_kept floor next [] apart h = h
    order_kept floor next (p ∷ ps) apart h =
        (h.0, subst IsSome (sym (others p.key apart.0)) h.1, h.2, order_kept p.id next ps apart.1 h.3)

    -- another value at that key
    pub written : (w : V) → get new key ≡ Some w → (floor next id : ℕ) (ps : List Place) (at : ℕ) (d : Place) → InOrder old floor next ps → at < length ps → (get_or ps at d).id ≡ id → (get_or ps at d).key ≡ key
        → (entries_by new ps ≡ with_value_at id w (entries_by old ps)) × InOrder new floor next ps
    written w is floor next id [] at d h lt same there = absurd (omega (arith, lt))
    written w is floor next id (p ∷ ps) zero d h lt same there =
        let v = some_of (get old p.key) h.1 in
        let apart = subst (λ (k : ℕ). AllByRecursion (λ (q : Place). q.key ≢ k) ps) there h.2 in
        let now : get new p.key ≡ Some w = ap (get new) there ∙ is in
        let rest = with_above old p.id next id w ps (omega (arith, same)) h.3 in (
          rw (entries_cons new p ps w now, entries_cons old p ps v.0 v.1, eq-eqb p.id id same, rest, entries_kept ps apart, same) refl,
          (h.0, is_there (get new p.key) w now, h.2, order_kept p.id next ps apart h.3),
        )
    written w is floor next id (p ∷ ps) (suc at) d h lt same there =
        let v = some_of (get old p.key) h.1 in
        let low = above old p.id next ps at d (omega (arith, lt)) h.3 in
        let differs : p.key ≢ key = λ k. all_at (λ (q : Place). q.key ≢ p.key) ps at d (omega (arith, lt)) h.2 (there ∙ sym k) in
        let now : get new p.key ≡ Some v.0 = others p.key differs ∙ v.1 in
        let rest = written w is p.id next id ps at d h.3 (omega (arith, lt)) same there in (
          rw (entries_cons new p ps v.0 now, entries_cons old p ps v.0 v.1, ne_eqb p.id id (λ k. omega (arith, k, low, same)), rest.0) refl,
          (h.0, is_there (get new p.key) v.0 now, h.2, rest.1),
        )

    -- that place is removed
    pub removed : (floor next id : ℕ) (ps : List Place) (at : ℕ) (d : Place) → InOrder old floor next ps → at < length ps → (get_or ps at d).id ≡ id → (get_or ps at d).key ≡ key
        → (entries_by new (remove ps at) ≡ without_id id (entries_by old ps)) × InOrder new floor next (remove ps at)
    removed floor next id [] at d h lt same there = absurd (omega (arith, lt))
    removed floor next id (p ∷ ps) zero d h lt same there =
        let v = some_of (get old p.key) h.1 in
        let apart = subst (λ (k : ℕ). AllByRecursion (λ (q : Place). q.key ≢ k) ps) there h.2 in
        let rest = without_above old p.id next id ps (omega (arith, same)) h.3 in (
          rw (entries_cons old p ps v.0 v.1, eq-eqb p.id id same, rest) (entries_kept ps apart),
          order_kept floor next ps apart (lower old floor p.id next ps (omega (arith, h.0)) h.3),
        )
    removed floor next id (p ∷ ps) (suc at) d h lt same there =
        let v = some_of (get old p.key) h.1 in
        let low = above old p.id next ps at d (omega (arith, lt)) h.3 in
        let differs : p.key ≢ key = λ k. all_at (λ (q : Place). q.key ≢ p.key) ps at d (omega (arith, lt)) h.2 (there ∙ sym k) in
        let now : get new p.key ≡ Some v.0 = others p.key differs ∙ v.1 in
        let rest = removed p.id next id ps at d h.3 (omega (arith, lt)) same there in (
          rw (entries_cons new p (remove ps at) v.0 now, entries_cons old p ps v.0 v.1, ne_eqb p.id id (λ k. omega (arith, k, low, same)), rest.0) refl,
          (h.0, is_there (get new p.key) v.0 now, all_without (λ (q : Place). q.key ≢ p.key) ps at h.2, rest.1),
        )

    -- a place with that key is appended, where all others have other keys
    pub added : (w : V) → get new key ≡ Some w → get old key ≡ None → (floor next : ℕ) (ps : List Place) (p : Place) → p.id ≡ next → p.key ≡ key → InOrder old floor next ps
        → (entries_by new (ps ++ p ∷ []) ≡ entries_by old ps ++ entry next w ∷ []) × InOrder new floor (next + 1) (ps ++ p ∷ [])
    added w is was floor next [] p same there h = (
      rw (there, is, same) refl,
      (omega (arith, h, same), rw there (is_there (get new key) w is), tt, omega (arith, same)),
    )
    added w is was floor next (q ∷ ps) p same there h =
        let v = some_of (get old q.key) h.1 in
        let differs : q.key ≢ key = λ k. absurd (cc) in
        let now : get new q.key ≡ Some v.0 = others q.key differs ∙ v.1 in
        let rest = added w is was q.id next ps p same there h.3 in (
          rw (entries_cons new q (ps ++ p ∷ []) v.0 now, entries_cons old q ps v.0 v.1, rest.0) refl,
          (h.0, is_there (get new q.key) v.0 now, all_added (λ (r : Place). r.key ≢ q.key) ps p h.2 (λ k. differs (sym k ∙ there)), rest.1),
        )

  pub key_there : (slab : Slab V) (floor next : ℕ) (ps : List Place) (at : ℕ) (d : Place) → at < length ps → InOrder slab floor next ps → ContainsKey slab (get_or ps at d).key
  key_there slab floor next [] at d lt h = absurd (omega (arith, lt))
  key_there slab floor next (p ∷ ps) zero d lt h = h.1
  key_there slab floor next (p ∷ ps) (suc at) d lt h = key_there slab p.id next ps at d (omega (arith, lt)) h.3

  length_with : (slab : Slab V) (key : ℕ) (w : V) → ContainsKey slab key → slab_len (with_value slab key w) ≡ slab_len slab
  length_with slab key w there =
      let v = some_of (get slab key) there in
      let more = sum_by-set (λ (o : Option V). cond (is_some o) 1 0) slab.slots key (Some w) None (ContainsKey-within slab key there) in
      let one : cond (is_some (get slab key)) (suc zero) zero ≡ suc zero = rw v.1 refl in
      omega (arith, more, one)

  -- The same for a whole table.
  module _ (slab : Slab V) (ps : List Place) (next : ℕ) (table : IsTable slab ps next) where
    pub length_table : length (entries_by slab ps) ≡ length ps
    length_table = length_entries slab 0 next ps table.ordered

    -- so many more values fit
    pub has_room : (count : ℕ) → length (entries_by slab ps) + count ≤ slab.capacity → HasRoomFor slab count
    has_room count fits = omega (arith, fits, length_table, table.all)

    pub has_place : (capacity : ℕ) → length (entries_by slab ps) + 1 ≤ capacity → length ps < capacity
    has_place capacity fits = omega (arith, fits, length_table)

    pub ids_rise : Rise 1 next (map (id_of {V = V}) (entries_by slab ps))
    ids_rise = ids_from slab 0 next ps table.ordered

    pub table_ordered : IsOrdered ps
    table_ordered = up slab 0 next ps table.ordered

    pub value_found : (id at : ℕ) (p : Place) → IsAt id ps at → p ≡ get_or ps at p → value_at (entries_by slab ps) id ≡ get slab p.key
    value_found id at p is_at e = found slab 0 next id ps at p table.ordered is_at.0 (is_at.1 p) ∙ ap (λ (q : Place). get slab q.key) (sym e)

    pub value_missing : (id : ℕ) → IsNowhere id ps → value_at (entries_by slab ps) id ≡ None
    value_missing id nowhere = missing slab 0 next id ps table.ordered nowhere

    pub without_missing : (id : ℕ) → IsNowhere id ps → without_id id (entries_by slab ps) ≡ entries_by slab ps
    without_missing id nowhere = nothing_to_remove slab 0 next id ps table.ordered nowhere

    value_at_some : (id at : ℕ) → IsAt id ps at → is_some (value_at (entries_by slab ps) id) ≡ true
    value_at_some id at is_at = of_place ps refl
      where
        of_place : (qs : List Place) → qs ≡ ps → is_some (value_at (entries_by slab ps) id) ≡ true
        of_place [] e = absurd (omega (arith, is_at.0, sym (ap (λ (rs : List Place). length rs) e)))
        of_place (d ∷ qs) e = ap is_some (found slab 0 next id ps at d table.ordered is_at.0 (is_at.1 d)) ∙ key_there slab 0 next ps at d is_at.0 table.ordered

    pub is_there_of : (id : ℕ) (o : Option ℕ) → IfSome o (IsAt id ps) → IfNone o (IsNowhere id ps) → is_some o ≡ is_some (value_at (entries_by slab ps) id)
    is_there_of id None some none = sym (ap is_some (value_missing id none))
    is_there_of id (Some at) some none = sym (value_at_some id at some)

    pub has_key : (id at : ℕ) (p : Place) → IsAt id ps at → p ≡ get_or ps at p → ContainsKey slab p.key
    has_key id at p is_at e = subst (λ (q : Place). ContainsKey slab q.key) (sym e) (key_there slab 0 next ps at p is_at.0 table.ordered)

    -- the value of an id is replaced
    pub written_table : (id at : ℕ) (p : Place) (w : V) → IsAt id ps at → p ≡ get_or ps at p
        → (entries_by (with_value slab p.key w) ps ≡ with_value_at id w (entries_by slab ps)) × IsTable (with_value slab p.key w) ps next
    written_table id at p w is_at e =
        let there : ContainsKey slab p.key = has_key id at p is_at e in
        let u : Updates slab (with_value slab p.key w) p.key (Some w) = Updates-with_value slab p.key w there in
        let r = written slab (with_value slab p.key w) p.key u.others w u.changed 0 next id ps at p table.ordered is_at.0 (is_at.1 p) (ap (λ (q : Place). q.key) (sym e)) in
        let same : slab_len (with_value slab p.key w) ≡ slab_len slab = length_with slab p.key w there in (
          r.0,
          record { ordered = r.1; all = same ∙ table.all },
        )

    -- the value of an id is removed, and its place
    pub removed_table : (id at : ℕ) (p : Place) (new : Slab V) → IsAt id ps at → p ≡ get_or ps at p → Updates slab new p.key None → slab_len new + 1 ≡ slab_len slab
        → (entries_by new (remove ps at) ≡ without_id id (entries_by slab ps)) × IsTable new (remove ps at) next
    removed_table id at p new is_at e u less =
        let r = removed slab new p.key u.others 0 next id ps at p table.ordered is_at.0 (is_at.1 p) (ap (λ (q : Place). q.key) (sym e)) in
        let shorter = length-remove ps at is_at.0 in (
          r.0,
          record { ordered = r.1; all = omega (arith, less, shorter, table.all) },
        )

    -- a value is appended, under the next id
    pub added_table : (p : Place) (w : V) (new : Slab V) → p.id ≡ next → get slab p.key ≡ None → Updates slab new p.key (Some w) → slab_len new ≡ slab_len slab + 1
        → (entries_by new (ps ++ p ∷ []) ≡ entries_by slab ps ++ entry next w ∷ []) × IsTable new (ps ++ p ∷ []) (next + 1)
    added_table p w new id was u more =
        let r = added slab new p.key u.others w u.changed was 0 next ps p id refl table.ordered in
        let longer = length-append ps (p ∷ []) in (
          r.0,
          record { ordered = r.1; all = omega (arith, more, longer, table.all) },
        )

    -- the slab has room for more
    pub wider_table : (new : Slab V) → new.slots ≡ slab.slots → (entries_by new ps ≡ entries_by slab ps) × IsTable new ps next
    wider_table new same = (
      ap (λ (slots : List (Option V)). entries_by (record slab { slots = slots }) ps) same,
      record {
        ordered = subst (λ (slots : List (Option V)). InOrder (record slab { slots = slots }) 0 next ps) (sym same) table.ordered;
        all = rw same table.all;
      },
    )
