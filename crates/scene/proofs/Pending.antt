-- Of the views that watch, those that are still to be notified.
use Rattle.scene.proofs.Names.{◌≡◌, ℕ, ◌+◌, ◌<◌, ◌≤◌, Bool, true, false, cond, suc, List, [], ◌∷◌, refl, ap, sym, ◌∙◌, length, get_or, drop, arith, drop-cons, drop_all, ◌==◌, Some, None, find, filter_map, option_map, cons_option, View, view_at, Entry, value_at, value_of, KeptView, view_in, found_none, found_some, id_of_view, Everyone, Hearers, views_of, AreNamed, audience_of, belongs}
use Rattle.scene.specs.declared.telling.Audience.{Audience}

-- of the views with these ids, those in the audience
abbrev pub pending : Audience → ℕ → List (Entry KeptView) → List ℕ → List View
pending audience kind entries ids = audience_of audience kind (filter_map (view_at (views_of entries)) ids)

-- the ids from `i` on are the next id and the ids after it
pub drop_next : (ids : List ℕ) (i : ℕ) → i < length ids → drop i ids ≡ get_or ids i 0 ∷ drop (i + 1) ids
drop_next ids i h = let s : i + 1 ≡ suc i = omega arith in rw s (drop-cons ids i 0 h)

found : (audience : Audience) (kind : ℕ) (entries : List (Entry KeptView)) (id : ℕ) (ids : List ℕ) (k : KeptView) (told : Bool) → AreNamed entries → value_at entries id ≡ Some k
    → belongs audience kind k.view ≡ told → pending audience kind entries (id ∷ ids) ≡ cond told (k.view ∷ pending audience kind entries ids) (pending audience kind entries ids)
found Everyone kind entries id ids k told named at is = let e : view_at (views_of entries) id ≡ Some k.view = found_some view_in id_of_view entries id k named at in rw (e, sym is) refl
found Hearers kind entries id ids k told named at is = let e : view_at (views_of entries) id ≡ Some k.view = found_some view_in id_of_view entries id k named at in rw (e, is) refl

module _ (audience : Audience) (kind : ℕ) (entries : List (Entry KeptView)) (ids : List ℕ) (i : ℕ) (named : AreNamed entries) (h : i < length ids) where
  -- the view with the next id is pending if it is in the audience, which `told` says
  pub next_found : (k : KeptView) (told : Bool) → value_at entries (get_or ids i 0) ≡ Some k → belongs audience kind k.view ≡ told
      → pending audience kind entries (drop i ids) ≡ cond told (k.view ∷ pending audience kind entries (drop (i + 1) ids)) (pending audience kind entries (drop (i + 1) ids))
  next_found k told at is = ap (pending audience kind entries) (drop_next ids i h) ∙ found audience kind entries (get_or ids i 0) (drop (i + 1) ids) k told named at is

  pub next_missing : value_at entries (get_or ids i 0) ≡ None → pending audience kind entries (drop i ids) ≡ pending audience kind entries (drop (i + 1) ids)
  next_missing at =
      ap (pending audience kind entries) (drop_next ids i h)
      ∙ ap (λ o. audience_of audience kind (cons_option o (filter_map (view_at (views_of entries)) (drop (i + 1) ids)))) (found_none view_in id_of_view entries (get_or ids i 0) named at)

pub nothing_pending : (audience : Audience) (kind : ℕ) (entries : List (Entry KeptView)) (ids : List ℕ) (i : ℕ) → length ids ≤ i
    → pending audience kind entries (drop i ids) ≡ []
nothing_pending Everyone kind entries ids i h = ap (pending Everyone kind entries) (drop_all i ids h)
nothing_pending Hearers kind entries ids i h = ap (pending Hearers kind entries) (drop_all i ids h)
