-- Two lists of views that are alike: the ids and documents are the same, and the views of documents for which `Own` holds are equal.
use Rattle.run_laws.proofs.Names.{◌≡◌, ℕ, Bool, true, false, cond, List, [], ◌∷◌, map, refl, ap, sym, ◌∙◌, subst, Option, Some, None, ◌==◌, filter_map, AllByRecursion, cons_option, eqb-true, View, view_at, IsViewOn, views_on}

pub record IsAlike (Own : ℕ → Type 0) (v w : View) : Type 0 where
  pub id : w.id ≡ v.id
  pub document : w.document ≡ v.document
  pub own : Own v.document → w ≡ v

pub data AreAlike (Own : ℕ → Type 0) : List View → List View → Type 0 where
  none_left : AreAlike Own [] []
  one_more : {v w : View} {vs ws : List View} → IsAlike Own v w → AreAlike Own vs ws → AreAlike Own (v ∷ vs) (w ∷ ws)

-- the results of a look-up in both lists
pub data FoundAlike (Own : ℕ → Type 0) : Option View → Option View → Type 0 where
  neither : FoundAlike Own None None
  both : {v w : View} → IsAlike Own v w → FoundAlike Own (Some v) (Some w)

module _ {Own : ℕ → Type 0} where
  pub alike_same : (v : View) → IsAlike Own v v
  alike_same v = record { id = refl; document = refl; own = λ o. refl }

  pub all_alike : (vs : List View) → AreAlike Own vs vs
  all_alike [] = none_left
  all_alike (v ∷ vs) = one_more (alike_same v) (all_alike vs)

  pub alike_turned : {vs ws : List View} → AreAlike Own vs ws → AreAlike Own ws vs
  alike_turned none_left = none_left
  alike_turned (one_more h hs) =
      one_more (record { id = sym h.id; document = sym h.document; own = λ o. sym (h.own (subst Own h.document o)) }) (alike_turned hs)

  pub alike_through : {vs ws xs : List View} → AreAlike Own vs ws → AreAlike Own ws xs → AreAlike Own vs xs
  alike_through none_left k = k
  alike_through (one_more h hs) (one_more k ks) =
      one_more (record { id = k.id ∙ h.id; document = k.document ∙ h.document; own = λ o. k.own (subst Own (sym h.document) o) ∙ h.own o }) (alike_through hs ks)

  -- views that are changed one by one, such that those for which `Own` holds stay
  pub alike_changed : (P : View → Type 0) (f : View → View) → ((v : View) → P v → IsAlike Own v (f v)) → (vs : List View) → AllByRecursion P vs → AreAlike Own vs (map f vs)
  alike_changed P f h [] all = none_left
  alike_changed P f h (v ∷ vs) all = one_more (h v all.0) (alike_changed P f h vs all.1)

  -- the same change of both lists
  pub alike_both : (f : View → View) → ((v w : View) → IsAlike Own v w → IsAlike Own (f v) (f w)) → {vs ws : List View} → AreAlike Own vs ws → AreAlike Own (map f vs) (map f ws)
  alike_both f h none_left = none_left
  alike_both f h (one_more {v = v} {w = w} k ks) = one_more (h v w k) (alike_both f h ks)

  -- .. if it keeps ids and documents
  pub alike_kept : (f : View → View) → ((v : View) → (f v).id ≡ v.id) → ((v : View) → (f v).document ≡ v.document) → {vs ws : List View} → AreAlike Own vs ws → AreAlike Own (map f vs) (map f ws)
  alike_kept f id document h = alike_both f (λ v w k. record {
    id = id w ∙ k.id ∙ sym (id v);
    document = document w ∙ k.document ∙ sym (document v);
    own = λ o. ap f (k.own (subst Own (document v) o));
  }) h

  pub found_alike : (id : ℕ) {vs ws : List View} → AreAlike Own vs ws → FoundAlike Own (view_at vs id) (view_at ws id)
  found_alike id none_left = neither
  found_alike id (one_more {v = v} {w = w} {vs = vs} {ws = ws} h hs) =
      subst (λ n. FoundAlike Own (cond (v.id == id) (Some v) (view_at vs id)) (cond (n == id) (Some w) (view_at ws id))) (sym h.id) (go (v.id == id) (found_alike id hs))
    where
      go : (b : Bool) → FoundAlike Own (view_at vs id) (view_at ws id) → FoundAlike Own (cond b (Some v) (view_at vs id)) (cond b (Some w) (view_at ws id))
      go true k = both h
      go false k = k

  pub own_found : (id : ℕ) (v : View) {vs ws : List View} → AreAlike Own vs ws → view_at vs id ≡ Some v → Own v.document → view_at ws id ≡ Some v
  own_found id v h e own = go (found_alike id h) e
    where
      go : {o p : Option View} → FoundAlike Own o p → o ≡ Some v → p ≡ Some v
      go neither f = absurd (cc)
      go (both {v = x} k) f = let same : x ≡ v = cc in ap Some (k.own (subst (λ (y : View). Own y.document) (sym same) own) ∙ same)

  pub none_found : (id : ℕ) {vs ws : List View} → AreAlike Own vs ws → view_at vs id ≡ None → view_at ws id ≡ None
  none_found id h e = go (found_alike id h) e
    where
      go : {o p : Option View} → FoundAlike Own o p → o ≡ None → p ≡ None
      go neither f = refl
      go (both k) f = absurd (cc)

  -- which views exist, and on which documents, stays
  pub kept_on : (P : ℕ → ℕ → Type 0) {vs ws : List View} → AreAlike Own vs ws → AllByRecursion (λ (v : View). P v.id v.document) vs → AllByRecursion (λ (v : View). P v.id v.document) ws
  kept_on P none_left all = tt
  kept_on P (one_more {v = v} {w = w} h hs) all = (subst (λ n. P n w.document) (sym h.id) (subst (P v.id) (sym h.document) all.0), kept_on P hs all.1)

-- the views of one document are equal
pub views_on_alike : (id : ℕ) {vs ws : List View} → AreAlike (λ n. n ≡ id) vs ws → views_on id vs ≡ views_on id ws
views_on_alike id none_left = refl
views_on_alike id (one_more {v = v} {w = w} {vs = vs} {ws = ws} h hs) =
    subst (λ n. views_on id (v ∷ vs) ≡ cond (n == id) (w ∷ views_on id ws) (views_on id ws)) (sym h.document) (go (v.document == id) refl (views_on_alike id hs))
  where
    go : (b : Bool) → (v.document == id) ≡ b → views_on id vs ≡ views_on id ws → cond b (v ∷ views_on id vs) (views_on id vs) ≡ cond b (w ∷ views_on id ws) (views_on id ws)
    go true t k = let same : w ≡ v = h.own (eqb-true v.document id t) in ap (λ x. x ∷ views_on id vs) (sym same) ∙ ap (λ xs. w ∷ xs) k
    go false t k = k

-- a document's list of views gives the same views in both lists
pub watching_alike : (id : ℕ) {vs ws : List View} (ids : List ℕ) → AreAlike (λ n. n ≡ id) vs ws → AllByRecursion (IsViewOn vs id) ids → filter_map (view_at ws) ids ≡ filter_map (view_at vs) ids
watching_alike id [] h all = refl
watching_alike id {vs} {ws} (k ∷ ks) h all =
    ap (λ (o : Option View). cons_option o (filter_map (view_at ws) ks)) (own_found k all.0.0 h all.0.1 all.0.2 ∙ sym all.0.1)
    ∙ ap (cons_option (view_at vs k)) (watching_alike id ks h all.1)
