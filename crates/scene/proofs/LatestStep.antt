-- The caret after the latest step of the text among the first changes.
use Rattle.scene.proofs.Names.{◌≡◌, ℕ, ◌+◌, ◌^◌, ◌<◌, ◌≤◌, List, [], ◌∷◌, length, take, reverse, get_or, refl, ap, ap₂, sym, ◌∙◌, arith, slice_get, Option, Some, take_more, take_all, reverse-append, slice_get_within, get_or_from_slice_get, LineEndTypes, Change, TextStep, ContainerStep, latest_text_step, outline_of, need_of_change, ChangeFits, place_behind_any, place_by}
use Rattle.ed_model.specs.Steps as model
use Rattle.document.specs.declared.undoing.ChangeOutline.{ChangeOutline}
use Rattle.document.specs.declared.undoing.ChangeOutline.TheVariants.{Insert}

-- the place of the caret after the first n changes
abbrev pub behind_first : List Change → ℕ → Option ℕ
behind_first cs n = place_behind_any (latest_text_step (reverse (take n cs)))

-- the place after all of them
pub behind_all : (cs : List Change) (n : ℕ) → length cs ≤ n → behind_first cs n ≡ place_behind_any (latest_text_step (reverse cs))
behind_all cs n all = ap (λ t. place_behind_any (latest_text_step (reverse t))) (take_all n cs all)

one_more : (cs : List Change) (i : ℕ) (c : Change) → slice_get cs i ≡ Some c → reverse (take (i + 1) cs) ≡ c ∷ reverse (take i cs)
one_more cs i c e =
    ap (λ t. reverse t) (take_more cs i c (slice_get_within cs i c e)) ∙ reverse-append (take i cs) (get_or cs i c ∷ [])
    ∙ ap (λ x. x ∷ reverse (take i cs)) (get_or_from_slice_get cs i c c e)

by_outline : (c : Change) (cs : List Change) → place_by (outline_of c) (place_behind_any (latest_text_step cs)) ≡ place_behind_any (latest_text_step (c ∷ cs))
by_outline (TextStep (model.Insert p bytes)) cs = refl
by_outline (TextStep (model.Delete p bytes)) cs = refl
by_outline (ContainerStep token coalesce) cs = refl

-- the place after one more change
pub caret_next : (cs : List Change) (i : ℕ) (c : Change) (o : ChangeOutline) (before : Option ℕ) → slice_get cs i ≡ Some c → o ≡ outline_of c → before ≡ behind_first cs i
    → place_by o before ≡ behind_first cs (i + 1)
caret_next cs i c o before at e b =
    ap₂ place_by e b ∙ by_outline c (reverse (take i cs)) ∙ ap (λ t. place_behind_any (latest_text_step t)) (sym (one_more cs i c at))

-- an insertion that has its room ends at a place that is small enough
pub ends_small : (types : LineEndTypes) (c : Change) (text : List ℕ) (place count : ℕ) → Insert place count ≡ outline_of c → ChangeFits c text
    → length text + (need_of_change types c).text < 2 ^ 61 → place + count < 2 ^ 64
ends_small types (TextStep (model.Insert p bytes)) text place count e fits bound =
    let a : place ≡ p = cc in
    let b : count ≡ length bytes = cc in
    let within : p ≤ length text = fits in
    omega arith
ends_small types (TextStep (model.Delete p bytes)) text place count e fits bound = absurd (cc)
ends_small types (ContainerStep token coalesce) text place count e fits bound = absurd (cc)
