-- The chain of fold parents, one parent at a time.
use Rattle.std.proofs.Common.{◌≡◌, ℕ, zero, suc, Bool, true, false, cond, List, ◌∷◌, reverse, Option, Some, sym, refl, ap, ◌∙◌}
use Rattle.std.specs.Prelude.{find}
use Rattle.std.specs.List.{range_with_len}
use Rattle.ed_model.specs.Folding.{is_parent_of, parents_among, fold_parent, fold_parents, parents_from}
use Rattle.ed_model.specs.proved.Rising.{reverse_next}

-- the nearest parent of the line among the first `m` lines
abbrev pub parent_before : List ℕ → ℕ → ℕ → Option ℕ
parent_before levels line m = find (is_parent_of levels line) (reverse (range_with_len 0 m))

among : (levels : List ℕ) (line m : ℕ) → parents_among levels line (reverse (range_with_len 0 m)) ≡ parents_from levels (parent_before levels line m)
among levels line zero = refl
among levels line (suc m) =
    ap (parents_among levels line) (reverse_next m) ∙ go (is_parent_of levels line m) (among levels line m)
    ∙ sym (ap (λ l. parents_from levels (find (is_parent_of levels line) l)) (reverse_next m))
  where
    go : (b : Bool) → parents_among levels line (reverse (range_with_len 0 m)) ≡ parents_from levels (parent_before levels line m)
        → cond b (m ∷ parents_among levels m (reverse (range_with_len 0 m))) (parents_among levels line (reverse (range_with_len 0 m)))
        ≡ parents_from levels (cond b (Some m) (parent_before levels line m))
    go true e = refl
    go false e = e

-- the fold parents of a line are its fold parent and then the fold parents of that one
pub parents_are : (levels : List ℕ) (line : ℕ) → fold_parents levels line ≡ parents_from levels (fold_parent levels line)
parents_are levels line = among levels line line
