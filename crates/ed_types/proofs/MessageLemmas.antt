-- Kinds and their numbers.
use Rattle.std.proofs.Common.{◌≡◌, ℕ, Bool, true, false, cond, List, [], ◌∷◌, ◌++◌, refl, ◌==◌, Some, None}
use Rattle.std.proofs.lemmas.Bool.{eqb-true}
use Rattle.ed_types.specs.declared.kind.Kind.{Kind}
use Rattle.ed_types.specs.declared.kind.Kind.TheVariants as kinds
use Rattle.ed_types.specs.Messages.{number_of, kind_among, every_kind}
use Rattle.ed_types.specs.proved.Found.{found_test}
use Rattle.ed_types.specs.MessagesLaws.{EachKindIsFound, OnlyItsNumberFindsAKind}

pub only_its_number_finds_a_kind : OnlyItsNumberFindsAKind
only_its_number_finds_a_kind number kind e = eqb-true (number_of kind) number (found_test (λ k. number_of k == number) every_kind kind e)

-- The second line is checked for each of the other kinds.
pub each_kind_is_found : EachKindIsFound
each_kind_is_found kinds.AddText = refl
each_kind_is_found _ = refl

-- what is in neither list
pub none_of_both : (first second : List Kind) (number : ℕ) → kind_among first number ≡ None → kind_among second number ≡ None → kind_among (first ++ second) number ≡ None
none_of_both [] second number none also = also
none_of_both (k ∷ ks) second number none also = go (number_of k == number) none (λ e. none_of_both ks second number e also)
  where
    go : (b : Bool) → cond b (Some k) (kind_among ks number) ≡ None → (kind_among ks number ≡ None → kind_among (ks ++ second) number ≡ None) → cond b (Some k) (kind_among (ks ++ second) number) ≡ None
    go true none rest = absurd (cc)
    go false none rest = rest none
