-- What a binary search finds among places.
use Rattle.id_table.proofs.Names.{ℕ, ◌<◌, ◌≤◌, List, length, get_or, Result, Ok, Err, IfSome, IfNone, sym, arith, ⊎_elim, cases_lt, Place, IsOrdered, IsAt, IsNowhere}
use Rattle.std.specs.Result.{result_ok}
use Rattle.std.specs.List.Sorted.{IsSearchInRange, IsBinarySearchResult, IsNonDecreasingBy}
use Rattle.std.specs.Ordering.{nat_cmp, ordering_index}
use Rattle.std.proofs.lemmas.Cmp.{ranked}
use Rattle.std.proofs.lemmas.Bool.Decides.{nat_tests}

module _ (ps : List Place) (ordered : IsOrdered ps) (id : ℕ) where
  -- the comparisons with an id rise along the order, as a binary search asks
  comparisons_rise : IsNonDecreasingBy (λ (p : Place). ordering_index (nat_cmp p.id id)) ps
  comparisons_rise i j d le lt = grind (arith, nat_tests, ordered i j d le lt)

  -- a binary search ends at the place of the id, or between those with other ids
  pub searched : (r : Result ℕ ℕ) → IsSearchInRange r (length ps) → IsBinarySearchResult (λ (p : Place). nat_cmp p.id id) ps r → record { found : IfSome (result_ok r) (IsAt id ps); missing : IfNone (result_ok r) (IsNowhere id ps) }
  searched (Ok at) in_range equal = record { found = (in_range, λ d. ranked _ id _ (sym (equal d))); missing = tt }
  searched (Err at) in_range parted =
      let parts = parted comparisons_rise in
      record {
        found = tt;
        missing = λ k d low high same. ⊎_elim
            (λ (below : k < at). let less = ranked (get_or ps k d).id id _ (sym (parts.0 k d low below)) in omega (arith, same, less))
            (λ (above : at ≤ k). let more = ranked (get_or ps k d).id id _ (sym (parts.1 k d above high)) in omega (arith, same, more))
            (cases_lt k at);
      }
