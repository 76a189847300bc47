-- Elements of lists that are found.
use Rattle.std.proofs.Common.{◌≡◌, Bool, true, false, cond, List, [], ◌∷◌, refl, subst}
use Rattle.std.specs.Prelude.{Some, find}

-- an element that is found passes the test
pub found_test : {X : Type 0} (test : X → Bool) (xs : List X) (x : X) → find test xs ≡ Some x → test x ≡ true
found_test test [] x e = absurd (cc)
found_test {X} test (y ∷ ys) x e = go (test y) refl e (λ e. found_test test ys x e)
  where
    go : (b : Bool) → test y ≡ b → cond b (Some y) (find test ys) ≡ Some x → (find test ys ≡ Some x → test x ≡ true) → test x ≡ true
    go true t e rest = let same : y ≡ x = cc in subst (λ z. test z ≡ true) same t
    go false t e rest = rest e
