-- The steps of a conversion of line ends can be performed one after another.
use Rattle.ed_model.proofs.Names.{◌≡◌, ℕ, ◌+◌, ◌-◌, ◌≤◌, ◌<◌, Bool, true, false, List, [], ◌∷◌, ◌++◌, length, take, drop, refl, ap, sym, ◌∙◌, subst, arith, append_assoc, length-append, slice_range, ◌==◌, drop_at, line_feed, carriage_return, after_steps, conversion_steps, lacks_return, lacks_feed, missing_at, missing_from, is_unwanted, unwanted_at, place_after, unwanted_from, IsStepOf, AreStepsOf, inserted_between, deleted_between}
use Rattle.ed_model.specs.declared.plan.LineEnd.{LineEnd}
use Rattle.ed_model.proofs.SoundSteps.{fit_append}

missing_fits : (to : LineEnd) (rest : List ℕ) (after : Bool) (p : ℕ) (front : List ℕ) → length front ≡ p → AreStepsOf (front ++ rest) (missing_from p after to rest)
missing_fits to [] after p front e = tt
missing_fits to (b ∷ bs) after p front e = go (lacks_return after to b) (lacks_feed to b bs) (λ flag q start h. missing_fits to bs flag q start h)
  where
    lit_one : 0 < 1
    lit_one = omega arith

    go : (x y : Bool) → ((flag : Bool) (q : ℕ) (start : List ℕ) → length start ≡ q → AreStepsOf (start ++ bs) (missing_from q flag to bs))
        → AreStepsOf (front ++ b ∷ bs) (missing_at p x y ++ missing_from (p + 1 + length (missing_at p x y)) (b == carriage_return) to bs)
    go true y rest = (
      (simp length-append (omega arith), lit_one),
      subst (λ t. AreStepsOf t (missing_from (p + 1 + 1) (b == carriage_return) to bs))
          (append_assoc front (carriage_return ∷ b ∷ []) bs ∙ sym (inserted_between p front (carriage_return ∷ []) (b ∷ bs) e))
          (rest (b == carriage_return) (p + 1 + 1) (front ++ carriage_return ∷ b ∷ []) (simp length-append (omega arith))),
    )
    go false true rest = (
      (simp length-append (omega arith), lit_one),
      subst (λ t. AreStepsOf t (missing_from (p + 1 + 1) (b == carriage_return) to bs))
          (append_assoc front (b ∷ line_feed ∷ []) bs ∙ sym (append_assoc front (b ∷ []) (line_feed ∷ bs))
          ∙ sym (inserted_between (p + 1) (front ++ b ∷ []) (line_feed ∷ []) bs (simp length-append (omega arith)))
          ∙ ap (λ t. take (p + 1) t ++ (line_feed ∷ []) ++ drop (p + 1) t) (append_assoc front (b ∷ []) bs))
          (rest (b == carriage_return) (p + 1 + 1) (front ++ b ∷ line_feed ∷ []) (simp length-append (omega arith))),
    )
    go false false rest =
        subst (λ t. AreStepsOf t (missing_from (p + 1 + 0) (b == carriage_return) to bs)) (append_assoc front (b ∷ []) bs)
        (rest (b == carriage_return) (p + 1 + 0) (front ++ b ∷ []) (simp length-append (omega arith)))

one_stands : (p : ℕ) (front : List ℕ) (b c : ℕ) (rest : List ℕ) → length front ≡ p → b ≡ c
    → (p ≤ length (front ++ b ∷ rest)) × (slice_range (front ++ b ∷ rest) p (p + 1) ≡ c ∷ [])
one_stands p front b c rest e same =
    let d = drop_at front (b ∷ rest) p e in
    let n : p + 1 - p ≡ 1 = omega arith in
    (simp length-append (omega arith), rw (d, n) (ap (λ x. x ∷ []) same))

unwanted_fits : (to : LineEnd) (rest : List ℕ) (after : Bool) (p : ℕ) (front : List ℕ) → length front ≡ p → AreStepsOf (front ++ rest) (unwanted_from p after to rest)
unwanted_fits to [] after p front e = tt
unwanted_fits to (b ∷ bs) after p front e = go (is_unwanted after to b bs) (λ flag q start h. unwanted_fits to bs flag q start h)
  where
    lit_one : 0 < 1
    lit_one = omega arith

    go : (x : Bool) → ((flag : Bool) (q : ℕ) (start : List ℕ) → length start ≡ q → AreStepsOf (start ++ bs) (unwanted_from q flag to bs))
        → AreStepsOf (front ++ b ∷ bs) (unwanted_at p b x ++ unwanted_from (place_after p x) (b == carriage_return) to bs)
    go true rest = (
      (one_stands p front b b bs e refl, lit_one),
      subst (λ t. AreStepsOf t (unwanted_from p (b == carriage_return) to bs)) (sym (deleted_between p front b bs e)) (rest (b == carriage_return) p front e),
    )
    go false rest =
        subst (λ t. AreStepsOf t (unwanted_from (p + 1) (b == carriage_return) to bs)) (append_assoc front (b ∷ []) bs)
        (rest (b == carriage_return) (p + 1) (front ++ b ∷ []) (simp length-append (omega arith)))

-- the steps of a conversion can be performed on the text, one after another
pub conversion_fits : (to : LineEnd) (text : List ℕ) → AreStepsOf text (conversion_steps to text)
conversion_fits to text =
    fit_append IsStepOf (missing_from 0 false to text) (unwanted_from 0 false to (after_steps (missing_from 0 false to text) text)) text
    (missing_fits to text false 0 [] refl)
    (unwanted_fits to (after_steps (missing_from 0 false to text) text) false 0 [] refl)
