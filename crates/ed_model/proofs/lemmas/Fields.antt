-- How the fields of a line are spelled, and read back.
use Rattle.ed_model.proofs.Names.{◌≡◌, ℕ, ◌+◌, ◌<◌, Bool, true, false, cond, List, [], ◌∷◌, ◌++◌, length, take, drop, refl, sym, ◌∙◌, ap, subst, arith, Option, Some, None, Result, Ok, Err, one-add, ok_or, length-take, ◌==◌, not, prefix_len, position_or_len, drop_min, eqb-true, ne_eqb, Cause, BadShape, BadNumber, space, ◌>>=◌, behind, word_of, behind_word, not_empty, word_field, number_field, not_empty-some}
use Rattle.std.proofs.Common.{drop_at, take_at, take-append-drop, eq-eqb}
use Rattle.ed_model.proofs.lemmas.Spelling.{AreWordBytes}

-- nothing, or a space first, so that a word ends here
abbrev pub EndsWord : List ℕ → Type 0
EndsWord [] = Unit {0}
EndsWord (b ∷ bs) = b ≡ space

pub word_len : (word rest : List ℕ) → AreWordBytes word → EndsWord rest → position_or_len (λ b. b == space) (word ++ rest) ≡ length word
word_len [] [] all ends = refl
word_len [] (b ∷ bs) all ends = ap (λ t. cond (not t) (1 + prefix_len (λ x. not (x == space)) bs) 0) (eq-eqb b space ends)
word_len (w ∷ ws) rest all ends =
    let other : w == space ≡ false = ne_eqb w space (λ e. absurd (omega (arith, all.0))) in
    ap (λ t. cond (not t) (1 + prefix_len (λ x. not (x == space)) (ws ++ rest)) 0) other ∙ ap (λ n. 1 + n) (word_len ws rest all.1 ends) ∙ one-add (length ws)

pub word_of-word : (word rest : List ℕ) → AreWordBytes word → EndsWord rest → word_of (word ++ rest) ≡ word
word_of-word word rest all ends = ap (λ n. take n (word ++ rest)) (word_len word rest all ends) ∙ take_at word rest _ refl

pub behind_word-word : (word rest : List ℕ) → AreWordBytes word → EndsWord rest → behind_word (word ++ rest) ≡ rest
behind_word-word word rest all ends = ap (λ bs. drop (length bs) (word ++ rest)) (word_of-word word rest all ends) ∙ drop_at word rest _ refl

pub word_and_rest : (line : List ℕ) → word_of line ++ behind_word line ≡ line
word_and_rest line =
    let n = position_or_len (λ b. b == space) line in
    ap (λ m. take n line ++ drop m line) (length-take n line) ∙ ap (λ bs. take n line ++ bs) (drop_min n line) ∙ take-append-drop n line

-- A kind of number: how it is read, how it is spelled, and which numbers have a spelling.
pub record Spells {T : Type 0} (number : List ℕ → Option T) (spelling : T → List ℕ) (IsOne : T → Type 0) : Type 0 where
  pub word_bytes : (v : T) → IsOne v → AreWordBytes (spelling v)
  pub some : (v : T) → IsOne v → 0 < length (spelling v)
  pub reads : (v : T) → IsOne v → number (spelling v) ≡ Some v
  pub only : (word : List ℕ) (v : T) → number word ≡ Some v → IsOne v × (word ≡ spelling v)

-- a sequence of two readings succeeds only if the first does
pub bind-is : {A B E : Type 0} (r : Result A E) (more : A → Result B E) (v : B) → (r >>= more) ≡ Ok v → (a : A) × (r ≡ Ok a) × (more a ≡ Ok v)
bind-is (Ok a) more v h = (a, refl, h)
bind-is (Err e) more v h = cc

-- the two parts of the result of a field
pub same_field : {A B E : Type 0} (a c : A) (b d : B) → ◌≡◌ {A = Result (A × B) E} (Ok (a, b)) (Ok (c, d)) → (a ≡ c) × (b ≡ d)
same_field {A} {B} {E} a c b d h =
    let same : ◌≡◌ {A = A × B} (a, b) (c, d) = cc in
    (ap (λ (p : A × B). p.0) same, ap (λ (p : A × B). p.1) same)

behind-is_at : (t : Bool) (bs rest : List ℕ) → ◌≡◌ {A = Result (List ℕ) Cause} (cond t (Ok bs) (Err BadShape)) (Ok rest) → (t ≡ true) × (bs ≡ rest)
behind-is_at true bs rest h = (refl, cc)
behind-is_at false bs rest h = cc

pub behind-is : (c : ℕ) (line rest : List ℕ) → behind c line ≡ Ok rest → line ≡ c ∷ rest
behind-is c [] rest h = cc
behind-is c (b ∷ bs) rest h =
    let parts = behind-is_at (b == c) bs rest h in
    let first = eqb-true b c parts.0 in
    cc

pub not_empty-is : (word field : List ℕ) → not_empty word ≡ Ok field → word ≡ field
not_empty-is [] field h = cc
not_empty-is (b ∷ bs) field h = cc

pub ok_or-is : {A E : Type 0} (o : Option A) (e : E) (a : A) → ok_or o e ≡ Ok a → o ≡ Some a
ok_or-is None e a h = cc
ok_or-is (Some b) e a h = cc

pub word_field-word : (word rest : List ℕ) → AreWordBytes word → 0 < length word → EndsWord rest → word_field (space ∷ word ++ rest) ≡ Ok (word, rest)
word_field-word word rest all some ends =
    let bs = word ++ rest in
    ap (λ found. not_empty found >>= (λ w. Ok (w, behind_word bs))) (word_of-word word rest all ends) ∙
    ap (λ r. r >>= (λ w. Ok (w, behind_word bs))) (not_empty-some word some) ∙
    ap (λ left. Ok (word, left)) (behind_word-word word rest all ends)

pub word_field-is : (line word rest : List ℕ) → word_field line ≡ Ok (word, rest) → line ≡ space ∷ word ++ rest
word_field-is line word rest h =
    let fields = bind-is (behind space line) _ (word, rest) h in
    let found = bind-is (not_empty (word_of fields.0)) _ (word, rest) fields.2 in
    let same = same_field {E = Cause} found.0 word (behind_word fields.0) rest found.2 in
    let first = not_empty-is (word_of fields.0) found.0 found.1 in
    behind-is space line fields.0 fields.1 ∙ ap (λ bs. space ∷ bs) (sym (word_and_rest fields.0) ∙ ap (λ w. w ++ behind_word fields.0) (first ∙ same.0) ∙ ap (λ bs. word ++ bs) same.1)

module _ {T : Type 0} {number : List ℕ → Option T} {spelling : T → List ℕ} {IsOne : T → Type 0} (spells : Spells number spelling IsOne) where
  pub number_field-spelled : (v : T) (rest : List ℕ) → IsOne v → EndsWord rest → number_field number (space ∷ spelling v ++ rest) ≡ Ok (v, rest)
  number_field-spelled v rest one ends =
      let read : List ℕ × List ℕ → Result (T × List ℕ) Cause = λ p. ok_or (number p.0) BadNumber >>= (λ value. Ok (value, p.1)) in
      ap (λ r. r >>= read) (word_field-word (spelling v) rest (spells.word_bytes v one) (spells.some v one) ends) ∙
      ap (λ o. ok_or o BadNumber >>= (λ value. Ok (value, rest))) (spells.reads v one)

  pub number_field-is : (line : List ℕ) (v : T) (rest : List ℕ) → number_field number line ≡ Ok (v, rest) → (line ≡ space ∷ spelling v ++ rest) × IsOne v
  number_field-is line v rest h =
      let field = bind-is (word_field line) _ (v, rest) h in
      let value = bind-is (ok_or (number field.0.0) BadNumber) _ (v, rest) field.2 in
      let found = ok_or-is (number field.0.0) BadNumber value.0 value.1 in
      let same = same_field {E = Cause} value.0 v field.0.1 rest value.2 in
      let one = spells.only field.0.0 value.0 found in
      let spelled-so : field.0.0 ≡ spelling v = one.1 ∙ ap spelling same.0 in
      (word_field-is line field.0.0 field.0.1 field.1 ∙ ap (λ bs. space ∷ bs) (ap (λ word. word ++ field.0.1) spelled-so ∙ ap (λ bs. spelling v ++ bs) same.1), subst IsOne same.0 one.0)
