-- Rows that move to the lines that their keys name, part by part.
use Rattle.line_index.proofs.Names.{◌≡◌, ◌≢◌, ℕ, zero, suc, ◌+◌, ◌-◌, ◌<◌, ◌≤◌, List, [], ◌∷◌, ◌++◌, length, map, filter, zip, replicate, eqb, refl, sym, ap, ap₂, ◌∙◌, inl, inr, arith, one-add, append-nil, length-append, range_with_len, AllByRecursion, cases_eq, eq-eqb, ne_eqb, map-append, length-replicate, line_of, carried, JoinsRows, range-append, map_range_agree}
use Rattle.ed_model.specs.proved.Elements.{all_append, all_weaker}

-- functions of the numbers of a range

pub map_range_same : {Y : Type 0} (f : ℕ → Y) (y : Y) (a n : ℕ) → ((k : ℕ) → a ≤ k → k < a + n → f k ≡ y) → map f (range_with_len a n) ≡ replicate n y
map_range_same f y a zero h = refl
map_range_same f y a (suc n) h = ap₂ (λ z l. z ∷ l) (h a (omega arith) (omega arith)) (map_range_same f y (a + 1) n (λ k l m. h k (omega arith) (omega arith)))

pub map_range_moved : (f : ℕ → ℕ) (a b n : ℕ) → ((k : ℕ) → a ≤ k → k < a + n → f k + a ≡ b + k) → map f (range_with_len a n) ≡ range_with_len b n
map_range_moved f a b zero h = refl
map_range_moved f a b (suc n) h =
    let here : f a ≡ b = omega (arith, h a (omega arith) (omega arith)) in
    ap₂ (λ z l. z ∷ l) here (map_range_moved f (a + 1) (b + 1) n (λ k l m. omega (arith, h k (omega arith) (omega arith))))

-- the rows whose key is a line, and the row of each line from all of its rows
abbrev pub keyed : {R : Type 0} → ℕ → List ℕ → List R → List R
keyed {R} line keys rows = map (λ (e : ℕ × R). e.1) (filter (λ (e : ℕ × R). eqb e.0 line) (zip keys rows))

abbrev pub by_keys : {R : Type 0} → (List R → R) → ℕ → ℕ → List ℕ → List R → List R
by_keys t at n keys rows = map (λ line. t (keyed line keys rows)) (range_with_len at n)

on_keys : {R : Type 0} (key : ℕ → ℕ) (line : ℕ) (old : List ℕ) (rows : List R) → map (λ (e : ℕ × R). e.1) (filter (λ (e : ℕ × R). eqb (key e.0) line) (zip old rows)) ≡ keyed line (map key old) rows
on_keys key line [] rows = refl
on_keys key line (o ∷ old) [] = refl
on_keys key line (o ∷ old) (r ∷ rows) =
    elim (cases_eq (key o) line) [
      | inl same ↦ rw (eq-eqb (key o) line same) (ap (λ l. r ∷ l) (on_keys key line old rows))
      | inr other ↦ rw (ne_eqb (key o) line other) (on_keys key line old rows)
    ]

-- carry moves rows by the lines of the old starts
pub carried_by_keys : {R : Type 0} (t : List R → R) (moved : ℕ → ℕ) (old new : List ℕ) (rows : List R) → carried t moved old new rows ≡ by_keys t 0 (length new) (map (λ o. line_of new (moved o)) old) rows
carried_by_keys t moved old new rows = map_range_agree _ _ 0 (length new) (λ k a b. ap t (on_keys (λ o. line_of new (moved o)) k old rows))

keyed_append : {R : Type 0} (line : ℕ) (ks ls : List ℕ) (rows rest : List R) → length ks ≡ length rows → keyed line (ks ++ ls) (rows ++ rest) ≡ keyed line ks rows ++ keyed line ls rest
keyed_append line [] ls [] rest h = refl
keyed_append line [] ls (r ∷ rows) rest h = absurd (omega arith)
keyed_append line (k ∷ ks) ls [] rest h = absurd (omega arith)
keyed_append line (k ∷ ks) ls (r ∷ rows) rest h =
    elim (cases_eq k line) [
      | inl same ↦ rw (eq-eqb k line same) (ap (λ l. r ∷ l) (keyed_append line ks ls rows rest (omega arith)))
      | inr other ↦ rw (ne_eqb k line other) (keyed_append line ks ls rows rest (omega arith))
    ]

keyed_none : {R : Type 0} (line : ℕ) (ks : List ℕ) (rows : List R) → AllByRecursion (λ k. k ≢ line) ks → keyed line ks rows ≡ []
keyed_none line [] rows h = refl
keyed_none line (k ∷ ks) [] h = refl
keyed_none line (k ∷ ks) (r ∷ rows) h = rw (ne_eqb k line h.0) (keyed_none line ks rows h.1)

keyed_all : {R : Type 0} (line : ℕ) (rows : List R) (n : ℕ) → length rows ≡ n → keyed line (replicate n line) rows ≡ rows
keyed_all line [] zero h = refl
keyed_all line [] (suc n) h = absurd (omega arith)
keyed_all line (r ∷ rows) zero h = absurd (omega arith)
keyed_all line (r ∷ rows) (suc n) h = rw (eq-eqb line line refl) (ap (λ l. r ∷ l) (keyed_all line rows n (omega arith)))

-- The rows move to the n lines from `at` on, and give the rows `out`.
pub record Carries {R : Type 0} (t : List R → R) (at n : ℕ) (ks : List ℕ) (rows out : List R) : Type 0 where
  pub low : AllByRecursion (λ k. at ≤ k) ks
  pub high : AllByRecursion (λ k. k < at + n) ks
  pub long : length ks ≡ length rows
  pub made : by_keys t at n ks rows ≡ out

each_same : (P : ℕ → Type 0) (n x : ℕ) → P x → AllByRecursion P (replicate n x)
each_same P zero x h = tt
each_same P (suc n) x h = (h, each_same P n x h)

pub carries_both :
    {R : Type 0} (t : List R → R) (at n at' m total : ℕ) (ks ls : List ℕ) (rows rest out later : List R) → at' ≡ at + n → total ≡ n + m
    → Carries t at n ks rows out → Carries t at' m ls rest later → Carries t at total (ks ++ ls) (rows ++ rest) (out ++ later)
carries_both t at n at' m total ks ls rows rest out later e f a b =
    record {
      low = all_append (λ k. at ≤ k) ks ls a.low (all_weaker (λ k. at' ≤ k) (λ k. at ≤ k) (λ k h. omega arith) ls b.low);
      high = all_append (λ k. k < at + total) ks ls (all_weaker (λ k. k < at + n) (λ k. k < at + total) (λ k h. omega arith) ks a.high)
          (all_weaker (λ k. k < at' + m) (λ k. k < at + total) (λ k h. omega arith) ls b.high);
      long = omega (arith, length-append ks ls, length-append rows rest, a.long, b.long);
      made =
          let first : map (λ line. t (keyed line (ks ++ ls) (rows ++ rest))) (range_with_len at n) ≡ by_keys t at n ks rows =
          map_range_agree _ _ at n (λ line l h. ap t (keyed_append line ks ls rows rest a.long
          ∙ ap (λ r. keyed line ks rows ++ r) (keyed_none line ls rest (all_weaker (λ k. at' ≤ k) (λ k. k ≢ line) (λ k g. λ s. omega arith) ls b.low))
          ∙ append-nil (keyed line ks rows))) in
          let second : map (λ line. t (keyed line (ks ++ ls) (rows ++ rest))) (range_with_len (at + n) m) ≡ by_keys t (at + n) m ls rest =
          map_range_agree _ _ (at + n) m (λ line l h. ap t (keyed_append line ks ls rows rest a.long
          ∙ ap (λ r. r ++ keyed line ls rest) (keyed_none line ks rows (all_weaker (λ k. k < at + n) (λ k. k ≢ line) (λ k g. λ s. omega arith) ks a.high)))) in
          let behind : by_keys t (at + n) m ls rest ≡ later = rw (← e) b.made in
          rw (f, range-append at n m, map-append (λ line. t (keyed line (ks ++ ls) (rows ++ rest))) (range_with_len at n) (range_with_len (at + n) m))
          (ap₂ (λ x y. x ++ y) (first ∙ a.made) (second ∙ behind));
    }

-- no rows move nowhere
pub carries_none : {R : Type 0} (t : List R → R) (at : ℕ) → Carries t at 0 [] [] []
carries_none t at = record { low = tt; high = tt; long = refl; made = refl }

fresh_made : {R : Type 0} (t : List R → R) (at n : ℕ) → by_keys t at n [] [] ≡ replicate n (t [])
fresh_made t at n = map_range_same (λ line. t (keyed line [] [])) (t []) at n (λ k a b. refl)

-- lines to which no row moves
pub carries_fresh : {R : Type 0} (t : List R → R) (at n : ℕ) → Carries t at n [] [] (replicate n (t []))
carries_fresh t at n = record { low = tt; high = tt; long = refl; made = fresh_made t at n }

-- all rows move to one line
pub carries_on : {R : Type 0} (t : List R → R) (line count : ℕ) (rows : List R) → length rows ≡ count → Carries t line 1 (replicate count line) rows (t rows ∷ [])
carries_on t line count rows h =
    record {
      low = each_same (λ k. line ≤ k) count line (omega arith);
      high = each_same (λ k. k < line + 1) count line (omega arith);
      long = omega (arith, length-replicate count line);
      made = ap (λ l. t l ∷ []) (keyed_all line rows count h);
    }

-- each row moves to a line of its own
pub carries_same : {R : Type 0} (t : List R → R) → JoinsRows t → (at n : ℕ) (rows : List R) → length rows ≡ n → Carries t at n (range_with_len at n) rows rows
carries_same t j at zero [] h = carries_none t at
carries_same t j at zero (r ∷ rows) h = absurd (omega arith)
carries_same t j at (suc n) [] h = absurd (omega arith)
carries_same {R} t j at (suc n) (r ∷ rows) h =
    let one : Carries t at 1 (at ∷ []) (r ∷ []) (r ∷ []) = rw (j.alone r) at (carries_on t at 1 (r ∷ []) refl) in
    carries_both t at 1 (at + 1) n (suc n) (at ∷ []) (range_with_len (at + 1) n) (r ∷ []) rows (r ∷ []) rows refl (sym (one-add n)) one (carries_same t j (at + 1) n rows (omega arith))

-- all rows move to one line, and fresh lines are inserted before it
pub carries_behind : {R : Type 0} (t : List R → R) (next line count : ℕ) (rows : List R) → next ≤ line → length rows ≡ count → Carries t next (line + 1 - next) (replicate count line) rows (replicate (line - next) (t []) ++ t rows ∷ [])
carries_behind t next line count rows h l =
    carries_both t next (line - next) line 1 (line + 1 - next) [] (replicate count line) [] rows (replicate (line - next) (t [])) (t rows ∷ []) (omega arith) (omega arith)
    (carries_fresh t next (line - next)) (carries_on t line count rows l)
