-- Changes of the markers of one line, link by link.
use Rattle.split_vector.specs.Split.{deleted}
use Rattle.marker_store.specs.Chains.{all_laid, all_put}
use Rattle.marker_store.specs.Dropping.{kept}
use Rattle.marker_store.specs.declared.drops.Drops.TheVariants.{Nothing}
use Rattle.marker_store.proofs.Joins.{joined, joined_are}
use Rattle.marker_store.proofs.Names.{Bool, not, take, drop, map, take_all, drop_all, take_more_set, drop-set-lt, drop_more, append_assoc, append-nil, get_or-set_same, get_or-set_other, set-set, set-get_or, nil_from_length, ne_eqb, ap₂, ◌≡◌, ℕ, ◌+◌, ◌<◌, ◌≤◌, ◌==◌, false, zero, suc, List, [], ◌∷◌, ◌++◌, length, get_or, set, refl, sym, ap, ◌∙◌, arith, Marker, Chained, IsLaid, IsBack, IsFreed, with_joined}

abbrev pub row_at : ℕ → Chained → List Marker
row_at line c = get_or c.rows line []

-- What is left to be laid aside, or to be put back, leads to the same chains.

module _ (line : ℕ) (now new : Chained) (h : line < length now.rows) where
  pub laid_more : IsLaid line now new → all_laid line new ≡ all_laid line now
  laid_more l =
      ap (all_laid line) l.is
      ∙ ap₂ (λ (rs : List (List Marker)) (r : List Marker). record now { rows = rs; aside = r ++ l.last ∷ now.aside }) (set-set now.rows line l.front []) (get_or-set_same now.rows line l.front [] h)
      ∙ ap (λ a. record now { rows = set now.rows line []; aside = a }) (sym (append_assoc l.front (l.last ∷ []) now.aside) ∙ ap (λ r. r ++ now.aside) (sym l.row))

  pub put_more : (left : List Marker → List Marker) (b : IsBack line now new) → ((rest : List Marker) → left (b.first ∷ rest) ≡ b.first ∷ left rest) → all_put line left new ≡ all_put line left now
  put_more left b keeps =
      let row = row_at line now ++ b.first ∷ [] in
      ap (all_put line left) b.is
      ∙ ap (λ (rs : List (List Marker)). record now { rows = rs; aside = [] })
      (ap (λ r. set (set now.rows line row) line (r ++ left b.rest)) (get_or-set_same now.rows line row [] h) ∙ set-set now.rows line row (row ++ left b.rest))
      ∙ ap (λ r. record now { rows = set now.rows line r; aside = [] })
      (append_assoc (row_at line now) (b.first ∷ []) (left b.rest) ∙ ap (λ r. row_at line now ++ r) (sym (keeps b.rest) ∙ ap left (sym b.was)))

pub put_freed : (line : ℕ) (now new : Chained) (left left' : List Marker → List Marker) (f : IsFreed now new) → left' f.rest ≡ left (f.first ∷ f.rest) → all_put line left' new ≡ all_put line left now
put_freed line now new left left' f drops =
    ap (all_put line left') f.is ∙ ap (λ r. record now { rows = set now.rows line (row_at line now ++ r); aside = [] }) (drops ∙ ap left (sym f.was))

pub laid_all : (line : ℕ) (now : Chained) → length (row_at line now) ≡ 0 → now ≡ all_laid line now
laid_all line now e =
    let none : row_at line now ≡ [] = nil_from_length (row_at line now) e in
    sym (ap₂ (λ (rs : List (List Marker)) (r : List Marker). record now { rows = rs; aside = r ++ now.aside }) (ap (set now.rows line) (sym none) ∙ set-get_or now.rows line []) none)

pub put_all : (line : ℕ) (now : Chained) (left : List Marker → List Marker) → left [] ≡ [] → length now.aside ≡ 0 → now ≡ all_put line left now
put_all line now left z e =
    let none : now.aside ≡ [] = nil_from_length now.aside e in
    sym (ap₂ (λ (rs : List (List Marker)) (a : List Marker). record now { rows = rs; aside = a })
    (ap (λ r. set now.rows line (row_at line now ++ r)) (ap left none ∙ z) ∙ ap (set now.rows line) (append-nil (row_at line now)) ∙ set-get_or now.rows line []) (sym none))

pub kept_nothing : (ms : List Marker) → kept Nothing ms ≡ ms
kept_nothing [] = refl
kept_nothing (m ∷ ms) = ap (λ r. m ∷ r) (kept_nothing ms)

-- A line whose markers were laid aside and put back.

pub deleted_row : (line : ℕ) (old : Chained) → line < length old.rows → old.aside ≡ [] → (left : List Marker → List Marker) → all_put line left (all_laid line old) ≡ record old { rows = set old.rows line (left (row_at line old)) }
deleted_row line old h none left =
    ap (λ r. record old { rows = set (set old.rows line []) line (r ++ left (row_at line old ++ old.aside)); aside = [] }) (get_or-set_same old.rows line [] [] h)
    ∙ ap₂ (λ (rs : List (List Marker)) (a : List Marker). record old { rows = rs; aside = a }) (set-set old.rows line [] (left (row_at line old ++ old.aside))) (sym none)
    ∙ ap (λ r. record old { rows = set old.rows line (left r) }) (ap (λ a. row_at line old ++ a) none ∙ append-nil (row_at line old))

-- All lines, one after another: what is left leads to the same rows.

module _ (f : List Marker → List Marker) where
  abbrev pub done_from : ℕ → List (List Marker) → List (List Marker)
  done_from k rows = take k rows ++ map f (drop k rows)

  pub done_more : (k : ℕ) (rows : List (List Marker)) → k < length rows → done_from (k + 1) (set rows k (f (get_or rows k []))) ≡ done_from k rows
  done_more k rows h =
      let r = f (get_or rows k []) in
      ap₂ (λ (a b : List (List Marker)). a ++ map f b) (take_more_set rows k r h) (drop-set-lt (k + 1) rows k r (omega arith))
      ∙ append_assoc (take k rows) (r ∷ []) (map f (drop (k + 1) rows)) ∙ ap (λ d. take k rows ++ map f d) (sym (drop_more rows k [] h))

  -- lines without markers stay as they are
  pub done_past : (n k : ℕ) (rows : List (List Marker)) → f [] ≡ [] → k + n ≤ length rows → ((i : ℕ) → k ≤ i → i < k + n → get_or rows i [] ≡ []) → done_from (k + n) rows ≡ done_from k rows
  done_past zero k rows z h bare = let e : k + 0 ≡ k = omega arith in rw e refl
  done_past (suc n) k rows z h bare =
      let e : k + suc n ≡ k + 1 + n = omega arith in
      let none : get_or rows k [] ≡ f (get_or rows k []) = bare k (omega arith) (omega arith) ∙ sym z ∙ ap f (sym (bare k (omega arith) (omega arith))) in
      ap (λ i. done_from i rows) e ∙ done_past n (k + 1) rows z (omega arith) (λ i low high. bare i (omega arith) (omega arith))
      ∙ ap (done_from (k + 1)) (sym (set-get_or rows k []) ∙ ap (set rows k) none) ∙ done_more k rows (omega arith)

  pub done_all : (k : ℕ) (rows : List (List Marker)) → length rows ≤ k → done_from k rows ≡ rows
  done_all k rows h = rw (take_all k rows h, drop_all k rows h) (append-nil rows)

-- Two lines become one.

joined_rows : (line : ℕ) (rows : List (List Marker)) → line + 1 < length rows → deleted (set (set rows (line + 1) []) line (get_or rows line [] ++ get_or rows (line + 1) [])) (line + 1) 1 ≡ with_joined line 1 rows
joined_rows line rows h =
    let e : line + 1 ≡ suc line = omega arith in
    let f : suc line + 1 ≡ suc (suc line) = omega arith in
    rw (joined_are line 1 rows, e, f) (go line rows (omega arith))
  where
    go : (line : ℕ) (rows : List (List Marker)) → suc line < length rows →
        take (suc line) (set (set rows (suc line) []) line (get_or rows line [] ++ get_or rows (suc line) [])) ++ drop (suc (suc line)) (set (set rows (suc line) []) line (get_or rows line [] ++ get_or rows (suc line) []))
        ≡ joined line 2 rows
    go line [] h = absurd (omega arith)
    go line (a ∷ []) h = absurd (omega arith)
    go zero (a ∷ b ∷ rows) h = ap (λ r. (a ++ r) ∷ rows) (sym (append-nil b))
    go (suc line) (a ∷ b ∷ rows) h = ap (λ rs. a ∷ rs) (go line (b ∷ rows) (omega arith))

-- the line behind was laid aside, was put behind the line, and is removed
pub joined_line :
    (line : ℕ) (old : Chained) → line + 1 < length old.rows → old.aside ≡ []
    → (let y = all_put line (kept Nothing) (all_laid (line + 1) old) in record y { rows = deleted y.rows (line + 1) 1 }) ≡ record old { rows = with_joined line 1 old.rows }
joined_line line old h none =
    let put = λ (m a : List Marker). record old { rows = deleted (set (set old.rows (line + 1) []) line m) (line + 1) 1; aside = a } in
    ap₂ put
    (ap₂ (λ (a b : List Marker). a ++ b) (get_or-set_other old.rows (line + 1) line [] [] (omega arith))
    (kept_nothing (row_at (line + 1) old ++ old.aside) ∙ ap (λ r. row_at (line + 1) old ++ r) none ∙ append-nil (row_at (line + 1) old))) (sym none)
    ∙ ap (λ rs. record old { rows = rs }) (joined_rows line old.rows h)

pub bare_behind : (line : ℕ) (old : Chained) (m : List Marker) → line + 1 < length old.rows → get_or (set (set old.rows (line + 1) []) line m) (line + 1) [] ≡ []
bare_behind line old m h = get_or-set_other (set old.rows (line + 1) []) line (line + 1) m [] (omega arith) ∙ get_or-set_same old.rows (line + 1) [] [] h

pub zero_denied : (n : ℕ) (b : Bool) → b ≡ not (n == 0) → b ≡ false → n ≡ 0
zero_denied zero b e t = refl
zero_denied (suc n) b e t = absurd (cc (ap not (ne_eqb (suc n) 0 (omega arith)), e, t))
