-- The flags that two sets of lines stand for, and what look-ups read from the sets.
use Rattle.contraction.proofs.Names.{◌≡◌, ℕ, ◌+◌, ◌-◌, ◌<◌, Bool, true, false, not, cond, eqb, List, [], ◌∷◌, length, get_or, take, map, replicate, filter, count_by, refl, sym, ap, ◌∙◌, inl, inr, arith, range_with_len, slice_get, unwrap_or, cases_lt, eq-eqb, ne_eqb, list_all_at, list_all-from_AllPass, sum_by-cons, get_or_default, length-replicate, get_or-replicate, length-range_with_len, length-map-range_with_len, get_or-map-range_with_len, fill_by_all, take-map-range_with_len, map_range_agree, Flags, fresh_flags, is_visible, is_expanded, filter_range_agree, Numbers, AreBefore, AreLines, holds, lines_outside, ViewLines, view_lines, contracted_lines, Becomes}
use Rattle.contraction.specs.ViewLines.{flags_kept}
use Rattle.std.proofs.lemmas.List.Filters.{length-filter_both}
use Rattle.contraction.proofs.LineSets.{below, nowhere, there}
use Rattle.contraction.proofs.Outside.{outside_before, outside_all}
use Rattle.ed_model.specs.DisplayLines.{display_line, line_shown, all_visible}

-- the flags of a line, and of so many lines, by tests of which are hidden and which are contracted
abbrev pub flags_of : (ℕ → Bool) → (ℕ → Bool) → ℕ → Flags
flags_of p q k = record { visible = not (p k); expanded = not (q k) }

abbrev pub flags_by : (ℕ → Bool) → (ℕ → Bool) → ℕ → List Flags
flags_by p q n = map (flags_of p q) (range_with_len 0 n)

pub flags_at_by : (p q : ℕ → Bool) (n k : ℕ) → k < n → get_or (flags_by p q n) k fresh_flags ≡ flags_of p q k
flags_at_by p q n k l = get_or-map-range_with_len (flags_of p q) 0 n k k fresh_flags l (omega arith)

-- what a struct's value says of its fields

pub kept_length : (h c : List ℕ) (n : ℕ) → length (flags_kept h c n) ≡ n
unfolding flags_kept
kept_length h c n = length-map-range_with_len (flags_of (holds h) (holds c)) 0 n

pub kept_at : (h c : List ℕ) (n k : ℕ) → k < n → get_or (flags_kept h c n) k fresh_flags ≡ flags_of (holds h) (holds c) k
unfolding flags_kept
kept_at h c n k l = flags_at_by (holds h) (holds c) n k l

pub kept_visible : (h c : List ℕ) (n k : ℕ) → k < n → is_visible (flags_kept h c n) k ≡ not (holds h k)
kept_visible h c n k l = ap (λ f. f.visible) (kept_at h c n k l)

pub kept_expanded : (h c : List ℕ) (n k : ℕ) → k < n → is_expanded (flags_kept h c n) k ≡ not (holds c k)
kept_expanded h c n k l = ap (λ f. f.expanded) (kept_at h c n k l)

-- all lines are visible exactly if none is hidden
pub kept_all_visible : (h c : List ℕ) (n : ℕ) → AreLines h n → all_visible (flags_kept h c n) ≡ eqb (length h) 0
kept_all_visible h c n sound =
    elim (cases_lt 0 (length h)) [
      | inl some ↦
          let line : ℕ = get_or h 0 0 in
          let inside : line < n = below 0 sound some in
          list_all_at (λ (f : Flags). f.visible) (flags_kept h c n) line fresh_flags (omega (arith, kept_length h c n))
          (kept_visible h c n line inside ∙ ap not (there h 0 line some refl))
          ∙ sym (ne_eqb (length h) 0 (λ q. omega arith))
      | inr none ↦
          list_all-from_AllPass (λ (f : Flags). f.visible) (flags_kept h c n)
          (λ k d l.
          ap (λ f. f.visible) (get_or_default (flags_kept h c n) k d fresh_flags l)
          ∙ kept_visible h c n k (omega (arith, kept_length h c n)) ∙ ap not (nowhere h k (λ i b _. omega arith)))
          ∙ sym (eq-eqb (length h) 0 (omega arith))
    ]

count_map : (p : Flags → Bool) (f : ℕ → Flags) (ks : List ℕ) → count_by p (map f ks) ≡ length (filter (λ k. p (f k)) ks)
count_map p f [] = refl
count_map p f (k ∷ ks) = sum_by-cons (λ x. cond (p x) 1 0) (f k) (map f ks) ∙ go (p (f k)) (count_map p f ks)
  where
    go : (b : Bool) → count_by p (map f ks) ≡ length (filter (λ k. p (f k)) ks)
        → cond b 1 0 + count_by p (map f ks) ≡ length (cond b (k ∷ filter (λ k. p (f k)) ks) (filter (λ k. p (f k)) ks))
    go true e = omega arith
    go false e = omega arith

-- the visible lines before a line are those that are not hidden
pub kept_display : (h c : List ℕ) (n line i : ℕ) → AreLines h n → AreBefore h (line + 1) i → line < n → display_line (flags_kept h c n) line ≡ line + 1 - i - 1
unfolding flags_kept
kept_display h c n line i sound parts l =
    let count : count_by (λ (f : Flags). f.visible) (take (line + 1) (flags_kept h c n)) ≡ length (filter (λ k. not (holds h k)) (range_with_len 0 (line + 1))) =
    ap (count_by (λ (f : Flags). f.visible)) (take-map-range_with_len (flags_of (holds h) (holds c)) 0 n (line + 1) (omega arith))
    ∙ count_map (λ (f : Flags). f.visible) (flags_of (holds h) (holds c)) (range_with_len 0 (line + 1)) in
    let all = outside_before h n sound (line + 1) i parts in
    omega (arith, count, all)

pub kept_shown : (h c : List ℕ) (n k : ℕ) → line_shown (flags_kept h c n) k ≡ unwrap_or (slice_get (lines_outside h n) k) n
kept_shown h c n k =
    let same : filter (is_visible (flags_kept h c n)) (range_with_len 0 n) ≡ lines_outside h n =
    sym (filter_range_agree (is_visible (flags_kept h c n)) (λ k. not (holds h k)) 0 n (λ k l m. kept_visible h c n k (omega arith))) in
    rw (kept_length h c n, same) refl

-- the contracted lines are those of the set
pub kept_contracted : (h c : List ℕ) (n : ℕ) → AreLines c n → contracted_lines (flags_kept h c n) ≡ length c
unfolding flags_kept
kept_contracted h c n sound =
    let counted = count_map (λ (f : Flags). not f.expanded) (flags_of (holds h) (holds c)) (range_with_len 0 n) in
    let both = length-filter_both (λ k. not (holds c k)) (λ k. not (not (holds c k))) (λ k. refl) (range_with_len 0 n) in
    let outside = outside_all c n sound in
    omega (arith, length-range_with_len 0 n)

-- the flags of lines of which none is hidden or contracted
pub kept_fresh : (n : ℕ) → flags_kept [] [] n ≡ replicate n fresh_flags
unfolding flags_kept
kept_fresh n =
    sym (fill_by_all (flags_of (holds []) (holds [])) (replicate n fresh_flags) n fresh_flags (length-replicate n fresh_flags)
    (λ k l. get_or-replicate n k fresh_flags fresh_flags l))

-- the value after both sets have become others
pub anew : {h h' c c' : Numbers} {n m : ℕ} {p q : ℕ → Bool} (flags : List Flags) → Becomes n p h h' → Becomes m q c c' → flags_by p q n ≡ flags
    → view_lines h' c' ≡ record (view_lines h c) { flags = flags }
unfolding flags_kept
anew {h} {h'} {c} {c'} {n} {m} {p} {q} flags one two is =
    rw (one.lines, one.capacity, two.capacity)
    (ap (λ (fs : List Flags). record (view_lines h c) { flags = fs })
    (map_range_agree (flags_of (holds h'.numbers) (holds c'.numbers)) (flags_of p q) 0 n (λ k _ _. rw (one.told k, two.told k) refl) ∙ is))

pub unchanged : (s : Numbers) → Becomes s.length (holds s.numbers) s s
unchanged s = record { told = λ k. refl; lines = refl; capacity = refl }

pub with_its_flags : (v w : ViewLines) (flags : List Flags) → w.flags ≡ flags → w.capacity ≡ v.capacity → w ≡ record v { flags = flags }
with_its_flags v w flags same capacity = rw (← same, ← capacity) refl
