-- Fold parents, found line by line, and the number of visible lines before a line.
use Rattle.run_laws.proofs.Names.{◌≡◌, ℕ, zero, suc, ◌+◌, ◌-◌, ◌<◌, ◌≤◌, Bool, true, false, cond, List, [], ◌∷◌, ◌++◌, length, filter, unwrap_or, slice_get, Option, Some, None, inl, inr, refl, ap, subst, ◌∙◌, sym, arith, zero-add, append-nil, length-append, nat_lt, find, range_with_len, and_parts, ltb-true, cases_order, filter-append, count_by_more_yes, count_by_more_no, Flags, fresh_flags, slice_get_append_right, range-append, reverse_next}
use Rattle.ed_model.specs.Folding.{number_at, is_header, is_parent_of, is_visible}
use Rattle.ed_model.specs.DisplayLines.{visible_before, visible_lines, line_shown}
use Rattle.ed_model.specs.proved.Folding.{parent_before, parents_are}
use Rattle.run_laws.specs.FoldLaws.{FoldParentsAreAChain, FoldParentIsTheNearestHeader, LinesWithoutParent, DisplayLinesCountVisibleLines, VisibleLinesAreShown, HiddenLinesHaveThatBefore}

-- The chain of fold parents.

pub fold_parents_are_a_chain : FoldParentsAreAChain
fold_parents_are_a_chain levels line = parents_are levels line

-- The header that is found is the nearest one, and none is found only if there is none.

abbrev NoneFrom : List ℕ → ℕ → ℕ → ℕ → Type 0
NoneFrom levels line first past = (k : ℕ) → first < k → k < past → is_parent_of levels line k ≡ false

abbrev IsFound : List ℕ → ℕ → ℕ → Option ℕ → Type 0
IsFound levels line m None = (k : ℕ) → k < m → is_parent_of levels line k ≡ false
IsFound levels line m (Some parent) = (parent < m) × (is_parent_of levels line parent ≡ true) × NoneFrom levels line parent m

-- one more line is searched
one_more : (P : ℕ → Type 0) (m : ℕ) → P m → ((k : ℕ) → k < m → P k) → (k : ℕ) → k < suc m → P k
one_more P m here before k h =
    elim (cases_order k m) [
      | inl same ↦ subst P (sym same) here
      | inr (inl less) ↦ before k less
      | inr (inr more) ↦ absurd (omega arith)
    ]

found_next : (levels : List ℕ) (line m : ℕ) (b : Bool) (o : Option ℕ) → is_parent_of levels line m ≡ b → IsFound levels line m o → IsFound levels line (suc m) (cond b (Some m) o)
found_next levels line m true o e h = (omega arith, e, λ k a c. absurd (omega arith))
found_next levels line m false None e h = one_more (λ k. is_parent_of levels line k ≡ false) m e h
found_next levels line m false (Some parent) e h =
    let before = h.0 in
    (omega arith, h.1, λ k a c. one_more (λ n. parent < n → is_parent_of levels line n ≡ false) m (λ more. e) (λ n less more. h.2 n more less) k c a)

found : (levels : List ℕ) (line m : ℕ) → IsFound levels line m (parent_before levels line m)
found levels line zero = λ k h. absurd (omega arith)
found levels line (suc m) =
    subst (IsFound levels line (suc m)) (sym (ap (find (is_parent_of levels line)) (reverse_next m)))
    (found_next levels line m (is_parent_of levels line m) (parent_before levels line m) refl (found levels line m))

pub fold_parent_is_the_nearest_header : FoldParentIsTheNearestHeader
fold_parent_is_the_nearest_header levels line parent e =
    let h : IsFound levels line line (Some parent) = subst (IsFound levels line line) e (found levels line line) in
    let parts = and_parts (is_header levels parent) (nat_lt (number_at levels parent) (number_at levels line)) h.1 in
    record {
      before = h.0;
      header = parts.0;
      smaller = ltb-true (number_at levels parent) (number_at levels line) parts.1;
      nearest = h.2;
    }

pub lines_without_parent : LinesWithoutParent
lines_without_parent levels line e = subst (IsFound levels line line) e (found levels line line)

-- Display lines.

pub display_lines_count_visible_lines : DisplayLinesCountVisibleLines
display_lines_count_visible_lines flags line h e = omega (arith, count_by_more_yes (λ (f : Flags). f.visible) flags line fresh_flags h e)

pub hidden_lines_have_that_before : HiddenLinesHaveThatBefore
hidden_lines_have_that_before flags line some h e =
    let back : line - 1 + 1 ≡ line = omega arith in
    ap (λ n. n - 1) (count_by_more_no (λ (f : Flags). f.visible) flags line fresh_flags h e) ∙ ap (λ k. visible_before flags k - 1) (sym back)

-- The visible lines up to a line and after it.

filtered_more : (test : ℕ → Bool) (k : ℕ) (b : Bool) → test k ≡ b → filter test (range_with_len 0 (k + 1)) ≡ filter test (range_with_len 0 k) ++ cond b (k ∷ []) []
filtered_more test k b e =
    ap (filter test) (range-append 0 k 1) ∙ filter-append test (range_with_len 0 k) (range_with_len (0 + k) 1)
    ∙ ap (λ i. filter test (range_with_len 0 k) ++ cond (test i) (i ∷ []) []) (zero-add k)
    ∙ ap (λ c. filter test (range_with_len 0 k) ++ cond c (k ∷ []) []) e

shown_before : (flags : List Flags) (k : ℕ) → k ≤ length flags → length (filter (is_visible flags) (range_with_len 0 k)) ≡ visible_before flags k
shown_before flags zero h = refl
shown_before flags (suc k) h =
    let next : suc k ≡ k + 1 = omega arith in
    ap (λ n. length (filter (is_visible flags) (range_with_len 0 n))) next ∙ go (is_visible flags k) refl (shown_before flags k (omega arith)) ∙ sym (ap (visible_before flags) next)
  where
    go : (b : Bool) → is_visible flags k ≡ b → length (filter (is_visible flags) (range_with_len 0 k)) ≡ visible_before flags k
        → length (filter (is_visible flags) (range_with_len 0 (k + 1))) ≡ visible_before flags (k + 1)
    go true e front =
        ap length (filtered_more (is_visible flags) k true e) ∙ length-append (filter (is_visible flags) (range_with_len 0 k)) (k ∷ []) ∙ ap (λ n. n + 1) front
        ∙ sym (count_by_more_yes (λ (f : Flags). f.visible) flags k fresh_flags (omega arith) e)
    go false e front =
        ap length (filtered_more (is_visible flags) k false e ∙ append-nil (filter (is_visible flags) (range_with_len 0 k))) ∙ front
        ∙ sym (count_by_more_no (λ (f : Flags). f.visible) flags k fresh_flags (omega arith) e)

-- the visible lines: those before a visible line, that line, and those after it
shown_around : (flags : List Flags) (line m : ℕ) → is_visible flags line ≡ true
    → filter (is_visible flags) (range_with_len 0 (line + suc m))
    ≡ filter (is_visible flags) (range_with_len 0 line) ++ line ∷ filter (is_visible flags) (range_with_len (line + 1) m)
shown_around flags line m e =
    let front : List ℕ = filter (is_visible flags) (range_with_len 0 line) in
    let behind : List ℕ = filter (is_visible flags) (range_with_len (line + 1) m) in
    ap (filter (is_visible flags)) (range-append 0 line (suc m)) ∙ filter-append (is_visible flags) (range_with_len 0 line) (range_with_len (0 + line) (suc m))
    ∙ ap (λ i. front ++ filter (is_visible flags) (range_with_len i (suc m))) (zero-add line) ∙ ap (λ c. front ++ cond c (line ∷ behind) behind) e

pub visible_lines_are_shown : VisibleLinesAreShown
visible_lines_are_shown flags line h e =
    let m : ℕ = length flags - line - 1 in
    let size : length flags ≡ line + suc m = omega arith in
    let front : List ℕ = filter (is_visible flags) (range_with_len 0 line) in
    let behind : List ℕ = filter (is_visible flags) (range_with_len (line + 1) m) in
    let count : visible_before flags line ≡ length front + 0 = omega (arith, shown_before flags line (omega arith)) in
    let there : slice_get (visible_lines flags) (visible_before flags line) ≡ Some line =
    ap (λ n. slice_get (filter (is_visible flags) (range_with_len 0 n)) (visible_before flags line)) size
    ∙ ap (λ l. slice_get l (visible_before flags line)) (shown_around flags line m e)
    ∙ slice_get_append_right front (line ∷ behind) 0 (visible_before flags line) count in
    ap (line_shown flags) (display_lines_count_visible_lines flags line h e) ∙ ap (λ o. unwrap_or o (length flags)) there
