-- Lines that a search returns are lines of the document.
use Rattle.state_plans.proofs.Names.{◌≡◌, ℕ, zero, suc, ◌+◌, ◌-◌, ◌<◌, ◌≤◌, ◌^◌, min, Bool, true, false, cond, List, [], ◌∷◌, length, sym, arith, length-take, ℤ, pos, negsuc, ◌==◌, Option, Some, None, take, slice_get, unwrap_or, IfSome, range_with_len, AllByRecursion, Row, Flags, Request, all_range, found_in_range, found_back_in_range}
use Rattle.std.proofs.lemmas.List.Sums.{count_by-le-length}
use Rattle.ed_model.specs.Folding.{is_header, is_parent_of, fold_parent, fold_header, is_visible}
use Rattle.ed_model.specs.DisplayLines.{display_line, visible_lines, line_shown}
use Rattle.ed_model.specs.FoldingPlans.{line_shown_at}
use Rattle.ed_model.specs.proved.Elements.{all_filter}
use Rattle.line_rows.specs.Kept.{first_from, last_up_to}

pub next_bounded : (test : ℕ → Bool) (rows : List Row) (from : ℕ) (r : Option ℕ) → r ≡ first_from test rows from → length rows < 2 ^ 63 → IfSome r (λ line. line < 2 ^ 63)
next_bounded test rows from None e h = tt
next_bounded test rows from (Some k) e h =
    let within : k < length rows = found_in_range test from (length rows - from) (length rows) k (λ some. omega arith) (sym e) in omega arith

pub previous_bounded : (test : ℕ → Bool) (rows : List Row) (from : ℕ) (r : Option ℕ) → r ≡ last_up_to test rows from → length rows < 2 ^ 63 → IfSome r (λ line. line < 2 ^ 63)
previous_bounded test rows from None e h = tt
previous_bounded test rows from (Some k) e h =
    let within : k < length rows = found_back_in_range test 0 (min (from + 1) (length rows)) (length rows) k (λ some. omega arith) (sym e) in omega arith

-- the header is the line itself or a line before it
header_before : (levels : List ℕ) (line top : ℕ) (b : Bool) (r : Option ℕ) → line < top → r ≡ cond b (Some line) (fold_parent levels line) → IfSome r (λ k. k < top)
header_before levels line top b None h e = tt
header_before levels line top true (Some k) h e = let same : k ≡ line = cc in omega arith
header_before levels line top false (Some k) h e =
    let before : k < line = found_back_in_range (is_parent_of levels line) 0 line line k (λ some. omega arith) (sym e) in omega arith

pub header_within : (levels : List ℕ) (line top : ℕ) (r : Option ℕ) → line < top → r ≡ fold_header levels line → IfSome r (λ k. k < top)
header_within levels line top r h e = header_before levels line top (is_header levels line) r h e

pub display_bounded : (flags : List Flags) (line : ℕ) → display_line flags line ≤ length flags
display_bounded flags line =
    let few = count_by-le-length (λ (f : Flags). f.visible) (take (line + 1) flags) in
    let short = length-take (line + 1) flags in
    omega arith

at_or : (xs : List ℕ) (i top : ℕ) → AllByRecursion (λ k. k < top) xs → unwrap_or (slice_get xs i) top ≤ top
at_or [] i top a = omega arith
at_or (x ∷ xs) zero top a = let h = a.0 in omega (arith, h)
at_or (x ∷ xs) (suc i) top a = at_or xs i top a.1

shown_line : (flags : List Flags) (display : ℕ) → line_shown flags display ≤ length flags
shown_line flags display = at_or (visible_lines flags) display (length flags) (all_filter (λ k. k < length flags) (is_visible flags) (range_with_len 0 (length flags)) (all_range 0 (length flags) (length flags) (λ some. omega arith)))

pub shown_bounded : (r : Request) (w : ℤ) → line_shown_at r w ≤ length r.view.flags
shown_bounded r (negsuc n) = omega arith
shown_bounded r (pos n) = go (n == 0)
  where
    go : (b : Bool) → cond b 0 (line_shown r.view.flags n) ≤ length r.view.flags
    go true = omega arith
    go false = shown_line r.view.flags n
