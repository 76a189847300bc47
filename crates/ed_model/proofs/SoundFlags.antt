-- Changes of a view keep it fit for its document: the number of its flags stays, and line 0 stays visible.
use Rattle.ed_model.proofs.Names.{◌≡◌, ℕ, zero, suc, ◌+◌, ◌<◌, ◌≤◌, Bool, true, false, cond, List, [], ◌∷◌, length, reverse, refl, ◌∙◌, arith, nat_lt, nat_le, ◌&&◌, if◌then◌else◌, fold, length-set, length-map-range_with_len, cond_both, le-ltb, and_left, ViewChange, Flags, flags_at, is_visible, is_expanded, with_visible, with_expanded, is_between, lines_shown, lines_hidden, contracted, expanded, header_opened, revealed, is_child, is_open_between, last_child, fold_parents, Document, View, lines_in, changed_view, StandsOn}
use Rattle.ed_model.specs.declared.plan.ViewChange.TheVariants as view_change

-- the lines and positions of a change are in range for the document
abbrev pub IsFitHere : Document → ViewChange → Type 0
IsFitHere d (view_change.Select anchor caret) = (anchor ≤ length d.cells) × (caret ≤ length d.cells)
IsFitHere d (view_change.SetTarget start past) = (start ≤ length d.cells) × (past ≤ length d.cells)
IsFitHere d (view_change.SetIndicator indicator) = indicator < 32
IsFitHere d other = Unit {0}

-- flags for n lines, with line 0 visible
pub record AreFlags (n : ℕ) (flags : List Flags) : Type 0 where
  pub count : length flags ≡ n
  pub first : is_visible flags 0 ≡ true

first_with_visible : (passes shown : ℕ → Bool) (flags : List Flags) → (passes 0 ≡ true → shown 0 ≡ true) → is_visible flags 0 ≡ true → is_visible (with_visible passes shown flags) 0 ≡ true
first_with_visible passes shown [] h v = refl
first_with_visible passes shown (f ∷ fs) h v = go (passes 0) h
  where
    go : (b : Bool) → (b ≡ true → shown 0 ≡ true) → (cond b (record f { visible = shown 0 }) f).visible ≡ true
    go true h = h refl
    go false h = v

pub with_visible_flags : (n : ℕ) (passes shown : ℕ → Bool) (flags : List Flags) → (passes 0 ≡ true → shown 0 ≡ true) → AreFlags n flags → AreFlags n (with_visible passes shown flags)
with_visible_flags n passes shown flags h f = record {
  count = length-map-range_with_len (λ line. let f = flags_at flags line in if passes line then record f { visible = shown line } else f) 0 (length flags) ∙ f.count;
  first = first_with_visible passes shown flags h f.first;
}

first_with_expanded : (line : ℕ) (on : Bool) (flags : List Flags) → is_visible flags 0 ≡ true → is_visible (with_expanded line on flags) 0 ≡ true
first_with_expanded line on [] v = refl
first_with_expanded zero on (f ∷ fs) v = v
first_with_expanded (suc line) on (f ∷ fs) v = v

pub with_expanded_flags : (n line : ℕ) (on : Bool) (flags : List Flags) → AreFlags n flags → AreFlags n (with_expanded line on flags)
with_expanded_flags n line on flags f = record {
  count = let g = flags_at flags line in length-set flags line (record g { expanded = on }) ∙ f.count;
  first = first_with_expanded line on flags f.first;
}

pub lines_shown_flags : (n first past : ℕ) (flags : List Flags) → AreFlags n flags → AreFlags n (lines_shown first past flags)
lines_shown_flags n first past flags f = with_visible_flags n (is_between first past) (λ _. true) flags (λ _. refl) f

pub lines_hidden_flags : (n first past : ℕ) (flags : List Flags) → AreFlags n flags → AreFlags n (lines_hidden first past flags)
lines_hidden_flags n first past flags f =
    with_visible_flags n (λ line. nat_lt 0 line && is_between first past line) (λ _. false) flags (λ t. absurd (cc)) f

no_child : (levels : List ℕ) (header : ℕ) (b : Bool) → is_child levels header 0 ≡ true → b ≡ true
no_child levels header b t =
    let a : nat_lt header 0 ≡ false = le-ltb header 0 (omega arith) in
    let c : is_child levels header 0 ≡ false = and_left (nat_lt header 0) (nat_le 0 (last_child levels header)) a in
    absurd (cc)

pub contracted_flags : (n : ℕ) (levels : List ℕ) (header : ℕ) (flags : List Flags) → AreFlags n flags → AreFlags n (contracted levels header flags)
contracted_flags n levels header flags f =
    with_visible_flags n (is_child levels header) (λ _. false) (with_expanded header false flags) (no_child levels header false) (with_expanded_flags n header false flags f)

pub expanded_flags : (n : ℕ) (levels : List ℕ) (header : ℕ) (flags : List Flags) → AreFlags n flags → AreFlags n (expanded levels header flags)
expanded_flags n levels header flags f =
    with_visible_flags n (is_child levels header) (is_open_between levels flags header) (with_expanded header true flags)
    (no_child levels header (is_open_between levels flags header 0)) (with_expanded_flags n header true flags f)

pub opened_flags : (n : ℕ) (levels : List ℕ) (flags : List Flags) (header : ℕ) → AreFlags n flags → AreFlags n (header_opened levels flags header)
opened_flags n levels flags header f =
    let shown = lines_shown_flags n header (header + 1) flags f in
    cond_both (is_expanded flags header) (lines_shown header (header + 1) flags) (expanded levels header (lines_shown header (header + 1) flags)) (λ g. AreFlags n g)
    (λ _. shown) (λ _. expanded_flags n levels header (lines_shown header (header + 1) flags) shown)

all_opened : (n : ℕ) (levels : List ℕ) (flags : List Flags) (headers : List ℕ) → AreFlags n flags → AreFlags n (fold (header_opened levels) flags headers)
all_opened n levels flags [] f = f
all_opened n levels flags (header ∷ headers) f = all_opened n levels (header_opened levels flags header) headers (opened_flags n levels flags header f)

pub revealed_flags : (n : ℕ) (levels : List ℕ) (line : ℕ) (flags : List Flags) → AreFlags n flags → AreFlags n (revealed levels line flags)
revealed_flags n levels line flags f =
    cond_both (is_visible flags line) flags (lines_shown line (line + 1) (fold (header_opened levels) flags (reverse (fold_parents levels line)))) (λ g. AreFlags n g)
    (λ _. f)
    (λ _. lines_shown_flags n line (line + 1) (fold (header_opened levels) flags (reverse (fold_parents levels line))) (all_opened n levels flags (reverse (fold_parents levels line)) f))

with_flags : (d : Document) (v : View) (flags : List Flags) → StandsOn d v
    → ((f : AreFlags (lines_in d) v.flags) → AreFlags (lines_in d) flags) → StandsOn d (record v { flags = flags })
with_flags d v flags on h =
    let f = h (record { count = on.lines; first = on.first_line }) in
    record { anchor = on.anchor; caret = on.caret; target_start = on.target_start; target_end = on.target_end; lines = f.count; first_line = f.first; indicator = on.indicator; listed = on.listed }

-- a view fits its document after a change that does
pub changed_view_stands : (levels : List ℕ) (what : ViewChange) (d : Document) (v : View) → StandsOn d v → IsFitHere d what → StandsOn d (changed_view levels what v)
changed_view_stands levels (view_change.Select anchor caret) d v on fit =
    record { anchor = fit.0; caret = fit.1; target_start = on.target_start; target_end = on.target_end; lines = on.lines; first_line = on.first_line; indicator = on.indicator; listed = on.listed }
changed_view_stands levels (view_change.SetTarget start past) d v on fit =
    record { anchor = on.anchor; caret = on.caret; target_start = fit.0; target_end = fit.1; lines = on.lines; first_line = on.first_line; indicator = on.indicator; listed = on.listed }
changed_view_stands levels (view_change.SetIndicator indicator) d v on fit =
    record { anchor = on.anchor; caret = on.caret; target_start = on.target_start; target_end = on.target_end; lines = on.lines; first_line = on.first_line; indicator = fit; listed = on.listed }
changed_view_stands levels (view_change.ShowLines first past) d v on fit = with_flags d v (lines_shown first past v.flags) on (lines_shown_flags _ first past v.flags)
changed_view_stands levels (view_change.HideLines first past) d v on fit = with_flags d v (lines_hidden first past v.flags) on (lines_hidden_flags _ first past v.flags)
changed_view_stands levels (view_change.SetExpanded line shown) d v on fit = with_flags d v (with_expanded line shown v.flags) on (with_expanded_flags _ line shown v.flags)
changed_view_stands levels (view_change.Contract line) d v on fit = with_flags d v (contracted levels line v.flags) on (contracted_flags _ levels line v.flags)
changed_view_stands levels (view_change.Expand line) d v on fit = with_flags d v (expanded levels line v.flags) on (expanded_flags _ levels line v.flags)
changed_view_stands levels (view_change.EnsureVisible line) d v on fit = with_flags d v (revealed levels line v.flags) on (revealed_flags _ levels line v.flags)
changed_view_stands levels _ d v on fit =
    record { anchor = on.anchor; caret = on.caret; target_start = on.target_start; target_end = on.target_end; lines = on.lines; first_line = on.first_line; indicator = on.indicator; listed = on.listed }
