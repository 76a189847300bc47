-- The children of a header when it is contracted or expanded.
use Rattle.contraction.proofs.Names.{◌≡◌, ℕ, zero, suc, ◌+◌, ◌-◌, ◌<◌, ◌≤◌, Bool, true, false, not, ◌&&◌, ◌||◌, cond, ltb, leb, List, length, map, sym, refl, ap, ◌∙◌, inl, inr, arith, le_refl, or_right, range_with_len, list_all, and-false, cases_eq, cases_lt, cases_Bool, and_parts, and_from, false≢true, not-true, leb-true, le-leb, ltb-true, lt-ltb, le-ltb, get_or-set_other, length-set, list_all-append, length-map-range_with_len, get_or-map-range_with_len, Flags, fresh_flags, flags_at, is_expanded, with_visible, with_expanded, is_between, lines_shown, lines_hidden, expanded, is_open_between, is_header, is_child, last_child, range-append, map_range_agree, is_closed, closed_at, behind_closed}
use Rattle.std.proofs.lemmas.Bool.Decides.{nat_tests}
use Rattle.contraction.proofs.Nesting.{last_child_is, nested}

-- a child of a header lies behind it, up to its last child
pub child_parts : (levels : List ℕ) (header k : ℕ) → is_child levels header k ≡ true → (header < k) × (k ≤ last_child levels header)
child_parts levels header k t =
    let both = and_parts (ltb header k) (leb k (last_child levels header)) t in (ltb-true header k both.0, leb-true k (last_child levels header) both.1)

pub child_from : (levels : List ℕ) (header k : ℕ) → header < k → k ≤ last_child levels header → is_child levels header k ≡ true
child_from levels header k a b = and_from (ltb header k) (leb k (last_child levels header)) (lt-ltb header k a) (le-leb k (last_child levels header) b)

-- a line after some were shown or hidden
abbrev pub shown_at : (ℕ → Bool) → (ℕ → Bool) → List Flags → ℕ → Flags
shown_at passes shown flags k = let f = flags_at flags k in cond (passes k) (record f { visible = shown k }) f

pub length-with_visible : (passes shown : ℕ → Bool) (flags : List Flags) → length (with_visible passes shown flags) ≡ length flags
length-with_visible passes shown flags = length-map-range_with_len (shown_at passes shown flags) 0 (length flags)

pub visible_at : (passes shown : ℕ → Bool) (flags : List Flags) (k : ℕ) → k < length flags → flags_at (with_visible passes shown flags) k ≡ shown_at passes shown flags k
visible_at passes shown flags k l = get_or-map-range_with_len (shown_at passes shown flags) 0 (length flags) k k fresh_flags l (omega arith)

-- two tests that pass the same lines, and show the same ones of them
visible_same : (p q s t : ℕ → Bool) (flags : List Flags) → ((k : ℕ) → k < length flags → p k ≡ q k) → ((k : ℕ) → k < length flags → p k ≡ true → s k ≡ t k)
    → with_visible p s flags ≡ with_visible q t flags
visible_same p q s t flags pq st =
    map_range_agree (shown_at p s flags) (shown_at q t flags) 0 (length flags) (λ k h l. go k (p k) (q k) refl (pq k (omega arith)) (st k (omega arith)))
  where
    go : (k : ℕ) (b d : Bool) → p k ≡ b → b ≡ d → (b ≡ true → s k ≡ t k)
        → cond b (record (flags_at flags k) { visible = s k }) (flags_at flags k) ≡ cond d (record (flags_at flags k) { visible = t k }) (flags_at flags k)
    go k true d e f st = rw (← f, st refl) refl
    go k false d e f st = rw (← f) refl

-- two changes, one after the other
visible_twice : (p q s t u : ℕ → Bool) (flags : List Flags)
    → ((k : ℕ) → k < length flags → q k ≡ true → (p k ≡ true) × (u k ≡ t k)) → ((k : ℕ) → k < length flags → q k ≡ false → p k ≡ true → u k ≡ s k)
    → with_visible q t (with_visible p s flags) ≡ with_visible p u flags
visible_twice p q s t u flags both one =
    ap (λ n. map (shown_at q t (with_visible p s flags)) (range_with_len 0 n)) (length-with_visible p s flags)
    ∙ map_range_agree (shown_at q t (with_visible p s flags)) (shown_at p u flags) 0 (length flags)
    (λ k h l.
    ap (λ (f : Flags). cond (q k) (record f { visible = t k }) f) (visible_at p s flags k (omega arith))
    ∙ go k (p k) (q k) (both k (omega arith)) (one k (omega arith)))
  where
    go : (k : ℕ) (b d : Bool) → (d ≡ true → (b ≡ true) × (u k ≡ t k)) → (d ≡ false → b ≡ true → u k ≡ s k)
        → cond d (record (cond b (record (flags_at flags k) { visible = s k }) (flags_at flags k)) { visible = t k }) (cond b (record (flags_at flags k) { visible = s k }) (flags_at flags k))
        ≡ cond b (record (flags_at flags k) { visible = u k }) (flags_at flags k)
    go k true true y n = rw (y refl).1 refl
    go k false true y n = absurd (false≢true (y refl).0)
    go k true false y n = rw (n refl refl) refl
    go k false false y n = refl

-- showing lines expands none
pub expanded_still : (p s : ℕ → Bool) (flags : List Flags) (k : ℕ) → k < length flags → is_expanded (with_visible p s flags) k ≡ is_expanded flags k
expanded_still p s flags k l = ap (λ (f : Flags). f.expanded) (visible_at p s flags k l) ∙ go (p k)
  where
    go : (b : Bool) → (cond b (record (flags_at flags k) { visible = s k }) (flags_at flags k)).expanded ≡ is_expanded flags k
    go true = refl
    go false = refl

expanded_other : (line k : ℕ) (on : Bool) (flags : List Flags) → (k ≡ line → ⊥) → is_expanded (with_expanded line on flags) k ≡ is_expanded flags k
expanded_other line k on flags ne =
    ap (λ (f : Flags). f.expanded) (get_or-set_other flags line k (record (flags_at flags line) { expanded = on }) fresh_flags ne)

pub length-with_expanded : (line : ℕ) (on : Bool) (flags : List Flags) → length (with_expanded line on flags) ≡ length flags
length-with_expanded line on flags = length-set flags line (record (flags_at flags line) { expanded = on })

-- the children as a range, in which line 0 is not

hidden_range : (header last k : ℕ) → (ltb 0 k && (leb (header + 1) k && ltb k (last + 1))) ≡ (ltb header k && leb k last)
hidden_range header last k = grind (arith, nat_tests)

shown_range : (header last k : ℕ) → (leb (header + 1) k && ltb k (last + 1)) ≡ (ltb header k && leb k last)
shown_range header last k = grind (arith, nat_tests)

children_hidden : (levels : List ℕ) (header : ℕ) (flags : List Flags)
    → lines_hidden (header + 1) (last_child levels header + 1) flags ≡ with_visible (is_child levels header) (λ _. false) flags
children_hidden levels header flags =
    visible_same (λ k. ltb 0 k && is_between (header + 1) (last_child levels header + 1) k) (is_child levels header) (λ _. false) (λ _. false) flags
    (λ k l. hidden_range header (last_child levels header) k) (λ k l t. refl)

children_shown : (levels : List ℕ) (header : ℕ) (flags : List Flags)
    → lines_shown (header + 1) (last_child levels header + 1) flags ≡ with_visible (is_child levels header) (λ _. true) flags
children_shown levels header flags =
    visible_same (is_between (header + 1) (last_child levels header + 1)) (is_child levels header) (λ _. true) (λ _. true) flags
    (λ k l. shown_range header (last_child levels header) k) (λ k l t. refl)

-- open as far as the headers before a line decide

abbrev pub lets_through : List ℕ → List Flags → ℕ → ℕ → Bool
lets_through levels flags k inner = not (is_header levels inner && is_child levels inner k) || is_expanded flags inner

abbrev pub open_to : List ℕ → List Flags → ℕ → ℕ → ℕ → Bool
open_to levels flags header line k = list_all (lets_through levels flags k) (range_with_len (header + 1) (line - (header + 1)))

pub open_through : (levels : List ℕ) (flags : List Flags) (k inner : ℕ) → is_expanded flags inner ≡ true → lets_through levels flags k inner ≡ true
open_through levels flags k inner e = or_right (not (is_header levels inner && is_child levels inner k)) (is_expanded flags inner) e

pub all_agree : (s t : ℕ → Bool) (a n : ℕ) → ((k : ℕ) → a ≤ k → k < a + n → s k ≡ t k) → list_all s (range_with_len a n) ≡ list_all t (range_with_len a n)
all_agree s t a zero same = refl
all_agree s t a (suc n) same = rw (same a (omega arith) (omega arith), all_agree s t (a + 1) n (λ k h l. same k (omega arith) (omega arith))) refl

pub all_through : (test : ℕ → Bool) (a n : ℕ) → ((k : ℕ) → a ≤ k → k < a + n → test k ≡ true) → list_all test (range_with_len a n) ≡ true
all_through test a zero each = refl
all_through test a (suc n) each = rw (each a (omega arith) (omega arith)) (all_through test (a + 1) n (λ k h l. each k (omega arith) (omega arith)))

module _ (levels : List ℕ) (flags : List Flags) (header : ℕ) where
  open_none : (k : ℕ) → open_to levels flags header (header + 1) k ≡ true
  open_none k = let e : header + 1 - (header + 1) ≡ 0 = omega arith in rw e refl

  pub open_apart : (line later k : ℕ) → header < line → line ≤ later
      → open_to levels flags header later k ≡ (open_to levels flags header line k && list_all (lets_through levels flags k) (range_with_len line (later - line)))
  open_apart line later k h le =
      let e : later - (header + 1) ≡ (line - (header + 1)) + (later - line) = omega arith in
      let f : header + 1 + (line - (header + 1)) ≡ line = omega arith in
      ap (λ n. list_all (lets_through levels flags k) (range_with_len (header + 1) n)) e
      ∙ ap (list_all (lets_through levels flags k)) (range-append (header + 1) (line - (header + 1)) (later - line))
      ∙ list_all-append (lets_through levels flags k) (range_with_len (header + 1) (line - (header + 1))) (range_with_len (header + 1 + (line - (header + 1))) (later - line))
      ∙ ap (λ a. open_to levels flags header line k && list_all (lets_through levels flags k) (range_with_len a (later - line))) f

  -- what lets a line through between two lines does not decide
  open_stays : (line later k : ℕ) → header < line → line ≤ later → ((j : ℕ) → line ≤ j → j < later → lets_through levels flags k j ≡ true)
      → open_to levels flags header later k ≡ open_to levels flags header line k
  open_stays line later k h le each =
      open_apart line later k h le ∙ and_true (open_to levels flags header line k) (list_all (lets_through levels flags k) (range_with_len line (later - line)))
      (all_through (lets_through levels flags k) line (later - line) (λ j a b. each j a (omega arith)))
    where
      and_true : (b d : Bool) → d ≡ true → (b && d) ≡ b
      and_true true d e = e
      and_true false d e = refl

  no_child_through : (inner k : ℕ) → is_child levels inner k ≡ false → lets_through levels flags k inner ≡ true
  no_child_through inner k e = rw (e, and-false (is_header levels inner)) refl

  -- what lies at a line or behind it does not close the line
  open_all : (line k : ℕ) → header < k → k ≤ line → open_to levels flags header line k ≡ is_open_between levels flags header k
  open_all line k h le = open_stays k line k h le (λ j a b. no_child_through j k (rw (le-ltb j k a) refl))

  -- one more line, which is no contracted header
  open_more : (line k : ℕ) → header < line → is_closed levels flags line ≡ false → open_to levels flags header (line + 1) k ≡ open_to levels flags header line k
  open_more line k h e =
      open_stays line (line + 1) k h (omega arith)
      (λ j a b. let same : j ≡ line = omega arith in rw same (through (is_header levels line) (is_expanded flags line) (is_child levels line k) e))
    where
      through : (a b d : Bool) → (a && not b) ≡ false → (not (a && d) || b) ≡ true
      through a b d e = grind arith

  -- one more line, which is a contracted header, with its children
  open_behind : (line k : ℕ) → header < line → line < length levels → is_closed levels flags line ≡ true
      → open_to levels flags header (last_child levels line + 1) k ≡ cond (is_child levels line k) false (open_to levels flags header line k)
  open_behind line k h l e =
      let last = last_child levels line in
      let is = last_child_is levels line l in
      let some : last + 1 - line ≡ suc (last - line) = omega (arith, is.from) in
      let parts = and_parts (is_header levels line) (not (is_expanded flags line)) e in
      let shut : is_expanded flags line ≡ false = not-true (is_expanded flags line) parts.1 in
      elim (cases_Bool (is_child levels line k)) [
        | inl child ↦
            open_apart line (last + 1) k h (omega (arith, is.from)) ∙ rw (some, parts.0, child, shut) (and-false (open_to levels flags header line k))
        | inr other ↦
            rw other (open_stays line (last + 1) k h (omega (arith, is.from)) (λ j a b. no_child_through j k (outside line k l other j a (omega arith))))
      ]
    where
      outside : (line k : ℕ) → line < length levels → is_child levels line k ≡ false → (j : ℕ) → line ≤ j → j ≤ last_child levels line → is_child levels j k ≡ false
      outside line k l other j a b =
          elim (cases_Bool (is_child levels j k)) [
            | inr f ↦ f
            | inl t ↦
                let is = last_child_is levels line l in
                let of_j = child_parts levels j k t in
                let inside : last_child levels j ≤ last_child levels line = elim (cases_eq line j) [
                  | inl q ↦ rw q (le_refl (last_child levels j))
                  | inr ne ↦ nested levels line j (last_child levels line) (last_child levels j) is (last_child_is levels j (omega (arith, is.within))) (omega arith) b
                ] in
                absurd (false≢true (sym other ∙ child_from levels line k (omega arith) (omega arith)))
          ]

  -- the header's children, of which those are hidden that a contracted header before the line hides
  abbrev pub Passed : ℕ → List Flags → Type 0
  Passed line now = now ≡ with_visible (is_child levels header) (open_to levels flags header line) (with_expanded header true flags)

  grouped : (s t : ℕ → Bool) → ((k : ℕ) → k < length (with_expanded header true flags) → is_child levels header k ≡ true → s k ≡ t k)
      → with_visible (is_child levels header) s (with_expanded header true flags) ≡ with_visible (is_child levels header) t (with_expanded header true flags)
  grouped s t same = visible_same (is_child levels header) (is_child levels header) s t (with_expanded header true flags) (λ k l. refl) same

  pub size_now : (line : ℕ) (now : List Flags) → Passed line now → length now ≡ length flags
  size_now line now e =
      ap length e ∙ length-with_visible (is_child levels header) (open_to levels flags header line) (with_expanded header true flags) ∙ length-with_expanded header true flags

  -- later headers are still unchanged
  expanded_now : (line : ℕ) (now : List Flags) → Passed line now → (later : ℕ) → header < later → later < length flags → is_expanded now later ≡ is_expanded flags later
  expanded_now line now e later h l =
      ap (λ fs. is_expanded fs later) e
      ∙ expanded_still (is_child levels header) (open_to levels flags header line) (with_expanded header true flags) later (omega (arith, length-with_expanded header true flags))
      ∙ expanded_other header later true flags (λ q. omega arith)

  closed_still : (line : ℕ) (now : List Flags) → Passed line now → header < line → line < length flags → is_closed levels now line ≡ is_closed levels flags line
  closed_still line now e h l = ap (λ b. is_header levels line && not b) (expanded_now line now e line h l)

  pub passed_start : (last : ℕ) (now : List Flags) → last ≡ last_child levels header → now ≡ lines_shown (header + 1) (last + 1) (with_expanded header true flags) → Passed (header + 1) now
  passed_start last now e q =
      (rw e at q) ∙ children_shown levels header (with_expanded header true flags)
      ∙ grouped (λ _. true) (open_to levels flags header (header + 1)) (λ k l t. sym (open_none k))

  pub passed_next : (line next : ℕ) (now new : List Flags) → header < line → header < length levels → line ≤ last_child levels header → length levels ≡ length flags → Passed line now
      → next ≡ behind_closed levels line now → new ≡ closed_at levels line now → Passed next new × (line < next)
  passed_next line next now new h within le size e q r =
      let top = last_child_is levels header within in
      let inside : line < length flags = omega (arith, top.within) in
      let still = closed_still line now e h inside in
      elim (cases_Bool (is_closed levels flags line)) [
        | inl closed ↦
            let is = last_child_is levels line (omega arith) in
            let here : next ≡ last_child levels line + 1 = q ∙ rw (still, closed) refl in
            let lies : last_child levels line ≤ last_child levels header = nested levels header line (last_child levels header) (last_child levels line) top is h le in (
              rw here
                  (r ∙ rw (still, closed) refl ∙ children_hidden levels line now
                  ∙ ap (with_visible (is_child levels line) (λ _. false)) e
                  ∙ visible_twice (is_child levels header) (is_child levels line) (open_to levels flags header line) (λ _. false) (open_to levels flags header (last_child levels line + 1)) (with_expanded header true flags)
                  (λ k l t. let child = child_parts levels line k t in (child_from levels header k (omega arith) (omega arith), open_behind line k h (omega arith) closed ∙ rw t refl))
                  (λ k l f t. open_behind line k h (omega arith) closed ∙ rw f refl)),
              omega (arith, here, is.from),
            )
        | inr clear ↦
            let here : next ≡ line + 1 = q ∙ rw (still, clear) refl in (
              rw here
                  (r ∙ rw (still, clear) refl ∙ e ∙ grouped (open_to levels flags header line) (open_to levels flags header (line + 1)) (λ k l t. sym (open_more line k h clear))),
              omega (arith, here),
            )
      ]

  -- headers that are expanded hide nothing
  pub passed_over : (line later : ℕ) (now : List Flags) → header < line → line ≤ later → Passed line now
      → ((j : ℕ) → line ≤ j → j < later → j < length now → is_expanded now j ≡ true) → Passed later now
  passed_over line later now h le e each =
      let size = size_now line now e in
      let size' = length-with_expanded header true flags in
      let through : (k j : ℕ) → k < length flags → line ≤ j → j < later → lets_through levels flags k j ≡ true = λ k j l a b.
      elim (cases_lt j (length flags)) [
        | inl m ↦ open_through levels flags k j (sym (expanded_now line now e j (omega arith) m) ∙ each j a b (omega (arith, size)))
        | inr m ↦ no_child_through j k (rw (le-ltb j k (omega arith)) refl)
      ] in
      e ∙ grouped (open_to levels flags header line) (open_to levels flags header later)
      (λ k l t. sym (open_stays line later k h le (λ j a b. through k j (omega (arith, size')) a b)))

  pub passed_all : (line : ℕ) (now : List Flags) → last_child levels header < line → Passed line now → now ≡ expanded levels header flags
  passed_all line now h e =
      e ∙ grouped (open_to levels flags header line) (is_open_between levels flags header)
      (λ k l t. let child = child_parts levels header k t in open_all line k child.0 (omega arith))
