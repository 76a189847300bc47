-- The fold parents of a line may be opened in any order: the outermost first, or the nearest first.
use Rattle.contraction.proofs.Names.{◌≡◌, ℕ, zero, suc, ◌+◌, ◌-◌, ◌<◌, ◌≤◌, Bool, true, false, not, ◌&&◌, ◌||◌, cond, ltb, leb, eqb, List, [], ◌∷◌, length, reverse, Option, Some, None, sym, refl, ap, ◌∙◌, inl, inr, arith, and-false, or_right, fold, fold-append, reverse-append, cases_eq, cases_lt, cases_Bool, and_parts, and_from, false≢true, ltb-true, leb-true, le-leb, lt-ltb, le-ltb, eqb-true, eq-eqb, ne_eqb, ext_get_or, get_or-set_same, get_or-set_other, Flags, fresh_flags, flags_at, is_visible, is_expanded, with_expanded, is_between, lines_shown, expanded, is_open_between, is_header, is_child, last_child, number_at, fold_parents, fold_parent, parents_from, header_opened}
use Rattle.ed_model.specs.Folding.{is_parent_of}
use Rattle.ed_model.specs.proved.Folding.{parents_are}
use Rattle.contraction.proofs.Changed.{one_line}
use Rattle.contraction.proofs.Expanding.{visible_at, expanded_still, length-with_visible, length-with_expanded, lets_through, open_through, open_to, open_apart, all_through, all_agree}
use Rattle.contraction.proofs.FoldLines.{last_before, last_here, last_earlier}
use Rattle.contraction.proofs.Nesting.{last_child_is}

module _ (levels : List ℕ) where
  -- whether a line is shown depends on which headers before it are expanded
  open_agrees : (f g : List Flags) (a k : ℕ) → ((r : ℕ) → a < r → r < k → is_expanded f r ≡ is_expanded g r) → is_open_between levels f a k ≡ is_open_between levels g a k
  open_agrees f g a k same =
      all_agree (lets_through levels f k) (lets_through levels g k) (a + 1) (k - (a + 1)) (λ r b c. ap (λ b. not (is_header levels r && is_child levels r k) || b) (same r (omega arith) (omega arith)))

  -- One line, after a header is opened.

  shown_line : (flags : List Flags) (h k : ℕ) → k < length flags → flags_at (lines_shown h (h + 1) flags) k ≡ cond (eqb k h) (record (flags_at flags k) { visible = true }) (flags_at flags k)
  shown_line flags h k l =
      visible_at (is_between h (h + 1)) (λ _. true) flags k l
      ∙ ap (λ b. cond b (record (flags_at flags k) { visible = true }) (flags_at flags k)) (one_line h k)

  expanded_line : (flags : List Flags) (h k : ℕ) → k < length flags → flags_at (with_expanded h true flags) k ≡ cond (eqb k h) (record (flags_at flags k) { expanded = true }) (flags_at flags k)
  expanded_line flags h k l =
      elim (cases_eq k h) [
        | inl q ↦ rw (q, eq-eqb h h refl) (get_or-set_same flags h (record (flags_at flags h) { expanded = true }) fresh_flags (omega arith))
        | inr ne ↦ rw (ne_eqb k h ne) (get_or-set_other flags h k (record (flags_at flags h) { expanded = true }) fresh_flags ne)
      ]

  not_its_child : (h k : ℕ) → k ≤ h → is_child levels h k ≡ false
  not_its_child h k l = rw (le-ltb h k l) refl

  length-shown : (flags : List Flags) (h : ℕ) → length (lines_shown h (h + 1) flags) ≡ length flags
  length-shown flags h = length-with_visible (is_between h (h + 1)) (λ _. true) flags

  abbrev pub opened_line : List Flags → ℕ → ℕ → Flags
  opened_line flags h k = record {
    visible = cond (eqb k h) true (cond (not (is_expanded flags h) && is_child levels h k) (is_open_between levels flags h k) (is_visible flags k));
    expanded = eqb k h || is_expanded flags k;
  }

  pub length-opened : (flags : List Flags) (h : ℕ) → length (header_opened levels flags h) ≡ length flags
  length-opened flags h = go (is_expanded flags h)
    where
      go : (b : Bool) → length (cond b (lines_shown h (h + 1) flags) (expanded levels h (lines_shown h (h + 1) flags))) ≡ length flags
      go true = length-shown flags h
      go false =
          length-with_visible (is_child levels h) (is_open_between levels (lines_shown h (h + 1) flags) h) (with_expanded h true (lines_shown h (h + 1) flags))
          ∙ length-with_expanded h true (lines_shown h (h + 1) flags) ∙ length-shown flags h

  pub opened : (flags : List Flags) (h k : ℕ) → k < length flags → flags_at (header_opened levels flags h) k ≡ opened_line flags h k
  opened flags h k l =
      let shown = lines_shown h (h + 1) flags in
      let size = length-shown flags h in
      elim (cases_Bool (is_expanded flags h)) [
        | inl on ↦
            rw on
            (shown_line flags h k l
            ∙ shows (eqb k h) (is_child levels h k) (is_open_between levels flags h k) (flags_at flags k) (λ t. ap (is_expanded flags) (eqb-true k h t) ∙ on))
        | inr off ↦
            let still = open_agrees shown flags h k (λ r a b. expanded_still (is_between h (h + 1)) (λ _. true) flags r (omega arith)) in
            rw off
            (visible_at (is_child levels h) (is_open_between levels shown h) (with_expanded h true shown) k (omega (arith, length-with_expanded h true shown))
            ∙ ap (λ (f : Flags). cond (is_child levels h k) (record f { visible = is_open_between levels shown h k }) f)
            (expanded_line shown h k (omega arith) ∙ ap (λ (f : Flags). cond (eqb k h) (record f { expanded = true }) f) (shown_line flags h k l))
            ∙ expands (eqb k h) (is_child levels h k) (is_open_between levels shown h k) (is_open_between levels flags h k) (flags_at flags k)
            still (λ t. not_its_child h k (omega (arith, eqb-true k h t))))
      ]
    where
      shows : (here child free : Bool) (f : Flags) → (here ≡ true → f.expanded ≡ true)
          → cond here (record f { visible = true }) f ≡ record { visible = cond here true (cond (not true && child) free f.visible); expanded = here || f.expanded }
      shows true child free f e = rw (e refl) refl
      shows false child free f e = refl

      expands : (here child free' free : Bool) (f : Flags) → free' ≡ free → (here ≡ true → child ≡ false)
          → (let g = cond here (record f { visible = true }) f in let x = cond here (record g { expanded = true }) g in cond child (record x { visible = free' }) x)
          ≡ record { visible = cond here true (cond (not false && child) free f.visible); expanded = here || f.expanded }
      expands true child free' free f e n = rw (n refl) refl
      expands false true free' free f e n = rw e refl
      expands false false free' free f e n = refl

  expanded_opened : (flags : List Flags) (h k : ℕ) → k < length flags → is_expanded (header_opened levels flags h) k ≡ (eqb k h || is_expanded flags k)
  expanded_opened flags h k l = ap (λ (f : Flags). f.expanded) (opened flags h k l)

  visible_opened : (flags : List Flags) (h k : ℕ) → k < length flags → is_visible (header_opened levels flags h) k
      ≡ cond (eqb k h) true (cond (not (is_expanded flags h) && is_child levels h k) (is_open_between levels flags h k) (is_visible flags k))
  visible_opened flags h k l = ap (λ (f : Flags). f.visible) (opened flags h k l)

  -- opening expands the header, and contracts no line
  header_expanded : (flags : List Flags) (h : ℕ) → h < length flags → is_expanded (header_opened levels flags h) h ≡ true
  header_expanded flags h l = expanded_opened flags h h l ∙ rw (eq-eqb h h refl) refl

  still_expanded : (flags : List Flags) (h k : ℕ) → k < length flags → is_expanded flags k ≡ true → is_expanded (header_opened levels flags h) k ≡ true
  still_expanded flags h k l e = expanded_opened flags h k l ∙ or_right (eqb k h) (is_expanded flags k) e

  -- no contracted header between two lines has the second one as a child
  abbrev pub ClearBetween : List Flags → ℕ → ℕ → Type 0
  ClearBetween flags p h = (r : ℕ) → p < r → r < h → is_header levels r && is_child levels r h ≡ true → is_expanded flags r ≡ true

  -- a header that has a line as a child has each line between them as one
  child_between : (r h k : ℕ) → r < h → h ≤ k → is_child levels r k ≡ true → is_child levels r h ≡ true
  child_between r h k a b t =
      let both = and_parts (ltb r k) (leb k (last_child levels r)) t in
      let last : k ≤ last_child levels r = leb-true k (last_child levels r) both.1 in
      and_from (ltb r h) (leb h (last_child levels r)) (lt-ltb r h a) (le-leb h (last_child levels r) (omega arith))

  -- Two headers, opened in either order.

  module _ (flags : List Flags) (p h : ℕ) (before : p < h) (inside : h < length flags) (clear : ClearBetween flags p h) where
    abbrev pub outer_first : List Flags
    outer_first = header_opened levels (header_opened levels flags p) h

    abbrev pub inner_first : List Flags
    inner_first = header_opened levels (header_opened levels flags h) p

    -- a header between them lets a child of the inner one through, and the inner one itself
    through_between : (k r : ℕ) → h ≤ k → k < length flags → p < r → r < h → lets_through levels (header_opened levels flags h) k r ≡ true
    through_between k r a l b c =
        elim (cases_Bool (is_header levels r && is_child levels r k)) [
          | inl t ↦
              let both = and_parts (is_header levels r) (is_child levels r k) t in
              open_through levels (header_opened levels flags h) k r
              (still_expanded flags h r (omega arith) (clear r b c (and_from (is_header levels r) (is_child levels r h) both.0 (child_between r h k c a both.1))))
          | inr f ↦ rw f refl
        ]

    inner_shown : is_open_between levels (header_opened levels flags h) p h ≡ true
    inner_shown = all_through (lets_through levels (header_opened levels flags h) h) (p + 1) (h - (p + 1)) (λ r a b. through_between h r (omega arith) inside (omega arith) (omega arith))

    -- what opening one header leaves of another line
    apart : (one k : ℕ) → k < length flags → (k ≡ one → ⊥) → is_expanded (header_opened levels flags one) k ≡ is_expanded flags k
    apart one k l ne = expanded_opened flags one k l ∙ rw (ne_eqb k one ne) refl

    open_from_inner : (k : ℕ) → k < length flags → is_open_between levels (header_opened levels flags p) h k ≡ is_open_between levels flags h k
    open_from_inner k l = open_agrees (header_opened levels flags p) flags h k (λ r a b. apart p r (omega arith) (λ q. omega arith))

    -- for a child of the inner one, if both are expanded
    open_from_either : (k : ℕ) → h < k → k < length flags → is_open_between levels flags h k ≡ is_open_between levels (header_opened levels flags h) p k
    open_from_either k a l =
        let up_to : open_to levels (header_opened levels flags h) p (h + 1) k ≡ true =
        all_through (lets_through levels (header_opened levels flags h) k) (p + 1) (h + 1 - (p + 1))
        (λ r b c.
        elim (cases_lt r h) [
          | inl low ↦ through_between k r (omega arith) l (omega arith) low
          | inr high ↦ let q : r ≡ h = omega arith in rw q (open_through levels (header_opened levels flags h) k h (header_expanded flags h inside))
        ]) in
        sym (open_apart levels (header_opened levels flags h) p (h + 1) k k (omega arith) (omega arith)
        ∙ rw up_to (open_agrees (header_opened levels flags h) flags h k (λ r b c. apart h r (omega arith) (λ q. omega arith))))

    -- if the inner one was expanded, or does not have the line as a child
    open_from_outer : (k : ℕ) → k < length flags → not (is_expanded flags h) && is_child levels h k ≡ false
        → is_open_between levels flags p k ≡ is_open_between levels (header_opened levels flags h) p k
    open_from_outer k l n =
        all_agree (lets_through levels flags k) (lets_through levels (header_opened levels flags h) k) (p + 1) (k - (p + 1))
        (λ r b c.
        elim (cases_eq r h) [
          | inl q ↦ rw (q, header_expanded flags h inside) (open_anyway (is_header levels h) (is_child levels h k) (is_expanded flags h) n)
          | inr ne ↦ ap (λ b. not (is_header levels r && is_child levels r k) || b) (sym (apart h r (omega arith) ne))
        ])
      where
        open_anyway : (header child free : Bool) → not free && child ≡ false → (not (header && child) || free) ≡ (not (header && child) || true)
        open_anyway header child true e = refl
        open_anyway true true false e = absurd (false≢true (sym e))
        open_anyway true false false e = refl
        open_anyway false child false e = refl

    same_expanded : (k : ℕ) → k < length flags → is_expanded outer_first k ≡ is_expanded inner_first k
    same_expanded k l =
        expanded_opened (header_opened levels flags p) h k (omega (arith, length-opened flags p)) ∙ ap (λ b. eqb k h || b) (expanded_opened flags p k l)
        ∙ swap (eqb k h) (eqb k p) (is_expanded flags k)
        ∙ sym (expanded_opened (header_opened levels flags h) p k (omega (arith, length-opened flags h)) ∙ ap (λ b. eqb k p || b) (expanded_opened flags h k l))
      where
        swap : (a b e : Bool) → (a || (b || e)) ≡ (b || (a || e))
        swap true true e = refl
        swap true false e = refl
        swap false b e = refl

    -- x and y: the one or the other was contracted, and has the line as a child
    pick : (a b x y inner inner' outer outer' v : Bool) → inner' ≡ inner → (x ≡ true → inner ≡ outer') → (x ≡ false → outer ≡ outer') → (a ≡ true → (b ≡ false) × (outer' ≡ true)) → (b ≡ true → x ≡ false)
        → cond a true (cond x inner' (cond b true (cond y outer v))) ≡ cond b true (cond y outer' (cond a true (cond x inner v)))
    pick a b x y inner inner' outer outer' v e both one at_inner at_outer = grind arith

    same_visible : (k : ℕ) → k < length flags → is_visible outer_first k ≡ is_visible inner_first k
    same_visible k l =
        visible_opened (header_opened levels flags p) h k (omega (arith, length-opened flags p))
        ∙ rw (apart p h inside (λ r. omega arith), visible_opened flags p k l)
        (pick (eqb k h) (eqb k p) (not (is_expanded flags h) && is_child levels h k) (not (is_expanded flags p) && is_child levels p k)
        (is_open_between levels flags h k) (is_open_between levels (header_opened levels flags p) h k) (is_open_between levels flags p k)
        (is_open_between levels (header_opened levels flags h) p k) (is_visible flags k) (open_from_inner k l)
        (λ t. open_from_either k (ltb-true h k (and_parts (ltb h k) (leb k (last_child levels h)) (and_parts (not (is_expanded flags h)) (is_child levels h k) t).1).0) l)
        (open_from_outer k l)
        (λ t. let q = eqb-true k h t in (ne_eqb k p (λ r. omega arith), rw q inner_shown))
        (λ t. let q = eqb-true k p t in rw (not_its_child h k (omega arith)) (and-false (not (is_expanded flags h))))
        ∙ sym (visible_opened (header_opened levels flags h) p k (omega (arith, length-opened flags h)) ∙ rw (apart h p (omega arith) (λ r. omega arith), visible_opened flags h k l) refl))

    pub either_first : outer_first ≡ inner_first
    either_first =
        let size : length outer_first ≡ length flags = length-opened (header_opened levels flags p) h ∙ length-opened flags p in
        let size' : length inner_first ≡ length flags = length-opened (header_opened levels flags h) p ∙ length-opened flags h in
        ext_get_or fresh_flags outer_first inner_first (size ∙ sym size')
        (λ k l. both (flags_at outer_first k) (flags_at inner_first k) (same_visible k (omega arith)) (same_expanded k (omega arith)))
      where
        both : (f g : Flags) → f.visible ≡ g.visible → f.expanded ≡ g.expanded → f ≡ g
        both f g v e = ap (λ b. record f { visible = b }) v ∙ ap (λ b. record { visible = g.visible; expanded = b }) e

  -- The chain of fold parents.

  -- the last line before one that passes, or none does
  abbrev pub FoundBefore : (ℕ → Bool) → ℕ → Option ℕ → Type 0
  FoundBefore test a None = (k : ℕ) → k < a → test k ≡ false
  FoundBefore test a (Some j) = (j < a) × ((k : ℕ) → j < k → k < a → test k ≡ false)

  found_before : (test : ℕ → Bool) (a : ℕ) → FoundBefore test a (last_before test a)
  found_before test zero = λ k l. absurd (omega arith)
  found_before test (suc m) =
      elim (cases_Bool (test m)) [
        | inl t ↦ rw (last_here test (suc m) m (omega arith) t) (omega arith, λ k a b. absurd (omega arith))
        | inr f ↦ rw (last_earlier test (suc m) m (omega arith) f) (later (last_before test m) f (found_before test m))
      ]
    where
      at_last : (k : ℕ) → k < suc m → test m ≡ false → (k < m → test k ≡ false) → test k ≡ false
      at_last k l f before = elim (cases_eq k m) [
        | inl q ↦ rw q f
        | inr ne ↦ before (omega arith)
      ]

      later : (o : Option ℕ) → test m ≡ false → FoundBefore test m o → FoundBefore test (suc m) o
      later None f found = λ k l. at_last k l f (found k)
      later (Some j) f found = (omega (arith, found.0), λ k a b. at_last k b f (λ c. found.1 k a c))

  -- the flags after the fold parents of the line are opened, the nearest first, and the outermost first
  abbrev pub opened_up : ℕ → List Flags → List Flags
  opened_up line flags = fold (header_opened levels) flags (fold_parents levels line)

  abbrev pub opened_down : ℕ → List Flags → List Flags
  opened_down line flags = fold (header_opened levels) flags (reverse (fold_parents levels line))

  chain : (line : ℕ) (o : Option ℕ) → o ≡ fold_parent levels line → fold_parents levels line ≡ parents_from levels o
  chain line o e = parents_are levels line ∙ ap (parents_from levels) (sym e)

  pub up_none : (line : ℕ) (flags : List Flags) → None ≡ fold_parent levels line → opened_up line flags ≡ flags
  up_none line flags e = ap (fold (header_opened levels) flags) (chain line None e)

  pub up_some : (line parent : ℕ) (flags : List Flags) → Some parent ≡ fold_parent levels line → opened_up line flags ≡ opened_up parent (header_opened levels flags parent)
  up_some line parent flags e = ap (fold (header_opened levels) flags) (chain line (Some parent) e)

  down_some : (line parent : ℕ) (flags : List Flags) → Some parent ≡ fold_parent levels line → opened_down line flags ≡ header_opened levels (opened_down parent flags) parent
  down_some line parent flags e =
      ap (λ l. fold (header_opened levels) flags (reverse l)) (chain line (Some parent) e)
      ∙ ap (fold (header_opened levels) flags) (reverse-append (parent ∷ []) (fold_parents levels parent))
      ∙ fold-append (header_opened levels) flags (reverse (fold_parents levels parent)) (parent ∷ [])

  -- a line may be opened before its fold parents or after them, if no contracted header between it and the first of these has it as a child
  abbrev pub ClearFrom : List Flags → ℕ → ℕ → Type 0
  ClearFrom flags line h = (r : ℕ) → line ≤ r → r < h → is_header levels r && is_child levels r h ≡ true → is_expanded flags r ≡ true

  nearest : (flags : List Flags) (line p h : ℕ) → line ≤ h → h < length levels → ((r : ℕ) → p < r → r < line → is_parent_of levels line r ≡ false) → ClearFrom flags line h → ClearBetween flags p h
  nearest flags line p h le within none clear = λ r a b t.
      elim (cases_lt r line) [
        | inr high ↦ clear r high b t
        | inl low ↦
            let both = and_parts (is_header levels r) (is_child levels r h) t in
            let inner = and_parts (ltb r h) (leb h (last_child levels r)) both.1 in
            let last : h ≤ last_child levels r = leb-true h (last_child levels r) inner.1 in
            let above : number_at levels r < number_at levels line = (last_child_is levels r (omega arith)).above line low (omega arith) in
            absurd (false≢true (sym (none r a low) ∙ and_from (is_header levels r) (ltb (number_at levels r) (number_at levels line)) both.0 (lt-ltb (number_at levels r) (number_at levels line) above)))
      ]

  -- a step up the chain
  last_or_first_by : (line h : ℕ) (flags : List Flags) (o : Option ℕ) → o ≡ fold_parent levels line → FoundBefore (is_parent_of levels line) line o
      → line ≤ h → h < length levels → length flags ≡ length levels → ClearFrom flags line h
      → ((p : ℕ) → p < line → ClearFrom (header_opened levels flags p) p h
      → header_opened levels (opened_up p (header_opened levels flags p)) h ≡ opened_up p (header_opened levels (header_opened levels flags p) h))
      → header_opened levels (opened_up line flags) h ≡ opened_up line (header_opened levels flags h)
  last_or_first_by line h flags None e found le within size clear above =
      ap (λ fs. header_opened levels fs h) (up_none line flags e) ∙ sym (up_none line (header_opened levels flags h) e)
  last_or_first_by line h flags (Some p) e found le within size clear above =
      let between = nearest flags line p h le within found.1 clear in
      let from : ClearFrom (header_opened levels flags p) p h = λ r a b t.
      elim (cases_eq r p) [
        | inl q ↦ rw q (header_expanded flags p (omega arith))
        | inr ne ↦ still_expanded flags p r (omega arith) (between r (omega arith) b t)
      ] in
      ap (λ fs. header_opened levels fs h) (up_some line p flags e)
      ∙ above p found.0 from
      ∙ ap (opened_up p) (either_first flags p h (omega (arith, found.0)) (omega arith) between)
      ∙ sym (up_some line p (header_opened levels flags h) e)

  last_or_first : (n line h : ℕ) (flags : List Flags) → line < n → line ≤ h → h < length levels → length flags ≡ length levels → ClearFrom flags line h
      → header_opened levels (opened_up line flags) h ≡ opened_up line (header_opened levels flags h)
  last_or_first zero line h flags bound le within size clear = absurd (omega arith)
  last_or_first (suc n) line h flags bound le within size clear =
      last_or_first_by line h flags (fold_parent levels line) refl (found_before (is_parent_of levels line) line) le within size clear
      (λ p a from. last_or_first n p h (header_opened levels flags p) (omega arith) (omega arith) within (length-opened flags p ∙ size) from)

  any_order_by : (line : ℕ) (flags : List Flags) (o : Option ℕ) → o ≡ fold_parent levels line → FoundBefore (is_parent_of levels line) line o
      → line < length levels → length flags ≡ length levels → ((p : ℕ) → p < line → opened_down p flags ≡ opened_up p flags) → opened_down line flags ≡ opened_up line flags
  any_order_by line flags None e found within size above = ap (λ l. fold (header_opened levels) flags (reverse l)) (chain line None e) ∙ sym (up_none line flags e)
  any_order_by line flags (Some p) e found within size above =
      down_some line p flags e ∙ ap (λ fs. header_opened levels fs p) (above p found.0)
      ∙ last_or_first (suc p) p p flags (omega arith) (omega arith) (omega (arith, found.0)) size (λ r a b t. absurd (omega arith))
      ∙ sym (up_some line p flags e)

  any_order_to : (n line : ℕ) (flags : List Flags) → line < n → line < length levels → length flags ≡ length levels → opened_down line flags ≡ opened_up line flags
  any_order_to zero line flags bound within size = absurd (omega arith)
  any_order_to (suc n) line flags bound within size =
      any_order_by line flags (fold_parent levels line) refl (found_before (is_parent_of levels line) line) within size
      (λ p a. any_order_to n p flags (omega arith) (omega arith) size)

  pub any_order : (line : ℕ) (flags : List Flags) → line < length levels → length flags ≡ length levels → opened_down line flags ≡ opened_up line flags
  any_order line flags within size = any_order_to (suc line) line flags (omega arith) within size
