-- The flags after a change of one of the two sets, or of both.
use Rattle.contraction.proofs.Names.{◌≡◌, ℕ, suc, ◌+◌, ◌-◌, ◌<◌, ◌≤◌, max, Bool, true, false, not, ◌&&◌, cond, ltb, leb, eqb, List, [], ◌∷◌, ◌++◌, length, get_or, take, drop, map, set, replicate, sym, refl, ap, ◌∙◌, inl, inr, arith, slice_range, range_with_len, cases_eq, cases_lt, cases_order, eq-eqb, ne_eqb, lt-ltb, le-ltb, ext_get_or, length-append, length-take-le, length-drop, length-replicate, length-set, get_or-take, get_or-drop, get_or-replicate, get_or_append_left, get_or-append_right, get_or_at, get_or-between, get_or-set_same, get_or-set_other, length-map-range_with_len, map_range_agree, Flags, fresh_flags, flags_together, flags_at, with_visible, with_expanded, is_between, lines_shown, lines_hidden, with_fresh, with_joined, Numbers, holds, holds_with_fresh, holds_without, holds_after, view_lines, Becomes}
use Rattle.contraction.specs.ViewLines.{flags_kept}
use Rattle.std.proofs.lemmas.Bool.Decides.{nat_tests}
use Rattle.contraction.proofs.Kept.{flags_of, flags_by, flags_at_by, anew, unchanged}

by_length : (p q : ℕ → Bool) (n : ℕ) → length (flags_by p q n) ≡ n
by_length p q n = length-map-range_with_len (flags_of p q) 0 n

by_same : (p q r s : ℕ → Bool) (n : ℕ) → ((k : ℕ) → p k ≡ r k) → ((k : ℕ) → q k ≡ s k) → flags_by p q n ≡ flags_by r s n
by_same p q r s n one two = map_range_agree (flags_of p q) (flags_of r s) 0 n (λ k _ _. rw (one k, two k) refl)

-- lines shown and hidden
by_visible : (p q : ℕ → Bool) (n : ℕ) (passes shown : ℕ → Bool) → flags_by (λ k. cond (passes k) (not (shown k)) (p k)) q n ≡ with_visible passes shown (flags_by p q n)
by_visible p q n passes shown =
    let changed : ℕ → Flags = λ line. let f = flags_at (flags_by p q n) line in cond (passes line) (record f { visible = shown line }) f in
    map_range_agree (flags_of (λ k. cond (passes k) (not (shown k)) (p k)) q) changed 0 n (λ k _ l. rw (flags_at_by p q n k (omega arith)) (go k (passes k) (shown k)))
    ∙ ap (λ m. map changed (range_with_len 0 m)) (sym (by_length p q n))
  where
    go : (k : ℕ) (b s : Bool) → record { visible = not (cond b (not s) (p k)); expanded = not (q k) } ≡ cond b (record (flags_of p q k) { visible = s }) (flags_of p q k)
    go k true true = refl
    go k true false = refl
    go k false s = refl

-- a line expanded or contracted
by_expanded : (p q : ℕ → Bool) (n line : ℕ) (on : Bool) → line < n → flags_by p (λ k. cond (eqb k line) (not on) (q k)) n ≡ with_expanded line on (flags_by p q n)
by_expanded p q n line on l =
    let new : Flags = record (flags_at (flags_by p q n) line) { expanded = on } in
    let told : ℕ → Bool = λ k. cond (eqb k line) (not on) (q k) in
    ext_get_or fresh_flags (flags_by p told n) (set (flags_by p q n) line new) (by_length p told n ∙ sym (length-set (flags_by p q n) line new ∙ by_length p q n))
    (λ k m.
    let inside : k < n = omega (arith, by_length p told n) in
    flags_at_by p told n k inside
    ∙ elim (cases_eq k line) [
      | inl e ↦
          rw (e, eq-eqb line line refl, get_or-set_same (flags_by p q n) line new fresh_flags (omega (arith, by_length p q n)), flags_at_by p q n line l)
          (ap (λ v. record { visible = not (p line); expanded = v }) (twice on))
      | inr ne ↦ rw (ne_eqb k line ne, get_or-set_other (flags_by p q n) line k new fresh_flags ne, flags_at_by p q n k inside) refl
    ])
  where
    twice : (b : Bool) → not (not b) ≡ b
    twice true = refl
    twice false = refl

pub one_line : (line k : ℕ) → (leb line k && ltb k (line + 1)) ≡ eqb k line
one_line line k = grind (arith, nat_tests)

behind_first : (first from past k : ℕ) (b : Bool) → from ≡ max first 1 → cond (leb from k && ltb k past) true b ≡ cond (ltb 0 k && (leb first k && ltb k past)) true b
behind_first first from past k b e = grind (arith, nat_tests)

module _ (h c : Numbers) where
  abbrev pub flags : List Flags
  flags = flags_kept h.numbers c.numbers h.length

  pub shown : (h' : Numbers) (first past : ℕ) → Becomes h.length (holds_after false h.numbers first past) h h' → view_lines h' c ≡ record (view_lines h c) { flags = lines_shown first past flags }
  unfolding flags_kept
  shown h' first past is = anew _ is (unchanged c) (by_visible (holds h.numbers) (holds c.numbers) h.length (is_between first past) (λ _. true))

  pub hidden : (h' : Numbers) (first from past : ℕ) → from ≡ max first 1 → Becomes h.length (holds_after true h.numbers from past) h h'
      → view_lines h' c ≡ record (view_lines h c) { flags = lines_hidden first past flags }
  unfolding flags_kept
  hidden h' first from past e is =
      anew _ is (unchanged c)
      (by_same (holds_after true h.numbers from past) (holds c.numbers) (λ k. cond (ltb 0 k && is_between first past k) true (holds h.numbers k)) (holds c.numbers) h.length
      (λ k. behind_first first from past k (holds h.numbers k) e) (λ k. refl)
      ∙ by_visible (holds h.numbers) (holds c.numbers) h.length (λ k. ltb 0 k && is_between first past k) (λ _. false))

  pub set_expanded : (c' : Numbers) (line : ℕ) (on : Bool) → line < h.length → Becomes c.length (holds_after (not on) c.numbers line (line + 1)) c c'
      → view_lines h c' ≡ record (view_lines h c) { flags = with_expanded line on flags }
  unfolding flags_kept
  set_expanded c' line on l is =
      anew _ (unchanged h) is
      (by_same (holds h.numbers) (holds_after (not on) c.numbers line (line + 1)) (holds h.numbers) (λ k. cond (eqb k line) (not on) (holds c.numbers k)) h.length
      (λ k. refl) (λ k. ap (λ b. cond b (not on) (holds c.numbers k)) (one_line line k))
      ∙ by_expanded (holds h.numbers) (holds c.numbers) h.length line on l)

-- Lines that come and go.

by_fresh : (p q : ℕ → Bool) (n line count : ℕ) → line ≤ n
    → flags_by (λ k. cond (ltb k line) (p k) (cond (ltb k (line + count)) false (p (k - count)))) (λ k. cond (ltb k line) (q k) (cond (ltb k (line + count)) false (q (k - count)))) (n + count)
    ≡ with_fresh flags_together line count (flags_by p q n)
by_fresh p q n line count l =
    let p' : ℕ → Bool = λ k. cond (ltb k line) (p k) (cond (ltb k (line + count)) false (p (k - count))) in
    let q' : ℕ → Bool = λ k. cond (ltb k line) (q k) (cond (ltb k (line + count)) false (q (k - count))) in
    let f = flags_by p q n in
    let size = by_length p q n in
    let front : length (take line f) ≡ line = length-take-le line f (omega arith) in
    let new = replicate count fresh_flags in
    let rest : List Flags = new ++ drop line f in
    let many = length-replicate count fresh_flags in
    ext_get_or fresh_flags (flags_by p' q' (n + count)) (with_fresh flags_together line count f)
    (omega (arith, by_length p' q' (n + count), length-append (take line f) rest, length-append new (drop line f), length-drop line f))
    (λ k m.
    flags_at_by p' q' (n + count) k (omega (arith, by_length p' q' (n + count)))
    ∙ elim (cases_lt k line) [
      | inl a ↦ rw (lt-ltb k line a, get_or_append_left (take line f) rest fresh_flags k (omega arith), get_or-take line f k fresh_flags a, flags_at_by p q n k (omega arith)) refl
      | inr a ↦
          let before = get_or-append_right (take line f) rest line k fresh_flags front a in
          elim (cases_lt k (line + count)) [
            | inl b ↦
                rw (le-ltb k line a, lt-ltb k (line + count) b, before, get_or_append_left new (drop line f) fresh_flags (k - line) (omega arith), get_or-replicate count (k - line) fresh_flags fresh_flags (omega arith)) refl
            | inr b ↦
                let place : line + (k - line - count) ≡ k - count = omega arith in
                rw (
                  le-ltb k line a,
                  le-ltb k (line + count) b,
                  before,
                  get_or-append_right new (drop line f) count (k - line) fresh_flags many (omega arith),
                  get_or-drop line f (k - line - count) fresh_flags,
                  place,
                  flags_at_by p q n (k - count) (omega (arith, by_length p' q' (n + count))),
                ) refl
          ]
    ])

first_of : (fs : List Flags) → flags_together fs ≡ get_or fs 0 fresh_flags
first_of [] = refl
first_of (f ∷ fs) = refl

by_joined : (p q : ℕ → Bool) (n m line count : ℕ) → line + count < n → m + count ≡ n
    → flags_by (λ k. cond (ltb k (line + 1)) (p k) (p (k + count))) (λ k. cond (ltb k (line + 1)) (q k) (q (k + count))) m ≡ with_joined flags_together line count (flags_by p q n)
by_joined p q n m line count l fewer =
    let p' : ℕ → Bool = λ k. cond (ltb k (line + 1)) (p k) (p (k + count)) in
    let q' : ℕ → Bool = λ k. cond (ltb k (line + 1)) (q k) (q (k + count)) in
    let f = flags_by p q n in
    let size = by_length p q n in
    let front : length (take line f) ≡ line = length-take-le line f (omega arith) in
    let one = flags_together (slice_range f line (line + (count + 1))) in
    let rest = drop (line + (count + 1)) f in
    let same : line + 0 ≡ line = omega arith in
    let its : one ≡ flags_of p q line =
    first_of (slice_range f line (line + (count + 1))) ∙ get_or-between f line (line + (count + 1)) 0 fresh_flags (omega arith)
    ∙ ap (λ j. get_or f j fresh_flags) same ∙ flags_at_by p q n line (omega arith) in
    ext_get_or fresh_flags (flags_by p' q' m) (with_joined flags_together line count f)
    (omega (arith, by_length p' q' m, length-append (take line f) (one ∷ rest), length-drop (line + (count + 1)) f))
    (λ k b.
    let inside : k < m = omega (arith, by_length p' q' m) in
    flags_at_by p' q' m k inside
    ∙ elim (cases_order k line) [
      | inl e ↦ rw (e, lt-ltb line (line + 1) (omega arith), get_or_at (take line f) one rest fresh_flags line front, its) refl
      | inr (inl a) ↦
          rw (lt-ltb k (line + 1) (omega arith), get_or_append_left (take line f) (one ∷ rest) fresh_flags k (omega arith), get_or-take line f k fresh_flags a, flags_at_by p q n k (omega arith)) refl
      | inr (inr a) ↦
          let behind : k - line ≡ suc (k - line - 1) = omega arith in
          let place : line + (count + 1) + (k - line - 1) ≡ k + count = omega arith in
          rw (le-ltb k (line + 1) (omega arith), get_or-append_right (take line f) (one ∷ rest) line k fresh_flags front (omega arith))
          (rw behind (rw (get_or-drop (line + (count + 1)) f (k - line - 1) fresh_flags, place, flags_at_by p q n (k + count) (omega arith)) refl))
    ])

module _ (h h' c c' : Numbers) where
  pub put_in : (line count : ℕ) → line ≤ h.length → Becomes (h.length + count) (holds_with_fresh h.numbers line count) h h' → Becomes (c.length + count) (holds_with_fresh c.numbers line count) c c'
      → view_lines h' c' ≡ record (view_lines h c) { flags = with_fresh flags_together line count (flags h c) }
  unfolding flags_kept
  put_in line count l one two = anew _ one two (by_fresh (holds h.numbers) (holds c.numbers) h.length line count l)

  pub joined : (line count : ℕ) → line + count < h.length → Becomes (h.length - count) (holds_without h.numbers (line + 1) count) h h' → Becomes (c.length - count) (holds_without c.numbers (line + 1) count) c c'
      → view_lines h' c' ≡ record (view_lines h c) { flags = with_joined flags_together line count (flags h c) }
  unfolding flags_kept
  joined line count l one two = anew _ one two (by_joined (holds h.numbers) (holds c.numbers) h.length (h.length - count) line count l (omega arith))

then : {n m : ℕ} {p q : ℕ → Bool} {s s' s'' : Numbers} → Becomes n p s s' → Becomes m q s' s'' → Becomes m q s s''
then one two = record { told = two.told; lines = two.lines; capacity = two.capacity ∙ one.capacity }

restart_flags : (n : ℕ) (p q : ℕ → Bool) → n ≡ 0
    → flags_by (λ k. cond (ltb k 0) (p k) (cond (ltb k (0 + 1)) false (p (k - 1)))) (λ k. cond (ltb k 0) (q k) (cond (ltb k (0 + 1)) false (q (k - 1)))) (n + 1) ≡ fresh_flags ∷ []
restart_flags n p q none = rw none refl

-- all lines were taken out of both sets, and one was put in
pub restarted : {h h' h'' c c' c'' : Numbers} {n m : ℕ} {p q : ℕ → Bool} → Becomes n p h h' → Becomes m q c c'
    → Becomes (h'.length + 1) (holds_with_fresh h'.numbers 0 1) h' h'' → Becomes (c'.length + 1) (holds_with_fresh c'.numbers 0 1) c' c'' → n ≡ 0 → view_lines h'' c'' ≡ record (view_lines h c) { flags = fresh_flags ∷ [] }
restarted {h} {h'} {h''} {c} {c'} {c''} {n} {m} {p} {q} one two one' two' none =
    anew {h = h} {c = c} (fresh_flags ∷ [])
    (then one one') (then two two') (restart_flags h'.length (holds h'.numbers) (holds c'.numbers) (one.lines ∙ none))
