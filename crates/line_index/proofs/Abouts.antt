-- The lines around a step, as numbers: the effect of its edits on a list with an item for each line, and how many lines
-- they insert.
use Rattle.line_index.proofs.Names.{◌≡◌, ℕ, zero, suc, ◌+◌, ◌-◌, ◌<◌, ◌≤◌, cond, List, [], ◌∷◌, ◌++◌, length, map, take, drop, get_or, replicate, fold, eqb, leb, ltb, refl, sym, ap, ap₂, ◌∙◌, inl, inr, arith, subst, append_assoc, length-append, zero-add, length-take, length-drop, range_with_len, cases_lt, cases_eq, nat_tests, eq-eqb, ne_eqb, lt-ltb, le-ltb, le-leb, lt-leb, map-append, take_all, take_more, length-take-le, take-append-drop, length-replicate, fold-append, JoinsRows, range-append, LineChange, LineEdit, line_after, after_edits, FitLines, lines_after_edit, fresh_lines, joined, came, settled, settling, last_at, last_one_behind}
use Rattle.line_index.proofs.Settling.{edits_in_turn, settled_is, joined_to_last, none_joined}
use Rattle.line_index.proofs.Keyed.{Carries, by_keys, carries_both, carries_none, carries_on, carries_same, carries_behind, map_range_same, map_range_moved}

-- the lines around a step follow one another, and the others are as many afterwards as before
pub record AreAbout (c : LineChange) (lines news : ℕ) : Type 0 where
  pub old_one : c.old_lines.at ≤ c.old_lines.one_behind
  pub old_two : c.old_lines.one_behind ≤ c.old_lines.two_behind
  pub old_end : c.old_lines.two_behind < lines
  pub new_one : c.new_lines.at ≤ c.new_lines.one_behind
  pub new_two : c.new_lines.one_behind ≤ c.new_lines.two_behind
  pub next_one : c.new_lines.one_behind ≤ c.new_lines.at + 1
  pub next_two : c.new_lines.two_behind ≤ c.new_lines.one_behind + 1
  pub before_old : c.before ≤ c.old_lines.at + 1
  pub before_new : c.before ≤ c.new_lines.at + 1
  pub others : lines + c.new_lines.two_behind ≡ news + c.old_lines.two_behind

-- the last old lines that move to the new ones

pub chosen :
    (before o0 o1 o2 n0 n1 n2 k r : ℕ) → (k < before → k ≡ r) → (before ≤ k → k ≤ o0 → n0 ≡ r) → (before ≤ k → o0 < k → k ≤ o1 → n1 ≡ r)
    → (before ≤ k → o1 < k → k ≤ o2 → n2 ≡ r) → (before ≤ k → o2 < k → k - o2 + n2 ≡ r)
    → cond (ltb k before) k (cond (leb k o0) n0 (cond (leb k o1) n1 (cond (leb k o2) n2 (k - o2 + n2)))) ≡ r
chosen before o0 o1 o2 n0 n1 n2 k r f g0 g1 g2 h =
    elim (cases_lt k before) [
      | inl stays ↦ rw (lt-ltb k before stays) (f stays)
      | inr moves ↦ rw (le-ltb k before moves) (elim (cases_lt o0 k) [
        | inr at ↦ rw (le-leb k o0 at) (g0 moves at)
        | inl past ↦ rw (lt-leb k o0 past) (elim (cases_lt o1 k) [
          | inr at ↦ rw (le-leb k o1 at) (g1 moves past at)
          | inl further ↦ rw (lt-leb k o1 further) (elim (cases_lt o2 k) [
            | inr at ↦ rw (le-leb k o2 at) (g2 moves further at)
            | inl last ↦ rw (lt-leb k o2 last) (h moves last)
          ])
        ])
      ])
    ]

abbrev first_last : (o0 o1 o2 n0 n1 n2 : ℕ) → ℕ
first_last o0 o1 o2 n0 n1 n2 = cond (eqb n2 n0) o2 (cond (eqb n1 n0) o1 o0)

abbrev next_last : (o1 o2 n1 n2 : ℕ) → ℕ
next_last o1 o2 n1 n2 = cond (eqb n2 n1) o2 o1

record Lasts (o0 o1 o2 n0 n1 n2 first next : ℕ) : Type 0 where
  from : o0 ≤ first
  order : first ≤ next
  behind : o1 ≤ next
  upto : next ≤ o2
  one : o0 < first → n1 ≡ n0
  two : o1 < first → n2 ≡ n0
  next_two : o1 < next → n2 ≡ n1
  none_one : n1 ≡ n0 → first ≡ next
  none_two : n2 ≡ n1 → next ≡ o2

lasts_are : (o0 o1 o2 n0 n1 n2 : ℕ) → o0 ≤ o1 → o1 ≤ o2 → n0 ≤ n1 → n1 ≤ n2 → Lasts o0 o1 o2 n0 n1 n2 (first_last o0 o1 o2 n0 n1 n2) (next_last o1 o2 n1 n2)
lasts_are o0 o1 o2 n0 n1 n2 a b c d =
    record {
      from = grind (arith, nat_tests);
      order = grind (arith, nat_tests);
      behind = grind (arith, nat_tests);
      upto = grind (arith, nat_tests);
      one = λ l. grind (arith, nat_tests);
      two = λ l. grind (arith, nat_tests);
      next_two = λ l. grind (arith, nat_tests);
      none_one = λ e. grind (arith, nat_tests);
      none_two = λ e. grind (arith, nat_tests);
    }

-- lines that move to a new line behind those that are done, or to none

record Zone {R : Type 0} (t : List R → R) (next line count : ℕ) (rows out : List R) : Type 0 where
  carries : Carries t next (line + 1 - next) (replicate count line) rows out
  edits : (done rest : List R) → length done ≡ next → after_edits t (settled next line count) (done ++ (rows ++ rest)) ≡ done ++ (out ++ rest)
  size : length out + next ≡ line + 1

zone_none : {R : Type 0} (t : List R → R) (next line : ℕ) (rows : List R) → line + 1 ≡ next → length rows ≡ 0 → (out : List R) × Zone t next line (length rows) rows out
zone_none t next line [] e h =
    let none : line + 1 - next ≡ 0 = omega arith in (
      [],
      record {
        carries = rw none (carries_none t next);
        edits = λ done rest d. none_joined t (done ++ rest) next line (omega arith);
        size = omega arith;
      },
    )
zone_none t next line (r ∷ rows) e h = absurd (omega arith)

zone_behind : {R : Type 0} (t : List R → R) → JoinsRows t → (next line : ℕ) (rows : List R) → next ≤ line → Zone t next line (length rows) rows (replicate (line - next) (t []) ++ t rows ∷ [])
zone_behind t j next line rows h =
    record {
      carries = carries_behind t next line (length rows) rows h refl;
      edits = λ done rest d. settled_is t j done rows rest next line d h;
      size = omega (arith, length-append (replicate (line - next) (t [])) (t rows ∷ []), length-replicate (line - next) (t []));
    }

zone_at : {R : Type 0} (t : List R → R) → JoinsRows t → (next line count : ℕ) (rows : List R) → next ≤ line + 1 → (line + 1 ≡ next → count ≡ 0) → length rows ≡ count → (out : List R) × Zone t next line count rows out
zone_at t j next line count rows a b h =
    rw (← h) (elim (cases_lt line next) [
      | inl below ↦ zone_none t next line rows (omega arith) (h ∙ b (omega arith))
      | inr behind ↦ (replicate (line - next) (t []) ++ t rows ∷ [], zone_behind t j next line rows behind)
    ])

-- the lines before a step, and those that move to its first new line, which may be the last of those
record Front {R : Type 0} (t : List R → R) (before line count : ℕ) (front rows out : List R) : Type 0 where
  carries : Carries t 0 (line + 1) (range_with_len 0 before ++ replicate count line) (front ++ rows) out
  edits : (rest : List R) → after_edits t (settled before line count) (front ++ (rows ++ rest)) ≡ out ++ rest
  size : length out ≡ line + 1

front_joined : {R : Type 0} (t : List R → R) → JoinsRows t → (line : ℕ) (front : List R) (z : R) (rows : List R) → length front ≡ line → Front t (line + 1) line (length rows) (front ++ z ∷ []) rows (front ++ t (z ∷ rows) ∷ [])
front_joined {R} t j line front z rows l =
    let keys : range_with_len 0 (line + 1) ++ replicate (length rows) line ≡ range_with_len 0 line ++ replicate (suc (length rows)) line =
    rw (range-append 0 line 1, zero-add line) (append_assoc (range_with_len 0 line) (line ∷ []) (replicate (length rows) line)) in
    let all : Carries t 0 (line + 1) (range_with_len 0 line ++ replicate (suc (length rows)) line) (front ++ (z ∷ rows)) (front ++ t (z ∷ rows) ∷ []) =
    carries_both t 0 line line 1 (line + 1) (range_with_len 0 line) (replicate (suc (length rows)) line) front (z ∷ rows) front (t (z ∷ rows) ∷ []) (omega arith) refl
    (carries_same t j 0 line front l) (carries_on t line (suc (length rows)) (z ∷ rows) (omega arith)) in
    record {
      carries = rw (keys, append_assoc front (z ∷ []) rows) all;
      edits = λ rest.
          rw (append_assoc front (z ∷ []) (rows ++ rest), append_assoc front (t (z ∷ rows) ∷ []) rest) (joined_to_last t j front z rows rest (line + 1) line l (omega arith));
      size = omega (arith, length-append front (t (z ∷ rows) ∷ []));
    }

front_at : {R : Type 0} (t : List R → R) → JoinsRows t → (before line count : ℕ) (front rows : List R) → before ≤ line + 1 → length front ≡ before → length rows ≡ count → (out : List R) × Front t before line count front rows out
front_at {R} t j before line count front rows a l h =
    rw (← h) (elim (cases_lt line before) [
      | inl below ↦
          let e : before ≡ line + 1 = omega arith in
          let z : R = get_or front line (t []) in
          let cut : front ≡ take line front ++ z ∷ [] = sym (take_all (line + 1) front (omega arith)) ∙ take_more front line (t []) (omega arith) in
          let Made : ℕ → List R → Type 0 = λ b f. Front t b line (length rows) f rows (take line front ++ t (z ∷ rows) ∷ []) in
          let made : Made (line + 1) (take line front ++ z ∷ []) = front_joined t j line (take line front) z rows (length-take-le line front (omega arith)) in
          let again : Made before (take line front ++ z ∷ []) = rw e made in
          (take line front ++ t (z ∷ rows) ∷ [], moved Made before (take line front ++ z ∷ []) front (sym cut) again)
      | inr behind ↦
          let zone : Zone t before line (length rows) rows (replicate (line - before) (t []) ++ t rows ∷ []) = zone_behind t j before line rows behind in
          let out : List R = replicate (line - before) (t []) ++ t rows ∷ [] in (
            front ++ out,
            record {
              carries = carries_both t 0 before before (line + 1 - before) (line + 1) (range_with_len 0 before) (replicate (length rows) line) front rows front out (omega arith) (omega arith)
                  (carries_same t j 0 before front l) zone.carries;
              edits = λ rest. zone.edits front rest l ∙ sym (append_assoc front out rest);
              size = omega (arith, length-append front out, zone.size);
            },
          )
    ])
  where
    moved : (Made : ℕ → List R → Type 0) (b : ℕ) (f g : List R) → f ≡ g → Made b f → Made b g
    moved Made b f g e m = subst (λ x. Made b x) e m

map_two : (f : ℕ → ℕ) (a b m n : ℕ) → b ≡ a + m → map f (range_with_len a (m + n)) ≡ map f (range_with_len a m) ++ map f (range_with_len b n)
map_two f a b m n e = rw (range-append a m n, e) (map-append f (range_with_len a m) (range_with_len (a + m) n))

module _ (c : LineChange) (lines news : ℕ) (a : AreAbout c lines news) where
  abbrev o0 : ℕ
  o0 = c.old_lines.at

  abbrev o1 : ℕ
  o1 = c.old_lines.one_behind

  abbrev o2 : ℕ
  o2 = c.old_lines.two_behind

  abbrev n0 : ℕ
  n0 = c.new_lines.at

  abbrev n1 : ℕ
  n1 = c.new_lines.one_behind

  abbrev n2 : ℕ
  n2 = c.new_lines.two_behind

  abbrev first : ℕ
  first = last_at c.old_lines c.new_lines

  abbrev next : ℕ
  next = last_one_behind c.old_lines c.new_lines

  lasts : Lasts o0 o1 o2 n0 n1 n2 first next
  lasts = lasts_are o0 o1 o2 n0 n1 n2 a.old_one a.old_two a.new_one a.new_two

  -- the old lines that move to each new line
  abbrev come_at : ℕ
  come_at = first + 1 - c.before

  abbrev come_one : ℕ
  come_one = next - first

  abbrev come_two : ℕ
  come_two = o2 - next

  abbrev others : ℕ
  others = lines - (o2 + 1)

  all_lines : lines ≡ c.before + (come_at + (come_one + (come_two + others)))
  all_lines = omega (arith, lasts, a)

  key_kept : (k : ℕ) → 0 ≤ k → k < 0 + c.before → line_after c k + 0 ≡ 0 + k
  key_kept k h l = rw (lt-ltb k c.before (omega arith)) (omega arith)

  key_at : (k : ℕ) → c.before ≤ k → k < c.before + come_at → line_after c k ≡ n0
  key_at k h l =
      let upto : k ≤ first = omega arith in
      chosen c.before o0 o1 o2 n0 n1 n2 k n0 (λ m. absurd (omega arith)) (λ m n. refl) (λ m n r. lasts.one (omega arith)) (λ m n r. lasts.two (omega arith)) (λ m n. absurd (omega (arith, lasts)))

  key_one : (k : ℕ) → first + 1 ≤ k → k < first + 1 + come_one → line_after c k ≡ n1
  key_one k h l =
      let upto : k ≤ next = omega arith in
      chosen c.before o0 o1 o2 n0 n1 n2 k n1 (λ m. absurd (omega (arith, lasts, a))) (λ m n. absurd (omega (arith, lasts))) (λ m n r. refl) (λ m n r. lasts.next_two (omega arith)) (λ m n. absurd (omega (arith, lasts)))

  key_two : (k : ℕ) → next + 1 ≤ k → k < next + 1 + come_two → line_after c k ≡ n2
  key_two k h l =
      let upto : k ≤ o2 = omega (arith, lasts) in
      chosen c.before o0 o1 o2 n0 n1 n2 k n2 (λ m. absurd (omega (arith, lasts, a))) (λ m n. absurd (omega (arith, lasts, a))) (λ m n r. absurd (omega (arith, lasts))) (λ m n r. refl) (λ m n. absurd (omega arith))

  key_far : (k : ℕ) → o2 + 1 ≤ k → k < o2 + 1 + others → line_after c k + (o2 + 1) ≡ n2 + 1 + k
  key_far k h l =
      let far : line_after c k ≡ k - o2 + n2 =
      chosen c.before o0 o1 o2 n0 n1 n2 k (k - o2 + n2) (λ m. absurd (omega (arith, a))) (λ m n. absurd (omega (arith, a))) (λ m n r. absurd (omega (arith, a))) (λ m n r. absurd (omega arith)) (λ m n. refl) in
      omega arith

  pub keys_are : map (line_after c) (range_with_len 0 lines) ≡ range_with_len 0 c.before ++ (replicate come_at n0 ++ (replicate come_one n1 ++ (replicate come_two n2 ++ range_with_len (n2 + 1) others)))
  keys_are =
      ap (λ n. map (line_after c) (range_with_len 0 n)) all_lines
      ∙ map_two (line_after c) 0 c.before c.before (come_at + (come_one + (come_two + others))) (omega arith)
      ∙ ap₂ (λ x y. x ++ y) (map_range_moved (line_after c) 0 0 c.before key_kept)
      (map_two (line_after c) c.before (first + 1) come_at (come_one + (come_two + others)) (omega (arith, lasts, a))
      ∙ ap₂ (λ x y. x ++ y) (map_range_same (line_after c) n0 c.before come_at key_at)
      (map_two (line_after c) (first + 1) (next + 1) come_one (come_two + others) (omega (arith, lasts))
      ∙ ap₂ (λ x y. x ++ y) (map_range_same (line_after c) n1 (first + 1) come_one key_one)
      (map_two (line_after c) (next + 1) (o2 + 1) come_two others (omega (arith, lasts))
      ∙ ap₂ (λ x y. x ++ y) (map_range_same (line_after c) n2 (next + 1) come_two key_two) (map_range_moved (line_after c) (o2 + 1) (n2 + 1) others key_far))))

  parts_carry :
      {R : Type 0} (t : List R → R) → JoinsRows t → (front at one two rest : List R) → length front ≡ c.before → length at ≡ come_at → length one ≡ come_one → length two ≡ come_two → length rest ≡ others
      → by_keys t 0 news (range_with_len 0 c.before ++ (replicate come_at n0 ++ (replicate come_one n1 ++ (replicate come_two n2 ++ range_with_len (n2 + 1) others)))) (front ++ (at ++ (one ++ (two ++ rest))))
      ≡ after_edits t (settling c.before c.old_lines c.new_lines) (front ++ (at ++ (one ++ (two ++ rest))))
  parts_carry {R} t j front at one two rest lf l0 l1 l2 lr =
      let f : (out : List R) × Front t c.before n0 come_at front at out = front_at t j c.before n0 come_at front at a.before_new lf l0 in
      let z1 : (out : List R) × Zone t (n0 + 1) n1 come_one one out =
      zone_at t j (n0 + 1) n1 come_one one (omega (arith, a)) (λ e. omega (arith, lasts.none_one (omega arith))) l1 in
      let z2 : (out : List R) × Zone t (n1 + 1) n2 come_two two out =
      zone_at t j (n1 + 1) n2 come_two two (omega (arith, a)) (λ e. omega (arith, lasts.none_two (omega arith))) l2 in
      let out0 : List R = f.0 in
      let out1 : List R = z1.0 in
      let out2 : List R = z2.0 in
      let two_on : Carries t (n1 + 1) (n2 - n1 + others) (replicate come_two n2 ++ range_with_len (n2 + 1) others) (two ++ rest) (out2 ++ rest) =
      carries_both t (n1 + 1) (n2 + 1 - (n1 + 1)) (n2 + 1) others (n2 - n1 + others) (replicate come_two n2) (range_with_len (n2 + 1) others) two rest out2 rest (omega (arith, a)) (omega arith)
      z2.1.carries (carries_same t j (n2 + 1) others rest lr) in
      let one_on : Carries t (n0 + 1) (n2 - n0 + others) (replicate come_one n1 ++ (replicate come_two n2 ++ range_with_len (n2 + 1) others)) (one ++ (two ++ rest)) (out1 ++ (out2 ++ rest)) =
      carries_both t (n0 + 1) (n1 + 1 - (n0 + 1)) (n1 + 1) (n2 - n1 + others) (n2 - n0 + others) (replicate come_one n1) (replicate come_two n2 ++ range_with_len (n2 + 1) others) one (two ++ rest) out1 (out2 ++ rest) (omega (arith, a)) (omega (arith, a))
      z1.1.carries two_on in
      let all : Carries t 0 news ((range_with_len 0 c.before ++ replicate come_at n0) ++ (replicate come_one n1 ++ (replicate come_two n2 ++ range_with_len (n2 + 1) others))) ((front ++ at) ++ (one ++ (two ++ rest))) (out0 ++ (out1 ++ (out2 ++ rest))) =
      carries_both t 0 (n0 + 1) (n0 + 1) (n2 - n0 + others) news (range_with_len 0 c.before ++ replicate come_at n0) (replicate come_one n1 ++ (replicate come_two n2 ++ range_with_len (n2 + 1) others)) (front ++ at) (one ++ (two ++ rest)) out0 (out1 ++ (out2 ++ rest)) (omega arith) (omega (arith, a))
      f.1.carries one_on in
      let made = rw (append_assoc (range_with_len 0 c.before) (replicate come_at n0) (replicate come_one n1 ++ (replicate come_two n2 ++ range_with_len (n2 + 1) others)), append_assoc front at (one ++ (two ++ rest))) at all.made in
      let s0 : List LineEdit = settled c.before n0 come_at in
      let s1 : List LineEdit = settled (n0 + 1) n1 come_one in
      let s2 : List LineEdit = settled (n1 + 1) n2 come_two in
      let rows : List R = front ++ (at ++ (one ++ (two ++ rest))) in
      let step0 : after_edits t s0 rows ≡ out0 ++ (one ++ (two ++ rest)) = f.1.edits (one ++ (two ++ rest)) in
      let step1 : after_edits t s1 (out0 ++ (one ++ (two ++ rest))) ≡ out0 ++ (out1 ++ (two ++ rest)) = z1.1.edits out0 (two ++ rest) f.1.size in
      let long : length (out0 ++ out1) ≡ n1 + 1 = omega (arith, length-append out0 out1, f.1.size, z1.1.size) in
      let step2 : after_edits t s2 (out0 ++ (out1 ++ (two ++ rest))) ≡ out0 ++ (out1 ++ (out2 ++ rest)) =
      ap (after_edits t s2) (sym (append_assoc out0 out1 (two ++ rest))) ∙ z2.1.edits (out0 ++ out1) rest long ∙ append_assoc out0 out1 (out2 ++ rest) in
      made
      ∙ sym (edits_in_turn t (s0 ++ s1) s2 rows ∙ ap (after_edits t s2) (edits_in_turn t s0 s1 rows ∙ ap (after_edits t s1) step0 ∙ step1) ∙ step2)

  -- the edits carry each row to the new line of its old one
  pub settling_carries : {R : Type 0} (t : List R → R) → JoinsRows t → (rows : List R) → length rows ≡ lines → by_keys t 0 news (map (line_after c) (range_with_len 0 lines)) rows ≡ after_edits t (settling c.before c.old_lines c.new_lines) rows
  settling_carries {R} t j rows h =
      let front : List R = take c.before rows in
      let behind : List R = drop c.before rows in
      let at : List R = take come_at behind in
      let behind_at : List R = drop come_at behind in
      let one : List R = take come_one behind_at in
      let behind_one : List R = drop come_one behind_at in
      let two : List R = take come_two behind_one in
      let rest : List R = drop come_two behind_one in
      let cut : front ++ (at ++ (one ++ (two ++ rest))) ≡ rows =
      ap (λ l. front ++ (at ++ (one ++ l))) (take-append-drop come_two behind_one)
      ∙ ap (λ l. front ++ (at ++ l)) (take-append-drop come_one behind_at)
      ∙ ap (λ l. front ++ l) (take-append-drop come_at behind)
      ∙ take-append-drop c.before rows in
      let sizes : lines ≡ c.before + (come_at + (come_one + (come_two + others))) = all_lines in
      let d0 = length-drop c.before rows in
      let d1 = length-drop come_at behind in
      let d2 = length-drop come_one behind_at in
      let d3 = length-drop come_two behind_one in
      rw (keys_are, ← cut)
      (parts_carry t j front at one two rest (omega (arith, length-take c.before rows)) (omega (arith, d0, length-take come_at behind)) (omega (arith, d0, d1, length-take come_one behind_at))
      (omega (arith, d0, d1, d2, length-take come_two behind_one)) (omega (arith, d0, d1, d2, d3)))

-- how many lines there are after several edits
abbrev pub lines_left : ℕ → List LineEdit → ℕ
lines_left lines edits = fold lines_after_edit lines edits

fit_both : (lines : ℕ) (xs ys : List LineEdit) → FitLines lines xs → FitLines (lines_left lines xs) ys → FitLines lines (xs ++ ys)
fit_both lines [] ys a b = b
fit_both lines (x ∷ xs) ys a b = (a.0, fit_both (lines_after_edit lines x) xs ys a.1 b)

fresh_both : (xs ys : List LineEdit) → fresh_lines (xs ++ ys) ≡ fresh_lines xs + fresh_lines ys
fresh_both [] ys = omega arith
fresh_both (x ∷ xs) ys = omega (arith, fresh_both xs ys)

-- the edits name lines that exist, and leave the right number of lines
pub record Fits (lines left fresh : ℕ) (edits : List LineEdit) : Type 0 where
  pub fit : FitLines lines edits
  pub count : lines_left lines edits ≡ left
  pub few : fresh_lines edits ≡ fresh

pub fits_both : (lines mid left some more fresh : ℕ) (xs ys : List LineEdit) → fresh ≡ some + more → Fits lines mid some xs → Fits mid left more ys → Fits lines left fresh (xs ++ ys)
fits_both lines mid left some more fresh xs ys e a b =
    record {
      fit = fit_both lines xs ys a.fit (rw a.count b.fit);
      count = fold-append lines_after_edit lines xs ys ∙ ap (λ n. lines_left n ys) a.count ∙ b.count;
      few = omega (arith, fresh_both xs ys, a.few, b.few);
    }

pub joined_fits : (lines line count : ℕ) → line + count < lines → Fits lines (lines - count) 0 (joined line count)
joined_fits lines line zero h = record { fit = tt; count = omega arith; few = refl }
joined_fits lines line (suc n) h = rw (ne_eqb (suc n) 0 (λ e. omega arith)) (record { fit = (h, tt); count = refl; few = omega arith })

pub came_fits : (lines line count : ℕ) → line ≤ lines → Fits lines (lines + count) count (came line count)
came_fits lines line zero h = record { fit = tt; count = omega arith; few = refl }
came_fits lines line (suc n) h = rw (ne_eqb (suc n) 0 (λ e. omega arith)) (record { fit = (h, tt); count = refl; few = omega arith })

-- how many fresh lines are inserted where old ones move
abbrev fresh_at : ℕ → ℕ → ℕ → ℕ
fresh_at next line count = cond (eqb count 0) (line + 1 - next) (line - next)

settled_fits : (lines next line count : ℕ) → next ≤ line + 1 → next + count ≤ lines → (line < next → line + count < lines) → Fits lines (lines + line + 1 - next - count) (fresh_at next line count) (settled next line count)
settled_fits lines next line count a b l =
    elim (cases_lt line next) [
      | inl below ↦
          let left : lines + line + 1 - next - count ≡ lines - count = omega arith in
          let none : fresh_at next line count ≡ 0 = elim (cases_eq count 0) [ inl z ↦ rw (eq-eqb count 0 z) (omega arith) | inr s ↦ rw (ne_eqb count 0 s) (omega arith) ] in
          rw (lt-ltb line next below, left, none) (joined_fits lines line count (l below))
      | inr behind ↦ rw (le-ltb line next behind) (elim (cases_eq count 0) [
        | inl none ↦
            let left : lines + line + 1 - next - count ≡ lines + (line + 1 - next) = omega arith in
            rw (left, eq-eqb count 0 none) (came_fits lines next (line + 1 - next) (omega arith))
        | inr some ↦
            let left : lines + line + 1 - next - count ≡ lines - (count - 1) + (line - next) = omega arith in
            rw (left, ne_eqb count 0 some)
            (fits_both lines (lines - (count - 1)) (lines - (count - 1) + (line - next)) 0 (line - next) (line - next) (joined next (count - 1)) (came next (line - next)) (omega arith)
            (joined_fits lines next (count - 1) (omega arith)) (came_fits (lines - (count - 1)) next (line - next) (omega arith)))
      ])
    ]

fresh_upto : (next line count : ℕ) → next ≤ line + 1 → fresh_at next line count ≤ line + 1 - next
fresh_upto next line count h = elim (cases_eq count 0) [ inl z ↦ rw (eq-eqb count 0 z) (omega arith) | inr s ↦ rw (ne_eqb count 0 s) (omega arith) ]

fresh_some : (next line count : ℕ) → 0 < count → fresh_at next line count ≤ line - next
fresh_some next line count h = rw (ne_eqb count 0 (λ e. omega arith)) (omega arith)

-- how many fresh lines are inserted up to the new line of a step's end, and at the places one byte and two behind it
pub record FreshLines (c : LineChange) : Type 0 where
  pub at : ℕ
  pub one_behind : ℕ
  pub two_behind : ℕ
  pub all : fresh_lines (settling c.before c.old_lines c.new_lines) ≡ at + one_behind + two_behind
  pub at_few : at + c.before ≤ c.new_lines.at + 1
  pub one_few : one_behind + c.new_lines.at ≤ c.new_lines.one_behind
  pub two_few : two_behind + c.new_lines.one_behind ≤ c.new_lines.two_behind
  pub at_moves : c.before ≤ c.old_lines.at → at ≤ c.new_lines.at - c.before
  pub one_moves : c.old_lines.at < c.old_lines.one_behind → one_behind ≤ 0
  pub two_moves : c.old_lines.one_behind < c.old_lines.two_behind → two_behind ≤ 0

module _ (c : LineChange) (lines news : ℕ) (a : AreAbout c lines news) where
  abbrev fresh_in_all : ℕ
  fresh_in_all = fresh_at c.before (n0 c lines news a) (come_at c lines news a) + fresh_at (n0 c lines news a + 1) (n1 c lines news a) (come_one c lines news a) + fresh_at (n1 c lines news a + 1) (n2 c lines news a) (come_two c lines news a)

  settling_all : Fits lines news fresh_in_all (settling c.before c.old_lines c.new_lines)
  settling_all =
      let l = lasts c lines news a in
      let p0 : ℕ = n0 c lines news a in
      let p1 : ℕ = n1 c lines news a in
      let p2 : ℕ = n2 c lines news a in
      let k0 : ℕ = come_at c lines news a in
      let k1 : ℕ = come_one c lines news a in
      let k2 : ℕ = come_two c lines news a in
      let mid0 : ℕ = lines + p0 + 1 - c.before - k0 in
      let mid1 : ℕ = mid0 + p1 + 1 - (p0 + 1) - k1 in
      let one = settled_fits lines c.before p0 k0 a.before_new (omega (arith, l, a)) (λ m. omega (arith, l, a)) in
      let two = settled_fits mid0 (p0 + 1) p1 k1 (omega (arith, a)) (omega (arith, l, a)) (λ m. omega (arith, l.none_one (omega (arith, a)), l, a)) in
      let three = settled_fits mid1 (p1 + 1) p2 k2 (omega (arith, a)) (omega (arith, l, a)) (λ m. omega (arith, l.none_two (omega (arith, a)), l, a)) in
      let left : mid1 + p2 + 1 - (p1 + 1) - k2 ≡ news = omega (arith, l, a) in
      let all =
      fits_both lines mid1 (mid1 + p2 + 1 - (p1 + 1) - k2) (fresh_at c.before p0 k0 + fresh_at (p0 + 1) p1 k1) (fresh_at (p1 + 1) p2 k2) fresh_in_all
      (settled c.before p0 k0 ++ settled (p0 + 1) p1 k1) (settled (p1 + 1) p2 k2) refl
      (fits_both lines mid0 mid1 (fresh_at c.before p0 k0) (fresh_at (p0 + 1) p1 k1) (fresh_at c.before p0 k0 + fresh_at (p0 + 1) p1 k1) (settled c.before p0 k0) (settled (p0 + 1) p1 k1) refl one two) three in
      rw left at all

  -- the edits name lines that exist
  pub settling_fits : FitLines lines (settling c.before c.old_lines c.new_lines)
  settling_fits = settling_all.fit

  -- the new line of a place is fresh only if a line starts there, and no old one moves to it
  pub settling_fresh : FreshLines c
  settling_fresh =
      let l = lasts c lines news a in
      let up_at = fresh_upto c.before (n0 c lines news a) (come_at c lines news a) a.before_new in
      let up_one = fresh_upto (n0 c lines news a + 1) (n1 c lines news a) (come_one c lines news a) (omega (arith, a)) in
      let up_two = fresh_upto (n1 c lines news a + 1) (n2 c lines news a) (come_two c lines news a) (omega (arith, a)) in
      record {
        at = fresh_at c.before (n0 c lines news a) (come_at c lines news a);
        one_behind = fresh_at (n0 c lines news a + 1) (n1 c lines news a) (come_one c lines news a);
        two_behind = fresh_at (n1 c lines news a + 1) (n2 c lines news a) (come_two c lines news a);
        all = omega (arith, settling_all.few);
        at_few = omega (arith, up_at, a);
        one_few = omega (arith, up_one, a);
        two_few = omega (arith, up_two, a);
        at_moves = λ h. omega (arith, a, fresh_some c.before (n0 c lines news a) (come_at c lines news a) (omega (arith, l, a)), up_at);
        one_moves = λ h. elim (cases_lt c.old_lines.at (first c lines news a)) [
          | inl more ↦ omega (arith, a, up_one, l.one more)
          | inr none ↦ omega (arith, a, fresh_some (n0 c lines news a + 1) (n1 c lines news a) (come_one c lines news a) (omega (arith, l, a)))
        ];
        two_moves = λ h. elim (cases_lt c.old_lines.one_behind (next c lines news a)) [
          | inl more ↦ omega (arith, a, up_two, l.next_two more)
          | inr none ↦ omega (arith, a, fresh_some (n1 c lines news a + 1) (n2 c lines news a) (come_two c lines news a) (omega (arith, l, a)))
        ];
      }
