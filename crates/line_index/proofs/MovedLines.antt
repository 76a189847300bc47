-- Each old line moves to the new line of its start, moved by the step.
use Rattle.line_index.proofs.Names.{◌≡◌, ℕ, ◌+◌, ◌-◌, ◌<◌, ◌≤◌, List, length, map, get_or, refl, sym, ap, ◌∙◌, inl, inr, arith, cases_lt, length-map, LineEndTypes, Default, Unicode, is_line_start, line_starts, line_of, line_count, count_before, line_starts_rise, line_of_start, line_of_monotone, line_of_lt, some_line, filter_range_agree, filter_range_moved, starts_within, NearLines, near_lines, last_touched, MovesLines, change_about}
use Rattle.ed_model.specs.proved.Lines.{local_start}
use Rattle.line_index.proofs.Abouts.{AreAbout, chosen}
use Rattle.line_index.proofs.StartLists.{one_if, at_most_one, up_to, next_up_to, more_up_to, count_apart, count_is_up_to, line_is_before, line_is_up_to, all_up_to}
use Rattle.line_index.proofs.StepLists.{Replaces, at_most, behind, first_line_is, same_far, same_default}

-- the line of the next place
pub next_line : (types : LineEndTypes) (text : List ℕ) (q next : ℕ) → next ≡ q + 1 → line_of (line_starts types text) next ≡ line_of (line_starts types text) q + one_if (is_line_start types text next)
next_line types text q next e = rw e (omega (arith, line_is_up_to types text (q + 1), line_is_up_to types text q, next_up_to types text (q + 1) (q + 1 + 1) refl))

module _ {types : LineEndTypes} {p e e' : ℕ} {f moved : ℕ → ℕ} {old new : List ℕ} (s : Replaces types p e e' f moved old new) where
  abbrev olds : List ℕ
  olds = line_starts types old

  abbrev news : List ℕ
  news = line_starts types new

  -- before the step, and behind it, as many lines start in both texts

  pub front : (x : ℕ) → x ≤ p → up_to types new x ≡ up_to types old x
  front x h =
      ap length (filter_range_agree (is_line_start types old) (is_line_start types new) 0 (x - 0) (λ k a b. local_start types old new k (λ j u v. s.front j (omega arith))))

  far : (k : ℕ) → up_to types new (e' + 3 + k) + up_to types old (e + 3) ≡ up_to types old (e + 3 + k) + up_to types new (e' + 3)
  far k =
      let a : e' + 3 + k - (e' + 3) ≡ k = omega arith in
      let b : e + 3 + k - (e + 3) ≡ k = omega arith in
      let moves : starts_within types new (e' + 3) (e' + 3 + k) ≡ map f (starts_within types old (e + 3) (e + 3 + k)) =
      rw (a, b) (filter_range_moved (is_line_start types old) (is_line_start types new) f (e + 3) (e' + 3) k (λ n l. (same_far s n (e + 3 + n) (e' + 3 + n) refl refl, omega (arith, s.moves (e + 3 + n) (omega arith))))) in
      omega (
        arith,
        count_apart types new 0 (e' + 3) (e' + 3 + k) (omega arith) (omega arith),
        count_apart types old 0 (e + 3) (e + 3 + k) (omega arith) (omega arith),
        ap length moves ∙ length-map (starts_within types old (e + 3) (e + 3 + k)) f,
      )

  -- so an old line before the step stays, and one behind it moves with the text

  kept_moves : (k : ℕ) → k < length olds → k < count_before p olds → k ≡ line_of news (moved (get_or olds k 0))
  kept_moves k h l =
      let some : 0 < p = elim (cases_lt 0 p) [ inl some ↦ some | inr none ↦ absurd (omega (arith, count_is_up_to types old p, up_to_none p (omega arith))) ] in
      let upto = line_is_up_to types old (p - 1) in
      let next : p - 1 + 1 ≡ p = omega arith in
      let x : ℕ = get_or olds k 0 in
      let near : x < p = omega (arith, at_most types old (p - 1) k h (omega (arith, count_is_up_to types old p, ap (up_to types old) next, upto))) in
      omega (arith, ap (line_of news) (s.stays x near), line_is_up_to types new x, line_is_up_to types old x, front (x + 1) (omega arith), line_of_start 0 olds k (line_starts_rise types old) h)
    where
      up_to_none : (x : ℕ) → x ≡ 0 → up_to types old x ≡ 0
      up_to_none x z = rw z refl

  far_moves : (k : ℕ) → k < length olds → line_of olds (e + 2) < k → k - line_of olds (e + 2) + line_of news (e' + 2) ≡ line_of news (moved (get_or olds k 0))
  far_moves k h l =
      let x : ℕ = get_or olds k 0 in
      let past : e + 2 < x = behind types old (e + 2) k h l in
      let n : ℕ = x - (e + 2) in
      let at : x + 1 ≡ e + 3 + n = omega arith in
      let there : moved x + 1 ≡ e' + 3 + n = omega (arith, s.goes x (omega arith)) in
      let a : e + 2 + 1 ≡ e + 3 = omega arith in
      let b : e' + 2 + 1 ≡ e' + 3 = omega arith in
      omega (
        arith,
        far n,
        line_is_up_to types new (moved x) ∙ ap (up_to types new) there,
        line_is_up_to types old x ∙ ap (up_to types old) at,
        line_is_up_to types old (e + 2) ∙ ap (up_to types old) a,
        line_is_up_to types new (e' + 2) ∙ ap (up_to types new) b,
        line_of_start 0 olds k (line_starts_rise types old) h,
      )

  -- a start at the step or behind it
  at_or_behind : (k : ℕ) → k < length olds → count_before p olds ≤ k → p ≤ get_or olds k 0
  at_or_behind k h l =
      elim (cases_lt 0 p) [
        | inl some ↦
            let next : p - 1 + 1 ≡ p = omega arith in
            omega (arith, behind types old (p - 1) k h (omega (arith, count_is_up_to types old p, ap (up_to types old) next, line_is_up_to types old (p - 1))))
        | inr none ↦ omega arith
      ]

  pub lines_move : (end : ℕ) → MovesLines moved olds news (change_about p e e' olds news end)
  lines_move end k h =
      let x : ℕ = get_or olds k 0 in
      chosen (count_before p olds) (line_of olds e) (line_of olds (e + 1)) (line_of olds (e + 2)) (line_of news e') (line_of news (e' + 1)) (line_of news (e' + 2)) k
      (line_of news (moved x))
      (λ l. kept_moves k h l)
      (λ l m. sym (ap (line_of news) (s.falls x (at_or_behind k h l) (at_most types old e k h m))))
      (λ l m n. let there : moved x ≡ e' + 1 = omega (arith, behind types old e k h m, at_most types old (e + 1) k h n, s.goes x (omega (arith, behind types old e k h m))) in sym (ap (line_of news) there))
      (λ l m n. let there : moved x ≡ e' + 2 = omega (arith, behind types old (e + 1) k h m, at_most types old (e + 2) k h n, s.goes x (omega (arith, behind types old (e + 1) k h m))) in sym (ap (line_of news) there))
      (λ l m. far_moves k h m)

  pub lines_about_step : (end : ℕ) → AreAbout (change_about p e e' olds news end) (length olds) (length news)
  lines_about_step end =
      let k : ℕ = length old + 1 - e in
      let a : e + 2 + 1 ≡ e + 3 = omega arith in
      let b : e' + 2 + 1 ≡ e' + 3 = omega arith in
      record {
        old_one = line_of_monotone olds e (e + 1) (omega arith);
        old_two = line_of_monotone olds (e + 1) (e + 2) (omega arith);
        old_end = line_of_lt olds (e + 2) (some_line types old);
        new_one = line_of_monotone news e' (e' + 1) (omega arith);
        new_two = line_of_monotone news (e' + 1) (e' + 2) (omega arith);
        next_one = omega (arith, next_line types new e' (e' + 1) refl, at_most_one (is_line_start types new (e' + 1)));
        next_two = omega (arith, next_line types new (e' + 1) (e' + 2) (omega arith), at_most_one (is_line_start types new (e' + 2)));
        before_old = omega (arith, count_is_up_to types old p, more_up_to types old p (e + 1) (omega (arith, s.order)), line_is_up_to types old e);
        before_new = omega (arith, count_is_up_to types old p, front p (omega arith), more_up_to types new p (e' + 1) (omega (arith, s.order_new)), line_is_up_to types new e');
        others = omega (
          arith,
          far k,
          all_up_to types old (e + 3 + k) 3 (omega (arith, s.within)),
          all_up_to types new (e' + 3 + k) 3 (omega (arith, s.within, s.size)),
          line_is_up_to types old (e + 2) ∙ ap (up_to types old) a,
          line_is_up_to types new (e' + 2) ∙ ap (up_to types new) b,
        );
      }

near_is : {i j k i' j' k' : ℕ} → i ≡ i' → j ≡ j' → k ≡ k' → (let near : NearLines = record { at = i; one_behind = j; two_behind = k } in near) ≡ record { at = i'; one_behind = j'; two_behind = k' }
near_is {i} {j} {k} {i'} {j'} {k'} e f g = rw (e, f, g) refl

-- A step that removes no line start and inserts none leaves the lines near its end as they were.
pub lines_stay :
    (types : LineEndTypes) (p e e' : ℕ) (f moved : ℕ → ℕ) (old new : List ℕ) → Replaces types p e e' f moved old new
    → line_of (line_starts types old) (p - 1) ≡ line_of (line_starts types old) (last_touched types e) → line_count types new ≡ line_count types old
    → near_lines (line_starts types old) e ≡ near_lines (line_starts types new) e'
lines_stay Unicode p e e' f moved old new s same size =
    let a = lines_about_step s 0 in
    let olds : List ℕ = line_starts Unicode old in
    let up : line_of olds (p - 1) ≤ line_of olds e = line_of_monotone olds (p - 1) e (omega (arith, s.order)) in
    let low : line_of olds (p - 1) ≤ line_of (line_starts Unicode new) e' = elim (cases_lt 0 p) [
      | inl some ↦ omega (arith, a.before_new, line_is_before Unicode old (p - 1) p (omega arith))
      | inr none ↦ omega (arith, first_line_is Unicode old p (omega arith))
    ] in
    near_is (omega (arith, a, size, same, up, low)) (omega (arith, a, size, same, up, low)) (omega (arith, a.others, size))
lines_stay Default p e e' f moved old new s same size =
    let a = lines_about_step s 0 in
    let one = ap one_if (same_default s 0 (e + 1) (e' + 1) refl (omega arith) (omega arith)) in
    let two = ap one_if (same_default s 1 (e + 2) (e' + 2) refl (omega arith) (omega arith)) in
    let old_one = next_line Default old e (e + 1) refl in
    let old_two = next_line Default old (e + 1) (e + 2) (omega arith) in
    let new_one = next_line Default new e' (e' + 1) refl in
    let new_two = next_line Default new (e' + 1) (e' + 2) (omega arith) in
    near_is (omega (arith, a.others, size, one, two, old_one, old_two, new_one, new_two)) (omega (arith, a.others, size, two, old_two, new_two)) (omega (arith, a.others, size))
