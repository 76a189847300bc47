-- How many fresh lines a step brings at most.
use Rattle.line_index.proofs.Names.{◌≡◌, ℕ, ◌+◌, ◌-◌, ◌<◌, ◌≤◌, ◌&&◌, Bool, true, false, List, ◌++◌, length, get_or, take, drop, refl, sym, ap, ◌∙◌, inl, inr, arith, length-append, length-take-le, take-append-drop, cases_lt, LineEndTypes, stands, is_line_start, line_starts, line_count, Insert, edited, change_about, LineChange, fresh_lines, settling}
use Rattle.ed_model.specs.Numbers.{is_number}
use Rattle.line_index.proofs.Abouts.{FreshLines, settling_fresh}
use Rattle.line_index.proofs.FirstBytes.{behind_line_feed}
use Rattle.line_index.proofs.JoinedTexts.{by_gain, byte_is, ends_behind, ends_two_behind, none_behind, all_to_end, end_tests, same_front, joined_high}
use Rattle.line_index.proofs.RoomLemmas.{both_true}
use Rattle.line_index.proofs.MovedLines.{next_line, lines_about_step, front}
use Rattle.line_index.proofs.StartLists.{one_if, at_most_one, up_to, next_up_to, more_up_to, count_is_up_to, line_is_up_to}
use Rattle.line_index.proofs.StepLists.{Replaces}

-- no fresh line where an old one starts too
none_fresh : (f a b : ℕ) → f ≤ a → a ≤ b → (0 < b → f ≤ 0) → f ≤ 0
none_fresh f a b h l g = elim (cases_lt 0 b) [ inl some ↦ g some | inr none ↦ omega arith ]

module _ {types : LineEndTypes} {p e e' : ℕ} {f moved : ℕ → ℕ} {old new : List ℕ} (s : Replaces types p e e' f moved old new) (end : ℕ) where
  abbrev pub change : LineChange
  change = change_about p e e' (line_starts types old) (line_starts types new) end

  pub fresh : FreshLines change
  fresh = settling_fresh change (line_count types old) (line_count types new) (lines_about_step s end)

  -- how many lines start one byte behind the end of the step, and two bytes behind it

  abbrev one : Bool
  one = is_line_start types new (e' + 1)

  abbrev two : Bool
  two = is_line_start types new (e' + 2)

  abbrev old_one : Bool
  old_one = is_line_start types old (e + 1)

  abbrev old_two : Bool
  old_two = is_line_start types old (e + 2)

  few_one : fresh.one_behind ≤ one_if one
  few_one = omega (arith, fresh.one_few, next_line types new e' (e' + 1) refl)

  few_two : fresh.two_behind ≤ one_if two
  few_two = omega (arith, fresh.two_few, next_line types new (e' + 1) (e' + 2) (omega arith))

  -- none of them is fresh where an old one starts too

  none_one : one_if one ≤ one_if old_one → fresh.one_behind ≤ 0
  none_one l = none_fresh fresh.one_behind (one_if one) (one_if old_one) few_one l (λ h. fresh.one_moves (omega (arith, next_line types old e (e + 1) refl)))

  none_two : one_if two ≤ one_if old_two → fresh.two_behind ≤ 0
  none_two l = none_fresh fresh.two_behind (one_if two) (one_if old_two) few_two l (λ h. fresh.two_moves (omega (arith, next_line types old (e + 1) (e + 2) (omega arith))))

  -- since the same bytes follow in both texts, one of them is, and none if an LF is the first
  pub few_behind : (fresh.one_behind + fresh.two_behind ≤ 1) × (get_or new e' 0 ≡ 10 → fresh.one_behind + fresh.two_behind ≤ 0)
  few_behind =
      let b0 = sym (s.bytes 0 e e' (omega arith) (omega arith)) in
      let b1 = sym (s.bytes 1 (e + 1) (e' + 1) refl refl) in
      let b2 = sym (s.bytes 2 (e + 2) (e' + 2) refl refl) in (
        by_gain (fresh.one_behind + fresh.two_behind ≤ 1) one old_one
            (λ a b. by_gain (fresh.one_behind + fresh.two_behind ≤ 1) two old_two
            (λ c d. absurd (omega (arith, (ends_behind types new old e' e b0 b1 b2 a b).last, (ends_two_behind types new old e' e b0 b1 b2 c d).mid)))
            (λ l. omega (arith, few_one, at_most_one one, none_two l)))
            (λ l. omega (arith, few_two, at_most_one two, none_one l)),
        λ feed. let none = none_behind types new old e' e b0 b1 b2 (λ a. omega (arith, a.last, feed)) (λ a. omega (arith, a.mid, feed)) in omega (arith, none_one none.0, none_two none.1),
      )

-- an insertion
pub few_fresh_in :
    {types : LineEndTypes} {p e e' : ℕ} {f moved : ℕ → ℕ} {text new : List ℕ} (s : Replaces types p e e' f moved text new) (end : ℕ) (bytes : List ℕ)
    → e ≡ p → e' ≡ p + length bytes → new ≡ edited (Insert p bytes) text → fresh_lines (settling (change s end).before (change s end).old_lines (change s end).new_lines) ≤ line_count types bytes + 1
few_fresh_in {types} {p} {e} {e'} {f} {moved} {text} {new} s end bytes same x is =
    let front : List ℕ = take p text in
    let behind : List ℕ = drop p text in
    let whole : front ++ behind ≡ text = take-append-drop p text in
    let own : length front ≡ p = length-take-le p text (omega (arith, s.order, s.within)) in
    let size : length (front ++ bytes) ≡ e' = omega (arith, length-append front bytes) in
    let n = fresh s end in
    let c : LineChange = change s end in
    let before = count_is_up_to types text p in
    let upto : c.new_lines.at + 1 ≤ c.before + one_if (is_line_start types front p) + line_count types bytes =
    omega (
      arith,
      line_is_up_to types new e',
      before,
      next_up_to types new e' (e' + 1) refl,
      rw (← is) at (ap length (same_front types (front ++ bytes) behind e' size)),
      rw (← is) at (end_tests types (front ++ bytes) behind e' size).0,
      all_to_end types (front ++ bytes) e' size,
      joined_high types front bytes p own,
      all_to_end types front p own,
      rw whole at (ap length (same_front types front behind p own)),
    ) in
    let start : c.old_lines.at + 1 ≡ c.before + one_if (is_line_start types text p) = rw same (omega (arith, line_is_up_to types text p, before, next_up_to types text p (p + 1) refl)) in
    let pair : Bool = stands 13 front (p - 1) && stands 10 text p in
    let ends = rw whole at (end_tests types front behind p own).1 in
    let rest = few_behind s end in
    omega (
      arith,
      n.all,
      counted_in n.at (n.one_behind + n.two_behind) c.before c.old_lines.at c.new_lines.at (one_if (is_line_start types front p)) (one_if (is_line_start types text p)) (line_count types bytes) pair
          n.at_few n.at_moves upto start ends (at_most_one (is_line_start types front p)) rest.0
          (λ r. rest.1 (byte_is 10 new e' (ap (is_number 10) (sym (s.bytes 0 p e' (omega arith) (omega arith))) ∙ (both_true _ _ r).1))),
    )
  where
    counted_in :
        (at rest before o n w v count : ℕ) (pair : Bool) → at + before ≤ n + 1 → (before ≤ o → at ≤ n - before) → n + 1 ≤ before + w + count → o + 1 ≡ before + v
        → w ≤ v + one_if pair → w ≤ 1 → rest ≤ 1 → (pair ≡ true → rest ≤ 0) → at + rest ≤ count + 1
    counted_in at rest before o n w v count true a b c d e f g h = omega (arith, h refl)
    counted_in at rest before o n w v count false a b c d e f g h =
        elim (cases_lt 0 v) [
          | inl some ↦ omega (arith, b (omega arith))
          | inr none ↦ omega arith
        ]

-- a line starts there, or an LF is there, behind which one starts
by_pair :
    (types : LineEndTypes) (p : ℕ) (old : List ℕ) (pair : Bool) (end : ℕ) → p + 2 ≤ end → 1 ≤ one_if (is_line_start types old p) + one_if pair → (pair ≡ true → stands 10 old p ≡ true) → up_to types old p < up_to types old end
by_pair types p old true end l h g =
    omega (
      arith,
      next_up_to types old p (p + 1) refl,
      next_up_to types old (p + 1) (p + 2) (omega arith),
      more_up_to types old (p + 2) end l,
      ap one_if (behind_line_feed types old p (g refl)),
    )
by_pair types p old false end l h g = omega (arith, next_up_to types old p (p + 1) refl, more_up_to types old (p + 1) end (omega arith))

-- if a line starts at the place of a deletion afterwards, one started there before, or up to the end of what was deleted
some_before_end :
    (types : LineEndTypes) (p count : ℕ) (text : List ℕ) → p ≤ length text → 0 < one_if (is_line_start types (take p text ++ drop (p + count) text) p) → up_to types text p < up_to types text (p + count + 1)
some_before_end types p count text h some =
    let front : List ℕ = take p text in
    let own : length front ≡ p = length-take-le p text h in
    let whole : front ++ drop p text ≡ text = take-append-drop p text in
    let pair : Bool = stands 13 front (p - 1) && stands 10 text p in
    let kept = (end_tests types front (drop (p + count) text) p own).0 in
    let ends = rw whole at (end_tests types front (drop p text) p own).1 in
    elim (cases_lt 0 count) [
      | inl more ↦ by_pair types p text pair (p + count + 1) (omega arith) (omega (arith, kept, ends)) (λ r. (both_true (stands 13 front (p - 1)) (stands 10 text p) r).1)
      | inr none ↦
          let same : p + count ≡ p = omega arith in
          let here : 0 < one_if (is_line_start types text p) = rw (same, whole) at some in
          rw same (omega (arith, next_up_to types text p (p + 1) refl))
    ]

-- a deletion
pub few_fresh_out :
    {types : LineEndTypes} {p e e' : ℕ} {f moved : ℕ → ℕ} {text new : List ℕ} (s : Replaces types p e e' f moved text new) (end count : ℕ)
    → e ≡ p + count → e' ≡ p → new ≡ take p text ++ drop (p + count) text → fresh_lines (settling (change s end).before (change s end).old_lines (change s end).new_lines) ≤ 1
few_fresh_out {types} {p} {e} {e'} {f} {moved} {text} {new} s end count x same is =
    let n = fresh s end in
    let c : LineChange = change s end in
    let before = count_is_up_to types text p in
    let start : c.new_lines.at + 1 ≡ c.before + one_if (is_line_start types new p) = rw same (omega (arith, line_is_up_to types new p, before, next_up_to types new p (p + 1) refl, front s p (omega arith))) in
    omega (
      arith,
      n.all,
      (few_behind s end).0,
      elim (cases_lt 0 (one_if (is_line_start types new p))) as (λ _. n.at ≤ 0) [
        | inl here ↦ omega (arith, n.at_moves (omega (arith, before, line_is_up_to types text e, rw (← x) at (some_before_end types p count text (omega (arith, s.order, s.within)) (rw is at here)))), start, at_most_one (is_line_start types new p))
        | inr none ↦ omega (arith, n.at_few, start)
      ],
    )
