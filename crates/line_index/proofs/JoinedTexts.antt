-- The lines of two texts, one behind the other.
use Rattle.line_index.proofs.Names.{◌≡◌, ℕ, zero, suc, ◌+◌, ◌-◌, ◌<◌, ◌≤◌, ◌==◌, ◌||◌, ◌&&◌, not, Bool, true, false, List, [], ◌∷◌, ◌++◌, length, get_or, filter, slice_get, refl, sym, ap, ◌∙◌, arith, length-append, length-map, take_at, ne_eqb, true≢false, range_with_len, LineEndTypes, stands, is_line_start, line_count, knows_unicode, slice_get_append_left, slice_get_append_right, filter_range_moved, moved_start_test, starts_within}
use Rattle.std.proofs.lemmas.Bool.{eqb-true}
use Rattle.std.proofs.lemmas.Option.{slice_get_past}
use Rattle.ed_model.specs.Numbers.{is_number}
use Rattle.line_index.proofs.StartLists.{one_if, at_most_one, count_apart, next_up_to, all_up_to}
use Rattle.line_index.proofs.FirstBytes.{same_in_front, stands_inside}

-- as many or one more
pub by_gain : (P : Type 0) (a b : Bool) → (a ≡ true → b ≡ false → P) → (one_if a ≤ one_if b → P) → P
by_gain P true true f g = g (omega arith)
by_gain P true false f g = f refl refl
by_gain P false b f g = g (omega arith)

-- The test of the place behind a byte and of the one after that, by the bytes around it: whether a line end of one byte
-- ends there, and whether one of Unicode does.

abbrev short_end : List ℕ → ℕ → Bool
short_end text x = stands 10 text x || (stands 13 text x && not (stands 10 text (x + 1)))

abbrev long_end : List ℕ → ℕ → Bool
long_end text x = (stands 0x85 text x && stands 0xC2 text (x - 1)) || ((stands 0xA8 text x || stands 0xA9 text x) && stands 0x80 text (x - 1) && stands 0xE2 text (x - 2))

abbrev next_short_end : List ℕ → ℕ → Bool
next_short_end text x = stands 10 text (x + 1) || (stands 13 text (x + 1) && not (stands 10 text (x + 2)))

abbrev next_long_end : List ℕ → ℕ → Bool → Bool
next_long_end text x lead = (stands 0x85 text (x + 1) && stands 0xC2 text x) || ((stands 0xA8 text (x + 1) || stands 0xA9 text (x + 1)) && stands 0x80 text x && lead)

first_test : (types : LineEndTypes) (text : List ℕ) (x : ℕ) → is_line_start types text (x + 1) ≡ (short_end text x || (knows_unicode types && long_end text x))
first_test types text x =
    let some : (x + 1 == 0) ≡ false = ne_eqb (x + 1) 0 (λ z. omega arith) in
    let one : x + 1 - 1 ≡ x = omega arith in
    let two : x + 1 - 2 ≡ x - 1 = omega arith in
    let three : x + 1 - 3 ≡ x - 2 = omega arith in
    rw (some, one, two, three) refl

second_test : (types : LineEndTypes) (text : List ℕ) (x : ℕ) → is_line_start types text (x + 2) ≡ (next_short_end text x || (knows_unicode types && next_long_end text x (stands 0xE2 text (x - 1))))
second_test types text x =
    let some : (x + 2 == 0) ≡ false = ne_eqb (x + 2) 0 (λ z. omega arith) in
    let one : x + 2 - 1 ≡ x + 1 = omega arith in
    let two : x + 2 - 2 ≡ x = omega arith in
    let three : x + 2 - 3 ≡ x - 1 = omega arith in
    rw (some, one, two, three) refl

-- tests that differ do so in their last part
differ : (d u z z' : Bool) → (d || (u && z)) ≡ true → (d || (u && z')) ≡ false → (z ≡ true) × (z' ≡ false)
differ true u z z' a b = absurd (true≢false b)
differ false true z z' a b = (a, b)
differ false false z z' a b = absurd (true≢false (sym a))

differ_behind : (p z z' : Bool) → (p || z) ≡ true → (p || z') ≡ false → z ≡ true
differ_behind true z z' a b = absurd (true≢false b)
differ_behind false z z' a b = a

by_three : (P : Type 0) (a b e m : Bool) → ((a || b) && e && m) ≡ true → (a ≡ true → e ≡ true → m ≡ true → P) → (b ≡ true → e ≡ true → m ≡ true → P) → P
by_three P true b true true h f g = f refl refl refl
by_three P true b true false h f g = absurd (true≢false (sym h))
by_three P true b false m h f g = absurd (true≢false (sym h))
by_three P false true true true h f g = g refl refl refl
by_three P false true true false h f g = absurd (true≢false (sym h))
by_three P false true false m h f g = absurd (true≢false (sym h))
by_three P false false e m h f g = absurd (true≢false (sym h))

by_end : (P : Type 0) (n c a b e m : Bool) → ((n && c) || ((a || b) && e && m)) ≡ true → (n ≡ true → c ≡ true → P) → (a ≡ true → e ≡ true → m ≡ true → P) → (b ≡ true → e ≡ true → m ≡ true → P) → P
by_end P true true a b e m h f g k = f refl refl
by_end P true false a b e m h f g k = by_three P a b e m h g k
by_end P false c a b e m h f g k = by_three P a b e m h g k

-- the byte that stands there
pub byte_is : (byte : ℕ) (text : List ℕ) (p : ℕ) → stands byte text p ≡ true → get_or text p 0 ≡ byte
byte_is byte [] p e = absurd (true≢false (sym e))
byte_is byte (b ∷ bs) zero e = eqb-true b byte e
byte_is byte (b ∷ bs) (suc p) e = byte_is byte bs p e

-- the bytes around a place amid a line end of Unicode, of which one byte follows the place, or two
pub record EndsBehind (before here : ℕ) : Type 0 where
  pub lead : 0x80 ≤ before
  pub last : 0x85 ≤ here
  pub apart : before ≡ here → 1 ≤ 0

ends_by : {before here b h : ℕ} → before ≡ b → here ≡ h → 0x80 ≤ b → 0x85 ≤ h → (b ≡ h → 1 ≤ 0) → EndsBehind before here
ends_by e f lead last apart = record { lead = omega arith; last = omega arith; apart = λ g. apart (sym e ∙ g ∙ f) }

pub record EndsTwoBehind (before here : ℕ) : Type 0 where
  pub lead : before ≡ 0xE2
  pub mid : here ≡ 0x80

-- two texts with the same bytes from a place on
module _ (types : LineEndTypes) (text other : List ℕ) (x y : ℕ)
    (here : slice_get text x ≡ slice_get other y) (one : slice_get text (x + 1) ≡ slice_get other (y + 1)) (two : slice_get text (x + 2) ≡ slice_get other (y + 2)) where
  -- if a line starts one byte behind it only in the first, a line end of Unicode ends there
  pub ends_behind : is_line_start types text (x + 1) ≡ true → is_line_start types other (y + 1) ≡ false → EndsBehind (get_or text (x - 1) 0) (get_or text x 0)
  ends_behind a b =
      let was : (short_end text x || (knows_unicode types && long_end other y)) ≡ false = rw (here, one) (sym (first_test types other y) ∙ b) in
      let z : long_end text x ≡ true = (differ (short_end text x) (knows_unicode types) (long_end text x) (long_end other y) (sym (first_test types text x) ∙ a) was).0 in
      by_end (EndsBehind (get_or text (x - 1) 0) (get_or text x 0)) (stands 0x85 text x) (stands 0xC2 text (x - 1)) (stands 0xA8 text x) (stands 0xA9 text x) (stands 0x80 text (x - 1)) (stands 0xE2 text (x - 2)) z
      (λ n c. ends_by (byte_is 0xC2 text (x - 1) c) (byte_is 0x85 text x n) (omega arith) (omega arith) (λ e. omega arith))
      (λ n e m. ends_by (byte_is 0x80 text (x - 1) e) (byte_is 0xA8 text x n) (omega arith) (omega arith) (λ e. omega arith))
      (λ n e m. ends_by (byte_is 0x80 text (x - 1) e) (byte_is 0xA9 text x n) (omega arith) (omega arith) (λ e. omega arith))

  -- .. and likewise two bytes behind it
  pub ends_two_behind : is_line_start types text (x + 2) ≡ true → is_line_start types other (y + 2) ≡ false → EndsTwoBehind (get_or text (x - 1) 0) (get_or text x 0)
  ends_two_behind a b =
      let mine : Bool = stands 0xE2 text (x - 1) in
      let its : Bool = stands 0xE2 other (y - 1) in
      let was : (next_short_end text x || (knows_unicode types && next_long_end text x its)) ≡ false = rw (here, one, two) (sym (second_test types other y) ∙ b) in
      let z = differ (next_short_end text x) (knows_unicode types) (next_long_end text x mine) (next_long_end text x its) (sym (second_test types text x) ∙ a) was in
      by_three (EndsTwoBehind (get_or text (x - 1) 0) (get_or text x 0)) (stands 0xA8 text (x + 1)) (stands 0xA9 text (x + 1)) (stands 0x80 text x) mine
      (differ_behind (stands 0x85 text (x + 1) && stands 0xC2 text x) ((stands 0xA8 text (x + 1) || stands 0xA9 text (x + 1)) && stands 0x80 text x && mine) ((stands 0xA8 text (x + 1) || stands 0xA9 text (x + 1)) && stands 0x80 text x && its) z.0 z.1)
      (λ n e m. record { lead = byte_is 0xE2 text (x - 1) m; mid = byte_is 0x80 text x e })
      (λ n e m. record { lead = byte_is 0xE2 text (x - 1) m; mid = byte_is 0x80 text x e })

  -- so at most one more line starts there
  pub one_more_behind : one_if (is_line_start types text (x + 1)) + one_if (is_line_start types text (x + 2)) ≤ one_if (is_line_start types other (y + 1)) + one_if (is_line_start types other (y + 2)) + 1
  one_more_behind =
      let a = at_most_one (is_line_start types text (x + 1)) in
      let b = at_most_one (is_line_start types text (x + 2)) in
      by_gain _ (is_line_start types text (x + 1)) (is_line_start types other (y + 1))
      (λ p q. by_gain _ (is_line_start types text (x + 2)) (is_line_start types other (y + 2))
      (λ r s. absurd (omega (arith, (ends_behind p q).last, (ends_two_behind r s).mid)))
      (λ l. omega arith))
      (λ l. omega arith)

  -- .. and none, if no line end of Unicode can lie there
  pub none_behind :
      (EndsBehind (get_or text (x - 1) 0) (get_or text x 0) → 1 ≤ 0) → (EndsTwoBehind (get_or text (x - 1) 0) (get_or text x 0) → 1 ≤ 0)
      → (one_if (is_line_start types text (x + 1)) ≤ one_if (is_line_start types other (y + 1))) × (one_if (is_line_start types text (x + 2)) ≤ one_if (is_line_start types other (y + 2)))
  none_behind f g = (
    by_gain _ (is_line_start types text (x + 1)) (is_line_start types other (y + 1)) (λ p q. absurd (omega (arith, f (ends_behind p q)))) (λ l. l),
    by_gain _ (is_line_start types text (x + 2)) (is_line_start types other (y + 2)) (λ p q. absurd (omega (arith, g (ends_two_behind p q)))) (λ l. l),
  )

-- all lines, of which the last may start at the end
pub all_to_end : (types : LineEndTypes) (text : List ℕ) (n : ℕ) → length text ≡ n → line_count types text ≡ length (starts_within types text 0 n) + one_if (is_line_start types text n)
all_to_end types text n e = all_up_to types text (n + 1) 0 (omega arith) ∙ next_up_to types text n (n + 1) refl

-- all lines, those around a place apart
abbrev Parts : LineEndTypes → List ℕ → ℕ → ℕ → Type 0
Parts types text x end =
    line_count types text ≡ length (starts_within types text 0 x) + one_if (is_line_start types text x) + one_if (is_line_start types text (x + 1)) + one_if (is_line_start types text (x + 2)) + length (starts_within types text (x + 3) end)

all_apart : (types : LineEndTypes) (text : List ℕ) (x end : ℕ) → end ≡ length text + 4 → x ≤ length text → Parts types text x end
all_apart types text x end e h =
    omega (
      arith,
      all_up_to types text end 3 (omega arith),
      count_apart types text 0 (x + 3) end (omega arith) (omega arith),
      next_up_to types text (x + 2) (x + 3) (omega arith),
      next_up_to types text (x + 1) (x + 2) (omega arith),
      next_up_to types text x (x + 1) refl,
    )

-- the test at the end of the first text, if an LF follows or not
end_high : (l r n z : Bool) → one_if ((l || (r && not n)) || z) ≤ one_if ((l || (r && not false)) || z)
end_high true r n z = omega arith
end_high false true n z = at_most_one (not n || z)
end_high false false n z = omega arith

end_low : (l r n z : Bool) → one_if ((l || (r && not false)) || z) ≤ one_if ((l || (r && not n)) || z) + one_if (r && n)
end_low true r n z = omega arith
end_low false true true z = omega arith
end_low false true false z = omega arith
end_low false false n z = omega arith

pub behind_last_return : (types : LineEndTypes) (text : List ℕ) → stands 13 text (length text - 1) ≡ true → length text - 1 < length text → is_line_start types text (length text) ≡ true
behind_last_return types text e h =
    let q : ℕ = length text - 1 in
    let next : length text ≡ q + 1 = omega arith in
    let past : stands 10 text (q + 1) ≡ false = ap (is_number 10) (slice_get_past text (q + 1) (omega arith)) in
    rw next (first_test types text q ∙ ends (stands 10 text q) (stands 13 text q) (stands 10 text (q + 1)) (knows_unicode types && long_end text q) e past)
  where
    ends : (l r n z : Bool) → r ≡ true → n ≡ false → ((l || (r && not n)) || z) ≡ true
    ends true r n z e f = refl
    ends false true n z e f = rw f refl
    ends false false n z e f = absurd (true≢false (sym e))

-- two texts
module _ (types : LineEndTypes) (front behind : List ℕ) where
  pub end_tests :
      (n : ℕ) → length front ≡ n
      → (one_if (is_line_start types (front ++ behind) n) ≤ one_if (is_line_start types front n)) × (one_if (is_line_start types front n) ≤ one_if (is_line_start types (front ++ behind) n) + one_if (stands 13 front (n - 1) && stands 10 (front ++ behind) n))
  end_tests zero e = (omega arith, omega arith)
  end_tests (suc q) e =
      let next : suc q ≡ q + 1 = omega arith in
      let less : q + 1 - 1 ≡ q = omega arith in
      let n : Bool = stands 10 (front ++ behind) (q + 1) in
      let z : Bool = knows_unicode types && long_end front q in
      let past : stands 10 front (q + 1) ≡ false = ap (is_number 10) (slice_get_past front (q + 1) (omega arith)) in
      let own : is_line_start types front (q + 1) ≡ ((stands 10 front q || (stands 13 front q && not false)) || z) = first_test types front q ∙ rw past refl in
      let all : is_line_start types (front ++ behind) (q + 1) ≡ ((stands 10 front q || (stands 13 front q && not n)) || z) =
      first_test types (front ++ behind) q ∙ rw (slice_get_append_left front behind q (omega arith), slice_get_append_left front behind (q - 1) (omega arith), slice_get_append_left front behind (q - 2) (omega arith)) refl in
      rw (next, own, all, less) (end_high (stands 10 front q) (stands 13 front q) n z, end_low (stands 10 front q) (stands 13 front q) n z)

  pub same_bytes_behind : (x k : ℕ) → length front ≡ x → slice_get (front ++ behind) (x + k) ≡ slice_get behind k
  same_bytes_behind x k e = slice_get_append_right front behind k (x + k) (omega arith)

  pub same_front : (x : ℕ) → length front ≡ x → starts_within types front 0 x ≡ starts_within types (front ++ behind) 0 x
  same_front x e =
      let within : x ≤ length (front ++ behind) = omega (arith, length-append front behind) in
      rw (take_at front behind x e) at (same_in_front types (front ++ behind) x within)

  same_far : (x end : ℕ) → length front ≡ x → end ≡ length behind + 4 → length (starts_within types (front ++ behind) (x + 3) (x + end)) ≡ length (starts_within types behind 3 end)
  same_far x end e f =
      let n : ℕ = end - 3 in
      let size : x + end - (x + 3) ≡ n = omega arith in
      ap (λ m. length (filter (is_line_start types (front ++ behind)) (range_with_len (x + 3) m))) size
      ∙ ap length (filter_range_moved (is_line_start types behind) (is_line_start types (front ++ behind)) (λ s. x + s) 3 (x + 3) n (λ k m. (far_start k, omega arith)))
      ∙ length-map (starts_within types behind 3 end) (λ s. x + s)
    where
      far_start : (k : ℕ) → is_line_start types behind (3 + k) ≡ is_line_start types (front ++ behind) (x + 3 + k)
      far_start k =
          let a : 3 + k ≡ k + 3 = omega arith in
          let b : x + 3 + k ≡ x + k + 3 = omega arith in
          rw (a, b) (sym (moved_start_test types (front ++ behind) behind (x + k) k
          (λ r u. let c : x + k + r ≡ x + (k + r) = omega arith in rw c (same_bytes_behind x (k + r) e))))

  module _ (x : ℕ) (e : length front ≡ x) where
    here : slice_get (front ++ behind) x ≡ slice_get behind 0
    here = slice_get_append_right front behind 0 x (omega arith)

    parts_of_whole : Parts types (front ++ behind) x (x + (length behind + 4))
    parts_of_whole = all_apart types (front ++ behind) x (x + (length behind + 4)) (omega (arith, length-append front behind)) (omega (arith, length-append front behind))

    parts_of_behind : Parts types behind 0 (length behind + 4)
    parts_of_behind = all_apart types behind 0 (length behind + 4) refl (omega arith)

    -- together they have at most as many lines as on their own
    pub joined_high : line_count types (front ++ behind) ≤ line_count types front + line_count types behind
    joined_high =
        omega (
          arith,
          parts_of_whole,
          parts_of_behind,
          all_to_end types front x e,
          ap length (same_front x e),
          same_far x (length behind + 4) e refl,
          (end_tests x e).0,
          one_more_behind types (front ++ behind) behind x 0 here (same_bytes_behind x 1 e) (same_bytes_behind x 2 e),
        )

    -- .. and one less, if a CR ends the first
    pub joined_behind_return : stands 13 front (x - 1) ≡ true → line_count types (front ++ behind) + 1 ≤ line_count types front + line_count types behind
    joined_behind_return r =
        let inside : x - 1 < length front = stands_inside 13 front (x - 1) r in
        let last : get_or (front ++ behind) (x - 1) 0 ≡ 13 = byte_is 13 (front ++ behind) (x - 1) (ap (is_number 13) (slice_get_append_left front behind (x - 1) inside) ∙ r) in
        let none = none_behind types (front ++ behind) behind x 0 here (same_bytes_behind x 1 e) (same_bytes_behind x 2 e) (λ a. omega (arith, a.lead, last)) (λ a. omega (arith, a.lead, last)) in
        omega (
          arith,
          parts_of_whole,
          parts_of_behind,
          all_to_end types front x e,
          ap length (same_front x e),
          same_far x (length behind + 4) e refl,
          (end_tests x e).0,
          none.0,
          none.1,
        )

    -- and they have as many, less the one that both have, and one if a CR LF forms
    pub joined_low : line_count types front + line_count types behind ≤ line_count types (front ++ behind) + 1 + one_if (stands 13 front (x - 1) && stands 10 (front ++ behind) x)
    joined_low =
        let none = none_behind types behind (front ++ behind) 0 x (sym here) (sym (same_bytes_behind x 1 e)) (sym (same_bytes_behind x 2 e)) (λ a. a.apart refl) (λ a. omega (arith, a.lead, a.mid)) in
        omega (
          arith,
          parts_of_whole,
          parts_of_behind,
          all_to_end types front x e,
          ap length (same_front x e),
          same_far x (length behind + 4) e refl,
          (end_tests x e).1,
          none.0,
          none.1,
        )
