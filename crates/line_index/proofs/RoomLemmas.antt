-- How many lines a step adds at most.
use Rattle.line_index.proofs.Names.{◌≡◌, ℕ, ◌+◌, ◌-◌, ◌<◌, ◌≤◌, Bool, true, false, List, ◌++◌, ◌&&◌, length, take, drop, take-append-drop, stands, refl, sym, ap, true≢false, ◌∙◌, arith, append_assoc, LineEndTypes, line_count, some_line, InsertionAddsFewLines, DeletionAddsFewLines, FirstBytesHaveFewLines, length-take-le, slice_get_drop}
use Rattle.line_index.proofs.StartLists.{one_if, at_most_one, next_up_to, more_up_to, all_up_to}
use Rattle.line_index.proofs.JoinedTexts.{all_to_end, behind_last_return, joined_high, joined_low, joined_behind_return}
use Rattle.std.proofs.lemmas.List.{drop-drop}
use Rattle.ed_model.specs.Numbers.{is_number}
use Rattle.line_index.proofs.FirstBytes.{behind_line_feed, stands_inside}

pub both_true : (a b : Bool) → (a && b) ≡ true → (a ≡ true) × (b ≡ true)
both_true true true e = (refl, refl)
both_true true false e = absurd (true≢false (sym e))
both_true false b e = absurd (true≢false (sym e))

fewer_both : (a b : Bool) → one_if (a && b) ≤ one_if a
fewer_both true b = at_most_one b
fewer_both false b = omega arith

-- two texts have at most as many lines together as on their own, and one less if a CR ends the first
joined_less : (types : LineEndTypes) (front behind : List ℕ) → line_count types (front ++ behind) + one_if (stands 13 front (length front - 1)) ≤ line_count types front + line_count types behind
joined_less types front behind = less (stands 13 front (length front - 1)) refl
  where
    less : (b : Bool) → stands 13 front (length front - 1) ≡ b → line_count types (front ++ behind) + one_if b ≤ line_count types front + line_count types behind
    less true e = joined_behind_return types front behind (length front) refl e
    less false e = omega (arith, joined_high types front behind (length front) refl)

pub few_inserted : InsertionAddsFewLines
few_inserted types place bytes text h =
    let front : List ℕ = take place text in
    let behind : List ℕ = drop place text in
    omega (
      arith,
      ap (line_count types) (append_assoc front bytes behind),
      ap (line_count types) (take-append-drop place text),
      fewer_both (stands 13 front (length front - 1)) (stands 10 (front ++ behind) (length front)),
      joined_low types front behind (length front) refl,
      joined_less types front (bytes ++ behind),
      joined_high types bytes behind (length bytes) refl,
    )

-- bytes that end with a CR have two lines
two_lines : (types : LineEndTypes) (bytes : List ℕ) → one_if (stands 13 bytes (length bytes - 1)) + 1 ≤ line_count types bytes
two_lines types bytes = lines (stands 13 bytes (length bytes - 1)) refl
  where
    lines : (b : Bool) → stands 13 bytes (length bytes - 1) ≡ b → one_if b + 1 ≤ line_count types bytes
    lines false e = omega (arith, some_line types bytes)
    lines true e =
        let inside : length bytes - 1 < length bytes = stands_inside 13 bytes (length bytes - 1) e in
        omega (
          arith,
          all_to_end types bytes (length bytes) refl,
          ap one_if (behind_last_return types bytes e inside),
          next_up_to types bytes 0 1 refl,
          more_up_to types bytes 1 (length bytes) (omega arith),
        )

pub few_deleted : DeletionAddsFewLines
few_deleted types place count text h =
    let front : List ℕ = take place text in
    let bytes : List ℕ = take count (drop place text) in
    let behind : List ℕ = drop (place + count) text in
    let rest : bytes ++ behind ≡ drop place text = rw (← (drop-drop count place text)) (take-append-drop count (drop place text)) in
    let whole : front ++ (bytes ++ behind) ≡ text = rw rest (take-append-drop place text) in
    omega (
      arith,
      ap (line_count types) whole,
      fewer_both (stands 13 front (length front - 1)) (stands 10 (front ++ (bytes ++ behind)) (length front)),
      fewer_both (stands 13 bytes (length bytes - 1)) (stands 10 (bytes ++ behind) (length bytes)),
      joined_less types front behind,
      joined_low types front (bytes ++ behind) (length front) refl,
      joined_low types bytes behind (length bytes) refl,
      two_lines types bytes,
    )

-- the first bytes of a text have no more lines than all of it: an LF behind their last CR ends a line of the others
pub fewer_at_first : FirstBytesHaveFewLines
fewer_at_first types bytes n l =
    let behind : List ℕ = drop n bytes in
    let low = rw (take-append-drop n bytes) at (joined_low types (take n bytes) behind n (length-take-le n bytes l)) in
    omega (arith, low, more (stands 13 (take n bytes) (n - 1)) (stands 10 bytes n) (λ e. fed behind (ap (is_number 10) (slice_get_drop n bytes 0 n (omega arith)) ∙ e)) (some_line types behind))
  where
    fed : (behind : List ℕ) → stands 10 behind 0 ≡ true → 2 ≤ line_count types behind
    fed behind e =
        omega (
          arith,
          next_up_to types behind 0 1 refl,
          next_up_to types behind 1 2 refl,
          ap one_if (behind_line_feed types behind 0 e),
          more_up_to types behind 2 (length behind + 1) (omega (arith, stands_inside 10 behind 0 e)),
          all_up_to types behind (length behind + 1) 0 (omega arith),
        )

    more : {count : ℕ} (a b : Bool) → (b ≡ true → 2 ≤ count) → 0 < count → one_if (a && b) + 1 ≤ count
    more true true h some = omega (arith, h refl)
    more true false h some = omega arith
    more false b h some = omega arith
