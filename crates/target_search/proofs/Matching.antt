-- Where a pattern stands, by what is found in a part of the text.
use Rattle.target_search.proofs.Names.{◌≡◌, ℕ, ◌+◌, ◌-◌, ◌<◌, ◌≤◌, min, Bool, true, false, eqb, ◌&&◌, ◌||◌, not, List, ◌++◌, length, map, get_or, take, drop, slice_range, refl, sym, ap, ◌∙◌, subst, arith, inl, inr, starts_with, cases_Bool, cases_lt, cond-true, eq-eqb, false≢true, length-take, length-drop, length-append, length-take-le, get_or-take, get_or_append_left, get_or-append_right, ext_get_or, take-append-drop, folded, match_case, whole_word, word_start, word_before, word_after, is_match, is_either, stands_at, words_pass, IsPart, NonePasses}
use Rattle.std.proofs.Math.Bool.{and-true, and-false}
use Rattle.memchr.specs.Find.{OccursAt}
use Rattle.ed_model.specs.Numbers.{meets}
use Rattle.ed_model.specs.proved.Lists.{read_part}
use Rattle.target_search.specs.Rare.{IsRareOf}
use Rattle.target_search.specs.declared.rare.RareByte.{RareByte}
use Rattle.target_search.proofs.Fronts.{and_assoc, and_both, and_first, front_true, front_long, front_reads, front_pieces}

pub length_part : (xs : List ℕ) (from to : ℕ) → from ≤ to → to ≤ length xs → from + length (slice_range xs from to) ≡ to
length_part xs from to a b =
    let size : length (slice_range xs from to) ≡ min (to - from) (length xs - from) = simp (length-take, length-drop) in
    omega arith

-- a part of a part
pub part_of_part : (text part : List ℕ) (offset from to base : ℕ) → base ≡ offset + from → from ≤ to → to ≤ length part → IsPart text part offset → IsPart text (slice_range part from to) base
part_of_part text part offset from to base e a b is =
    let size = length_part part from to a b in
    record {
      within = omega (arith, is.within);
      reads = λ k l.
          let place : offset + (from + k) ≡ base + k = omega arith in
          read_part part from to k l ∙ is.reads (from + k) (omega arith) ∙ ap (λ p. get_or text p 0) place;
    }

-- the bytes of a part are those of the text
pub same_slice : (text part : List ℕ) (offset at n : ℕ) → IsPart text part offset → at + n ≤ length part → slice_range part at (at + n) ≡ slice_range text (offset + at) (offset + at + n)
same_slice text part offset at n is l =
    let one = length_part part at (at + n) (omega arith) l in
    let two = length_part text (offset + at) (offset + at + n) (omega arith) (omega (arith, is.within)) in
    ext_get_or 0 (slice_range part at (at + n)) (slice_range text (offset + at) (offset + at + n)) (omega arith)
    (λ k b.
    let place : offset + (at + k) ≡ offset + at + k = omega arith in
    read_part part at (at + n) k b ∙ is.reads (at + k) (omega arith) ∙ ap (λ p. get_or text p 0) place ∙ sym (read_part text (offset + at) (offset + at + n) k (omega arith)))

allowed : (w s b a : Bool) → (w || s) ≡ false → (not ((w || s) && b) && not (w && a)) ≡ true
allowed true s b a h = absurd (false≢true (sym h))
allowed false true b a h = absurd (false≢true (sym h))
allowed false false b a h = refl

-- if words do not count, all are allowed
pub words_allowed : (flags : ℕ) (text : List ℕ) (place end : ℕ) → (meets flags whole_word || meets flags word_start) ≡ false → words_pass flags text place end ≡ true
words_allowed flags text place end h = allowed (meets flags whole_word) (meets flags word_start) (word_before text place) (word_after text end) h

module _ (flags : ℕ) (text pattern : List ℕ) where
  -- a match is where the pattern stands and the words are allowed
  pub match_is : (place : ℕ) → is_match flags text pattern place ≡ (stands_at flags text pattern place && words_pass flags text place (place + length pattern))
  match_is place =
      and_assoc (stands_at flags text pattern place) (not ((meets flags whole_word || meets flags word_start) && word_before text place))
      (not (meets flags whole_word && word_after text (place + length pattern)))

  pub no_match_at : (place : ℕ) → (stands_at flags text pattern place ≡ true → ⊥) → is_match flags text pattern place ≡ false
  no_match_at place apart =
      elim (cases_Bool (is_match flags text pattern place)) [
        | inl here ↦ absurd (apart (and_first _ _ (sym (match_is place) ∙ here)))
        | inr other ↦ other
      ]

  -- a match, by the test of the words and then by that of the bytes
  pub told_by_bytes : (place : ℕ) (s : Bool) → words_pass flags text place (place + length pattern) ≡ true → s ≡ stands_at flags text pattern place → s ≡ is_match flags text pattern place
  told_by_bytes place s words e =
      e ∙ sym (match_is place ∙ ap (λ w. stands_at flags text pattern place && w) words ∙ and-true (stands_at flags text pattern place))

  pub is_match_at : (place : ℕ) → stands_at flags text pattern place ≡ true → words_pass flags text place (place + length pattern) ≡ true → is_match flags text pattern place ≡ true
  is_match_at place s w = match_is place ∙ and_both _ _ s w

  pub words_refuse : (place : ℕ) → words_pass flags text place (place + length pattern) ≡ false → is_match flags text pattern place ≡ false
  words_refuse place w = match_is place ∙ ap (λ b. stands_at flags text pattern place && b) w ∙ and-false (stands_at flags text pattern place)

  -- read byte by byte
  stands_from_reads : (place : ℕ) → place + length pattern ≤ length text
      → ((k : ℕ) → k < length pattern → folded flags (get_or text (place + k) 0) ≡ folded flags (get_or pattern k 0)) → stands_at flags text pattern place ≡ true
  stands_from_reads place l reads =
      let size = length_part text place (place + length pattern) (omega arith) l in
      front_true (folded flags) (slice_range text place (place + length pattern)) pattern (omega arith)
      (λ k b. ap (folded flags) (read_part text place (place + length pattern) k (omega arith)) ∙ reads k b)

  stands_reads : (place : ℕ) → stands_at flags text pattern place ≡ true → (k : ℕ) → k < length pattern → folded flags (get_or text (place + k) 0) ≡ folded flags (get_or pattern k 0)
  stands_reads place h k b =
      let long = front_long (folded flags) (slice_range text place (place + length pattern)) pattern h in
      ap (folded flags) (sym (read_part text place (place + length pattern) k (omega arith)))
      ∙ front_reads (folded flags) (slice_range text place (place + length pattern)) pattern h k b

  -- the search for a substring, if case counts
  module _ (case : meets flags match_case ≡ true) (sub : List ℕ) (offset : ℕ) (part : IsPart text sub offset) where
    plain : (b : ℕ) → folded flags b ≡ b
    plain b = cond-true _ _ _ case

    pub stands_where_found : (k : ℕ) → OccursAt sub pattern k → stands_at flags text pattern (offset + k) ≡ true
    stands_where_found k occurs =
        stands_from_reads (offset + k) (omega (arith, occurs.fits, part.within))
        (λ j b.
        let place : offset + (k + j) ≡ offset + k + j = omega arith in
        ap (folded flags) (ap (λ p. get_or text p 0) (sym place) ∙ sym (part.reads (k + j) (omega (arith, occurs.fits))) ∙ occurs.reads j b))

    pub not_where_not_found : (place : ℕ) → offset ≤ place → place + length pattern ≤ offset + length sub → (OccursAt sub pattern (place - offset) → ⊥) → is_match flags text pattern place ≡ false
    not_where_not_found place a b apart =
        no_match_at place
        (λ stands. apart record {
          fits = omega arith;
          reads = λ j l.
              let at : offset + (place - offset + j) ≡ place + j = omega arith in
              part.reads (place - offset + j) (omega arith) ∙ ap (λ p. get_or text p 0) at ∙ sym (plain _) ∙ stands_reads place stands j l ∙ plain _;
        })

    -- the pattern does not stand where a byte of the part differs from it
    pub not_without_byte : (rare at : ℕ) → rare < length pattern → at + rare < length sub → (get_or sub (at + rare) 0 ≡ get_or pattern rare 0 → ⊥) → is_match flags text pattern (offset + at) ≡ false
    not_without_byte rare at w l other =
        no_match_at (offset + at)
        (λ stands.
        let place : offset + (at + rare) ≡ offset + at + rare = omega arith in
        other (part.reads (at + rare) l ∙ ap (λ p. get_or text p 0) place ∙ sym (plain _) ∙ stands_reads (offset + at) stands rare w ∙ plain _))

    -- the pattern does not stand between a place and the next one where that byte is found
    pub none_without_byte :
        (rare start end n : ℕ) → rare < length pattern → length pattern ≤ length sub + 1 → end ≡ length sub - (length pattern - 1 - rare) → start + rare ≤ end → n ≤ length (slice_range sub (start + rare) end)
        → ((k : ℕ) → 0 ≤ k → k < n → eqb (get_or (slice_range sub (start + rare) end) k 0) (get_or pattern rare 0) ≡ true → ⊥)
        → NonePasses (is_match flags text pattern) (offset + start) (offset + (start + n))
    none_without_byte rare start end n w small e l m other k a b =
        let size = length_part sub (start + rare) end l (omega arith) in
        let at = k - offset in
        let index = k - (offset + start) in
        let place : start + rare + index ≡ at + rare = omega arith in
        subst (λ p. is_match flags text pattern p ≡ false) (let same : offset + at ≡ k = omega arith in same)
        (not_without_byte rare at w (omega arith)
        (λ equal.
        other index (omega arith) (omega arith) (eq-eqb _ _ (read_part sub (start + rare) end index (omega arith) ∙ ap (λ p. get_or sub p 0) place ∙ equal))))

  -- the pattern does not stand where a byte of the part differs from it in either case
  pub not_where_other_byte :
      (rare : RareByte) (part : List ℕ) (offset at : ℕ) → IsRareOf rare pattern → IsPart text part offset → at + rare.place < length part
      → is_either rare.cases (get_or part (at + rare.place) 0) ≡ false → is_match flags text pattern (offset + at) ≡ false
  not_where_other_byte rare part offset at of is l other =
      no_match_at (offset + at)
      (λ stands.
      let place : offset + (at + rare.place) ≡ offset + at + rare.place = omega arith in
      let read : get_or part (at + rare.place) 0 ≡ get_or text (offset + at + rare.place) 0 = is.reads (at + rare.place) l ∙ ap (λ p. get_or text p 0) place in
      false≢true (sym other ∙ of.no_other flags (get_or part (at + rare.place) 0) (ap (folded flags) read ∙ stands_reads (offset + at) stands rare.place of.within)))

-- the bytes over the seam, in two pieces
pub seam_slice : (xs ys : List ℕ) (place n b : ℕ) → place ≤ length xs → place + n ≤ length xs + length ys → length xs + b ≡ place + n
    → slice_range xs place (length xs) ++ take b ys ≡ slice_range (xs ++ ys) place (place + n)
seam_slice xs ys place n b l w e =
    let front = slice_range xs place (length xs) in
    let one = length_part xs place (length xs) l (omega arith) in
    let two : length (take b ys) ≡ b = length-take-le b ys (omega arith) in
    let three = length_part (xs ++ ys) place (place + n) (omega arith) (omega (arith, length-append xs ys)) in
    ext_get_or 0 (front ++ take b ys) (slice_range (xs ++ ys) place (place + n)) (omega (arith, length-append front (take b ys)))
    (λ k h.
    let whole = read_part (xs ++ ys) place (place + n) k (omega (arith, length-append front (take b ys))) in
    elim (cases_lt k (length front)) [
      | inl near ↦ get_or_append_left front (take b ys) 0 k near ∙ read_part xs place (length xs) k near ∙ sym (get_or_append_left xs ys 0 (place + k) (omega arith)) ∙ sym whole
      | inr far ↦
          get_or-append_right front (take b ys) (length front) k 0 refl far
          ∙ get_or-take b ys (k - length front) 0 (omega (arith, length-append front (take b ys)))
          ∙ ap (λ i. get_or ys i 0) (let i : k - length front ≡ place + k - length xs = omega arith in i)
          ∙ sym (get_or-append_right xs ys (length xs) (place + k) 0 refl (omega arith)) ∙ sym whole
    ])

-- so the pattern stands there, if both pieces match
pub stands_over_seam : (flags : ℕ) (xs ys pattern front behind : List ℕ) (place m : ℕ) → front ≡ take m pattern → behind ≡ drop m pattern → place + m ≡ length xs → m ≤ length pattern
    → place + length pattern ≤ length xs + length ys
    → (starts_with eqb (map (folded flags) (slice_range xs place (length xs))) (map (folded flags) front) && starts_with eqb (map (folded flags) (take (length behind) ys)) (map (folded flags) behind))
    ≡ stands_at flags (xs ++ ys) pattern place
stands_over_seam flags xs ys pattern front behind place m f b e l w =
    let one = length_part xs place (length xs) (omega arith) (omega arith) in
    let two : length front ≡ m = ap length f ∙ length-take-le m pattern l in
    let three : length behind ≡ length pattern - m = ap length b ∙ length-drop m pattern in
    let joined : front ++ behind ≡ pattern = ap (λ n. n ++ behind) f ∙ ap (λ n. take m pattern ++ n) b ∙ take-append-drop m pattern in
    front_pieces (folded flags) (slice_range xs place (length xs)) (take (length behind) ys) front behind (omega arith)
    ∙ ap (λ n. starts_with eqb (map (folded flags) n) (map (folded flags) (front ++ behind))) (seam_slice xs ys place (length pattern) (length behind) (omega arith) w (omega arith))
    ∙ ap (λ n. starts_with eqb (map (folded flags) (slice_range (xs ++ ys) place (place + length pattern))) (map (folded flags) n)) joined
