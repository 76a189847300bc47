-- The line starts of a text under both settings of line ends: each start of the smaller setting is one of the larger,
-- and others may lie between.
use Rattle.line_index.proofs.Names.{◌≡◌, ℕ, zero, suc, ◌+◌, ◌-◌, ◌<◌, ◌≤◌, Bool, true, false, cond, ◌==◌, ◌||◌, ◌&&◌, not, List, [], ◌∷◌, ◌++◌, length, get_or, map, filter, replicate, refl, sym, ap, ap₂, ◌∙◌, inl, inr, arith, take, drop, append-nil, length-append, length-drop, range_with_len, true≢false, cases_lt, cases_order, length-take-le, LineEndTypes, Default, Unicode, stands, is_line_start, line_starts, line_of, line_count, unicode_end_before, filter_range_agree, first_line_start, some_line, Partitions, CanAdd, IsFree, starts_within, starts_near, LineEdit, all_inside_edits, inside_edits, line_past, lines_inside, next_of}
use Rattle.line_index.proofs.StartLists.{one_if, up_to, count_apart, next_up_to, line_is_up_to, all_within, starts_apart, no_starts, one_start}

more_ends : (z a b u : Bool) → (z || (a || b || (false && u))) ≡ true → (z || (a || b || (true && u))) ≡ true
more_ends true a b u h = refl
more_ends false true b u h = refl
more_ends false false true u h = refl
more_ends false false false u h = absurd (true≢false (sym h))

fewer_ends : (z a b u : Bool) → (z || (a || b || (true && u))) ≡ false → (z || (a || b || (false && u))) ≡ false
fewer_ends true a b u h = absurd (true≢false h)
fewer_ends false true b u h = absurd (true≢false h)
fewer_ends false false true u h = absurd (true≢false h)
fewer_ends false false false u h = refl

-- a start stays one if more line ends count
pub still_starts : (text : List ℕ) (k : ℕ) → is_line_start Default text k ≡ true → is_line_start Unicode text k ≡ true
still_starts text k h = more_ends (k == 0) (stands 10 text (k - 1)) (stands 13 text (k - 1) && not (stands 10 text k)) (unicode_end_before text k) h

-- where no line starts then, none does with fewer line ends
pub none_starts : (text : List ℕ) (k : ℕ) → is_line_start Unicode text k ≡ false → is_line_start Default text k ≡ false
none_starts text k h = fewer_ends (k == 0) (stands 10 text (k - 1)) (stands 13 text (k - 1) && not (stands 10 text k)) (unicode_end_before text k) h

-- no starts from a place up to itself
pub none_to_itself : (types : LineEndTypes) (text : List ℕ) (from : ℕ) → starts_within types text from from ≡ []
none_to_itself types text from = no_starts types text from from (λ k a b. absurd (omega arith))

-- a line starts at the place, and the next one, or the text's end, is the first behind it
pub record IsLine (text : List ℕ) (start place next : ℕ) : Type 0 where
  pub start_is : start ≡ place
  pub here : is_line_start Default text place ≡ true
  pub more : place < next
  pub high : next ≤ length text + 1
  pub none : (k : ℕ) → place < k → k < next → is_line_start Default text k ≡ false

-- the lines from a place on
abbrev pub AreLines : List ℕ → ℕ → List ℕ → Type 0
AreLines text place [] = place ≡ length text + 1
AreLines text place (start ∷ starts) = IsLine text start place (next_of text starts) × AreLines text (next_of text starts) starts

-- the starts from a place on, which need not be a start itself
record AreLinesBehind (text : List ℕ) (place : ℕ) (starts : List ℕ) : Type 0 where
  low : place ≤ next_of text starts
  high : next_of text starts ≤ length text + 1
  none : (k : ℕ) → place ≤ k → k < next_of text starts → is_line_start Default text k ≡ false
  lines : AreLines text (next_of text starts) starts

one_more_line : (text : List ℕ) (place : ℕ) (starts : List ℕ) (here : Bool) → is_line_start Default text place ≡ here → AreLinesBehind text (place + 1) starts → AreLinesBehind text place (cond here (place ∷ starts) starts)
one_more_line text place starts true e rest =
    record {
      low = omega arith;
      high = omega (arith, rest.low, rest.high);
      none = λ k a b. absurd (omega arith);
      lines = (record { start_is = refl; here = e; more = omega (arith, rest.low); high = rest.high; none = λ k a b. rest.none k (omega arith) b }, rest.lines);
    }
one_more_line text place starts false e rest =
    record {
      low = omega (arith, rest.low);
      high = rest.high;
      none = λ k a b. elim (cases_lt place k) [
        | inl behind ↦ rest.none k (omega arith) b
        | inr here ↦ let same : k ≡ place = omega arith in rw same e
      ];
      lines = rest.lines;
    }

lines_behind : (text : List ℕ) (place n : ℕ) → place + n ≡ length text + 1 → AreLinesBehind text place (filter (is_line_start Default text) (range_with_len place n))
lines_behind text place zero e = record {
  low = omega arith;
  high = omega arith;
  none = λ k a b. absurd (omega arith);
  lines = refl;
}
lines_behind text place (suc n) e =
    one_more_line text place (filter (is_line_start Default text) (range_with_len (place + 1) n)) (is_line_start Default text place) refl (lines_behind text (place + 1) n (omega arith))

-- the line starts of a text, from its beginning on
pub lines_from_first : (text : List ℕ) → AreLines text 0 (line_starts Default text)
lines_from_first text =
    let all : AreLinesBehind text 0 (line_starts Default text) = lines_behind text 0 (length text + 1) (omega arith) in
    first (next_of text (line_starts Default text)) refl all
  where
    first : (next : ℕ) → next ≡ next_of text (line_starts Default text) → AreLinesBehind text 0 (line_starts Default text) → AreLines text 0 (line_starts Default text)
    first zero e all = rw (← e) at all.lines
    first (suc n) e all = absurd (true≢false (all.none 0 (omega arith) (omega arith)))

-- the starts where line ends of Unicode count, from the start of a line on
pub starts_on : (text : List ℕ) (place next : ℕ) → is_line_start Default text place ≡ true → place < next → next ≤ length text + 1
    → starts_within Unicode text place (length text + 1) ≡ (place ∷ starts_within Unicode text (place + 1) next) ++ starts_within Unicode text next (length text + 1)
starts_on text place next here a b =
    starts_apart Unicode text place next (length text + 1) (omega arith) b
    ∙ ap (λ l. l ++ starts_within Unicode text next (length text + 1))
    (starts_apart Unicode text place (place + 1) next (omega arith) (omega arith)
    ∙ ap (λ l. l ++ starts_within Unicode text (place + 1) next) (one_start Unicode text place (still_starts text place here)))

-- every place from a start up to the next is on its line
pub line_within : (types : LineEndTypes) (text : List ℕ) (start next place n : ℕ) → is_line_start types text start ≡ true → ((k : ℕ) → start < k → k < next → is_line_start types text k ≡ false)
    → start ≤ place → place < next → up_to types text start ≡ n → line_of (line_starts types text) place ≡ n
line_within types text start next place n here none a b e =
    let rest = no_starts types text (start + 1) (place + 1) (λ k l m. none k (omega arith) (omega arith)) in
    omega (
      arith,
      line_is_up_to types text place,
      count_apart types text 0 (start + 1) (place + 1) (omega arith) (omega arith),
      next_up_to types text start (start + 1) refl,
      ap one_if here,
      ap length rest,
    )

-- if a function has the same value at each number of a range, it has it at those that pass a test
pub map_passing_same : (p : ℕ → Bool) (f : ℕ → ℕ) (y a n : ℕ) → ((k : ℕ) → a ≤ k → k < a + n → f k ≡ y) → map f (filter p (range_with_len a n)) ≡ replicate (length (filter p (range_with_len a n))) y
map_passing_same p f y a zero h = refl
map_passing_same p f y a (suc n) h = one (p a) (filter p (range_with_len (a + 1) n)) (h a (omega arith) (omega arith)) (map_passing_same p f y (a + 1) n (λ k l m. h k (omega arith) (omega arith)))
  where
    one : (b : Bool) (rest : List ℕ) → f a ≡ y → map f rest ≡ replicate (length rest) y → map f (cond b (a ∷ rest) rest) ≡ replicate (length (cond b (a ∷ rest) rest)) y
    one true rest e r = ap₂ (λ z l. z ∷ l) e r
    one false rest e r = r

-- so it has at the starts from one place up to another
pub map_within_same : (types : LineEndTypes) (text : List ℕ) (f : ℕ → ℕ) (y from to : ℕ) → ((k : ℕ) → from ≤ k → k < to → f k ≡ y) → map f (starts_within types text from to) ≡ replicate (length (starts_within types text from to)) y
map_within_same types text f y from to h = map_passing_same (is_line_start types text) f y from (to - from) (λ k a b. h k a (omega arith))

-- the starts from a line's on are its own and those from the next one's on
pub lines_on : (text : List ℕ) (start next : ℕ) → is_line_start Default text start ≡ true → start < next → next ≤ length text + 1 → ((k : ℕ) → start < k → k < next → is_line_start Default text k ≡ false)
    → starts_within Default text start (length text + 1) ≡ start ∷ starts_within Default text next (length text + 1)
lines_on text start next here a b none =
    starts_apart Default text start (start + 1) (length text + 1) (omega arith) (omega arith)
    ∙ ap (λ l. l ++ starts_within Default text (start + 1) (length text + 1)) (one_start Default text start here)
    ∙ ap (λ l. start ∷ l)
    (starts_apart Default text (start + 1) next (length text + 1) (omega arith) b
    ∙ ap (λ l. l ++ starts_within Default text next (length text + 1)) (no_starts Default text (start + 1) next (λ k l m. none k (omega arith) m)))

next_is : (text : List ℕ) (next : ℕ) → next ≤ length text + 1 → (next < length text + 1 → is_line_start Default text next ≡ true) → next_of text (starts_within Default text next (length text + 1)) ≡ next
next_is text next b found =
    elim (cases_lt next (length text + 1)) [
      | inl more ↦
          let first : starts_within Default text next (length text + 1) ≡ next ∷ starts_within Default text (next + 1) (length text + 1) =
          starts_apart Default text next (next + 1) (length text + 1) (omega arith) (omega arith)
          ∙ ap (λ l. l ++ starts_within Default text (next + 1) (length text + 1)) (one_start Default text next (found more)) in
          ap (next_of text) first
      | inr last ↦
          let end : length text + 1 ≡ next = omega arith in
          let none : starts_within Default text next (length text + 1) ≡ [] = ap (starts_within Default text next) end ∙ none_to_itself Default text next in
          ap (next_of text) none ∙ end
    ]

-- so the number of one line is known
pub inside_on : (text : List ℕ) (start next count : ℕ) → is_line_start Default text start ≡ true → start < next → next ≤ length text + 1 → ((k : ℕ) → start < k → k < next → is_line_start Default text k ≡ false)
    → (next < length text + 1 → is_line_start Default text next ≡ true) → count ≡ length (starts_within Unicode text (start + 1) next)
    → lines_inside text (starts_within Default text start (length text + 1)) ≡ count ∷ lines_inside text (starts_within Default text next (length text + 1))
inside_on text start next count here a b none found e =
    ap (lines_inside text) (lines_on text start next here a b none)
    ∙ ap (λ n. length (starts_within Unicode text (start + 1) n) ∷ lines_inside text (starts_within Default text next (length text + 1))) (next_is text next b found)
    ∙ ap (λ c. c ∷ lines_inside text (starts_within Default text next (length text + 1))) (sym e)

-- one more start that does not count in the smaller setting
pub one_more_inside : (text : List ℕ) (start place next : ℕ) → start < place → is_line_start Default text place ≡ false → ((k : ℕ) → start < k → k < place → is_line_start Default text k ≡ false) → ((k : ℕ) → place + 1 ≤ k → k < next → is_line_start Unicode text k ≡ false)
    → (k : ℕ) → start < k → k < next → is_line_start Default text k ≡ false
one_more_inside text start place next a here front behind k l m =
    elim (cases_order k place) [
      | inl same ↦ rw same here
      | inr (inl below) ↦ front k l below
      | inr (inr above) ↦ none_starts text k (behind k (omega arith) m)
    ]

-- if all starts but the first are removed, the first is left
pub only_first : (types : LineEndTypes) (text : List ℕ) → take 1 (line_starts types text) ++ drop (length (line_starts types text)) (line_starts types text) ≡ 0 ∷ []
only_first types text = alone (line_starts types text) (some_line types text) (first_line_start types text)
  where
    gone : (xs : List ℕ) → drop (length xs) xs ≡ []
    gone [] = refl
    gone (x ∷ xs) = gone xs

    alone : (xs : List ℕ) → 0 < length xs → get_or xs 0 0 ≡ 0 → take 1 xs ++ drop (length xs) xs ≡ 0 ∷ []
    alone [] h e = absurd (omega arith)
    alone (x ∷ xs) h e = rw (e, gone xs) refl

-- All starts but the first are removed, and those of the text are to be inserted: behind 0, up to the end.
pub only_first_free : (types : LineEndTypes) (text : List ℕ) (to : ℕ) → to ≡ length text + 1 → IsFree (take 1 (line_starts types text) ++ drop (length (line_starts types text)) (line_starts types text)) (length text) 1 to 1
only_first_free types text to e =
    rw (only_first types text) record {
      not_first = omega arith;
      within = omega arith;
      below = λ k h. let z : k ≡ 0 = omega arith in rw z (omega arith);
      above = λ k a b. absurd (omega arith);
      order = omega arith;
      to_end = omega arith;
    }

-- with these, the text has all of its starts under the other setting
pub first_and_others : (old new : LineEndTypes) (text : List ℕ) (to : ℕ) → to ≡ length text + 1
    → take 1 (take 1 (line_starts old text) ++ drop (length (line_starts old text)) (line_starts old text)) ++ starts_near new text 0 1 to ++ drop 1 (take 1 (line_starts old text) ++ drop (length (line_starts old text)) (line_starts old text))
    ≡ line_starts new text
first_and_others old new text to e =
    rw (only_first old text)
    (ap (λ l. 0 ∷ l)
    (append-nil (starts_near new text 0 1 to)
    ∙ filter_range_agree (is_line_start new text) (λ k. is_line_start new text (k - 0)) 1 (to - 1) (λ k a b. let s : k - 0 ≡ k = omega arith in rw s refl)
    ∙ ap (starts_within new text 1) e)
    ∙ sym (all_within new text ∙ starts_apart new text 0 1 (length text + 1) (omega arith) (omega arith) ∙ ap (λ l. l ++ starts_within new text 1 (length text + 1)) (one_start new text 0 refl)))

-- these starts fit in with the first
others_fit : (old new : LineEndTypes) (text : List ℕ) (to : ℕ) → to ≡ length text + 1 → 1 + length (starts_near new text 0 1 to) ≡ line_count new text
others_fit old new text to e =
    let all = ap length (first_and_others old new text to e) in
    let one = ap length (only_first old text) in
    let front : List ℕ = take 1 (line_starts old text) ++ drop (length (line_starts old text)) (line_starts old text) in
    omega (arith, all, one, length-append (take 1 front ++ starts_near new text 0 1 to) (drop 1 front), length-append (take 1 front) (starts_near new text 0 1 to), length-take-le 1 front (omega arith), length-drop 1 front)

-- So they can be inserted if the index was that of the text.
pub can_set :
    (old new : LineEndTypes) (text starts : List ℕ) (count to : ℕ) (now : Partitions) → starts ≡ line_starts old text → count ≡ length starts → to ≡ length text + 1 → now.starts ≡ take 1 starts ++ drop count starts → now.length ≡ length text
    → line_count new text ≤ now.capacity → CanAdd new text 0 1 to 1 now
can_set old new text starts count to now s c e cut long fits =
    let counted : count ≡ line_count old text = omega (arith, ap length s) in
    let first : now.starts ≡ take 1 (line_starts old text) ++ drop (length (line_starts old text)) (line_starts old text) = cut ∙ rw (s, counted) refl in
    record {
      free = rw (first, long) (only_first_free old text to e);
      fits = omega (arith, fits, others_fit old new text to e, ap length (first ∙ only_first old text));
    }

-- They are then all starts of the text.
pub all_set :
    (old new : LineEndTypes) (text starts : List ℕ) (count to : ℕ) (now later : List ℕ) → starts ≡ line_starts old text → count ≡ length starts → to ≡ length text + 1 → now ≡ take 1 starts ++ drop count starts
    → later ≡ take 1 now ++ starts_near new text 0 1 to ++ drop 1 now → later ≡ line_starts new text
all_set old new text starts count to now later s c e cut added =
    let counted : count ≡ line_count old text = omega (arith, ap length s) in
    let first : now ≡ take 1 (line_starts old text) ++ drop (length (line_starts old text)) (line_starts old text) = cut ∙ rw (s, counted) refl in
    added ∙ rw first (first_and_others old new text to e)

-- no edits for one line are no edits at all
pub no_middle : (types : LineEndTypes) (line count : ℕ) (done : List LineEdit) (rest : List ℕ) → done ++ all_inside_edits types line (count ∷ rest) ≡ [] → inside_edits types line count ≡ []
no_middle types line count (e ∷ done) rest none = absurd (omega (arith, ap length none))
no_middle types line count [] rest none = front (inside_edits types line count) (all_inside_edits types (line_past types line count) rest) none
  where
    front : (ys xs : List LineEdit) → ys ++ xs ≡ [] → ys ≡ []
    front [] xs e = refl
    front (y ∷ ys) xs e = absurd (omega (arith, ap length e))

-- afterwards a line's number is at most its start, as before
pub past_low : (types : LineEndTypes) (line count past start next : ℕ) → past ≡ line_past types line count → line ≤ start → count < next - start → start < next → past ≤ next
past_low Default line count past start next e a b d = omega arith
past_low Unicode line count past start next e a b d = omega arith
