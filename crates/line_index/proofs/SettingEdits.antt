-- The edits of another setting of line ends carry rows as the model regroups them.
use Rattle.line_index.proofs.Names.{◌≡◌, ℕ, suc, ◌+◌, ◌-◌, ◌<◌, ◌≤◌, true, false, List, [], ◌∷◌, ◌++◌, length, map, take, drop, replicate, refl, sym, ap, ◌∙◌, arith, append_assoc, length-append, IsStrictlyIncreasing, map-append, map-id, take-append-drop, length-replicate, LineEndTypes, Default, Unicode, is_line_start, line_starts, line_of, line_count, carried, regrouped, JoinsRows, RowsOfLinesThatStay, line_starts_increase, few_lines, after_edits, FitLines, fresh_lines, starts_within, joined, came, next_of, lines_inside, all_inside_edits, edits_of_setting, SettingsFitLines, SettingsBringAll, SettingsBringFewLines}
use Rattle.std.proofs.lemmas.List.{length-take, length-drop}
use Rattle.line_index.proofs.Abouts.{Fits, fits_both, joined_fits, came_fits}
use Rattle.line_index.proofs.Keyed.{Carries, by_keys, carried_by_keys, carries_both, carries_none, carries_fresh, carries_on}
use Rattle.line_index.proofs.Settling.{edits_in_turn, joined_is, came_is}
use Rattle.line_index.proofs.StartLists.{one_if, up_to, count_apart, next_up_to, all_within, no_starts}
use Rattle.line_index.proofs.SettingLists.{AreLines, lines_from_first, line_within, map_within_same, none_to_itself, starts_on, still_starts}

abbrev all_from : List ℕ → ℕ → List ℕ
all_from text place = starts_within Unicode text place (length text + 1)

abbrev count_inside : List ℕ → ℕ → ℕ → ℕ
count_inside text place next = length (starts_within Unicode text (place + 1) next)

-- by the default setting, the next line is one line further
next_start : (text : List ℕ) (place next n : ℕ) → is_line_start Default text place ≡ true → place < next → ((k : ℕ) → place < k → k < next → is_line_start Default text k ≡ false) → up_to Default text place ≡ n → up_to Default text next ≡ n + 1
next_start text place next n here a none e =
    omega (
      arith,
      count_apart Default text 0 (place + 1) next (omega arith) (omega arith),
      next_up_to Default text place (place + 1) refl,
      ap one_if here,
      ap length (no_starts Default text (place + 1) next (λ k l m. none k (omega arith) m)),
    )

-- if line ends of Unicode count, it comes after the lines inside this one, too
next_start_inside : (text : List ℕ) (place next n : ℕ) → is_line_start Default text place ≡ true → place < next → up_to Unicode text place ≡ n → up_to Unicode text next ≡ n + count_inside text place next + 1
next_start_inside text place next n here a e =
    omega (arith, count_apart Unicode text 0 (place + 1) next (omega arith) (omega arith), next_up_to Unicode text place (place + 1) refl, ap one_if (still_starts text place here))

-- the number of starts from a line's start on
count_on : (text : List ℕ) (place next : ℕ) → is_line_start Default text place ≡ true → place < next → next ≤ length text + 1 → length (all_from text place) ≡ count_inside text place next + 1 + length (all_from text next)
count_on text place next here a b =
    omega (
      arith,
      ap length (starts_on text place next here a b),
      length-append (place ∷ starts_within Unicode text (place + 1) next) (all_from text next),
    )

-- the effect of the edits on the rows from a line on; those before it are done
record Regroups {R : Type 0} (t : List R → R) (new : LineEndTypes) (at n : ℕ) (counts keys : List ℕ) (rows : List R) : Type 0 where
  out : List R
  carries : Carries t at n keys rows out
  edits : (done : List R) → length done ≡ at → after_edits t (all_inside_edits new at counts) (done ++ rows) ≡ done ++ out

-- lines inside others are joined to them
abbrev Joined : {R : Type 0} → (List R → R) → List ℕ → List ℕ → ℕ → ℕ → List R → Type 0
Joined t text starts place at rows =
    Regroups t Default at (length starts) (lines_inside text starts) (map (line_of (line_starts Default text)) (all_from text place)) rows

keys_joined : (text : List ℕ) (place next at : ℕ) → is_line_start Default text place ≡ true → place < next → next ≤ length text + 1 → ((k : ℕ) → place < k → k < next → is_line_start Default text k ≡ false) → up_to Default text place ≡ at
    → map (line_of (line_starts Default text)) (all_from text place) ≡ replicate (count_inside text place next + 1) at ++ map (line_of (line_starts Default text)) (all_from text next)
keys_joined text place next at here a b none e =
    let key : ℕ → ℕ = line_of (line_starts Default text) in
    let one : ℕ → ℕ → Type 0 = λ k n. key k ≡ n in
    let first : map key (place ∷ starts_within Unicode text (place + 1) next) ≡ replicate (suc (count_inside text place next)) at =
    joined_keys (line_within Default text place next place at here none (omega arith) a e)
    (map_within_same Unicode text key at (place + 1) next (λ k l m. line_within Default text place next k at here none (omega arith) m e)) in
    let size : count_inside text place next + 1 ≡ suc (count_inside text place next) = omega arith in
    rw (starts_on text place next here a b, map-append key (place ∷ starts_within Unicode text (place + 1) next) (all_from text next), size)
    (ap (λ l. l ++ map key (all_from text next)) first)
  where
    joined_keys : {x y : ℕ} {xs ys : List ℕ} → x ≡ y → xs ≡ ys → (x ∷ xs) ≡ (y ∷ ys)
    joined_keys {x} {y} {xs} {ys} e f = rw (e, f) refl

joined_step :
    {R : Type 0} (t : List R → R) → JoinsRows t → (text : List ℕ) (start : ℕ) (starts : List ℕ) (place at : ℕ) (r : R) (first later : List R) → AreLines text place (start ∷ starts) → up_to Default text place ≡ at
    → length first ≡ count_inside text place (next_of text starts) → Joined t text starts (next_of text starts) (at + 1) later → Joined t text (start ∷ starts) place at ((r ∷ first) ++ later)
joined_step {R} t j text start starts place at r first later lines e size rest =
    let next : ℕ = next_of text starts in
    let c : ℕ = count_inside text place next in
    let group : R = t (r ∷ first) in
    let key : ℕ → ℕ = line_of (line_starts Default text) in
    let keys = keys_joined text place next at lines.0.here lines.0.more lines.0.high lines.0.none e in
    let same : lines_inside text (start ∷ starts) ≡ c ∷ lines_inside text starts = ap (λ s. length (starts_within Unicode text (s + 1) next) ∷ lines_inside text starts) lines.0.start_is in
    record {
      out = group ∷ rest.out;
      carries = rw keys
          (carries_both t at 1 (at + 1) (length starts) (suc (length starts)) (replicate (c + 1) at) (map key (all_from text next)) (r ∷ first) later (group ∷ []) rest.out refl (omega arith)
          (carries_on t at (c + 1) (r ∷ first) (omega arith)) rest.carries);
      edits = λ done d.
          ap (λ (counts : List ℕ). after_edits t (all_inside_edits Default at counts) (done ++ ((r ∷ first) ++ later))) same
          ∙ (edits_in_turn t (joined at c) (all_inside_edits Default (at + 1) (lines_inside text starts)) (done ++ ((r ∷ first) ++ later))
          ∙ ap (after_edits t (all_inside_edits Default (at + 1) (lines_inside text starts)))
          (rw (← size) (joined_is t j done r first later at d) ∙ sym (append_assoc done (group ∷ []) later))
          ∙ rest.edits (done ++ group ∷ []) (omega (arith, length-append done (group ∷ [])))
          ∙ append_assoc done (group ∷ []) rest.out);
    }

all_joined : {R : Type 0} (t : List R → R) → JoinsRows t → (text starts : List ℕ) (place at : ℕ) (rows : List R) → AreLines text place starts → up_to Default text place ≡ at → length rows ≡ length (all_from text place) → Joined t text starts place at rows
all_joined t j text [] place at [] lines e h =
    rw (lines, none_to_itself Unicode text (length text + 1)) record { out = []; carries = carries_none t at; edits = λ done d. refl }
all_joined t j text [] place at (r ∷ rows) lines e h =
    let none : length (all_from text place) ≡ 0 = rw (lines, none_to_itself Unicode text (length text + 1)) refl in
    absurd (omega arith)
all_joined t j text (start ∷ starts) place at [] lines e h =
    absurd (omega (arith, count_on text place (next_of text starts) lines.0.here lines.0.more lines.0.high))
all_joined {R} t j text (start ∷ starts) place at (r ∷ rows) lines e h =
    let next : ℕ = next_of text starts in
    let c : ℕ = count_inside text place next in
    let count = count_on text place next lines.0.here lines.0.more lines.0.high in
    let rest : Joined t text starts next (at + 1) (drop c rows) =
    all_joined t j text starts next (at + 1) (drop c rows) lines.1 (next_start text place next at lines.0.here lines.0.more lines.0.none e) (omega (arith, length-drop c rows)) in
    let made : Joined t text (start ∷ starts) place at ((r ∷ take c rows) ++ drop c rows) =
    joined_step t j text start starts place at r (take c rows) (drop c rows) lines e (omega (arith, length-take c rows)) rest in
    rw (take-append-drop c rows) at made

-- fresh lines are inserted behind each
abbrev Came : {R : Type 0} → (List R → R) → List ℕ → List ℕ → ℕ → ℕ → List R → Type 0
Came t text starts place at rows =
    Regroups t Unicode at (length (all_from text place)) (lines_inside text starts) (map (line_of (line_starts Unicode text)) starts) rows

came_step :
    {R : Type 0} (t : List R → R) → JoinsRows t → (text : List ℕ) (start : ℕ) (starts : List ℕ) (place at : ℕ) (r : R) (later : List R) → AreLines text place (start ∷ starts) → up_to Unicode text place ≡ at
    → Came t text starts (next_of text starts) (at + count_inside text place (next_of text starts) + 1) later → Came t text (start ∷ starts) place at (r ∷ later)
came_step {R} t j text start starts place at r later lines e rest =
    let next : ℕ = next_of text starts in
    let c : ℕ = count_inside text place next in
    let key : ℕ → ℕ = line_of (line_starts Unicode text) in
    let fresh : List R = replicate c (t []) in
    let here : key start ≡ at = rw lines.0.start_is (line_within Unicode text place (place + 1) place at (still_starts text place lines.0.here) (λ k l m. absurd (omega arith)) (omega arith) (omega arith) e) in
    let keys : map key (start ∷ starts) ≡ (replicate 1 at ++ []) ++ map key starts = ap (λ k. k ∷ map key starts) here in
    let same : lines_inside text (start ∷ starts) ≡ c ∷ lines_inside text starts = ap (λ s. length (starts_within Unicode text (s + 1) next) ∷ lines_inside text starts) lines.0.start_is in
    let own : Carries t at 1 (replicate 1 at) (r ∷ []) (r ∷ []) = rw (j.alone r) at (carries_on t at 1 (r ∷ []) refl) in
    let both : Carries t at (c + 1) (replicate 1 at ++ []) ((r ∷ []) ++ []) ((r ∷ []) ++ fresh) =
    carries_both t at 1 (at + 1) c (c + 1) (replicate 1 at) [] (r ∷ []) [] (r ∷ []) fresh refl (omega arith) own (carries_fresh t (at + 1) c) in
    record {
      out = ((r ∷ []) ++ fresh) ++ rest.out;
      carries = rw keys
          (carries_both t at (c + 1) (at + c + 1) (length (all_from text next)) (length (all_from text place)) (replicate 1 at ++ []) (map key starts) ((r ∷ []) ++ []) later ((r ∷ []) ++ fresh) rest.out (omega arith)
          (omega (arith, count_on text place next lines.0.here lines.0.more lines.0.high)) both rest.carries);
      edits = λ done d.
          let with_own : length (done ++ r ∷ []) ≡ at + 1 = omega (arith, length-append done (r ∷ [])) in
          ap (λ (counts : List ℕ). after_edits t (all_inside_edits Unicode at counts) (done ++ (r ∷ later))) same
          ∙ (edits_in_turn t (came (at + 1) c) (all_inside_edits Unicode (at + c + 1) (lines_inside text starts)) (done ++ (r ∷ later))
          ∙ ap (after_edits t (all_inside_edits Unicode (at + c + 1) (lines_inside text starts)))
          (ap (after_edits t (came (at + 1) c)) (sym (append_assoc done (r ∷ []) later))
          ∙ came_is t (done ++ r ∷ []) later (at + 1) c with_own
          ∙ sym (append_assoc (done ++ r ∷ []) fresh later))
          ∙ rest.edits ((done ++ r ∷ []) ++ fresh) (omega (arith, with_own, length-append (done ++ r ∷ []) fresh, length-replicate c (t [])))
          ∙ append_assoc (done ++ r ∷ []) fresh rest.out
          ∙ append_assoc done (r ∷ []) (fresh ++ rest.out));
    }

all_came : {R : Type 0} (t : List R → R) → JoinsRows t → (text starts : List ℕ) (place at : ℕ) (rows : List R) → AreLines text place starts → up_to Unicode text place ≡ at → length rows ≡ length starts → Came t text starts place at rows
all_came t j text [] place at [] lines e h =
    rw (lines, none_to_itself Unicode text (length text + 1)) record { out = []; carries = carries_none t at; edits = λ done d. refl }
all_came t j text [] place at (r ∷ rows) lines e h = absurd (omega arith)
all_came t j text (start ∷ starts) place at [] lines e h = absurd (omega arith)
all_came t j text (start ∷ starts) place at (r ∷ rows) lines e h =
    came_step t j text start starts place at r rows lines e
    (all_came t j text starts (next_of text starts) (at + count_inside text place (next_of text starts) + 1) rows lines.1
    (next_start_inside text place (next_of text starts) at lines.0.here lines.0.more e) (omega arith))

-- a text has as many starts from its beginning on as lines
all_from_first : (text : List ℕ) → all_from text 0 ≡ line_starts Unicode text
all_from_first text = sym (all_within Unicode text)

none_upto : (types : LineEndTypes) (text : List ℕ) → up_to types text 0 ≡ 0
none_upto types text = ap length (none_to_itself types text 0)

regrouped_same : {R : Type 0} → RowsOfLinesThatStay R → (t : List R → R) → JoinsRows t → (types : LineEndTypes) (text : List ℕ) (rows : List R) → length rows ≡ line_count types text → regrouped t types types text rows ≡ rows
regrouped_same {R} stay t j types text rows h =
    let starts : List ℕ = line_starts types text in
    let same : map (λ s. s) starts ≡ starts = map-id starts in
    let rises : IsStrictlyIncreasing (map (λ s. s) starts) = rw same (line_starts_increase types text) in
    let stays : carried t (λ s. s) starts (map (λ s. s) starts) rows ≡ rows = stay t j (λ s. s) starts rows rises (sym h) in
    rw same at stays

pub setting_edits_carry : {R : Type 0} → RowsOfLinesThatStay R → (t : List R → R) → JoinsRows t → (old new : LineEndTypes) (text : List ℕ) (rows : List R) → length rows ≡ line_count old text → regrouped t old new text rows ≡ after_edits t (edits_of_setting old new text) rows
setting_edits_carry stay t j Default Default text rows h = regrouped_same stay t j Default text rows h
setting_edits_carry stay t j Unicode Unicode text rows h = regrouped_same stay t j Unicode text rows h
setting_edits_carry stay t j Unicode Default text rows h =
    let made : Joined t text (line_starts Default text) 0 0 rows = all_joined t j text (line_starts Default text) 0 0 rows (lines_from_first text) (none_upto Default text) (rw (all_from_first text) h) in
    let keys : by_keys t 0 (line_count Default text) (map (line_of (line_starts Default text)) (line_starts Unicode text)) rows ≡ made.out = rw (all_from_first text) at made.carries.made in
    carried_by_keys t (λ s. s) (line_starts Unicode text) (line_starts Default text) rows ∙ keys ∙ sym (made.edits [] refl)
setting_edits_carry stay t j Default Unicode text rows h =
    let made : Came t text (line_starts Default text) 0 0 rows = all_came t j text (line_starts Default text) 0 0 rows (lines_from_first text) (none_upto Unicode text) h in
    let keys : by_keys t 0 (line_count Unicode text) (map (line_of (line_starts Unicode text)) (line_starts Default text)) rows ≡ made.out = rw (all_from_first text) at made.carries.made in
    carried_by_keys t (λ s. s) (line_starts Default text) (line_starts Unicode text) rows ∙ keys ∙ sym (made.edits [] refl)

-- the number of lines, of which each has so many others inside
abbrev all_lines : List ℕ → ℕ
all_lines [] = 0
all_lines (count ∷ counts) = count + 1 + all_lines counts

at_least : (counts : List ℕ) → length counts ≤ all_lines counts
at_least [] = omega arith
at_least (count ∷ counts) = omega (arith, at_least counts)

counted_lines : (text starts : List ℕ) (place : ℕ) → AreLines text place starts → all_lines (lines_inside text starts) ≡ length (all_from text place)
counted_lines text [] place lines = rw (lines, none_to_itself Unicode text (length text + 1)) refl
counted_lines text (start ∷ starts) place lines =
    rw lines.0.start_is (omega (arith, counted_lines text starts (next_of text starts) lines.1, count_on text place (next_of text starts) lines.0.here lines.0.more lines.0.high))

outer_lines : (text starts : List ℕ) → length (lines_inside text starts) ≡ length starts
outer_lines text [] = refl
outer_lines text (start ∷ starts) = ap suc (outer_lines text starts)

-- the edits name lines that exist, leave so many lines, and insert so many
joins_fit : (lines at : ℕ) (counts : List ℕ) → at + all_lines counts ≡ lines → Fits lines (at + length counts) 0 (all_inside_edits Default at counts)
joins_fit lines at [] e = record { fit = tt; count = omega arith; few = refl }
joins_fit lines at (count ∷ counts) e =
    let left : at + length (count ∷ counts) ≡ at + 1 + length counts = omega arith in
    rw left
    (fits_both lines (lines - count) (at + 1 + length counts) 0 0 0 (joined at count) (all_inside_edits Default (at + 1) counts) refl (joined_fits lines at count (omega arith))
    (joins_fit (lines - count) (at + 1) counts (omega arith)))

comes_fit : (lines at fresh : ℕ) (counts : List ℕ) → at + length counts ≡ lines → fresh + length counts ≡ all_lines counts → Fits lines (at + all_lines counts) fresh (all_inside_edits Unicode at counts)
comes_fit lines at fresh [] e f = record { fit = tt; count = omega arith; few = omega arith }
comes_fit lines at fresh (count ∷ counts) e f =
    let more : ℕ = all_lines counts - length counts in
    let some : length counts ≤ all_lines counts = at_least counts in
    let left : at + all_lines (count ∷ counts) ≡ at + count + 1 + all_lines counts = omega arith in
    rw left
    (fits_both lines (lines + count) (at + count + 1 + all_lines counts) count more fresh (came (at + 1) count) (all_inside_edits Unicode (at + count + 1) counts) (omega arith)
    (came_fits lines (at + 1) count (omega arith)) (comes_fit (lines + count) (at + count + 1) more counts (omega arith) (omega arith)))

-- both settings of a text
abbrev inside_all : List ℕ → List ℕ
inside_all text = lines_inside text (line_starts Default text)

record Settings (text : List ℕ) : Type 0 where
  outer : length (inside_all text) ≡ line_count Default text
  inner : all_lines (inside_all text) ≡ line_count Unicode text
  more : line_count Default text ≤ line_count Unicode text

settings_of : (text : List ℕ) → Settings text
settings_of text =
    let counts : List ℕ = inside_all text in
    let outer : length counts ≡ line_count Default text = outer_lines text (line_starts Default text) in
    let inner : all_lines counts ≡ line_count Unicode text = rw (← (all_from_first text)) (counted_lines text (line_starts Default text) 0 (lines_from_first text)) in
    record { outer = outer; inner = inner; more = omega (arith, at_least counts) }

-- what holds of the edits
record Holds (old new : LineEndTypes) (text : List ℕ) : Type 0 where
  fit : FitLines (line_count old text) (edits_of_setting old new text)
  all : line_count new text ≤ line_count old text + fresh_lines (edits_of_setting old new text)
  few : line_count old text + fresh_lines (edits_of_setting old new text) ≤ length text + 1

all_hold : (old new : LineEndTypes) (text : List ℕ) → Holds old new text
all_hold Default Default text = record { fit = tt; all = omega arith; few = omega (arith, few_lines Default text) }
all_hold Unicode Unicode text = record { fit = tt; all = omega arith; few = omega (arith, few_lines Unicode text) }
all_hold Unicode Default text =
    let s : Settings text = settings_of text in
    let fits : Fits (line_count Unicode text) (0 + length (inside_all text)) 0 (all_inside_edits Default 0 (inside_all text)) = joins_fit (line_count Unicode text) 0 (inside_all text) (omega (arith, s.inner)) in
    record { fit = fits.fit; all = omega (arith, s.more, fits.few); few = omega (arith, fits.few, few_lines Unicode text) }
all_hold Default Unicode text =
    let s : Settings text = settings_of text in
    let fresh : ℕ = line_count Unicode text - line_count Default text in
    let fits : Fits (line_count Default text) (0 + all_lines (inside_all text)) fresh (all_inside_edits Unicode 0 (inside_all text)) =
    comes_fit (line_count Default text) 0 fresh (inside_all text) (omega (arith, s.outer)) (omega (arith, s.outer, s.inner, s.more)) in
    record { fit = fits.fit; all = omega (arith, fits.few, s.more); few = omega (arith, fits.few, s.more, few_lines Unicode text) }

pub setting_edits_fit : SettingsFitLines
setting_edits_fit old new text = (all_hold old new text).fit

pub setting_edits_bring_all : SettingsBringAll
setting_edits_bring_all old new text = (all_hold old new text).all

pub setting_edits_few : SettingsBringFewLines
setting_edits_few old new text = (all_hold old new text).few
