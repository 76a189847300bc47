-- The edits of a step carry rows as the step does.
use Rattle.line_index.proofs.Names.{◌≡◌, ℕ, suc, ◌+◌, ◌-◌, ◌<◌, ◌≤◌, ◌==◌, Bool, true, false, cond, List, [], ◌∷◌, length, map, get_or, refl, ap, ◌∙◌, arith, ne_eqb, range_with_len, LineEndTypes, line_starts, line_of, line_count, Step, Insert, Delete, place_of, put_in, line_of_lt, some_line, edited, moved_start, carried, carried_unless_empty, carried_by, JoinsRows, end_of, LineChange, MovesLines, line_after, after_edits, FitLines, fresh_lines, LineEdit, lines_for_step, settling, edits_of, change_of, EditsFitLines, EditsBringFewLines, StepsMoveLines, StepsNameLines}
use Rattle.line_index.specs.declared.edit.LineEdit.TheVariants.{Restart}
use Rattle.line_index.proofs.Abouts.{AreAbout, settling_carries, settling_fits}
use Rattle.line_index.proofs.Keyed.{by_keys, carried_by_keys}
use Rattle.line_index.proofs.MovedLines.{lines_move, lines_about_step}
use Rattle.line_index.proofs.FreshLines.{few_fresh_in, few_fresh_out}
use Rattle.line_index.proofs.StepLists.{Replaces, replaces}

-- what is known of a step's change
pub record Moves (types : LineEndTypes) (step : Step) (text : List ℕ) : Type 0 where
  pub moves : MovesLines (moved_start step) (line_starts types text) (line_starts types (edited step text)) (change_of types step text)
  pub about : AreAbout (change_of types step text) (line_count types text) (line_count types (edited step text))

step_replaces : (types : LineEndTypes) (step : Step) (text : List ℕ) → end_of step ≤ length text
    → Replaces types (place_of step) (end_of step) (place_of step + length (put_in step)) (λ k. k + (place_of step + length (put_in step)) - end_of step) (moved_start step) text (edited step text)
step_replaces types step text h = replaces types step text (λ k. k + (place_of step + length (put_in step)) - end_of step) h (λ k l. omega arith)

step_moves : (types : LineEndTypes) (step : Step) (text : List ℕ) → end_of step ≤ length text → Moves types step text
step_moves types step text h =
    let s = step_replaces types step text h in
    record { moves = lines_move s (length (edited step text)); about = lines_about_step s (length (edited step text)) }

pub steps_move : StepsMoveLines
steps_move types step text h = (step_moves types step text h).moves

pub steps_name : StepsNameLines
steps_name types step text h =
    ((step_moves types step text h).about.old_end, line_of_lt (line_starts types (edited step text)) (place_of step + length (put_in step) + 2) (some_line types (edited step text)))

map_by_index : (f g : ℕ → ℕ) (xs : List ℕ) (a : ℕ) → ((k : ℕ) → k < length xs → f (a + k) ≡ g (get_or xs k 0)) → map g xs ≡ map f (range_with_len a (length xs))
map_by_index f g [] a h = refl
map_by_index f g (x ∷ xs) a h =
    let here : a + 0 ≡ a = omega arith in
    let first : f a ≡ g x = rw here at (h 0 (omega arith)) in
    rw first (ap (λ l. g x ∷ l) (map_by_index f g xs (a + 1) (λ k l. let next : a + 1 + k ≡ a + suc k = omega arith in rw next (h (suc k) (omega arith)))))

settled_rows :
    {R : Type 0} (t : List R → R) → JoinsRows t → (moved : ℕ → ℕ) (old new : List ℕ) (c : LineChange) (rows : List R) → MovesLines moved old new c → AreAbout c (length old) (length new) → length rows ≡ length old
    → carried t moved old new rows ≡ after_edits t (settling c.before c.old_lines c.new_lines) rows
settled_rows t j moved old new c rows moves about h =
    carried_by_keys t moved old new rows
    ∙ ap (λ ks. by_keys t 0 (length new) ks rows)
    (map_by_index (line_after c) (λ o. line_of new (moved o)) old 0 (λ k l. let same : 0 + k ≡ k = omega arith in rw same (moves k l)))
    ∙ settling_carries c (length old) (length new) about t j rows h

unless_empty :
    {R : Type 0} (t : List R → R) → JoinsRows t → (types : LineEndTypes) (step : Step) (text after : List ℕ) (c : LineChange) (rows : List R) → c.length ≡ length after
    → MovesLines (moved_start step) (line_starts types text) (line_starts types after) c → AreAbout c (line_count types text) (line_count types after) → length rows ≡ line_count types text
    → carried_unless_empty t types step text after rows ≡ after_edits t (edits_of c) rows
unless_empty t j types step text [] c rows e moves about h = rw e refl
unless_empty t j types step text (b ∷ bs) c rows e moves about h =
    rw (e, ne_eqb (length (b ∷ bs)) 0 (λ z. omega arith)) (settled_rows t j (moved_start step) (line_starts types text) (line_starts types (b ∷ bs)) c rows moves about h)

pub step_edits_carry : {R : Type 0} (t : List R → R) → JoinsRows t → (types : LineEndTypes) (step : Step) (text : List ℕ) (rows : List R) → end_of step ≤ length text → length rows ≡ line_count types text → carried_by t types step text rows ≡ after_edits t (edits_of (change_of types step text)) rows
step_edits_carry t j types step text rows h l =
    let m : Moves types step text = step_moves types step text h in
    unless_empty t j types step text (edited step text) (change_of types step text) rows refl m.moves m.about l

-- a law of both kinds of edits
either : (P : List LineEdit → Type 0) (b : Bool) (xs : List LineEdit) → P (Restart ∷ []) → P xs → P (cond b (Restart ∷ []) xs)
either P true xs a b = a
either P false xs a b = b

pub step_edits_fit : EditsFitLines
step_edits_fit types step text h =
    let c : LineChange = change_of types step text in
    either (FitLines (line_count types text)) (c.length == 0) (settling c.before c.old_lines c.new_lines) (tt, tt)
    (settling_fits c (line_count types text) (line_count types (edited step text)) (step_moves types step text h).about)

few_settled : (types : LineEndTypes) (step : Step) (text : List ℕ) → end_of step ≤ length text → let c : LineChange = change_of types step text in fresh_lines (settling c.before c.old_lines c.new_lines) ≤ lines_for_step types step
few_settled types (Insert p bytes) text h = few_fresh_in (step_replaces types (Insert p bytes) text h) (length (edited (Insert p bytes) text)) bytes refl refl refl
few_settled types (Delete p bytes) text h = few_fresh_out (step_replaces types (Delete p bytes) text h) (length (edited (Delete p bytes) text)) (length bytes) refl (omega arith) refl

some_for_step : (types : LineEndTypes) (step : Step) → 1 ≤ lines_for_step types step
some_for_step types (Insert p bytes) = omega arith
some_for_step types (Delete p bytes) = omega arith

pub step_edits_few : EditsBringFewLines
step_edits_few types step text h =
    let c : LineChange = change_of types step text in
    either (λ edits. fresh_lines edits ≤ lines_for_step types step) (c.length == 0) (settling c.before c.old_lines c.new_lines) (omega (arith, some_for_step types step)) (few_settled types step text h)
