-- Steps followed by their inverses.
use Rattle.ed_model.proofs.Names.{◌≡◌, ℕ, ◌+◌, ◌-◌, ◌≤◌, List, [], ◌∷◌, ◌++◌, length, take, drop, map, refl, ap, ◌∙◌, sym, subst, arith, append_assoc, length-append, length-drop, length-take-le, take-append-drop, reverse-append, drop_split, Step, Insert, Delete, edited, inverse_of, after_steps, inverses, InverseGivesBackTheText, InverseFits, InversesGiveBackTheText, front_kept, behind_kept}
use Rattle.std.specs.List.{slice_range}
use Rattle.std.proofs.Math.Seq.{take-append_seam, drop-append_seam, drop-append-add}

-- after the inserted bytes come the bytes that were there before
pub behind_put_in : {A : Type 0} (p : ℕ) (text put rest : List A) → p ≤ length text → drop (p + length put) (take p text ++ (put ++ rest)) ≡ rest
behind_put_in p text put rest h =
    let n = length-take-le p text h in
    subst (λ (k : ℕ). drop (k + length put) (take p text ++ (put ++ rest)) ≡ rest) n
    (drop-append-add (take p text) (put ++ rest) (length put) ∙ drop-append_seam put rest)

-- inserting and then deleting the same bytes restores the text
pub put_in_taken_out : {A : Type 0} (p : ℕ) (put text : List A) → p ≤ length text →
    take p (take p text ++ put ++ drop p text) ++ drop (p + length put) (take p text ++ put ++ drop p text) ≡ text
put_in_taken_out p put text h =
    let assoc = append_assoc (take p text) put (drop p text) in
    let front = front_kept p text (put ++ drop p text) h in
    let behind = behind_put_in p text put (drop p text) h in
    rw assoc (rw (front, behind) (take-append-drop p text))

-- deleting and then inserting the same bytes restores the text
pub taken_out_put_in : {A : Type 0} (p n : ℕ) (taken text : List A) → p ≤ length text → slice_range text p (p + n) ≡ taken →
    take p (take p text ++ drop (p + n) text) ++ taken ++ drop p (take p text ++ drop (p + n) text) ≡ text
taken_out_put_in p n taken text h stands =
    let front = front_kept p text (drop (p + n) text) h in
    let behind = behind_kept p text (drop (p + n) text) h in
    let within : p ≤ p + n = omega arith in
    let split : drop p text ≡ taken ++ drop (p + n) text = drop_split text p (p + n) within ∙ ap (λ part. part ++ drop (p + n) text) stands in
    rw (front, behind) (append_assoc (take p text) taken (drop (p + n) text) ∙ ap (λ part. take p text ++ part) (sym split) ∙ take-append-drop p text)

pub inverse_gives_back_the_text : InverseGivesBackTheText
inverse_gives_back_the_text (Insert p bytes) text h = put_in_taken_out p bytes text h
inverse_gives_back_the_text (Delete p bytes) text h = taken_out_put_in p (length bytes) bytes text h.0 h.1

put_in_stands : (p : ℕ) (put text : List ℕ) → p ≤ length text → slice_range (take p text ++ put ++ drop p text) p (p + length put) ≡ put
put_in_stands p put text h =
    let assoc = append_assoc (take p text) put (drop p text) in
    let behind = behind_kept p text (put ++ drop p text) h in
    let n : p + length put - p ≡ length put = omega arith in
    rw assoc (rw (behind, n) (take-append_seam put (drop p text)))

put_in_is_behind : (p : ℕ) (put text : List ℕ) → p ≤ length text → p ≤ length (take p text ++ put ++ drop p text)
put_in_is_behind p put text h = simp (length-append, length-drop, length-take-le) (omega arith)

taken_out_is_before : (p n : ℕ) (text : List ℕ) → p ≤ length text → p ≤ length (take p text ++ drop (p + n) text)
taken_out_is_before p n text h = simp (length-append, length-drop, length-take-le) (omega arith)

pub inverse_fits : InverseFits
inverse_fits (Insert p bytes) text h = (put_in_is_behind p bytes text h, put_in_stands p bytes text h)
inverse_fits (Delete p bytes) text h = taken_out_is_before p (length bytes) text h.0

-- Several steps.

pub steps_after_steps : (first second : List Step) (text : List ℕ) → after_steps (first ++ second) text ≡ after_steps second (after_steps first text)
steps_after_steps [] second text = refl
steps_after_steps (step ∷ first) second text = steps_after_steps first second (edited step text)

-- the first step is undone last
pub first_taken_back_last : (step : Step) (steps : List Step) → inverses (step ∷ steps) ≡ inverses steps ++ (inverse_of step ∷ [])
first_taken_back_last step steps = reverse-append (inverse_of step ∷ []) (map inverse_of steps)

pub inverses_give_back_the_text : InversesGiveBackTheText
inverses_give_back_the_text [] text h = refl
inverses_give_back_the_text (step ∷ steps) text h =
    let left = after_steps steps (edited step text) in
    ap (λ (back : List Step). after_steps back left) (first_taken_back_last step steps)
    ∙ steps_after_steps (inverses steps) (inverse_of step ∷ []) left
    ∙ ap (edited (inverse_of step)) (inverses_give_back_the_text steps (edited step text) h.1)
    ∙ inverse_gives_back_the_text step text h.0
