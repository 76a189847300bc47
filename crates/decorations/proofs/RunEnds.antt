-- The ends of a run of equal values are those of the model.
use Rattle.decorations.proofs.Names.{◌≡◌, ◌≢◌, ℕ, zero, suc, ◌+◌, ◌-◌, ◌<◌, ◌≤◌, List, [], ◌∷◌, length, take, drop, replicate, reverse, get_or, Some, unwrap_or, sym, ap, ◌∙◌, arith, eq-eqb, slice_get, slice_get-get_or, slice_get_past, unwrap_or-slice_get, length-drop, length-reverse, length-take-le, length-replicate, get_or-reverse, get_or-take, get_or-drop, ne_eqb, IsRunStart, IsRunEnd, run_about}
use Rattle.ed_model.specs.StylePlans.{run_length, run_start, run_past}
use Rattle.decorations.proofs.Values.{zeros_at}

-- a front of equal values, behind which another value comes or none
run_length_is : (value : ℕ) (values : List ℕ) (n : ℕ) → n ≤ length values → ((k : ℕ) → k < n → get_or values k 0 ≡ value) → (n < length values → get_or values n 0 ≢ value) → run_length value values ≡ n
run_length_is value [] n h same other = omega arith
run_length_is value (x ∷ xs) zero h same other = rw (ne_eqb x value (other (omega arith)))
run_length_is value (x ∷ xs) (suc n) h same other =
    let here : x ≡ value = same 0 (omega arith) in
    let rest : run_length value xs ≡ n = run_length_is value xs n (omega arith) (λ k l. same (suc k) (omega arith)) (λ l. other (omega arith)) in
    rw (eq-eqb x value here, rest) (omega arith)

same_at : (values : List ℕ) (i j : ℕ) → slice_get values i ≡ slice_get values j → get_or values i 0 ≡ get_or values j 0
same_at values i j e = sym (unwrap_or-slice_get values i 0) ∙ ap (λ o. unwrap_or o 0) e ∙ unwrap_or-slice_get values j 0

other_at : (values : List ℕ) (i j : ℕ) → i < length values → j < length values → slice_get values i ≢ slice_get values j → get_or values i 0 ≢ get_or values j 0
other_at values i j h k apart e = apart (slice_get-get_or values i 0 h ∙ ap Some e ∙ sym (slice_get-get_or values j 0 k))

past_is : (values : List ℕ) (place end : ℕ) → place < length values → IsRunEnd values place end → end ≡ run_past values place
past_is values place end h run =
    let long : length (drop place values) ≡ length values - place = length-drop place values in
    let there : place + (end - place) ≡ end = omega (arith, run.behind) in
    let n : run_length (get_or values place 0) (drop place values) ≡ end - place =
    run_length_is (get_or values place 0) (drop place values) (end - place) (omega (arith, run.within))
    (λ k l. get_or-drop place values k 0 ∙ same_at values (place + k) place (run.one_value (place + k) (omega arith) (omega arith)))
    (λ l e. other_at values end place (omega (arith, run.behind)) h run.longest (sym (get_or-drop place values (end - place) 0 ∙ ap (λ j. get_or values j 0) there) ∙ e)) in
    rw n (omega (arith, run.behind))

start_is : (values : List ℕ) (place start : ℕ) → place < length values → IsRunStart values place start → start ≡ run_start values place
start_is values place start h run =
    let front = take place values in
    let long : length front ≡ place = length-take-le place values (omega arith) in
    let full : length (reverse front) ≡ place = length-reverse front ∙ long in
    let read : (k : ℕ) → k < place → get_or (reverse front) k 0 ≡ get_or values (place - 1 - k) 0 =
    λ k l. get_or-reverse front k 0 (omega arith) ∙ ap (λ m. get_or front (m - 1 - k) 0) long ∙ get_or-take place values (place - 1 - k) 0 (omega arith) in
    let n : run_length (get_or values place 0) (reverse front) ≡ place - start =
    run_length_is (get_or values place 0) (reverse front) (place - start) (omega arith)
    (λ k l. read k (omega arith) ∙ same_at values (place - 1 - k) place (run.one_value (place - 1 - k) (omega arith) (omega arith)))
    (λ l e.
    let positive : 0 < start = omega (arith, run.from) in
    let there : place - 1 - (place - start) ≡ start - 1 = omega (arith, run.from) in
    let upper : start - 1 < length values = omega (arith, run.from) in
    other_at values (start - 1) place upper h (run.longest positive) (sym (read (place - start) (omega arith) ∙ ap (λ j. get_or values j 0) there) ∙ e)) in
    rw n (omega (arith, run.from))

-- both ends of a run in a slot
pub run_is : (values : List ℕ) (place start end : ℕ) → place < length values → IsRunStart values place start → IsRunEnd values place end → (start, end) ≡ run_about values place
run_is values place start end h from past = let a = start_is values place start h from in let b = past_is values place end h past in cc

-- a text without the indicator is one run
pub whole_run : (size place : ℕ) → place < size → (0, size) ≡ run_about (replicate size 0) place
whole_run size place h =
    let zeros = replicate {A = ℕ} size 0 in
    let long : length zeros ≡ size = length-replicate {A = ℕ} size 0 in
    let same : (k : ℕ) → k < size → slice_get zeros k ≡ slice_get zeros place =
    λ k l. slice_get-get_or zeros k 0 (omega arith) ∙ ap Some (zeros_at size k ∙ sym (zeros_at size place)) ∙ sym (slice_get-get_or zeros place 0 (omega arith)) in
    run_is zeros place 0 size (omega arith)
    (record { from = omega arith; one_value = λ k l m. same k (omega arith); longest = λ l. absurd (omega arith) })
    (record {
      behind = h;
      within = omega arith;
      one_value = λ k l m. same k m;
      longest = λ e. let none = slice_get_past zeros size (omega arith) in let some = slice_get-get_or zeros place 0 (omega arith) in cc;
    })
