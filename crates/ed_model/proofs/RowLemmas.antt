-- Rows of lines that stay, of new lines, and of lines that are joined, as the laws state them.
use Rattle.ed_model.proofs.Names.{ℕ, ◌≡◌, ◌+◌, ◌<◌, List, [], ◌∷◌, ◌++◌, map, length, fold, All, refl, ap, ap₂, ◌∙◌, arith, le_refl, append-nil, append_assoc, AllByRecursion, IsNonDecreasing, IsStrictlyIncreasing, map-append, recursion_from_All, rows_together, flags_together, carried, merged, JoinsRows, Rises, Climbs, Climbs_weaker, Climbs_from_rises, Rises_weaker, rises_from_increasing}
use Rattle.std.proofs.lemmas.List.{length-append}
use Rattle.ed_model.proofs.MergeLemmas.{carried_is_merged}
use Rattle.ed_model.proofs.JoinLemmas.{rises_front, rises_before, rises_rest, climbs_each, merged-append, merged_same, merged_fresh, merged_joined, climbs_from_non_decreasing}

-- rows that meet

-- a document's rows are joined in order
pub rows_join : JoinsRows rows_together
rows_join = record {
  alone = λ row. ap (λ markers. record row { markers = markers }) (append-nil row.markers);
  one_by_one = λ first second rows. ap (λ markers. record first { markers = markers }) (simp (append-nil, append_assoc));
}

-- joined flags are those of the first
pub flags_join : JoinsRows flags_together
flags_join = record { alone = λ flags. refl; one_by_one = λ first second rows. refl }

-- joining in order is joining two at a time
pub joined_pairwise : {R : Type 0} (together : List R → R) → JoinsRows together → (row : R) (rows : List R) → together (row ∷ rows) ≡ fold (λ first second. together (first ∷ second ∷ [])) row rows
joined_pairwise together j row [] = j.alone row
joined_pairwise together j row (second ∷ rows) = j.one_by_one row second rows ∙ joined_pairwise together j (together (row ∷ second ∷ [])) rows

-- single rows

each_of_map : {X : Type 0} (f : ℕ → X) (P : X → Type 0) (xs : List ℕ) → AllByRecursion P (map f xs) → AllByRecursion (λ x. P (f x)) xs
each_of_map f P [] h = h
each_of_map f P (x ∷ xs) h = (h.0, each_of_map f P xs h.1)

each_map : {X : Type 0} (f : ℕ → X) (P : X → Type 0) (xs : List ℕ) → AllByRecursion (λ x. P (f x)) xs → AllByRecursion P (map f xs)
each_map f P [] h = h
each_map f P (x ∷ xs) h = (h.0, each_map f P xs h.1)

rises_without : (low t : ℕ) (xs ys : List ℕ) → Rises low (xs ++ (t ∷ ys)) → Rises low (xs ++ ys)
rises_without low t [] ys r = Rises_weaker (t + 1) low ys (omega (arith, r.0)) r.1
rises_without low t (x ∷ xs) ys r = (r.0, rises_without (x + 1) t xs ys r.1)

climbs_rest : (low : ℕ) (xs ys : List ℕ) → Climbs low (xs ++ ys) → Climbs low ys
climbs_rest low [] ys c = c
climbs_rest low (x ∷ xs) ys c = climbs_rest low xs ys (Climbs_weaker x low (xs ++ ys) c.0 c.1)

rises_from_each : (low m : ℕ) (xs : List ℕ) → Rises low xs → AllByRecursion (λ x. m < x) xs → Rises (m + 1) xs
rises_from_each low m [] r h = tt
rises_from_each low m (x ∷ xs) r h = (omega (arith, h.0), r.1)

-- if each start stays, the rows stay
pub rows_of_lines_that_stay : {R : Type 0} (together : List R → R) → JoinsRows together → (moved : ℕ → ℕ) (old : List ℕ) (rows : List R) → IsStrictlyIncreasing (map moved old) → length old ≡ length rows → carried together moved old (map moved old) rows ≡ rows
rows_of_lines_that_stay together j moved old rows i h =
    let rises : Rises 0 (map moved old) = rises_from_increasing 0 (map moved old) (λ _. omega arith) i in
    carried_is_merged together moved 0 old (map moved old) rows (Climbs_from_rises 0 (map moved old) rises) rises h
    ∙ merged_same together j.alone moved 0 old rows rises h

walk_to_one_more : {R : Type 0} (together : List R → R) → JoinsRows together → (moved : ℕ → ℕ) (old : List ℕ) (start : ℕ) (later : List ℕ) (rows rest : List R) → Rises 0 (map moved old ++ (start ∷ map moved later)) → length old ≡ length rows → length later ≡ length rest → merged together moved (old ++ later) (map moved old ++ (start ∷ map moved later)) (rows ++ rest) ≡ rows ++ (together [] ∷ rest)
walk_to_one_more together j moved [] start later [] rest r h l = merged_fresh together j.alone moved (start + 1) start later rest r.1 l
walk_to_one_more together j moved [] start later (x ∷ rows) rest r h l = absurd (omega arith)
walk_to_one_more {R} together j moved (o ∷ old) start later rows rest r h l =
    let before : AllByRecursion (λ x. x < start) (map moved (o ∷ old)) = (rises_before 0 start (map moved (o ∷ old)) (map moved later) r).0 in
    let after : Rises 0 (start ∷ map moved later) = rises_rest 0 (map moved (o ∷ old)) (start ∷ map moved later) r in
    let stay : Rises 0 (map moved (o ∷ old)) = rises_front 0 (map moved (o ∷ old)) (start ∷ map moved later) r in
    merged-append together moved (o ∷ old) later (moved o) (map moved old) start (map moved later) rows rest h before.1 (each_of_map moved (λ x. x < start) (o ∷ old) before)
    (climbs_each start moved later (Climbs_weaker (start + 1) start (map moved later) (omega arith) (Climbs_from_rises (start + 1) (map moved later) after.1)))
    ∙ ap₂ (λ (a b : List R). a ++ b) (merged_same together j.alone moved 0 (o ∷ old) rows stay h) (merged_fresh together j.alone moved (start + 1) start later rest after.1 l)

-- a new line gets a fresh row
pub one_line_comes : {R : Type 0} (together : List R → R) → JoinsRows together → (moved : ℕ → ℕ) (old : List ℕ) (start : ℕ) (later : List ℕ) (rows rest : List R) → IsStrictlyIncreasing (map moved old ++ (start ∷ map moved later)) → length old ≡ length rows → length later ≡ length rest → carried together moved (old ++ later) (map moved old ++ (start ∷ map moved later)) (rows ++ rest) ≡ rows ++ (together [] ∷ rest)
one_line_comes together j moved old start later rows rest i h l =
    let rises : Rises 0 (map moved old ++ (start ∷ map moved later)) = rises_from_increasing 0 (map moved old ++ (start ∷ map moved later)) (λ _. omega arith) i in
    let climbs : Climbs 0 (map moved (old ++ later)) = rw (map-append moved old later) (Climbs_from_rises 0 (map moved old ++ map moved later) (rises_without 0 start (map moved old) (map moved later) rises)) in
    carried_is_merged together moved 0 (old ++ later) (map moved old ++ (start ∷ map moved later)) (rows ++ rest) climbs rises (omega (arith, length-append old later, length-append rows rest))
    ∙ walk_to_one_more together j moved old start later rows rest rises h l

walk_to_one_less : {R : Type 0} (together : List R → R) → JoinsRows together → (moved : ℕ → ℕ) (old : List ℕ) (kept gone : ℕ) (later : List ℕ) (rows : List R) (first second : R) (rest : List R) → Rises 0 (map moved old ++ (moved kept ∷ map moved later)) → Climbs (moved kept) (map moved (kept ∷ gone ∷ later)) → Rises (moved gone + 1) (map moved later) → length old ≡ length rows → length later ≡ length rest → merged together moved (old ++ (kept ∷ gone ∷ later)) (map moved old ++ (moved kept ∷ map moved later)) (rows ++ (first ∷ second ∷ rest)) ≡ rows ++ (together (first ∷ second ∷ []) ∷ rest)
walk_to_one_less together j moved [] kept gone later [] first second rest r c g h l =
    merged_joined together j.alone moved (moved gone + 1) (moved kept) kept gone later first second rest g (omega (arith, c.1.0)) (omega arith) l
walk_to_one_less together j moved [] kept gone later (x ∷ rows) first second rest r c g h l = absurd (omega arith)
walk_to_one_less {R} together j moved (o ∷ old) kept gone later rows first second rest r c g h l =
    let before : AllByRecursion (λ x. x < moved kept) (map moved (o ∷ old)) = (rises_before 0 (moved kept) (map moved (o ∷ old)) (map moved later) r).0 in
    let stay : Rises 0 (map moved (o ∷ old)) = rises_front 0 (map moved (o ∷ old)) (moved kept ∷ map moved later) r in
    merged-append together moved (o ∷ old) (kept ∷ gone ∷ later) (moved o) (map moved old) (moved kept) (map moved later) rows (first ∷ second ∷ rest) h before.1 (each_of_map moved (λ x. x < moved kept) (o ∷ old) before)
    (climbs_each (moved kept) moved (kept ∷ gone ∷ later) c)
    ∙ ap₂ (λ (a b : List R). a ++ b) (merged_same together j.alone moved 0 (o ∷ old) rows stay h)
    (merged_joined together j.alone moved (moved gone + 1) (moved kept) kept gone later first second rest g (omega (arith, c.1.0)) (omega arith) l)

-- the row of a line that is joined to the one before it is joined to that line's row
pub one_line_goes : {R : Type 0} (together : List R → R) → JoinsRows together → (moved : ℕ → ℕ) (old : List ℕ) (kept gone : ℕ) (later : List ℕ) (rows : List R) (first second : R) (rest : List R) → IsStrictlyIncreasing (map moved old ++ (moved kept ∷ map moved later)) → IsNonDecreasing (map moved (old ++ (kept ∷ gone ∷ later))) → All (λ start. moved gone < moved start) later → length old ≡ length rows → length later ≡ length rest → carried together moved (old ++ (kept ∷ gone ∷ later)) (map moved old ++ (moved kept ∷ map moved later)) (rows ++ (first ∷ second ∷ rest)) ≡ rows ++ (together (first ∷ second ∷ []) ∷ rest)
one_line_goes together j moved old kept gone later rows first second rest i n behind h l =
    let new : List ℕ = map moved old ++ (moved kept ∷ map moved later) in
    let rises : Rises 0 new = rises_from_increasing 0 new (λ _. omega arith) i in
    let climbs : Climbs 0 (map moved (old ++ (kept ∷ gone ∷ later))) = climbs_from_non_decreasing 0 (map moved (old ++ (kept ∷ gone ∷ later))) (λ _. omega arith) n in
    let from_kept : Climbs 0 (moved kept ∷ moved gone ∷ map moved later) = climbs_rest 0 (map moved old) (moved kept ∷ moved gone ∷ map moved later) (rw (map-append moved old (kept ∷ gone ∷ later)) at climbs) in
    let after : Rises 0 (moved kept ∷ map moved later) = rises_rest 0 (map moved old) (moved kept ∷ map moved later) rises in
    let from_gone : Rises (moved gone + 1) (map moved later) = rises_from_each (moved kept + 1) (moved gone) (map moved later) after.1 (each_map moved (λ x. moved gone < x) later (recursion_from_All (λ start. moved gone < moved start) later behind)) in
    carried_is_merged together moved 0 (old ++ (kept ∷ gone ∷ later)) new (rows ++ (first ∷ second ∷ rest)) climbs rises (omega (arith, length-append old (kept ∷ gone ∷ later), length-append rows (first ∷ second ∷ rest)))
    ∙ walk_to_one_less together j moved old kept gone later rows first second rest rises (le_refl (moved kept), from_kept.1) from_gone h l
