-- What the steps of a conversion need: the same for each that inserts a byte, and the same for each that deletes one.
use Rattle.scene.proofs.Names.{suc, ◌≡◌, ℕ, ◌+◌, ◌-◌, ◌*◌, ◌==◌, Bool, true, false, cond, List, [], ◌∷◌, ◌++◌, length, refl, ap, ap₂, sym, ◌∙◌, arith, nat_lt, if◌then◌else◌, lt-ltb, AllByRecursion, all_weaker, LineEnd, LineEndTypes, Default, Unicode, Step, Insert, Delete, lacks_return, lacks_feed, missing_at, missing_from, is_unwanted, unwanted_at, place_after, unwanted_from, TextStep, View, watching, Scene, completed, lines_for_insertion, DocumentNeed, document_need, amount_sum, amounts_added, NoteRoom, note_room, leaving_count, notes_of_step, bytes_of_step, notes_of_steps, bytes_of_steps, both_rooms, bytes_needed, capped_room, deletions_of, notes_for, room_of_many, need_of_step, room_of_steps, rooms_added, room_of_steps_beside, same_room}
use Rattle.std.proofs.Math.Nat.{mul-suc, mul-zero}
use Rattle.scene.specs.Conversion.{free_behind, capped, capped_notes}

-- this step of a conversion needs what that one needs
pub record NeedsAs (types : LineEndTypes) (views : List View) (one step : Step) : Type 0 where
  pub notes : notes_of_step views step ≡ notes_of_step views one
  pub bytes : bytes_of_step views step ≡ bytes_of_step views one
  pub room : need_of_step types step ≡ need_of_step types one

abbrev pub AllNeedAs : LineEndTypes → List View → Step → List Step → Type 0
AllNeedAs types views one steps = AllByRecursion (NeedsAs types views one) steps

-- the second adds up what the first says of each step
abbrev Adds : (Step → ℕ) → (List Step → ℕ) → Type 0
Adds f sum = (sum [] ≡ 0) × ((s : Step) (steps : List Step) → sum (s ∷ steps) ≡ f s + sum steps)

many : (f : Step → ℕ) (sum : List Step → ℕ) (one : Step) (steps : List Step) → Adds f sum → AllByRecursion (λ s. f s ≡ f one) steps → sum steps ≡ f one * length steps
many f sum one [] adds all = adds.0 ∙ sym (mul-zero (f one))
many f sum one (s ∷ steps) adds all =
    let x = adds.1 s steps in let y = all.0 in let rest = many f sum one steps adds all.1 in let z = mul-suc (f one) (length steps) in omega arith

both : (f : Step → ℕ) (sum : List Step → ℕ) (a b : List Step) → Adds f sum → sum (a ++ b) ≡ sum a + sum b
both f sum [] b adds = let x = adds.0 in omega arith
both f sum (s ∷ a) b adds = let x = adds.1 s (a ++ b) in let y = adds.1 s a in let rest = both f sum a b adds in omega arith

-- What this many steps need, as the code adds it up.
module _ (types : LineEndTypes) (views : List View) (one : Step) (steps : List Step) (all : AllNeedAs types views one steps) where
  many_rooms : rooms_added types steps ≡ room_of_many (length steps) (need_of_step types one)
  many_rooms =
      same_room _ _ _ _ _ _ _ _ _ _ (field (λ r. r.text) (refl, λ s ss. refl)) (field (λ r. r.lines) (refl, λ s ss. refl)) (field (λ r. r.insertions) (refl, λ s ss. refl))
      (field (λ r. r.steps) (refl, λ s ss. refl)) (field (λ r. r.bytes) (refl, λ s ss. refl))
    where
      field : (part : DocumentNeed → ℕ) → Adds (λ s. part (need_of_step types s)) (λ ss. part (rooms_added types ss)) → part (rooms_added types steps) ≡ part (need_of_step types one) * length steps
      field part adds =
          many (λ s. part (need_of_step types s)) (λ ss. part (rooms_added types ss)) one steps adds
          (all_weaker (NeedsAs types views one) (λ s. part (need_of_step types s) ≡ part (need_of_step types one)) (λ s n. ap part n.room) steps all)

  pub counted_notes : (count : ℕ) → count ≡ length steps
      → capped_notes (notes_of_step views one * count) (bytes_of_step views one * count) ≡ capped_notes (notes_of_steps views steps) (bytes_of_steps views steps)
  counted_notes count e =
      let n = many (notes_of_step views) (notes_of_steps views) one steps (refl, λ s ss. refl) (all_weaker (NeedsAs types views one) (λ s. notes_of_step views s ≡ notes_of_step views one) (λ s n. n.notes) steps all) in
      let b = many (bytes_of_step views) (bytes_of_steps views) one steps (refl, λ s ss. refl) (all_weaker (NeedsAs types views one) (λ s. bytes_of_step views s ≡ bytes_of_step views one) (λ s n. n.bytes) steps all) in
      ap (λ k. capped_notes (notes_of_step views one * k) (bytes_of_step views one * k)) e ∙ ap₂ capped_notes (sym n) (sym b)

  pub counted_room : (count : ℕ) → count ≡ length steps → capped_room (room_of_many count (need_of_step types one)) ≡ capped_room (rooms_added types steps)
  counted_room count e = ap (λ k. capped_room (room_of_many k (need_of_step types one))) e ∙ ap capped_room (sym many_rooms)

-- The steps that insert a byte, and those that delete one.

abbrev pub a_put : Step
a_put = Insert 0 (10 ∷ [])

put_as : (types : LineEndTypes) (views : List View) (p b : ℕ) → lines_for_insertion types (b ∷ []) ≡ lines_for_insertion types (10 ∷ []) → NeedsAs types views a_put (Insert p (b ∷ []))
put_as types views p b e = record { notes = refl; bytes = refl; room = ap (λ n. document_need 1 n 1 1 1) e }

return_as_feed : (types : LineEndTypes) → lines_for_insertion types (13 ∷ []) ≡ lines_for_insertion types (10 ∷ [])
return_as_feed Default = refl
return_as_feed Unicode = refl

pub puts_as : (types : LineEndTypes) (views : List View) (to : LineEnd) (bs : List ℕ) (f : Bool) (p : ℕ) → AllNeedAs types views a_put (missing_from p f to bs)
puts_as types views to [] f p = tt
puts_as types views to (b ∷ bs) f p = go (lacks_return f to b) (lacks_feed to b bs) (puts_as types views to bs (b == 13))
  where
    go : (x y : Bool) → ((q : ℕ) → AllNeedAs types views a_put (missing_from q (b == 13) to bs))
        → AllNeedAs types views a_put (missing_at p x y ++ missing_from (p + 1 + length (missing_at p x y)) (b == 13) to bs)
    go true y rest = (put_as types views p 13 (return_as_feed types), rest (p + 1 + 1))
    go false true rest = (put_as types views (p + 1) 10 refl, rest (p + 1 + 1))
    go false false rest = rest (p + 1 + 0)

pub takes_as : (types : LineEndTypes) (views : List View) (one : Step) → ((p b : ℕ) → NeedsAs types views one (Delete p (b ∷ []))) → (to : LineEnd) (bs : List ℕ) (f : Bool) (p : ℕ)
    → AllNeedAs types views one (unwanted_from p f to bs)
takes_as types views one each to [] f p = tt
takes_as types views one each to (b ∷ bs) f p = go (is_unwanted f to b bs) (takes_as types views one each to bs (b == 13))
  where
    go : (u : Bool) → ((q : ℕ) → AllNeedAs types views one (unwanted_from q (b == 13) to bs))
        → AllNeedAs types views one (unwanted_at p b u ++ unwanted_from (place_after p u) (b == 13) to bs)
    go true rest = (each p b, rest p)
    go false rest = rest (p + 1)

pub take_as : (types : LineEndTypes) (views : List View) (bytes : List ℕ) → length bytes ≡ 1 → (p b : ℕ) → NeedsAs types views (Delete 0 bytes) (Delete p (b ∷ []))
take_as types views [] e p b = absurd (omega (arith, e))
take_as types views (x ∷ []) e p b = record { notes = refl; bytes = refl; room = refl }
take_as types views (x ∷ y ∷ more) e p b = absurd (omega (arith, e))

-- Insertions and deletions together.

capped_both : (a b : ℕ) → amount_sum (capped a) (capped b) ≡ capped (a + b)
capped_both a b = omega arith

capped_three : (a b c : ℕ) → amount_sum (amount_sum (capped a) (capped b)) c ≡ capped (c + (a + b))
capped_three a b c = omega arith

pub both_needs : (types : LineEndTypes) (a b : List Step) → amounts_added (capped_room (rooms_added types a)) (capped_room (rooms_added types b)) ≡ capped_room (rooms_added types (a ++ b))
both_needs types a b =
    same_room _ _ _ _ _ _ _ _ _ _ (field (λ r. r.text) (refl, λ s ss. refl)) (field (λ r. r.lines) (refl, λ s ss. refl)) (field (λ r. r.insertions) (refl, λ s ss. refl))
    (field (λ r. r.steps) (refl, λ s ss. refl)) (field (λ r. r.bytes) (refl, λ s ss. refl))
  where
    field : (part : DocumentNeed → ℕ) → Adds (λ s. part (need_of_step types s)) (λ ss. part (rooms_added types ss))
        → amount_sum (capped (part (rooms_added types a))) (capped (part (rooms_added types b))) ≡ capped (part (rooms_added types (a ++ b)))
    field part adds =
        capped_both (part (rooms_added types a)) (part (rooms_added types b)) ∙ ap capped (sym (both (λ s. part (need_of_step types s)) (λ ss. part (rooms_added types ss)) a b adds))

-- A conversion inserts bytes before it deletes any, so no step leaves room for a later one.
takes_beside : (types : LineEndTypes) (views : List View) (one : Step) (steps : List Step) (free : ℕ) → AllNeedAs types views one steps → (need_of_step types one).text ≡ 0
    → room_of_steps_beside types free steps ≡ rooms_added types steps
takes_beside types views one [] free all e = refl
takes_beside types views one (s ∷ steps) free all e =
    let need = need_of_step types s in
    let none : need.text ≡ 0 = ap (λ (r : DocumentNeed). r.text) all.0.room ∙ e in
    let same : need.text - free ≡ need.text = omega arith in
    ap (λ t. both_rooms (record need { text = t }) (room_of_steps_beside types (free_behind free (TextStep s)) steps)) same
    ∙ ap (both_rooms need) (takes_beside types views one steps (free_behind free (TextStep s)) all.1 e)

puts_beside : (types : LineEndTypes) (views : List View) (a b : List Step) → AllNeedAs types views a_put a → room_of_steps_beside types 0 b ≡ rooms_added types b
    → room_of_steps_beside types 0 (a ++ b) ≡ rooms_added types (a ++ b)
puts_beside types views [] b all rest = rest
puts_beside types views (Insert p bytes ∷ a) b all rest =
    let need = need_of_step types (Insert p bytes) in
    let same : need.text - 0 ≡ need.text = omega arith in
    let none : 0 - length bytes ≡ 0 = omega arith in
    ap (λ t. both_rooms (record need { text = t }) (room_of_steps_beside types (0 - length bytes) (a ++ b))) same
    ∙ ap (λ f. both_rooms need (room_of_steps_beside types f (a ++ b))) none ∙ ap (both_rooms need) (puts_beside types views a b all.1 rest)
puts_beside types views (Delete p bytes ∷ a) b all rest =
    let e : 0 ≡ 1 = ap (λ (r : DocumentNeed). r.text) all.0.room in absurd (omega (arith, e))

pub conversion_beside : (types : LineEndTypes) (to : LineEnd) (text : List ℕ)
    → room_of_steps types (missing_from 0 false to text ++ deletions_of to text) ≡ rooms_added types (missing_from 0 false to text ++ deletions_of to text)
conversion_beside types to text =
    let one = Delete 0 (10 ∷ []) in
    let takes = takes_as types [] one (take_as types [] (10 ∷ []) refl) to (completed to text) false 0 in
    puts_beside types [] (missing_from 0 false to text) (deletions_of to text) (puts_as types [] to text false 0) (takes_beside types [] one (deletions_of to text) 0 takes refl)

-- together with the notes that the save point is left
leaving_first : (scene : Scene) (steps : List Step)
    → notes_for steps scene ≡ (if nat_lt 0 (length steps) then leaving_count (watching scene.views scene.document) scene.document.history else 0) + notes_of_steps (watching scene.views scene.document) steps
leaving_first scene [] = refl
leaving_first scene (s ∷ steps) =
    let l = leaving_count (watching scene.views scene.document) scene.document.history in
    ap (λ b. cond b l 0 + notes_of_steps (watching scene.views scene.document) (s ∷ steps)) (sym (lt-ltb 0 (suc (length steps)) (omega arith)))

pub both_notes : (scene : Scene) (a b : List Step) (leaving : ℕ) (first second : NoteRoom) → let views = watching scene.views scene.document in
    leaving ≡ (if nat_lt 0 (length (a ++ b)) then leaving_count views scene.document.history else 0)
    → first ≡ capped_notes (notes_of_steps views a) (bytes_of_steps views a) → second ≡ capped_notes (notes_of_steps views b) (bytes_of_steps views b)
    → note_room (amount_sum (amount_sum first.notes second.notes) leaving) (amount_sum (amount_sum first.bytes second.bytes) 0) ≡ capped_notes (notes_for (a ++ b) scene) (bytes_needed scene (a ++ b))
both_notes scene a b leaving first second e f g =
    let views = watching scene.views scene.document in
    let n = both (notes_of_step views) (notes_of_steps views) a b (refl, λ s ss. refl) in
    let m : 0 + (bytes_of_steps views a + bytes_of_steps views b) ≡ bytes_of_steps views (a ++ b) = let x = both (bytes_of_step views) (bytes_of_steps views) a b (refl, λ s ss. refl) in omega arith in
    rw (f, g) (ap₂ note_room
    (capped_three (notes_of_steps views a) (notes_of_steps views b) leaving ∙ ap capped (ap₂ (λ x y. x + y) e (sym n) ∙ sym (leaving_first scene (a ++ b))))
    (capped_three (bytes_of_steps views a) (bytes_of_steps views b) 0 ∙ ap capped m))
