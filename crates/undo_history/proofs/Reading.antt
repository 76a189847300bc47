-- The steps that undo and redo perform, by their places among all steps, and how many they are.
use Rattle.undo_history.proofs.Names.{◌≡◌, ◌≤◌, ◌<◌, ◌+◌, ◌-◌, ℕ, zero, suc, List, [], ◌∷◌, length, take, drop, map, get_or, refl, ap, sym, subst, ◌∙◌, arith, reverse, Bool, false, inl, inr, Option, Some, slice_get, if◌then◌else◌, ◌==◌, length-map, length-reverse, length-take-le, length-drop, get_or-map, get_or-reverse, get_or-take, get_or-drop, drop-drop, drop_more, reverse-reverse, take-append-drop, cases_Bool, nat_tests, slice_get-map, get_or_from_slice_get, option_map, cond-true, cond-false, Change, inverse_change, undo_changes, redo_changes, StepRecord, Entry, entry, entries_in, last_count, joined_count, next_count, begins_or_none, history_of, BeginsOne, IsInOrder, change_in, no_step, Inside, Kept}
use Rattle.undo_history.proofs.Parts.{entries_length, entry_at, entry_read, latest_first, reverse_more}
use Rattle.undo_history.proofs.Transactions.{last_count_start, last_count_join, last_count_some, last_count_within, next_count_within, begins_front}
use Rattle.undo_history.proofs.Moving.{seen, changes_to_undo, changes_to_redo}

-- One step.

pub last_first : (rs : List StepRecord) (bytes : List ℕ) (i n : ℕ) → n ≡ i + 1 → i < length rs → reverse (take n (entries_in rs bytes)) ≡ entry_at rs bytes i ∷ reverse (take i (entries_in rs bytes))
last_first rs bytes i n e h =
    let es = entries_in rs bytes in
    let d = entry_at rs bytes i in
    latest_first es i n d e (omega (arith, entries_length 0 rs bytes)) ∙ ap (λ q. q ∷ reverse (take i es)) (entry_read rs bytes i d h)

pub next_first : (rs : List StepRecord) (bytes : List ℕ) (i : ℕ) → i < length rs → drop i (entries_in rs bytes) ≡ entry_at rs bytes i ∷ drop (i + 1) (entries_in rs bytes)
next_first rs bytes i h =
    let es = entries_in rs bytes in
    let d = entry_at rs bytes i in
    drop_more es i d (omega (arith, entries_length 0 rs bytes)) ∙ ap (λ q. q ∷ drop (i + 1) es) (entry_read rs bytes i d h)

-- the change of an entry, by what is read of the changes
change_at_place : (es : List Entry) (i : ℕ) (x : Change) (d : Entry) → i < length es → slice_get (map change_in es) i ≡ Some x → (get_or es i d).change ≡ x
change_at_place es i x d h e = sym (get_or-map change_in es i d x h) ∙ get_or_from_slice_get (map change_in es) i x x e

-- one of the first n items, mapped
read_mapped : {X Y : Type 0} → (f : X → Y) (n : ℕ) (xs : List X) (i : ℕ) (d : X) → i < n → n ≤ length xs → slice_get (map f (take n xs)) i ≡ Some (f (get_or xs i d))
read_mapped f zero xs i d h l = absurd (omega arith)
read_mapped f (suc n) [] i d h l = absurd (omega arith)
read_mapped f (suc n) (x ∷ xs) zero d h l = refl
read_mapped f (suc n) (x ∷ xs) (suc i) d h l = read_mapped f n xs i d (omega arith) (omega arith)

same_test : (a b a' b' : ℕ) → a' ≡ suc a → b' ≡ suc b → (a == b) ≡ (a' == b')
same_test a b a' b' p q = grind (arith, nat_tests)

-- Undo.

-- an entry of the past, counted from the last
from_last : (es : List Entry) (past i : ℕ) (d : Entry) → past ≤ length es → i < past → get_or (reverse (take past es)) i d ≡ get_or es (past - 1 - i) d
from_last es past i d h l =
    let front = take past es in
    let long : length front ≡ past = length-take-le past es h in
    get_or-reverse front i d (omega arith) ∙ ap (λ n. get_or front (n - 1 - i) d) long ∙ get_or-take past es (past - 1 - i) d (omega arith)

pub undo_length : (es : List Entry) (past depth : ℕ) (save_point : Option ℕ) (collecting : Bool) → length (undo_changes (history_of es past save_point depth collecting)) ≡ last_count (reverse (take past es))
undo_length es past depth save_point collecting =
    let back = reverse (take past es) in
    let part = take (last_count back) back in
    ap length (changes_to_undo es past depth save_point collecting) ∙ length-map (map change_in part) inverse_change ∙ length-map part change_in ∙ length-take-le (last_count back) back (last_count_within back)

pub undo_within : (es : List Entry) (past : ℕ) → past ≤ length es → last_count (reverse (take past es)) ≤ past
undo_within es past h = omega (arith, last_count_within (reverse (take past es)), length-reverse (take past es), length-take-le past es h)

pub undo_read : (es : List Entry) (past depth i : ℕ) (save_point : Option ℕ) (collecting : Bool) (x : Change) → past ≤ length es →
    i < last_count (reverse (take past es)) → slice_get (map change_in es) (past - 1 - i) ≡ Some x → slice_get (undo_changes (history_of es past save_point depth collecting)) i ≡ Some (inverse_change x)
undo_read es past depth i save_point collecting x h l e =
    let back = reverse (take past es) in
    let changes = map change_in (take (last_count back) back) in
    let d = entry x false false in
    let read : slice_get changes i ≡ Some x =
    read_mapped change_in (last_count back) back i d l (last_count_within back)
    ∙ ap (λ q. Some (change_in q)) (from_last es past i d h (omega (arith, undo_within es past h)))
    ∙ ap (λ c. Some c) (change_at_place es (past - 1 - i) x d (omega (arith, undo_within es past h)) e) in
    ap (λ cs. slice_get cs i) (changes_to_undo es past depth save_point collecting) ∙ slice_get-map inverse_change changes i ∙ ap (λ o. option_map inverse_change o) read

last_starts : (es : List Entry) (i : ℕ) (d : Entry) → BeginsOne (reverse es) → i < last_count es → (get_or es i d).starts ≡ (i + 1 == last_count es)
last_starts [] i d b l = absurd (omega arith)
last_starts (e ∷ []) zero d b l = rw b
last_starts (e ∷ []) (suc i) d b l = absurd (omega (arith, last_count_start e [] b))
last_starts (e ∷ x ∷ es) zero d b l = elim (cases_Bool e.starts) [
  | inl y ↦ rw y
  | inr n ↦ n ∙ (let more = last_count_join e (x ∷ es) n in let some = last_count_some (x ∷ es) (omega arith) in grind (arith, nat_tests))
]
last_starts (e ∷ x ∷ es) (suc i) d b l = elim (cases_Bool e.starts) [
  | inl y ↦ absurd (omega (arith, last_count_start e (x ∷ es) y))
  | inr n ↦
      let more = last_count_join e (x ∷ es) n in
      last_starts (x ∷ es) i d (begins_front (reverse (x ∷ es)) (e ∷ []) (subst BeginsOne (reverse_more e (x ∷ es)) b)) (omega arith)
      ∙ same_test (i + 1) (last_count (x ∷ es)) (suc i + 1) (last_count (e ∷ x ∷ es)) (omega arith) more
]

pub undo_last : (rs : List StepRecord) (bytes : List ℕ) (past count i : ℕ) → IsInOrder rs bytes past count → i < last_count (reverse (take past (entries_in rs bytes))) →
    (get_or rs (past - 1 - i) no_step).starts ≡ (i + 1 == last_count (reverse (take past (entries_in rs bytes))))
undo_last rs bytes past count i o l =
    let es = entries_in rs bytes in
    let place = past - 1 - i in
    let d = entry_at rs bytes place in
    let there : past ≤ length es = omega (arith, entries_length 0 rs bytes, o.there) in
    let within = undo_within es past there in
    let begins : BeginsOne (take past es) = begins_front (take past es) (drop past es) (subst BeginsOne (sym (take-append-drop past es)) o.begins) in
    ap (λ (q : Entry). q.starts) (sym (from_last es past i d there (omega arith) ∙ entry_read rs bytes place d (omega (arith, o.there))))
    ∙ last_starts (reverse (take past es)) i d (subst BeginsOne (sym (reverse-reverse (take past es))) begins) l

-- Redo.

pub redo_length : (es : List Entry) (past depth : ℕ) (save_point : Option ℕ) (collecting : Bool) → past ≤ length es → BeginsOne (drop past es) →
    length (redo_changes (history_of es past save_point depth collecting)) ≡ next_count (drop past es)
redo_length es past depth save_point collecting h b =
    let rest = drop past es in
    ap length (changes_to_redo es past depth save_point collecting h b) ∙ length-map (take (next_count rest) rest) change_in ∙ length-take-le (next_count rest) rest (next_count_within rest)

pub redo_within : (es : List Entry) (past : ℕ) → past ≤ length es → past + next_count (drop past es) ≤ length es
redo_within es past h = omega (arith, next_count_within (drop past es), length-drop past es)

pub redo_read : (es : List Entry) (past depth i : ℕ) (save_point : Option ℕ) (collecting : Bool) (x : Change) → past ≤ length es → BeginsOne (drop past es) →
    i < next_count (drop past es) → slice_get (map change_in es) (past + i) ≡ Some x → slice_get (redo_changes (history_of es past save_point depth collecting)) i ≡ Some x
redo_read es past depth i save_point collecting x h b l e =
    let rest = drop past es in
    let d = entry x false false in
    ap (λ cs. slice_get cs i) (changes_to_redo es past depth save_point collecting h b)
    ∙ read_mapped change_in (next_count rest) rest i d l (next_count_within rest)
    ∙ ap (λ c. Some c) (ap change_in (get_or-drop past es i d) ∙ change_at_place es (past + i) x d (omega (arith, redo_within es past h)) e)

joined_starts : (es : List Entry) (i : ℕ) → i ≤ joined_count es → begins_or_none (drop i es) ≡ (i == joined_count es)
joined_starts [] zero h = refl
joined_starts [] (suc i) h = absurd (omega arith)
joined_starts (e ∷ es) zero h = elim (cases_Bool e.starts) [ inl y ↦ rw y | inr n ↦ rw n (grind (arith, nat_tests)) ]
joined_starts (e ∷ es) (suc i) h = elim (cases_Bool e.starts) [
  | inl y ↦ absurd (omega (arith, cond-true e.starts 0 (suc (joined_count es)) y))
  | inr n ↦
      let more : joined_count (e ∷ es) ≡ suc (joined_count es) = cond-false e.starts 0 (suc (joined_count es)) n in
      joined_starts es i (omega arith) ∙ same_test i (joined_count es) (suc i) (joined_count (e ∷ es)) refl more
]

pub redo_last : (es : List Entry) (past i : ℕ) → i < next_count (drop past es) → begins_or_none (drop (past + i + 1) es) ≡ (i + 1 == next_count (drop past es))
redo_last es past i h =
    let place : past + i + 1 ≡ past + suc i = omega arith in
    ap (λ k. begins_or_none (drop k es)) place ∙ ap begins_or_none (sym (drop-drop (suc i) past es)) ∙ next_starts (drop past es) i h where
      next_starts : (es : List Entry) (i : ℕ) → i < next_count es → begins_or_none (drop (suc i) es) ≡ (i + 1 == next_count es)
      next_starts [] i h = absurd (omega arith)
      next_starts (e ∷ es) i h = joined_starts es i (omega arith) ∙ same_test i (joined_count es) (i + 1) (suc (joined_count es)) (omega arith) refl

-- where a change to be redone stands
pub record InNext (i : Inside) (k : Kept) (index : ℕ) : Type 0 where
  pub there : i.past ≤ length (entries_in i.steps.items i.bytes.items)
  pub inside : index < next_count (drop i.past (entries_in i.steps.items i.bytes.items))
  pub count : next_count (drop i.past (entries_in i.steps.items i.bytes.items)) ≡ length (redo_changes k.history)
  pub within : i.past + index < length i.steps.items

pub redo_inside : (i : Inside) (k : Kept) (index : ℕ) → IsInOrder i.steps.items i.bytes.items i.past i.transactions → seen i ≡ k → index < length (redo_changes k.history) → InNext i k index
redo_inside i k index o e l =
    let es = entries_in i.steps.items i.bytes.items in
    let size = entries_length 0 i.steps.items i.bytes.items in
    let there : i.past ≤ length es = omega (arith, size, o.there) in
    let count : next_count (drop i.past es) ≡ length (redo_changes k.history) = sym (redo_length es i.past i.depth i.save_point i.is_collecting there o.boundary) ∙ ap (λ (k : Kept). length (redo_changes k.history)) e in
    record { there = there; inside = omega arith; count = count; within = omega (arith, redo_within es i.past there, size) }

-- How many steps the transactions beside a place have.

pub count_step : (rs : List StepRecord) (bytes : List ℕ) (n : ℕ) → 0 < n → n ≤ length rs →
    last_count (reverse (take n (entries_in rs bytes))) ≡ (if (get_or rs (n - 1) no_step).starts then 1 else suc (last_count (reverse (take (n - 1) (entries_in rs bytes)))))
count_step rs bytes n p h = ap last_count (last_first rs bytes (n - 1) n (omega arith) (omega arith))

pub joined_step : (rs : List StepRecord) (bytes : List ℕ) (i : ℕ) → i < length rs →
    joined_count (drop i (entries_in rs bytes)) ≡ (if (get_or rs i no_step).starts then 0 else suc (joined_count (drop (i + 1) (entries_in rs bytes))))
joined_step rs bytes i h = ap joined_count (next_first rs bytes i h)
