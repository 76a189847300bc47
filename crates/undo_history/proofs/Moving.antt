-- Undo and redo move the boundary between past and future by one transaction.
use Rattle.undo_history.proofs.Names.{◌≡◌, ◌≤◌, ◌<◌, ◌+◌, ◌-◌, ℕ, List, [], ◌∷◌, ◌++◌, length, take, drop, map, ap, ap₂, sym, subst, ◌∙◌, arith, reverse, Bool, append_assoc, inl, inr, Option, reverse-append, reverse-reverse, length-append, length-reverse, length-take-le, length-drop, take-append-drop, take_all, take_at, drop_at, drop_all, cases_lt, Transaction, History, seal_first, with_last_sealed, undone, undone_to, redone, redone_from, first_changes, undo_changes, redo_changes, inverse_change, Entry, transactions, history_of, change_in, last_count, next_count, BeginsOne, HistoryCapacity, Kept, kept, history_capacity, entries_in, Inside}
use Rattle.undo_history.proofs.Parts.{map_reverse}
use Rattle.undo_history.proofs.Transactions.{cut, one_transaction, last_is_whole, last_count_within, last_count_some, begins_last, begins_front, begins_more, begins_behind_next, next_count_within, next_is_whole, last_changes}

abbrev pub history : List Transaction → List Transaction → Option ℕ → ℕ → Bool → History
history past future save_point depth collecting = record { past = past; future = future; save_point = save_point; depth = depth; collecting = collecting }

-- how the code sees a history
abbrev pub seen : Inside → Kept
seen i = kept (history_of (entries_in i.steps.items i.bytes.items) i.past i.save_point i.depth i.is_collecting) (history_capacity i.steps.capacity i.bytes.capacity)

-- what a contract sees once the history has changed, and no capacity
pub carried : (f : History → History) (h h' : History) (capacity : HistoryCapacity) (k : Kept) → h' ≡ f h → kept h capacity ≡ k → kept h' capacity ≡ record k { history = f k.history }
carried f h h' capacity k e v = ap (λ n. kept n capacity) e ∙ ap (λ (q : Kept). kept (f q.history) q.capacity) v

-- One transaction lies between two places: it is the last one before `high`, and the next one from `low` on.
pub record OneBetween (all : List Entry) (low high : ℕ) : Type 0 where
  pub one : Transaction
  pub past : transactions (reverse (take high all)) ≡ one ∷ transactions (reverse (take low all))
  pub future : reverse (transactions (reverse (drop low all))) ≡ one ∷ reverse (transactions (reverse (drop high all)))
  pub begins : BeginsOne (drop low all) × BeginsOne (drop high all)
  pub within : (low < high) × (high ≤ length all)
  pub changes : reverse one.changes ≡ map change_in (take (high - low) (drop low all))

-- the part between the places is one transaction
one_between : (all before part behind : List Entry) (low high : ℕ) → all ≡ before ++ (part ++ behind) → length before ≡ low → low + length part ≡ high → 0 < length part →
    last_count (reverse part) ≡ length part → BeginsOne part → BeginsOne behind → OneBetween all low high
one_between all before part behind low high e l h some whole begins behind_begins =
    let one = one_transaction (reverse part) (omega (arith, length-reverse part)) (omega (arith, length-reverse part)) in
    let e' : all ≡ (before ++ part) ++ behind = e ∙ sym (append_assoc before part behind) in
    let count : length (before ++ part) ≡ high = omega (arith, length-append before part) in
    let to_low : take low all ≡ before = ap (λ t. take low t) e ∙ take_at before (part ++ behind) low l in
    let from_low : drop low all ≡ part ++ behind = ap (λ t. drop low t) e ∙ drop_at before (part ++ behind) low l in
    let to_high : take high all ≡ before ++ part = ap (λ t. take high t) e' ∙ take_at (before ++ part) behind high count in
    let from_high : drop high all ≡ behind = ap (λ t. drop high t) e' ∙ drop_at (before ++ part) behind high count in
    record {
      one = one.0;
      past = ap (λ t. transactions (reverse t)) to_high ∙ cut before part begins ∙ ap₂ (λ a t. a ++ transactions (reverse t)) one.1 (sym to_low);
      future =
          ap (λ t. reverse (transactions (reverse t))) from_low
          ∙ ap (λ t. reverse t) (cut part behind behind_begins ∙ ap (λ t. transactions (reverse behind) ++ t) one.1)
          ∙ reverse-append (transactions (reverse behind)) (one.0 ∷ [])
          ∙ ap (λ t. one.0 ∷ reverse (transactions (reverse t))) (sym from_high);
      begins = (subst BeginsOne (sym from_low) (begins_more part behind some begins), subst BeginsOne (sym from_high) behind_begins);
      within = (omega arith, omega (arith, ap length e', length-append (before ++ part) behind));
      changes =
          ap (λ ts. reverse (first_changes ts)) (sym one.1)
          ∙ ap (λ cs. reverse cs) (last_changes (reverse part) ∙ ap (λ t. map change_in t) (take_all (last_count (reverse part)) (reverse part) (omega (arith, length-reverse part))) ∙ map_reverse change_in part)
          ∙ reverse-reverse (map change_in part)
          ∙ ap (λ t. map change_in t) (sym (take_at part behind (high - low) (omega arith)) ∙ ap (λ t. take (high - low) t) (sym from_low));
    }

pub last_between : (all : List Entry) (past : ℕ) → 0 < past → past ≤ length all → BeginsOne all → BeginsOne (drop past all) →
    OneBetween all (past - last_count (reverse (take past all))) past
last_between all past p h begins boundary =
    let front = take past all in
    let back = reverse front in
    let n = last_count back in
    let long : length back ≡ past = length-reverse front ∙ length-take-le past all h in
    let count : length (take n back) ≡ n = length-take-le n back (last_count_within back) in
    let some : 0 < n = last_count_some back (omega arith) in
    let whole : all ≡ reverse (drop n back) ++ (reverse (take n back) ++ drop past all) =
    sym (take-append-drop past all)
    ∙ ap (λ t. t ++ drop past all) (sym (reverse-reverse front) ∙ ap (λ t. reverse t) (sym (take-append-drop n back)) ∙ reverse-append (take n back) (drop n back))
    ∙ append_assoc (reverse (drop n back)) (reverse (take n back)) (drop past all) in
    let first : BeginsOne (reverse back) = subst BeginsOne (sym (reverse-reverse front)) (begins_front front (drop past all) (subst BeginsOne (sym (take-append-drop past all)) begins)) in
    one_between all (reverse (drop n back)) (reverse (take n back)) (drop past all) (past - n) past whole
    (omega (arith, length-reverse (drop n back), length-drop n back)) (omega (arith, length-reverse (take n back), last_count_within back)) (omega (arith, length-reverse (take n back)))
    (ap last_count (reverse-reverse (take n back)) ∙ omega (arith, last_is_whole back, length-reverse (take n back))) (begins_last back first) boundary

pub next_between : (all : List Entry) (past : ℕ) → past < length all → BeginsOne (drop past all) → OneBetween all past (past + next_count (drop past all))
next_between all past h boundary =
    let rest = drop past all in
    let n = next_count rest in
    let count : length (take n rest) ≡ n = length-take-le n rest (next_count_within rest) in
    one_between all (take past all) (take n rest) (drop n rest) past (past + n) (sym (take-append-drop past all) ∙ ap (λ t. take past all ++ t) (sym (take-append-drop n rest)))
    (length-take-le past all (omega arith)) (omega arith) (omega (arith, next_some rest (omega (arith, length-drop past all)))) (omega (arith, next_is_whole rest))
    (begins_front (take n rest) (drop n rest) (subst BeginsOne (sym (take-append-drop n rest)) boundary)) (begins_behind_next rest) where
      next_some : (es : List Entry) → 0 < length es → 0 < next_count es
      next_some [] l = absurd (omega arith)
      next_some (e ∷ es) l = omega arith

module _ (all : List Entry) (low high depth : ℕ) (save_point : Option ℕ) (collecting : Bool) (between : OneBetween all low high) where
  pub undone_history : with_last_sealed (history_of all low save_point depth collecting) ≡ undone (history_of all high save_point depth collecting)
  undone_history =
      ap (λ f. history (seal_first (transactions (reverse (take low all)))) f save_point depth collecting) between.future
      ∙ ap (λ ps. undone_to (history_of all high save_point depth collecting) ps) (sym between.past)

  pub redone_history : with_last_sealed (history_of all high save_point depth collecting) ≡ redone (history_of all low save_point depth collecting)
  redone_history =
      ap (λ p. history (seal_first p) (reverse (transactions (reverse (drop high all)))) save_point depth collecting) between.past
      ∙ ap (λ fs. redone_from (history_of all low save_point depth collecting) fs) (sym between.future)

-- What is reverted and made again.

module _ (all : List Entry) (past depth : ℕ) (save_point : Option ℕ) (collecting : Bool) where
  pub changes_to_undo : undo_changes (history_of all past save_point depth collecting) ≡ map inverse_change (map change_in (take (last_count (reverse (take past all))) (reverse (take past all))))
  changes_to_undo = ap (λ cs. map inverse_change cs) (last_changes (reverse (take past all)))

  pub changes_to_redo : past ≤ length all → BeginsOne (drop past all) → redo_changes (history_of all past save_point depth collecting) ≡ map change_in (take (next_count (drop past all)) (drop past all))
  changes_to_redo h boundary =
      elim (cases_lt past (length all)) [
        | inl some ↦
            let between = next_between all past some boundary in
            let count : past + next_count (drop past all) - past ≡ next_count (drop past all) = omega arith in
            ap (λ fs. reverse (first_changes fs)) between.future ∙ between.changes ∙ ap (λ k. map change_in (take k (drop past all))) count
        | inr none ↦
            let nothing : drop past all ≡ [] = drop_all past all none in
            ap (λ t. reverse (first_changes (reverse (transactions (reverse t))))) nothing ∙ ap (λ t. map change_in (take (next_count t) t)) (sym nothing)
      ]
