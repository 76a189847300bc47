-- The effect of sealing, of undo and redo on the records, and the test for something to redo.
use Rattle.undo_history.proofs.Names.{◌≡◌, ◌≤◌, ◌<◌, ◌+◌, ◌-◌, ℕ, zero, suc, List, [], ◌∷◌, length, take, drop, set, get_or, refl, ap, ap₂, sym, subst, ◌∙◌, arith, reverse, Bool, true, false, inl, inr, Option, None, nat_lt, slice_range, length-reverse, length-drop, length-set, take-set, drop-set-lt, get_or-set_same, get_or_default, drop_all, cases_Bool, cases_lt, lt-ltb, le-ltb, false≢true, Transaction, History, seal_first, with_last_sealed, sealed_length, StepRecord, StepOutline, Entry, entry, entry_in, entries_from, entries_in, pushed, transactions, history_of, past_of, sealed_record, with_sealed, no_step, BeginsOne, AreParts, IsInOrder, IsLatest}
use Rattle.undo_history.proofs.Parts.{entries_length, latest_first}
use Rattle.undo_history.proofs.Transactions.{transactions_some}
use Rattle.undo_history.proofs.Moving.{history, OneBetween}

-- a record as it is written
pub sealed_set : (n : ℕ) (rs : List StepRecord) (x : StepRecord) → 0 < n → n ≤ length rs → x ≡ get_or rs (n - 1) x → set rs (n - 1) (sealed_record x) ≡ with_sealed n rs
sealed_set zero rs x p h e = absurd (omega arith)
sealed_set (suc i) rs x p h e =
    let back : suc i - 1 ≡ i = omega arith in
    ap₂ (λ j y. set rs j (sealed_record y)) back (e ∙ ap (λ j. get_or rs j x) back ∙ get_or_default rs i x no_step h)

pub with_sealed_length : (n : ℕ) (rs : List StepRecord) → length (with_sealed n rs) ≡ length rs
with_sealed_length zero rs = refl
with_sealed_length (suc i) rs = length-set rs i (sealed_record (get_or rs i no_step))

-- Sealing.

abbrev sealed_entry : Entry → Entry
sealed_entry e = entry e.change e.starts true

sealed_parts : (i from : ℕ) (rs : List StepRecord) (n : ℕ) → AreParts from rs n → AreParts from (set rs i (sealed_record (get_or rs i no_step))) n
sealed_parts i from [] n h = h
sealed_parts zero from (r ∷ rs) n h = h
sealed_parts (suc i) from (r ∷ rs) n h = (h.0, sealed_parts i r.bytes_end rs n h.1)

sealed_entries : (i from : ℕ) (rs : List StepRecord) (bytes : List ℕ) (d : Entry) →
    entries_from from (set rs i (sealed_record (get_or rs i no_step))) bytes ≡ set (entries_from from rs bytes) i (sealed_entry (get_or (entries_from from rs bytes) i d))
sealed_entries i from [] bytes d = refl
sealed_entries zero from (r ∷ rs) bytes d = refl
sealed_entries (suc i) from (r ∷ rs) bytes d = ap (λ t. entry_in r (slice_range bytes from r.bytes_end) ∷ t) (sealed_entries i r.bytes_end rs bytes d)

sealed_pushed : (e : Entry) (ts : List Transaction) → pushed (sealed_entry e) ts ≡ seal_first (pushed e ts)
sealed_pushed e [] = refl
sealed_pushed e (t ∷ ts) = elim (cases_Bool e.starts) [ inl y ↦ rw y | inr n ↦ rw n ]

sealed_past : (i : ℕ) (es : List Entry) (d : Entry) → i < length es →
    transactions (reverse (take (suc i) (set es i (sealed_entry (get_or es i d))))) ≡ seal_first (transactions (reverse (take (suc i) es)))
sealed_past i es d h =
    let x = sealed_entry (get_or es i d) in
    ap transactions
    (latest_first (set es i x) i (suc i) d (omega arith) (omega (arith, length-set es i x))
    ∙ ap₂ (λ y t. y ∷ reverse t) (get_or-set_same es i x d h) (take-set es i x))
    ∙ sealed_pushed (get_or es i d) (transactions (reverse (take i es)))
    ∙ ap (λ t. seal_first (transactions t)) (sym (latest_first es i (suc i) d (omega arith) h))

sealed_begins : (i : ℕ) (es : List Entry) (d : Entry) → BeginsOne es → BeginsOne (set es i (sealed_entry (get_or es i d)))
sealed_begins i [] d h = h
sealed_begins zero (e ∷ es) d h = h
sealed_begins (suc i) (e ∷ es) d h = h

pub sealed_history : (rs : List StepRecord) (bytes : List ℕ) (past depth : ℕ) (save_point : Option ℕ) (collecting : Bool) → past ≤ length rs →
    history_of (entries_in (with_sealed past rs) bytes) past save_point depth collecting ≡ with_last_sealed (history_of (entries_in rs bytes) past save_point depth collecting)
sealed_history rs bytes zero depth save_point collecting h = refl
sealed_history rs bytes (suc i) depth save_point collecting h =
    let es = entries_in rs bytes in
    let d = entry_in no_step [] in
    ap (λ t. history_of t (suc i) save_point depth collecting) (sealed_entries i 0 rs bytes d)
    ∙ ap₂ (λ p f. history p (reverse (transactions (reverse f))) save_point depth collecting)
    (sealed_past i es d (omega (arith, entries_length 0 rs bytes))) (drop-set-lt (suc i) es i (sealed_entry (get_or es i d)) (omega arith))

pub sealed_in_order : (rs : List StepRecord) (bytes : List ℕ) (past count : ℕ) → IsInOrder rs bytes past count → IsInOrder (with_sealed past rs) bytes past count
sealed_in_order rs bytes zero count h = h
sealed_in_order rs bytes (suc i) count h =
    let es = entries_in rs bytes in
    let d = entry_in no_step [] in
    let same = sealed_entries i 0 rs bytes d in
    record {
      parts = sealed_parts i 0 rs (length bytes) h.parts;
      begins = rw same (sealed_begins i es d h.begins);
      boundary = rw (same, drop-set-lt (suc i) es i (sealed_entry (get_or es i d)) (omega arith)) h.boundary;
      there = omega (arith, with_sealed_length (suc i) rs, h.there);
      counted = h.counted ∙ sym (ap (λ (k : History). length k.past) (sealed_history rs bytes (suc i) 0 None false h.there) ∙ sealed_length (past_of rs bytes (suc i)));
    }

-- no change joins a sealed transaction
pub latest_sealed : (rs : List StepRecord) (bytes : List ℕ) (n : ℕ) (latest : Option StepOutline) → n ≤ length rs → IsLatest (past_of (with_sealed n rs) bytes n) latest
latest_sealed rs bytes n latest h =
    subst (λ ts. IsLatest ts latest) (ap (λ (k : History). k.past) (sym (sealed_history rs bytes n 0 None false h))) (sealed (past_of rs bytes n)) where
      sealed : (ts : List Transaction) → IsLatest (seal_first ts) latest
      sealed [] = λ o. absurd o
      sealed (t ∷ ts) = λ o. absurd (false≢true (sym o))

-- Undo and redo.

module _ (rs : List StepRecord) (bytes : List ℕ) (low high count : ℕ) (between : OneBetween (entries_in rs bytes) low high) where
  pub undone_in_order : IsInOrder rs bytes high count → (0 < count) × IsInOrder (with_sealed low rs) bytes low (count - 1)
  undone_in_order h = (
    omega (arith, h.counted, ap length between.past),
    sealed_in_order rs bytes low (count - 1) (record {
      parts = h.parts;
      begins = h.begins;
      boundary = between.begins.0;
      there = omega (arith, between.within, h.there);
      counted = omega (arith, h.counted, ap length between.past);
    }),
  )

  pub redone_in_order : IsInOrder rs bytes low count → IsInOrder (with_sealed high rs) bytes high (count + 1)
  redone_in_order h =
      sealed_in_order rs bytes high (count + 1) (record {
        parts = h.parts;
        begins = h.begins;
        boundary = between.begins.1;
        there = omega (arith, between.within, entries_length 0 rs bytes);
        counted = omega (arith, h.counted, ap length between.past);
      })

-- Whether there is something to redo.

pub future_some : (rs : List StepRecord) (bytes : List ℕ) (past : ℕ) → past < length rs → 0 < length (reverse (transactions (reverse (drop past (entries_in rs bytes)))))
future_some rs bytes past h =
    let rest = drop past (entries_in rs bytes) in
    omega (arith, length-reverse (transactions (reverse rest)), transactions_some (reverse rest) (omega (arith, length-reverse rest, length-drop past (entries_in rs bytes), entries_length 0 rs bytes)))

pub can_redo_here : (rs : List StepRecord) (bytes : List ℕ) (past : ℕ) → nat_lt past (length rs) ≡ nat_lt 0 (length (reverse (transactions (reverse (drop past (entries_in rs bytes))))))
can_redo_here rs bytes past = elim (cases_lt past (length rs)) [
  | inl more ↦ lt-ltb past (length rs) more ∙ sym (lt-ltb 0 (length (reverse (transactions (reverse (drop past (entries_in rs bytes)))))) (future_some rs bytes past more))
  | inr none ↦
      le-ltb past (length rs) none ∙ ap (λ es. nat_lt 0 (length (reverse (transactions (reverse es))))) (sym (drop_all past (entries_in rs bytes) (omega (arith, entries_length 0 rs bytes))))
]
