-- The future dropped, and a change stored behind the past.
use Rattle.undo_history.proofs.Names.{◌≡◌, ◌≤◌, ◌+◌, ◌-◌, ℕ, zero, suc, List, [], ◌∷◌, ◌++◌, length, take, drop, refl, ap, ap₂, sym, subst, ◌∙◌, arith, reverse, Bool, true, false, inl, inr, append-nil, Option, slice_range, not, if◌then◌else◌, take-take, take_all, drop_at, drop_all, length-append, length-take-le, length-reverse, reverse-append, cond_both, cases_lt, Change, Transaction, History, None, with_change, ChangeKind, Text, Container, StepRecord, Entry, entry, alone, joined, entries_in, change_of, pushed, transactions, history_of, past_of, last_end, BeginsOne, AreParts, HasItsPart, HasItsBytes, IsInOrder, LastIsOpen, Inside, inserted, deleted}
use Rattle.undo_history.proofs.Parts.{entries_length, front_of_entries, entries_of_front, front_of_parts, front_within, parts_push, entries_push, entries_of_more, last_of_parts}
use Rattle.undo_history.proofs.Moving.{history}
use Rattle.undo_history.proofs.Sealing.{future_some}

-- The future dropped.

abbrev pub past_bytes : ℕ → List StepRecord → ℕ
past_bytes n rs = last_end 0 (take n rs)

-- the bytes of the past, as they are counted
pub kept_bytes : (i : Inside) (steps : List StepRecord) (kept : ℕ) → IsInOrder i.steps.items i.bytes.items i.past i.transactions → steps ≡ i.steps.items → kept ≡ past_bytes i.past steps →
    (kept ≡ past_bytes i.past i.steps.items) × (kept ≤ length i.bytes.items)
kept_bytes i steps kept o s k =
    let same : kept ≡ past_bytes i.past i.steps.items = k ∙ ap (λ rs. past_bytes i.past rs) s in
    (same, omega (arith, same, front_within i.past 0 i.steps.items (length i.bytes.items) o.parts))

pub deleted_behind : {X : Type 0} → (xs : List X) (n k : ℕ) → n + k ≡ length xs → deleted xs n k ≡ take n xs
deleted_behind xs n k e = ap (λ t. take n xs ++ t) (drop_all (n + k) xs (omega arith)) ∙ append-nil (take n xs)

past_entries : (past : ℕ) (rs : List StepRecord) (bytes : List ℕ) → AreParts 0 rs (length bytes) → entries_in (take past rs) (take (past_bytes past rs) bytes) ≡ take past (entries_in rs bytes)
past_entries past rs bytes h = entries_of_front 0 (take past rs) (past_bytes past rs) bytes (front_of_parts past 0 rs (length bytes) h) ∙ sym (front_of_entries past 0 rs bytes)

pub dropped_view : (rs : List StepRecord) (bytes : List ℕ) (past count depth : ℕ) (save_point : Option ℕ) (collecting : Bool) → IsInOrder rs bytes past count →
    history_of (entries_in (take past rs) (take (past_bytes past rs) bytes)) past save_point depth collecting ≡ history (past_of rs bytes past) [] save_point depth collecting
dropped_view rs bytes past count depth save_point collecting h =
    let es = entries_in rs bytes in
    let long : length (take past es) ≡ past = length-take-le past es (omega (arith, entries_length 0 rs bytes, h.there)) in
    ap (λ t. history_of t past save_point depth collecting) (past_entries past rs bytes h.parts)
    ∙ ap₂ (λ p f. history (transactions (reverse p)) (reverse (transactions (reverse f))) save_point depth collecting) (take-take past past es (omega arith)) (drop_all past (take past es) (omega arith))

pub dropped_in_order : (rs : List StepRecord) (bytes : List ℕ) (past count : ℕ) → IsInOrder rs bytes past count → IsInOrder (take past rs) (take (past_bytes past rs) bytes) past count
dropped_in_order rs bytes past count h =
    let es = entries_in rs bytes in
    let same = past_entries past rs bytes h.parts in
    let long : length (take past es) ≡ past = length-take-le past es (omega (arith, entries_length 0 rs bytes, h.there)) in
    let nothing : drop past (take past es) ≡ [] = drop_all past (take past es) (omega arith) in
    let left : past_bytes past rs ≡ length (take (past_bytes past rs) bytes) = sym (length-take-le (past_bytes past rs) bytes (front_within past 0 rs (length bytes) h.parts)) in
    record {
      parts = subst (λ n. AreParts 0 (take past rs) n) left (front_of_parts past 0 rs (length bytes) h.parts);
      begins = rw same (begins_of_front past es h.begins);
      boundary = rw (same, nothing) refl;
      there = omega (arith, length-take-le past rs h.there);
      counted = h.counted ∙ sym (ap (λ (k : History). length k.past) (dropped_view rs bytes past count 0 None false h));
    } where
      begins_of_front : (n : ℕ) (es : List Entry) → BeginsOne es → BeginsOne (take n es)
      begins_of_front zero es h = refl
      begins_of_front (suc n) [] h = refl
      begins_of_front (suc n) (e ∷ es) h = h

-- nothing is undone if all is past
pub none_undone : (rs : List StepRecord) (bytes : List ℕ) (past : ℕ) → length rs ≤ past → reverse (transactions (reverse (drop past (entries_in rs bytes)))) ≡ []
none_undone rs bytes past h = ap (λ f. reverse (transactions (reverse f))) (drop_all past (entries_in rs bytes) (omega (arith, entries_length 0 rs bytes)))

pub past_is_all : (rs : List StepRecord) (bytes : List ℕ) (past count : ℕ) → IsInOrder rs bytes past count → reverse (transactions (reverse (drop past (entries_in rs bytes)))) ≡ [] → past ≡ length rs
past_is_all rs bytes past count h e = elim (cases_lt past (length rs)) [ inl more ↦ absurd (omega (arith, future_some rs bytes past more, ap length e)) | inr all ↦ omega (arith, h.there) ]

-- A change stored.

abbrev pub stored_record : ChangeKind → Bool → ℕ → StepRecord
stored_record kind joins end = record { kind = kind; bytes_end = end; starts = not joins; is_sealed = false }

pub inserted_behind : {X : Type 0} → (xs ys : List X) (n : ℕ) → n ≡ length xs → inserted xs n ys ≡ xs ++ ys
inserted_behind xs ys n e =
    ap₂ (λ a b. a ++ ys ++ b) (take_all n xs (omega arith)) (drop_all n xs (omega arith)) ∙ append-nil (xs ++ ys)

own_part : (kind : ChangeKind) (new : List ℕ) (from end : ℕ) → HasItsBytes kind new → end ≡ from + length new → HasItsPart kind from end
own_part (Text kind place) new from end h e = omega arith
own_part (Container coalesce token) new from end h e = omega (arith, e, ap length h)

-- a change appended as the definitions say
made : (joins : Bool) (c : Change) (ts : List Transaction) → (joins ≡ true → LastIsOpen ts) → pushed (entry c (not joins) false) ts ≡ with_change joins c ts
made true c [] h = absurd (h refl)
made true c (t ∷ ts) h = ap (λ s. record { changes = c ∷ t.changes; is_sealed = s } ∷ ts) (sym (h refl))
made false c [] h = refl
made false c (t ∷ ts) h = refl

made_length : (joins : Bool) (c : Change) (ts : List Transaction) → (joins ≡ true → LastIsOpen ts) → length (with_change joins c ts) ≡ (if joins then length ts else length ts + 1)
made_length true c [] h = absurd (h refl)
made_length true c (t ∷ ts) h = refl
made_length false c [] h = refl
made_length false c (t ∷ ts) h = omega arith

begins_by : (joins : Bool) (c : Change) (es : List Entry) → BeginsOne es → (joins ≡ true → LastIsOpen (transactions (reverse es))) → BeginsOne (es ++ entry c (not joins) false ∷ [])
begins_by true c [] b h = absurd (h refl)
begins_by false c [] b h = refl
begins_by joins c (e ∷ es) b h = b

module _ (kind : ChangeKind) (joins : Bool) (rs : List StepRecord) (bytes new : List ℕ) (past count end : ℕ) (h : IsInOrder rs bytes past count) (p : past ≡ length rs) (e : end ≡ length bytes + length new)
    (open_ : joins ≡ true → LastIsOpen (past_of rs bytes past)) where
  abbrev es : List Entry
  es = entries_in rs bytes

  abbrev x : Entry
  x = entry (change_of kind new) (not joins) false

  abbrev r : StepRecord
  r = stored_record kind joins end

  long : length (es ++ x ∷ []) ≡ past + 1
  long = omega (arith, length-append es (x ∷ []), entries_length 0 rs bytes)

  new_part : slice_range (bytes ++ new) (last_end 0 rs) end ≡ new
  new_part = let from = last_of_parts 0 rs (length bytes) h.parts in rw (drop_at bytes new (last_end 0 rs) (sym from)) (take_all (end - last_end 0 rs) new (omega arith))

  -- the entries once the change is stored
  stored : entries_in (rs ++ r ∷ []) (bytes ++ new) ≡ es ++ x ∷ []
  stored =
      entries_push 0 rs r (bytes ++ new)
      ∙ ap₂ (λ t part. t ++ entry (change_of kind part) (not joins) false ∷ []) (entries_of_more 0 rs (length bytes) bytes new h.parts (omega arith)) new_part

  pub stored_view : (depth : ℕ) (save_point : Option ℕ) (collecting : Bool) → history_of (entries_in (rs ++ r ∷ []) (bytes ++ new)) (past + 1) save_point depth collecting
      ≡ history (with_change joins (change_of kind new) (past_of rs bytes past)) (reverse (transactions (reverse (drop past es)))) save_point depth collecting
  stored_view depth save_point collecting =
      ap (λ t. history_of t (past + 1) save_point depth collecting) stored
      ∙ ap₂ (λ t f. history (transactions (reverse t)) (reverse (transactions (reverse f))) save_point depth collecting)
      (take_all (past + 1) (es ++ x ∷ []) (omega (arith, long))) (drop_all (past + 1) (es ++ x ∷ []) (omega (arith, long)) ∙ sym (drop_all past es (omega (arith, entries_length 0 rs bytes))))
      ∙ ap (λ ts. history ts (reverse (transactions (reverse (drop past es)))) save_point depth collecting)
      (ap transactions (reverse-append es (x ∷ [])) ∙ ap (λ t. pushed x (transactions (reverse t))) (sym (take_all past es (omega (arith, entries_length 0 rs bytes)))) ∙ made joins (change_of kind new) (past_of rs bytes past) open_)

  pub stored_in_order : HasItsBytes kind new → IsInOrder (rs ++ r ∷ []) (bytes ++ new) (past + 1) (if joins then count else count + 1)
  stored_in_order own =
      let nothing : drop (past + 1) (es ++ x ∷ []) ≡ [] = drop_all (past + 1) (es ++ x ∷ []) (omega (arith, long)) in
      let whole : take past es ≡ es = take_all past es (omega (arith, entries_length 0 rs bytes)) in
      record {
        parts = subst (λ n. AreParts 0 (rs ++ r ∷ []) n) (e ∙ sym (length-append bytes new)) (parts_push 0 rs r (length bytes) h.parts (own_part kind new (length bytes) end own e));
        begins = rw stored (begins_by joins (change_of kind new) es h.begins (λ j. subst (λ t. LastIsOpen (transactions (reverse t))) whole (open_ j)));
        boundary = rw (stored, nothing) refl;
        there = omega (arith, length-append rs (r ∷ []));
        counted = ap (λ n. if joins then n else n + 1) h.counted ∙ sym (ap (λ (k : History). length k.past) (stored_view 0 None false) ∙ made_length joins (change_of kind new) (past_of rs bytes past) open_);
      }

-- How many transactions there are.

pub count_within : (rs : List StepRecord) (bytes : List ℕ) (past count : ℕ) → IsInOrder rs bytes past count → count ≤ past
count_within rs bytes past count h =
    let front = take past (entries_in rs bytes) in
    omega (arith, h.counted, fewer (reverse front), length-reverse front, length-take-le past (entries_in rs bytes) (omega (arith, entries_length 0 rs bytes, h.there))) where
      pushed_fewer : (e : Entry) (ts : List Transaction) → length (pushed e ts) ≤ suc (length ts)
      pushed_fewer e [] = omega arith
      pushed_fewer e (t ∷ ts) = cond_both e.starts (alone e ∷ t ∷ ts) (joined e t ∷ ts) (λ us. length us ≤ suc (suc (length ts))) (λ _. omega arith) (λ _. omega arith)

      fewer : (es : List Entry) → length (transactions es) ≤ length es
      fewer [] = omega arith
      fewer (e ∷ es) = omega (arith, pushed_fewer e (transactions es), fewer es)
