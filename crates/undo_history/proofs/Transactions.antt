-- Entries as transactions: where the last one begins, where the next one ends, and what stands on either side of a start.
use Rattle.undo_history.proofs.Names.{◌≡◌, ◌≤◌, ◌<◌, ◌+◌, suc, List, [], ◌∷◌, ◌++◌, length, take, drop, map, refl, ap, sym, subst, ◌∙◌, arith, reverse, true, false, append-nil, append_assoc, inl, inr, reverse-append, length-append, length-reverse, length-take-le, cond-true, cond-false, cond_both, cases_Bool, Transaction, first_changes, Entry, alone, joined, pushed, transactions, change_in, last_count, joined_count, next_count, BeginsOne}
use Rattle.undo_history.proofs.Parts.{reverse_more}

-- One entry.

pushed_start : (e : Entry) (ts : List Transaction) → e.starts ≡ true → pushed e ts ≡ alone e ∷ ts
pushed_start e [] h = refl
pushed_start e (t ∷ ts) h = cond-true e.starts (alone e ∷ t ∷ ts) (joined e t ∷ ts) h

pushed_join : (e : Entry) (t : Transaction) (ts : List Transaction) → e.starts ≡ false → pushed e (t ∷ ts) ≡ joined e t ∷ ts
pushed_join e t ts h = cond-false e.starts (alone e ∷ t ∷ ts) (joined e t ∷ ts) h

pub transactions_some : (es : List Entry) → 0 < length es → 0 < length (transactions es)
transactions_some [] h = absurd (omega arith)
transactions_some (e ∷ es) h = pushed_some e (transactions es) where
  pushed_some : (e : Entry) (ts : List Transaction) → 0 < length (pushed e ts)
  pushed_some e [] = omega arith
  pushed_some e (t ∷ ts) = cond_both e.starts (alone e ∷ t ∷ ts) (joined e t ∷ ts) (λ us. 0 < length us) (λ _. omega arith) (λ _. omega arith)

pushed_over : (e : Entry) (us ts : List Transaction) → 0 < length us → pushed e (us ++ ts) ≡ pushed e us ++ ts
pushed_over e [] ts h = absurd (omega arith)
pushed_over e (u ∷ us) ts h = elim (cases_Bool e.starts) [ inl y ↦ rw y | inr n ↦ rw n ]

-- Entries on either side of a start.

apart : (zs : List Entry) (x : Entry) (ys : List Entry) → x.starts ≡ true → transactions (zs ++ x ∷ ys) ≡ transactions (zs ++ x ∷ []) ++ transactions ys
apart [] x ys h = pushed_start x (transactions ys) h
apart (z ∷ zs) x ys h =
    ap (λ t. pushed z t) (apart zs x ys h)
    ∙ pushed_over z (transactions (zs ++ x ∷ [])) (transactions ys) (transactions_some (zs ++ x ∷ []) (omega (arith, length-append zs (x ∷ []))))

pub cut : (ps fs : List Entry) → BeginsOne fs → transactions (reverse (ps ++ fs)) ≡ transactions (reverse fs) ++ transactions (reverse ps)
cut ps [] h = ap (λ t. transactions (reverse t)) (append-nil ps)
cut ps (x ∷ fs) h =
    let back : reverse (ps ++ x ∷ fs) ≡ reverse fs ++ x ∷ reverse ps =
    reverse-append ps (x ∷ fs) ∙ ap (λ t. t ++ reverse ps) (reverse_more x fs) ∙ append_assoc (reverse fs) (x ∷ []) (reverse ps) in
    ap transactions back ∙ apart (reverse fs) x (reverse ps) h ∙ ap (λ t. transactions t ++ transactions (reverse ps)) (sym (reverse_more x fs))

-- The last transaction.

pub last_count_start : (e : Entry) (es : List Entry) → e.starts ≡ true → last_count (e ∷ es) ≡ 1
last_count_start e es h = cond-true e.starts 1 (suc (last_count es)) h

pub last_count_join : (e : Entry) (es : List Entry) → e.starts ≡ false → last_count (e ∷ es) ≡ suc (last_count es)
last_count_join e es h = cond-false e.starts 1 (suc (last_count es)) h

pub last_count_within : (es : List Entry) → last_count es ≤ length es
last_count_within [] = omega arith
last_count_within (e ∷ es) = cond_both e.starts 1 (suc (last_count es)) (λ n. n ≤ suc (length es)) (λ _. omega arith) (λ _. omega (arith, last_count_within es))

pub last_count_some : (es : List Entry) → 0 < length es → 0 < last_count es
last_count_some [] h = absurd (omega arith)
last_count_some (e ∷ es) h = cond_both e.starts 1 (suc (last_count es)) (λ n. 0 < n) (λ _. omega arith) (λ _. omega arith)

-- they are those of one transaction
pub last_is_whole : (es : List Entry) → last_count (take (last_count es) es) ≡ last_count es
last_is_whole [] = refl
last_is_whole (e ∷ es) =
    cond_both e.starts 1 (suc (last_count es)) (λ n. last_count (take n (e ∷ es)) ≡ n) (λ y. last_count_start e [] y)
    (λ n. last_count_join e (take (last_count es) es) n ∙ ap suc (last_is_whole es))

pub one_transaction : (es : List Entry) → 0 < length es → last_count es ≡ length es → (t : Transaction) × (transactions es ≡ t ∷ [])
one_transaction [] h l = absurd (omega arith)
one_transaction (e ∷ []) h l = (alone e, refl)
one_transaction (e ∷ d ∷ es) h l = elim (cases_Bool e.starts) [
  | inl y ↦ absurd (omega (arith, last_count_start e (d ∷ es) y))
  | inr n ↦
      let rest = one_transaction (d ∷ es) (omega arith) (omega (arith, last_count_join e (d ∷ es) n)) in
      (joined e rest.0, ap (λ t. pushed e t) rest.1 ∙ pushed_join e rest.0 [] n)
]

-- its changes
changes_join : (e : Entry) (ts : List Transaction) → e.starts ≡ false → first_changes (pushed e ts) ≡ e.change ∷ first_changes ts
changes_join e [] y = refl
changes_join e (t ∷ ts) y = ap first_changes (pushed_join e t ts y)

pub last_changes : (es : List Entry) → first_changes (transactions es) ≡ map change_in (take (last_count es) es)
last_changes [] = refl
last_changes (e ∷ es) = elim (cases_Bool e.starts) [
  | inl y ↦ ap first_changes (pushed_start e (transactions es) y) ∙ ap (λ k. map change_in (take k (e ∷ es))) (sym (last_count_start e es y))
  | inr n ↦ changes_join e (transactions es) n ∙ ap (λ cs. e.change ∷ cs) (last_changes es) ∙ ap (λ k. map change_in (take k (e ∷ es))) (sym (last_count_join e es n))
]

-- The oldest of the last transaction begins it.

pub begins_front : (xs ys : List Entry) → BeginsOne (xs ++ ys) → BeginsOne xs
begins_front [] ys h = refl
begins_front (x ∷ xs) ys h = h

pub begins_more : (xs ys : List Entry) → 0 < length xs → BeginsOne xs → BeginsOne (xs ++ ys)
begins_more [] ys l h = absurd (omega arith)
begins_more (x ∷ xs) ys l h = h

begins_alike : (xs ys zs : List Entry) → (0 < length ys → 0 < length xs) → BeginsOne xs → BeginsOne (ys ++ zs) → BeginsOne (xs ++ zs)
begins_alike [] [] zs l h k = k
begins_alike [] (y ∷ ys) zs l h k = absurd (omega (arith, l (omega arith)))
begins_alike (x ∷ xs) ys zs l h k = h

pub begins_last : (es : List Entry) → BeginsOne (reverse es) → BeginsOne (reverse (take (last_count es) es))
begins_last [] h = refl
begins_last (e ∷ es) h =
    let all = subst BeginsOne (reverse_more e es) h in
    let part = take (last_count es) es in
    let some : 0 < length (reverse es) → 0 < length (reverse part) =
    λ l. omega (arith, length-reverse part, length-take-le (last_count es) es (last_count_within es), last_count_some es (omega (arith, length-reverse es))) in
    cond_both e.starts 1 (suc (last_count es)) (λ n. BeginsOne (reverse (take n (e ∷ es)))) (λ y. y)
    (λ _. subst BeginsOne (sym (reverse_more e part)) (begins_alike (reverse part) (reverse es) (e ∷ []) some (begins_last es (begins_front (reverse es) (e ∷ []) all)) all))

-- The next transaction.

pub next_count_within : (es : List Entry) → next_count es ≤ length es
next_count_within [] = omega arith
next_count_within (e ∷ es) = omega (arith, joined_count_within es) where
  joined_count_within : (es : List Entry) → joined_count es ≤ length es
  joined_count_within [] = omega arith
  joined_count_within (e ∷ es) = cond_both e.starts 0 (suc (joined_count es)) (λ n. n ≤ suc (length es)) (λ _. omega arith) (λ _. omega (arith, joined_count_within es))

pub begins_behind_next : (es : List Entry) → BeginsOne (drop (next_count es) es)
begins_behind_next [] = refl
begins_behind_next (e ∷ es) = behind_joined es where
  behind_joined : (es : List Entry) → BeginsOne (drop (joined_count es) es)
  behind_joined [] = refl
  behind_joined (e ∷ es) = cond_both e.starts 0 (suc (joined_count es)) (λ n. BeginsOne (drop n (e ∷ es))) (λ y. y) (λ _. behind_joined es)

-- its entries are those of one transaction
pub next_is_whole : (es : List Entry) → last_count (reverse (take (next_count es) es)) ≡ next_count es
next_is_whole [] = refl
next_is_whole (e ∷ es) =
    let one : last_count (e ∷ []) ≡ 1 = cond_both e.starts 1 1 (λ n. n ≡ 1) (λ _. refl) (λ _. refl) in
    ap last_count (reverse_more e (take (joined_count es) es)) ∙ omega (arith, before es (e ∷ []), one) where
      before : (es ys : List Entry) → last_count (reverse (take (joined_count es) es) ++ ys) ≡ joined_count es + last_count ys
      before [] ys = omega arith
      before (e ∷ es) ys =
          let part = take (joined_count es) es in
          cond_both e.starts 0 (suc (joined_count es)) (λ n. last_count (reverse (take n (e ∷ es)) ++ ys) ≡ n + last_count ys) (λ _. omega arith)
          (λ n. ap (λ t. last_count (t ++ ys)) (reverse_more e part) ∙ ap last_count (append_assoc (reverse part) (e ∷ []) ys) ∙ before es (e ∷ ys) ∙ omega (arith, last_count_join e ys n))
