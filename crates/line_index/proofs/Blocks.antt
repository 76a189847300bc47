-- Lines counted part by part, and byte after byte.
use Rattle.line_index.proofs.Names.{◌≡◌, ℕ, ◌+◌, ◌-◌, ◌<◌, ◌≤◌, Bool, true, false, cond, ◌==◌, ◌||◌, ◌&&◌, not, List, [], ◌++◌, append-nil, sym, length, get_or, refl, ap, arith, ne_eqb, LineEndTypes, Default, Unicode, is_line_start, stands_at, AreStarts}
use Rattle.line_index.proofs.StartLists.{one_if, at_most_one, count_apart, count_at, no_starts}

-- at one place a line starts or does not
pub counted_one : {types : LineEndTypes} {text : List ℕ} {place : ℕ} (here : Bool) → is_line_start types text place ≡ here → AreStarts types text place (place + 1) (one_if here)
counted_one {types} {text} {place} here e = record { lines = omega (arith, count_at types text place, ap one_if e); few = omega (arith, at_most_one here) }

-- the places from one up to another, and those from there on
pub counted_both :
    {types : LineEndTypes} {text : List ℕ} {from mid to lines more : ℕ} → AreStarts types text from mid lines → AreStarts types text mid to more → from ≤ mid → mid ≤ to → AreStarts types text from to (lines + more)
counted_both {types} {text} {from} {mid} {to} p q a b = record { lines = omega (arith, p.lines, q.lines, count_apart types text from mid to a b); few = omega (arith, p.few, q.few) }

-- where no line starts, there are none, and no more behind others or before them

pub counted_none : (types : LineEndTypes) (bytes : List ℕ) (from to : ℕ) → ((k : ℕ) → from ≤ k → k < to → is_line_start types (bytes ++ []) k ≡ false) → AreStarts types bytes from to 0
counted_none types bytes from to none = record { lines = sym (ap length (no_starts types bytes from to (λ k a b. rw (append-nil bytes) at (none k a b)))); few = omega arith }

pub counted_past :
    {types : LineEndTypes} {bytes : List ℕ} {from mid lines : ℕ} → AreStarts types bytes from mid lines → (to : ℕ) → ((k : ℕ) → mid ≤ k → k < to → is_line_start types (bytes ++ []) k ≡ false) → from ≤ mid → mid ≤ to → AreStarts types bytes from to lines
counted_past {types} {bytes} {from} {mid} p to none a b = record { lines = omega (arith, p.lines, (counted_none types bytes mid to none).lines, count_apart types bytes from mid to a b); few = omega (arith, p.few) }

pub counted_front :
    {types : LineEndTypes} {bytes : List ℕ} {mid to lines : ℕ} → AreStarts types bytes mid to lines → (from : ℕ) → ((k : ℕ) → from ≤ k → k < mid → is_line_start types (bytes ++ []) k ≡ false) → from ≤ mid → mid ≤ to → AreStarts types bytes from to lines
counted_front {types} {bytes} {mid} {to} q from none a b = record { lines = omega (arith, q.lines, (counted_none types bytes from mid none).lines, count_apart types bytes from mid to a b); few = omega (arith, q.few) }

without_unicode : (a b n : Bool) → (a || (b && n) || false) ≡ (a || (b && n))
without_unicode true b n = refl
without_unicode false true true = refl
without_unicode false true false = refl
without_unicode false false n = refl

-- a line starts behind a byte where a line ends with it
pub starts_behind :
    (text : List ℕ) (p : ℕ) → p + 1 < length text
    → is_line_start Default text (p + 1) ≡ (get_or text p 0 == 10 || (get_or text p 0 == 13 && not (get_or text (p + 1) 0 == 10)))
starts_behind text p h =
    let one : p + 1 - 1 ≡ p = omega arith in
    let some : (p + 1 == 0) ≡ false = ne_eqb (p + 1) 0 (λ z. omega arith) in
    rw (some, one, stands_at 10 text p (omega arith), stands_at 13 text p (omega arith), stands_at 10 text (p + 1) h)
    (without_unicode (get_or text p 0 == 10) (get_or text p 0 == 13) (not (get_or text (p + 1) 0 == 10)))

-- so one byte is counted
pub counted_byte :
    {text : List ℕ} {more : ℕ} (p : ℕ) → more ≡ cond (get_or text p 0 == 10 || (get_or text p 0 == 13 && not (get_or text (p + 1) 0 == 10))) 1 0 → p + 1 < length text → AreStarts Default text (p + 1) (p + 1 + 1) more
counted_byte {text} p e l = rw e (counted_one _ (starts_behind text p l))

-- the same if line ends of Unicode count, behind a byte that two others precede
abbrev pub ends_wide : ℕ → ℕ → ℕ → ℕ → Bool
ends_wide third second byte next =
    byte == 10 || (byte == 13 && not (next == 10)) || ((byte == 0x85 && second == 0xC2) || ((byte == 0xA8 || byte == 0xA9) && second == 0x80 && third == 0xE2))

pub starts_behind_wide :
    (text : List ℕ) (p : ℕ) → 2 ≤ p → p + 1 < length text
    → is_line_start Unicode text (p + 1) ≡ ends_wide (get_or text (p - 2) 0) (get_or text (p - 1) 0) (get_or text p 0) (get_or text (p + 1) 0)
starts_behind_wide text p l h =
    let one : p + 1 - 1 ≡ p = omega arith in
    let two : p + 1 - 2 ≡ p - 1 = omega arith in
    let three : p + 1 - 3 ≡ p - 2 = omega arith in
    let some : (p + 1 == 0) ≡ false = ne_eqb (p + 1) 0 (λ z. omega arith) in
    rw (
      some,
      one,
      two,
      three,
      stands_at 10 text p (omega arith),
      stands_at 13 text p (omega arith),
      stands_at 10 text (p + 1) h,
      stands_at 0x85 text p (omega arith),
      stands_at 0xC2 text (p - 1) (omega arith),
      stands_at 0xA8 text p (omega arith),
      stands_at 0xA9 text p (omega arith),
      stands_at 0x80 text (p - 1) (omega arith),
      stands_at 0xE2 text (p - 2) (omega arith),
    )
    refl

pub counted_byte_wide :
    {text : List ℕ} {more : ℕ} (p : ℕ) → more ≡ cond (ends_wide (get_or text (p - 2) 0) (get_or text (p - 1) 0) (get_or text p 0) (get_or text (p + 1) 0)) 1 0 → 2 ≤ p → p + 1 < length text
    → AreStarts Unicode text (p + 1) (p + 1 + 1) more
counted_byte_wide {text} p e a l = rw e (counted_one _ (starts_behind_wide text p a l))

-- the same places, if where the first end and the others begin was computed in two ways
pub counted_next :
    {types : LineEndTypes} {text : List ℕ} {from mid place last to lines more : ℕ} → AreStarts types text from mid lines → AreStarts types text place last more → mid ≡ place → last ≡ to → from ≤ mid → place ≤ last
    → AreStarts types text from to (lines + more)
counted_next p q e f a b = rw (← f) (counted_both p (rw (← e) at q) a (omega arith))
