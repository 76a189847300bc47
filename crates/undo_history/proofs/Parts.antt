-- Lists read from the end, and the parts of steps: a front, one part more, or one part.
use Rattle.undo_history.proofs.Names.{◌≡◌, ◌≤◌, ◌<◌, ◌+◌, ◌-◌, ℕ, zero, suc, List, [], ◌∷◌, ◌++◌, length, take, drop, map, get_or, refl, ap, sym, ◌∙◌, arith, reverse, slice_range, take_more, reverse-append, map-append, take-take, take-append-le, ChangeKind, Text, Container, StepRecord, Entry, entry_in, entries_from, entries_in, last_end, AreParts, HasItsPart, no_step}
use Rattle.std.proofs.lemmas.Slice.{between_is}

module _ {X : Type 0} where
  -- the front with its last item first
  pub latest_first : (xs : List X) (i n : ℕ) (d : X) → n ≡ i + 1 → i < length xs → reverse (take n xs) ≡ get_or xs i d ∷ reverse (take i xs)
  latest_first xs i n d e h =
      ap (λ k. reverse (take k xs)) e ∙ ap (λ t. reverse t) (take_more xs i d h) ∙ reverse-append (take i xs) (get_or xs i d ∷ [])

  pub reverse_more : (x : X) (xs : List X) → reverse (x ∷ xs) ≡ reverse xs ++ x ∷ []
  reverse_more x xs = reverse-append (x ∷ []) xs

  -- a part is the same if more comes behind it
  slice_of_front : (n : ℕ) (xs : List X) (a e : ℕ) → e ≤ n → slice_range (take n xs) a e ≡ slice_range xs a e
  slice_of_front n xs a e h = between_is (take n xs) a e ∙ ap (λ t. drop a t) (take-take e n xs h) ∙ sym (between_is xs a e)

pub map_reverse : {X Y : Type 0} → (f : X → Y) (xs : List X) → map f (reverse xs) ≡ reverse (map f xs)
map_reverse f [] = refl
map_reverse f (x ∷ xs) =
    ap (λ t. map f t) (reverse_more x xs) ∙ map-append f (reverse xs) (x ∷ []) ∙ ap (λ t. t ++ f x ∷ []) (map_reverse f xs) ∙ sym (reverse_more (f x) (map f xs))

-- Where the parts end.

part_rises : (kind : ChangeKind) (from end : ℕ) → HasItsPart kind from end → from ≤ end
part_rises (Text kind place) from end h = h
part_rises (Container coalesce token) from end h = omega (arith, h)

pub parts_above : (from : ℕ) (rs : List StepRecord) (n : ℕ) → AreParts from rs n → from ≤ n
parts_above from [] n h = omega (arith, h)
parts_above from (r ∷ rs) n h = omega (arith, part_rises r.kind from r.bytes_end h.0, parts_above r.bytes_end rs n h.1)

pub last_of_parts : (from : ℕ) (rs : List StepRecord) (n : ℕ) → AreParts from rs n → last_end from rs ≡ n
last_of_parts from [] n h = h
last_of_parts from (r ∷ rs) n h = last_of_parts r.bytes_end rs n h.1

pub front_of_parts : (k from : ℕ) (rs : List StepRecord) (n : ℕ) → AreParts from rs n → AreParts from (take k rs) (last_end from (take k rs))
front_of_parts zero from rs n h = refl
front_of_parts (suc k) from [] n h = refl
front_of_parts (suc k) from (r ∷ rs) n h = (h.0, front_of_parts k r.bytes_end rs n h.1)

pub front_within : (k from : ℕ) (rs : List StepRecord) (n : ℕ) → AreParts from rs n → last_end from (take k rs) ≤ n
front_within zero from rs n h = parts_above from rs n h
front_within (suc k) from [] n h = parts_above from [] n h
front_within (suc k) from (r ∷ rs) n h = front_within k r.bytes_end rs n h.1

pub parts_push : (from : ℕ) (rs : List StepRecord) (r : StepRecord) (n : ℕ) → AreParts from rs n → HasItsPart r.kind n r.bytes_end → AreParts from (rs ++ r ∷ []) r.bytes_end
parts_push from [] r n h p = rw h (p, refl)
parts_push from (q ∷ rs) r n h p = (h.0, parts_push q.bytes_end rs r n h.1 p)

-- a step's bytes are there
pub part_within : (i from : ℕ) (rs : List StepRecord) (n : ℕ) → AreParts from rs n → i < length rs →
    (last_end from (take i rs) ≤ (get_or rs i no_step).bytes_end) × ((get_or rs i no_step).bytes_end ≤ n)
part_within i from [] n h l = absurd (omega arith)
part_within zero from (r ∷ rs) n h l = (part_rises r.kind from r.bytes_end h.0, parts_above r.bytes_end rs n h.1)
part_within (suc i) from (r ∷ rs) n h l = part_within i r.bytes_end rs n h.1 (omega arith)

last_end_at : (from : ℕ) (rs : List StepRecord) (k : ℕ) (d : StepRecord) → k < length rs → last_end from (take (suc k) rs) ≡ (get_or rs k d).bytes_end
last_end_at from [] k d h = absurd (omega arith)
last_end_at from (r ∷ rs) zero d h = refl
last_end_at from (r ∷ rs) (suc k) d h = last_end_at r.bytes_end rs k d (omega arith)

-- the end as it is read
pub last_end_read : (from : ℕ) (rs : List StepRecord) (n : ℕ) (d : StepRecord) → 0 < n → n ≤ length rs → last_end from (take n rs) ≡ (get_or rs (n - 1) d).bytes_end
last_end_read from rs zero d p h = absurd (omega arith)
last_end_read from rs (suc k) d p h = let back : k ≡ suc k - 1 = omega arith in last_end_at from rs k d (omega arith) ∙ ap (λ j. (get_or rs j d).bytes_end) back

-- The entries.

pub entries_length : (from : ℕ) (rs : List StepRecord) (bytes : List ℕ) → length (entries_from from rs bytes) ≡ length rs
entries_length from [] bytes = refl
entries_length from (r ∷ rs) bytes = ap suc (entries_length r.bytes_end rs bytes)

pub front_of_entries : (k from : ℕ) (rs : List StepRecord) (bytes : List ℕ) → take k (entries_from from rs bytes) ≡ entries_from from (take k rs) bytes
front_of_entries zero from rs bytes = refl
front_of_entries (suc k) from [] bytes = refl
front_of_entries (suc k) from (r ∷ rs) bytes = ap (λ t. entry_in r (slice_range bytes from r.bytes_end) ∷ t) (front_of_entries k r.bytes_end rs bytes)

pub entries_push : (from : ℕ) (rs : List StepRecord) (r : StepRecord) (bytes : List ℕ) →
    entries_from from (rs ++ r ∷ []) bytes ≡ entries_from from rs bytes ++ entry_in r (slice_range bytes (last_end from rs) r.bytes_end) ∷ []
entries_push from [] r bytes = refl
entries_push from (q ∷ rs) r bytes = ap (λ t. entry_in q (slice_range bytes from q.bytes_end) ∷ t) (entries_push q.bytes_end rs r bytes)

-- what comes behind the last part plays no part
pub entries_of_front : (from : ℕ) (rs : List StepRecord) (n : ℕ) (bytes : List ℕ) → AreParts from rs n → entries_from from rs (take n bytes) ≡ entries_from from rs bytes
entries_of_front from [] n bytes h = refl
entries_of_front from (r ∷ rs) n bytes h =
    ap (λ t. entry_in r t ∷ entries_from r.bytes_end rs (take n bytes)) (slice_of_front n bytes from r.bytes_end (parts_above r.bytes_end rs n h.1))
    ∙ ap (λ t. entry_in r (slice_range bytes from r.bytes_end) ∷ t) (entries_of_front r.bytes_end rs n bytes h.1)

pub entries_of_more : (from : ℕ) (rs : List StepRecord) (n : ℕ) (bytes more : List ℕ) → AreParts from rs n → n ≤ length bytes → entries_from from rs (bytes ++ more) ≡ entries_from from rs bytes
entries_of_more from rs n bytes more h l =
    sym (entries_of_front from rs n (bytes ++ more) h) ∙ ap (λ t. entries_from from rs t) (take-append-le n bytes more l) ∙ entries_of_front from rs n bytes h

-- a step as an entry
abbrev pub entry_at : List StepRecord → List ℕ → ℕ → Entry
entry_at rs bytes i = entry_in (get_or rs i no_step) (slice_range bytes (last_end 0 (take i rs)) (get_or rs i no_step).bytes_end)

read_from : (from : ℕ) (rs : List StepRecord) (i : ℕ) (d : Entry) (bytes : List ℕ) → i < length rs →
    get_or (entries_from from rs bytes) i d ≡ entry_in (get_or rs i no_step) (slice_range bytes (last_end from (take i rs)) (get_or rs i no_step).bytes_end)
read_from from [] i d bytes h = absurd (omega arith)
read_from from (q ∷ rs) zero d bytes h = refl
read_from from (q ∷ rs) (suc i) d bytes h = read_from q.bytes_end rs i d bytes (omega arith)

pub entry_read : (rs : List StepRecord) (bytes : List ℕ) (i : ℕ) (d : Entry) → i < length rs → get_or (entries_in rs bytes) i d ≡ entry_at rs bytes i
entry_read rs bytes i d h = read_from 0 rs i d bytes h
