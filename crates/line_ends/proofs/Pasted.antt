-- A text converted piece by piece.
use Rattle.line_ends.proofs.Names.{◌||◌, ◌≡◌, ℕ, zero, suc, ◌+◌, ◌-◌, ◌<◌, ◌≤◌, Bool, true, false, cond, ◌==◌, ◌&&◌, List, [], ◌∷◌, ◌++◌, length, get_or, take, drop, slice_range, refl, ap, subst, ◌∙◌, sym, arith, append_assoc, append-nil, length-append, true≢false, or_parts, and_right, drop_all, drop_more, drop-drop, take_rest, length-take-le, length-drop, LineEnd, line_end_bytes, begins_with_line_feed, converted, converted_after, behind_return, is_end, end_bytes}

-- the bytes before a line end
quiet_front : (to : LineEnd) (bs : List ℕ) (n : ℕ) → n ≤ length bs → ((k : ℕ) → k < n → is_end (get_or bs k 0) ≡ false)
    → converted to bs ≡ take n bs ++ converted to (drop n bs)
quiet_front to bs zero l quiet = refl
quiet_front to [] (suc n) l quiet = refl
quiet_front to (b ∷ bs) (suc n) l quiet =
    let parts = or_parts (b == 10) (b == 13) (quiet 0 (omega arith)) in
    rw (parts.0, parts.1) (ap (λ t. b ∷ t) (quiet_front to bs n (omega arith) (λ k h. quiet (suc k) (omega arith))))

-- all of it
pub all_quiet : (to : LineEnd) (bs : List ℕ) (n : ℕ) → n ≡ length bs → ((k : ℕ) → k < n → is_end (get_or bs k 0) ≡ false)
    → converted to bs ≡ take n bs ++ end_bytes 0 to ++ converted to (drop (n + 0) bs)
all_quiet to bs n e quiet =
    let same : n + 0 ≡ n = omega arith in
    quiet_front to bs n (omega arith) quiet ∙ rw same (ap (λ t. t ++ converted to (drop n bs)) (sym (append-nil (take n bs))))

-- a line end of one byte
one_end : (to : LineEnd) (b : ℕ) (bs : List ℕ) → is_end b ≡ true → ((b == 13) && begins_with_line_feed bs) ≡ false → converted to (b ∷ bs) ≡ line_end_bytes to ++ converted to bs
one_end to b bs e alone = go (b == 10) (b == 13) e alone
  where
    go : (x y : Bool) → (x || y) ≡ true → (y && begins_with_line_feed bs) ≡ false
        → cond (x && false) (converted_after false to bs) (cond (x || y) (line_end_bytes to ++ converted_after y to bs) (b ∷ converted_after false to bs)) ≡ line_end_bytes to ++ converted to bs
    go true true c none = ap (λ t. line_end_bytes to ++ t) (behind_return to bs none true)
    go true false c none = refl
    go false true c none = ap (λ t. line_end_bytes to ++ t) (behind_return to bs none true)
    go false false c none = absurd (true≢false (sym c))

pub with_one : (to : LineEnd) (bs : List ℕ) (n : ℕ) → n < length bs → ((k : ℕ) → k < n → is_end (get_or bs k 0) ≡ false)
    → is_end (get_or bs n 0) ≡ true → ((get_or bs n 0 == 13) && begins_with_line_feed (drop (n + 1) bs)) ≡ false
    → converted to bs ≡ take n bs ++ end_bytes 1 to ++ converted to (drop (n + 1) bs)
with_one to bs n l quiet e alone =
    quiet_front to bs n (omega arith) quiet
    ∙ ap (λ t. take n bs ++ t) (ap (converted to) (drop_more bs n 0 l) ∙ one_end to (get_or bs n 0) (drop (n + 1) bs) e alone)
    ∙ sym (append_assoc (take n bs) (line_end_bytes to) (converted to (drop (n + 1) bs)))

-- a CR that stands alone, by the byte behind it
pub alone_behind : (bs : List ℕ) (n : ℕ) (x : Bool) → (get_or bs (n + 1) 0 == 10) ≡ false → (x && begins_with_line_feed (drop (n + 1) bs)) ≡ false
alone_behind bs n x none = and_right x (begins_with_line_feed (drop (n + 1) bs)) (go bs (n + 1) none)
  where
    go : (bs : List ℕ) (k : ℕ) → (get_or bs k 0 == 10) ≡ false → begins_with_line_feed (drop k bs) ≡ false
    go [] zero e = refl
    go [] (suc k) e = refl
    go (b ∷ bs) zero e = e
    go (b ∷ bs) (suc k) e = go bs k e

pub alone_at_end : (bs : List ℕ) (n : ℕ) (x : Bool) → length bs ≤ n + 1 → (x && begins_with_line_feed (drop (n + 1) bs)) ≡ false
alone_at_end bs n x l = and_right x (begins_with_line_feed (drop (n + 1) bs)) (ap begins_with_line_feed (drop_all (n + 1) bs l))

pub not_alone : (bs : List ℕ) (n : ℕ) (y : Bool) → (get_or bs n 0 == 13) ≡ false → ((get_or bs n 0 == 13) && y) ≡ false
not_alone bs n y e = ap (λ x. x && y) e

-- a line end of two bytes, CRLF
pub with_two : (to : LineEnd) (bs : List ℕ) (n : ℕ) → n + 1 < length bs → ((k : ℕ) → k < n → is_end (get_or bs k 0) ≡ false)
    → get_or bs n 0 ≡ 13 → get_or bs (n + 1) 0 ≡ 10
    → converted to bs ≡ take n bs ++ end_bytes 2 to ++ converted to (drop (n + 2) bs)
with_two to bs n l quiet return feed =
    let more : n + 1 + 1 ≡ n + 2 = omega arith in
    quiet_front to bs n (omega arith) quiet
    ∙ ap (λ t. take n bs ++ converted to t)
    (drop_more bs n 0 (omega arith) ∙ ap (λ t. get_or bs n 0 ∷ t) (drop_more bs (n + 1) 0 l)
    ∙ ap (λ b. b ∷ get_or bs (n + 1) 0 ∷ drop (n + 1 + 1) bs) return ∙ ap (λ b. 13 ∷ b ∷ drop (n + 1 + 1) bs) feed ∙ ap (λ k. 13 ∷ 10 ∷ drop k bs) more)
    ∙ sym (append_assoc (take n bs) (line_end_bytes to) (converted to (drop (n + 2) bs)))

-- The bytes of a line end.

pub some_end : (count : ℕ) (to : LineEnd) → 0 < count → end_bytes count to ≡ line_end_bytes to
some_end zero to h = absurd (omega arith)
some_end (suc count) to h = refl

pub no_end : (count : ℕ) (to : LineEnd) → count ≤ 0 → end_bytes count to ≡ []
no_end zero to h = refl
no_end (suc count) to h = absurd (omega arith)

-- The loops: what remains behind a piece.

abbrev pub Pieces : List ℕ → ℕ → ℕ → Type 0
Pieces bs quiet count = (to : LineEnd) → converted to bs ≡ take quiet bs ++ end_bytes count to ++ converted to (drop (quiet + count) bs)

pub piece_on : (to : LineEnd) (bytes : List ℕ) (place quiet count : ℕ) → place ≤ length bytes → Pieces (slice_range bytes place (length bytes)) quiet count
    → converted to (drop place bytes) ≡ take quiet (drop place bytes) ++ end_bytes count to ++ converted to (drop (place + (quiet + count)) bytes)
piece_on to bytes place quiet count l pieces =
    let same : slice_range bytes place (length bytes) ≡ drop place bytes = take_rest bytes place in
    subst (λ t. converted to t ≡ take quiet t ++ end_bytes count to ++ converted to (drop (quiet + count) t)) same (pieces to)
    ∙ ap (λ t. take quiet (drop place bytes) ++ end_bytes count to ++ converted to t) (drop-drop (quiet + count) place bytes)

pub length_on : (to : LineEnd) (bytes : List ℕ) (place quiet count : ℕ) → place ≤ length bytes → quiet + count ≤ length (slice_range bytes place (length bytes))
    → Pieces (slice_range bytes place (length bytes)) quiet count
    → length (converted to (drop place bytes)) ≡ quiet + length (end_bytes count to) + length (converted to (drop (place + (quiet + count)) bytes))
length_on to bytes place quiet count l w pieces =
    let same : slice_range bytes place (length bytes) ≡ drop place bytes = take_rest bytes place in
    let size : length (take quiet (drop place bytes)) ≡ quiet = length-take-le quiet (drop place bytes) (let n = ap length same in omega arith) in
    ap length (piece_on to bytes place quiet count l pieces) ∙ simp length-append (omega (arith, size))

pub within_on : (bytes : List ℕ) (place quiet count : ℕ) → place ≤ length bytes → quiet + count ≤ length (slice_range bytes place (length bytes))
    → place + (quiet + count) ≤ length bytes
within_on bytes place quiet count l w =
    let size : length (slice_range bytes place (length bytes)) ≡ length bytes - place = ap length (take_rest bytes place) ∙ length-drop place bytes in
    omega arith

-- what is copied of a piece
front_on : (bytes : List ℕ) (place quiet : ℕ) → slice_range bytes place (place + quiet) ≡ take quiet (drop place bytes)
front_on bytes place quiet = let n : place + quiet - place ≡ quiet = omega arith in ap (λ k. take k (drop place bytes)) n

front_length : (bytes : List ℕ) (place quiet count : ℕ) → place ≤ length bytes → quiet + count ≤ length (slice_range bytes place (length bytes))
    → length (slice_range bytes place (place + quiet)) ≡ quiet
front_length bytes place quiet count l w =
    let size : length (slice_range bytes place (length bytes)) ≡ length (drop place bytes) = ap length (take_rest bytes place) in
    ap length (front_on bytes place quiet) ∙ length-take-le quiet (drop place bytes) (omega arith)

pub items_on : (to : LineEnd) (bytes : List ℕ) (place quiet count : ℕ) → place ≤ length bytes → Pieces (slice_range bytes place (length bytes)) quiet count
    → (all old between new : List ℕ) → all ≡ old ++ converted to (drop place bytes) → between ≡ old ++ slice_range bytes place (place + quiet) → new ≡ between ++ end_bytes count to
    → all ≡ new ++ converted to (drop (place + (quiet + count)) bytes)
items_on to bytes place quiet count l pieces all old between new a b c =
    let front = take quiet (drop place bytes) in
    let rest = converted to (drop (place + (quiet + count)) bytes) in
    let new' : new ≡ old ++ front ++ end_bytes count to = c ∙ ap (λ t. t ++ end_bytes count to) (b ∙ ap (λ t. old ++ t) (front_on bytes place quiet)) in
    a ∙ ap (λ t. old ++ t) (piece_on to bytes place quiet count l pieces)
    ∙ sym (ap (λ t. t ++ rest) (new' ∙ append_assoc old front (end_bytes count to)) ∙ append_assoc old (front ++ end_bytes count to) rest)

pub room_on : (to : LineEnd) (bytes : List ℕ) (place quiet count : ℕ) → place ≤ length bytes → quiet + count ≤ length (slice_range bytes place (length bytes))
    → Pieces (slice_range bytes place (length bytes)) quiet count
    → (old between new room room' : ℕ) → old + length (converted to (drop place bytes)) ≤ room → between ≡ old + length (slice_range bytes place (place + quiet))
    → new ≡ between + length (end_bytes count to) → room ≤ room' → new + length (converted to (drop (place + (quiet + count)) bytes)) ≤ room'
room_on to bytes place quiet count l w pieces old between new room room' h e f m =
    let size = front_length bytes place quiet count l w in
    let all = length_on to bytes place quiet count l w pieces in
    omega arith
