-- The walk along a text from a stretch without line ends to the next one.
use Rattle.line_ends.proofs.Names.{◌≡◌, ℕ, zero, suc, ◌+◌, ◌-◌, ◌<◌, ◌≤◌, false, ◌==◌, ◌||◌, List, [], ◌∷◌, length, get_or, drop, refl, ap, ◌∙◌, arith, lt-ltb, or_parts, LineEnd, stands, Step, begins_with_line_feed, stands_at, is_end, follows_return, lone_feed, lone_return, spare_feed, spare_return}
use Rattle.line_ends.proofs.Halves.{Quiet}

pub follows_next : (start : ℕ) (text : List ℕ) (p : ℕ) → start ≤ p → p < length text → follows_return start text (p + 1) ≡ (get_or text p 0 == 13)
follows_next start text p s h =
    let e : p + 1 - 1 ≡ p = omega arith in
    rw (lt-ltb start (p + 1) (omega arith), e) (stands_at 13 text p h)

-- the byte behind a place
pub begins_is : (text : List ℕ) (p : ℕ) → begins_with_line_feed (drop p text) ≡ stands 10 text p
begins_is [] zero = refl
begins_is [] (suc p) = refl
begins_is (b ∷ bs) zero = refl
begins_is (b ∷ bs) (suc p) = begins_is bs p

-- a function of places that has the same value at each place and at the next one
pub along : (f : ℕ → List Step) (n p : ℕ) → ((k : ℕ) → p ≤ k → k < p + n → f k ≡ f (k + 1)) → f p ≡ f (p + n)
along f zero p h = let e : p + 0 ≡ p = omega arith in rw e refl
along f (suc n) p h =
    let e : p + suc n ≡ p + 1 + n = omega arith in
    rw e (h p (omega arith) (omega arith) ∙ along f n (p + 1) (λ k a b. h k (omega arith) (omega arith)))

pub along_quiet : (f : ℕ → List Step) (text : List ℕ) (from to : ℕ) → from ≤ to → to ≤ length text → Quiet text from to
    → ((k : ℕ) → k < length text → is_end (get_or text k 0) ≡ false → f k ≡ f (k + 1)) → f from ≡ f to
along_quiet f text from to w l quiet on =
    let e : from + (to - from) ≡ to = omega arith in
    along f (to - from) from (λ k a b. on k (omega arith) (quiet k a (omega arith))) ∙ ap f e

-- if the byte at the place is no CR or LF, it is neither lone nor unwanted
pub quiet_lone : (to : LineEnd) (text : List ℕ) (p : ℕ) → p < length text → is_end (get_or text p 0) ≡ false
    → (lone_feed to text p || lone_return to text p) ≡ false
quiet_lone to text p h quiet =
    let parts = or_parts (get_or text p 0 == 10) (get_or text p 0 == 13) quiet in
    let feed : stands 10 text p ≡ false = stands_at 10 text p h ∙ parts.0 in
    let return : stands 13 text p ≡ false = stands_at 13 text p h ∙ parts.1 in
    rw (feed, return) refl

pub quiet_spare : (start : ℕ) (to : LineEnd) (text : List ℕ) (p : ℕ) → p < length text → is_end (get_or text p 0) ≡ false
    → (spare_return to text p || spare_feed start to text p) ≡ false
quiet_spare start to text p h quiet =
    let parts = or_parts (get_or text p 0 == 10) (get_or text p 0 == 13) quiet in
    let feed : stands 10 text p ≡ false = stands_at 10 text p h ∙ parts.0 in
    let return : stands 13 text p ≡ false = stands_at 13 text p h ∙ parts.1 in
    rw (feed, return) refl
