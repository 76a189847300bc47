-- The deletions of a conversion, one by one.
use Rattle.line_ends.proofs.Names.{◌≡◌, ℕ, zero, suc, ◌+◌, ◌-◌, ◌<◌, ◌≤◌, Bool, true, false, ◌==◌, ◌||◌, ◌&&◌, inl, inr, List, [], ◌∷◌, ◌++◌, length, get_or, take, drop, slice_range, refl, ap, ◌∙◌, sym, arith, true≢false, or_cases, or_from, and_parts, and_right, eqb-true, le-ltb, drop_more, drop_all, drop_at, length-take-le, LineEnd, CrLf, Cr, Lf, stands, Step, Delete, edited, begins_with_line_feed, is_feed_unwanted, is_return_unwanted, is_unwanted, unwanted_at, place_after, unwanted_from, stands_at, follows_return, spare_feed, spare_return, unwanted_in, unwanted_since, IsNextUnwanted}
use Rattle.line_ends.proofs.Halves.{Quiet}
use Rattle.line_ends.proofs.Walk.{follows_next, begins_is, quiet_spare}

-- the deletion of one byte, and the rest
abbrev about : LineEnd → List ℕ → ℕ → Bool → List Step
about to text p u = unwanted_at p (get_or text p 0) u ++ unwanted_from (place_after p u) (get_or text p 0 == 13) to (drop (p + 1) text)

spare_is : (start : ℕ) (to : LineEnd) (text : List ℕ) (p : ℕ) → p < length text
    → (spare_return to text p || spare_feed start to text p) ≡ is_unwanted (follows_return start text p) to (get_or text p 0) (drop (p + 1) text)
spare_is start to text p h =
    ap (λ x. (x && stands 10 text (p + 1) && is_return_unwanted to) || spare_feed start to text p) (stands_at 13 text p h)
    ∙ ap (λ y. ((get_or text p 0 == 13) && y && is_return_unwanted to) || spare_feed start to text p) (sym (begins_is text (p + 1)))
    ∙ ap (λ x. ((get_or text p 0 == 13) && begins_with_line_feed (drop (p + 1) text) && is_return_unwanted to) || (x && follows_return start text p && is_feed_unwanted to)) (stands_at 10 text p h)

split : (start : ℕ) (to : LineEnd) (text : List ℕ) (p : ℕ) → p < length text
    → unwanted_since start to text p ≡ about to text p (spare_return to text p || spare_feed start to text p)
split start to text p h =
    ap (unwanted_from p (follows_return start text p) to) (drop_more text p 0 h)
    ∙ ap (λ u. about to text p u) (sym (spare_is start to text p h))

pub unwanted_on : (start : ℕ) (to : LineEnd) (text : List ℕ) (p : ℕ) → start ≤ p → p < length text → (spare_return to text p || spare_feed start to text p) ≡ false
    → unwanted_since start to text p ≡ unwanted_since start to text (p + 1)
unwanted_on start to text p s h none =
    split start to text p h ∙ ap (λ u. about to text p u) none
    ∙ ap (λ f. unwanted_from (p + 1) f to (drop (p + 1) text)) (sym (follows_next start text p s h))

unwanted_between : (start : ℕ) (to : LineEnd) (text : List ℕ) (n p : ℕ) → start ≤ p → p + n ≤ length text → Quiet text p (p + n)
    → unwanted_since start to text p ≡ unwanted_since start to text (p + n)
unwanted_between start to text zero p s l quiet = let e : p + 0 ≡ p = omega arith in rw e refl
unwanted_between start to text (suc n) p s l quiet =
    let e : p + suc n ≡ p + 1 + n = omega arith in
    rw e (unwanted_on start to text p s (omega arith) (quiet_spare start to text p (omega arith) (quiet p (omega arith) (omega arith)))
    ∙ unwanted_between start to text n (p + 1) (omega arith) (omega arith) (λ k a b. quiet k (omega arith) (omega arith)))

pub unwanted_along : (start : ℕ) (to : LineEnd) (text : List ℕ) (from end : ℕ) → start ≤ from → from ≤ end → end ≤ length text → Quiet text from end
    → unwanted_since start to text from ≡ unwanted_since start to text end
unwanted_along start to text from end s a b quiet =
    let e : from + (end - from) ≡ end = omega arith in
    unwanted_between start to text (end - from) from s (omega arith) (λ k x y. quiet k x (omega arith)) ∙ ap (unwanted_since start to text) e

-- at the start
pub unwanted_first : (to : LineEnd) (text : List ℕ) (start : ℕ) → unwanted_in to text start ≡ unwanted_since start to text start
unwanted_first to text start =
    ap (λ f. unwanted_from start f to (drop start text)) (sym (ap (λ x. x && stands 13 text (start - 1)) (le-ltb start start (omega arith))))

pub unwanted_end : (start : ℕ) (to : LineEnd) (text : List ℕ) (p : ℕ) → length text ≤ p → unwanted_since start to text p ≡ []
unwanted_end start to text p h = ap (unwanted_from p (follows_return start text p) to) (drop_all p text h)

-- one unwanted byte
no_flag : (q : ℕ) (bs : List ℕ) (f g : Bool) → unwanted_from q f Lf bs ≡ unwanted_from q g Lf bs
no_flag q [] f g = refl
no_flag q (b ∷ bs) f g =
    let same : ((b == 10) && f && false) ≡ ((b == 10) && g && false) = and_right ((b == 10) && f) false refl ∙ sym (and_right ((b == 10) && g) false refl) in
    ap (λ x. unwanted_at q b (((b == 13) && begins_with_line_feed bs && true) || x) ++ unwanted_from (place_after q (((b == 13) && begins_with_line_feed bs && true) || x)) (b == 13) Lf bs) same

-- it does not matter for the rest whether the byte was a CR
flag_of_rest : (to : LineEnd) (f : Bool) (b q : ℕ) (bs : List ℕ) → is_unwanted f to b bs ≡ true → unwanted_from q (b == 13) to bs ≡ unwanted_from q false to bs
flag_of_rest Lf f b q bs e = no_flag q bs (b == 13) false
flag_of_rest CrLf f b q bs e =
    let none : is_unwanted f CrLf b bs ≡ false = or_from ((b == 13) && begins_with_line_feed bs && false) ((b == 10) && f && false) (and_right ((b == 13) && begins_with_line_feed bs) false refl) (and_right ((b == 10) && f) false refl) in
    absurd (true≢false (sym e ∙ none))
flag_of_rest Cr f b q bs e =
    elim (or_cases ((b == 13) && begins_with_line_feed bs && false) ((b == 10) && f && true) e) [
      | inl first ↦ absurd (true≢false (sym first ∙ and_right ((b == 13) && begins_with_line_feed bs) false refl))
      | inr second ↦
          let feed = (and_parts (b == 10) f (and_parts ((b == 10) && f) true second).0).0 in
          let ten : b ≡ 10 = eqb-true b 10 feed in
          ap (λ c. unwanted_from q (c == 13) Cr bs) ten
    ]

taken : (text : List ℕ) (p : ℕ) → p < length text → slice_range text p (p + 1) ≡ get_or text p 0 ∷ []
taken text p h =
    let n : p + 1 - p ≡ 1 = omega arith in
    ap (λ k. take k (drop p text)) n ∙ ap (take 1) (drop_more text p 0 h)

take_out : (start : ℕ) (to : LineEnd) (text : List ℕ) (p : ℕ) → p < length text → (spare_return to text p || spare_feed start to text p) ≡ true
    → unwanted_since start to text p ≡ Delete p (slice_range text p (p + 1)) ∷ unwanted_in to (edited (Delete p (slice_range text p (p + 1))) text) p
take_out start to text p h spare =
    let b = get_or text p 0 in
    let rest = drop (p + 1) text in
    let unwanted : is_unwanted (follows_return start text p) to b rest ≡ true = sym (spare_is start to text p h) ∙ spare in
    let size : length (take p text) ≡ p = length-take-le p text (omega arith) in
    let behind : drop p (edited (Delete p (b ∷ [])) text) ≡ rest = drop_at (take p text) rest p size in
    split start to text p h ∙ ap (λ u. about to text p u) spare
    ∙ ap (λ t. Delete p (b ∷ []) ∷ t) (flag_of_rest to (follows_return start text p) b p rest unwanted)
    ∙ ap (λ t. Delete p (b ∷ []) ∷ unwanted_from p false to t) (sym behind)
    ∙ ap (λ bytes. Delete p bytes ∷ unwanted_in to (edited (Delete p bytes) text) p) (sym (taken text p h))

pub next_spare : (to : LineEnd) (text : List ℕ) (start p : ℕ) → start ≤ p → p < length text → unwanted_in to text start ≡ unwanted_since start to text p
    → (spare_return to text p || spare_feed start to text p) ≡ true → IsNextUnwanted to text start p
next_spare to text start p s h same spare = record { behind = s; within = h; steps = same ∙ take_out start to text p h spare }
