-- The last number before another that passes a test, part by part.
use Rattle.contraction.proofs.Names.{◌≡◌, ℕ, zero, suc, ◌+◌, ◌-◌, ◌<◌, ◌≤◌, ◌&&◌, nat_lt, List, length, slice_index, Bool, true, false, Option, Some, None, refl, sym, ap, ◌∙◌, arith, zero-add, level_number, is_header_level, base_level, heads, last_heading, HeadFrom}
use Rattle.std.proofs.lemmas.Bool.Decides.{nat_tests}
use Rattle.contraction.proofs.FoldLines.{last_before, last_here, last_earlier}

-- none of the numbers behind m passes
last_behind : (test : ℕ → Bool) (m d : ℕ) → ((k : ℕ) → m ≤ k → k < m + d → test k ≡ false) → last_before test (m + d) ≡ last_before test m
last_behind test m zero none = let e : m + zero ≡ m = omega arith in ap (last_before test) e
last_behind test m (suc d) none =
    last_earlier test (m + suc d) (m + d) (omega arith) (none (m + d) (omega arith) (omega arith))
    ∙ last_behind test m d (λ k a b. none k a (omega arith))

pub last_skipped : (test : ℕ → Bool) (m n : ℕ) → m ≤ n → ((k : ℕ) → m ≤ k → k < n → test k ≡ false) → last_before test n ≡ last_before test m
last_skipped test m n le none =
    let e : n ≡ m + (n - m) = omega arith in
    ap (last_before test) e ∙ last_behind test m (n - m) (λ k a b. none k a (omega arith))

-- what is found in a part that begins at f, or otherwise before it
abbrev pub in_part : ℕ → Option ℕ → Option ℕ → Option ℕ
in_part f None rest = rest
in_part f (Some i) rest = Some (f + i)

joined_more : (test part : ℕ → Bool) (f m : ℕ) → test (f + m) ≡ part m →
    last_before test (f + m) ≡ in_part f (last_before part m) (last_before test f) → (b : Bool) → part m ≡ b →
    last_before test (f + suc m) ≡ in_part f (last_before part (suc m)) (last_before test f)
joined_more test part f m at rest true e =
    last_here test (f + suc m) (f + m) (omega arith) (at ∙ e)
    ∙ sym (ap (λ o. in_part f o (last_before test f)) (last_here part (suc m) m (omega arith) e))
joined_more test part f m at rest false e =
    last_earlier test (f + suc m) (f + m) (omega arith) (at ∙ e) ∙ rest
    ∙ sym (ap (λ o. in_part f o (last_before test f)) (last_earlier part (suc m) m (omega arith) e))

last_joined : (test part : ℕ → Bool) (f m : ℕ) → ((k : ℕ) → k < m → test (f + k) ≡ part k) →
    last_before test (f + m) ≡ in_part f (last_before part m) (last_before test f)
last_joined test part f zero same = let e : f + zero ≡ f = omega arith in ap (last_before test) e
last_joined test part f (suc m) same =
    joined_more test part f m (same m (omega arith)) (last_joined test part f m (λ k a. same k (omega arith))) (part m) refl

-- two tests agree: the first part is all
last_same : (p q : ℕ → Bool) (n : ℕ) → ((k : ℕ) → k < n → p k ≡ q k) → last_before p n ≡ last_before q n
last_same p q n same =
    ap (last_before p) (sym (zero-add n)) ∙ last_joined p q 0 n (λ k a. ap p (zero-add k) ∙ same k a) ∙ whole (last_before q n)
  where
    whole : (o : Option ℕ) → in_part 0 o None ≡ o
    whole None = refl
    whole (Some i) = ap Some (zero-add i)

-- the last header with a smaller number before a line, by the stored levels
pub heading_of_parts : (number line : ℕ) (levels first others : List ℕ) → length first + length others ≤ line →
    ((k : ℕ) → k < length first → slice_index levels k ≡ slice_index first k) →
    ((k : ℕ) → k < length others → slice_index levels (length first + k) ≡ slice_index others k) →
    ((k : ℕ) → length first + length others ≤ k → k < line → slice_index levels k ≡ base_level) →
    last_heading number levels line ≡ in_part (length first) (last_heading number others (length others)) (last_heading number first (length first))
heading_of_parts number line levels first others within in_first in_others base =
    last_skipped (λ k. heads number (slice_index levels k)) (length first + length others) line within (λ k a b. ap (heads number) (base k a b))
    ∙ last_joined (λ k. heads number (slice_index levels k)) (λ k. heads number (slice_index others k)) (length first) (length others) (λ k a. ap (heads number) (in_others k a))
    ∙ ap (in_part (length first) (last_heading number others (length others)))
    (last_same (λ k. heads number (slice_index levels k)) (λ k. heads number (slice_index first k)) (length first) (λ k a. ap (heads number) (in_first k a)))

-- a level that is not that of a header with a smaller number than one is none for a lesser one
less_heads : (header : Bool) (n number less : ℕ) → less ≤ number → (header && nat_lt n number) ≡ false → (header && nat_lt n less) ≡ false
less_heads header n number less le e = grind (arith, nat_tests)

-- there is none if no header has a smaller number
pub none_from : (number least line : ℕ) (levels : List ℕ) → line ≤ length levels → number ≤ least → HeadFrom least levels → last_heading number levels line ≡ None
none_from number least line levels within le all =
    last_skipped (λ k. heads number (slice_index levels k)) 0 line (omega arith) (λ k a b. less_heads (is_header_level (slice_index levels k)) (level_number (slice_index levels k)) least number le (all k 0 (omega (arith, within, b))))
