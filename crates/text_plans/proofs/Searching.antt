-- The flags of a search, and the range of a match.
use Rattle.std.proofs.Common.{◌≡◌, ℕ, ◌+◌, ◌-◌, ◌<◌, ◌^◌, min, Bool, true, false, cond, List, [], ◌∷◌, length, reverse, refl, sym, arith}
use Rattle.std.specs.Prelude.{ℤ, pos, negsuc, ◌==◌, nat_le, bit_and, Option, Some, None, find, IfSome}
use Rattle.std.proofs.lemmas.Nat.{and_le_r}
use Rattle.std.proofs.lemmas.Bool.Decides.{nat_tests}
use Rattle.ed_model.specs.Numbers.{within}
use Rattle.ed_model.specs.Matches.{match_in, is_match, starts_within}
use Rattle.ed_model.specs.TargetPlans.{search_flags}
use Rattle.message_requests.specs.proved.Ranges.{outside, found_in_range, found_back_in_range}

-- a number above all flags together has a bit that no flag has
too_great : (n : ℕ) → 0x100006 < n → (bit_and n 0x100006 == n) ≡ false
too_great n h = let least = and_le_r n 0x100006 in grind (arith, nat_tests)

pub flags_among : (w : ℤ) → within 0 0x100006 w ≡ None → search_flags w ≡ None
flags_among (negsuc n) e = refl
flags_among (pos n) e = rw (too_great n (outside 0x100006 n e)) refl

-- a match is within the range
pub match_bounded : (flags : ℕ) (text pattern : List ℕ) (from to : ℕ) (r : Option ℕ) → r ≡ match_in flags text pattern from to → from < 2 ^ 62 → to < 2 ^ 62
    → IfSome r (λ place. place + length pattern < 2 ^ 62)
match_bounded flags text pattern from to None e f t = tt
match_bounded flags text [] from to (Some place) e f t = let same : place ≡ min from to = cc in omega arith
match_bounded flags text (b ∷ bs) from to (Some place) e f t = go (nat_le from to) e
  where
    pattern : List ℕ
    pattern = b ∷ bs

    inside : (low high : ℕ) → high < 2 ^ 62 → place < (high + 1) - length pattern → place + length pattern < 2 ^ 62
    inside low high h p = omega arith

    go : (c : Bool) → Some place ≡ cond c (find (is_match flags text pattern) (starts_within from to (length pattern))) (find (is_match flags text pattern) (reverse (starts_within to from (length pattern)))) → place + length pattern < 2 ^ 62
    go true e = inside from to t (found_in_range (is_match flags text pattern) from ((to + 1) - (from + length pattern)) ((to + 1) - length pattern) place (λ some. omega arith) (sym e))
    go false e = inside to from f (found_back_in_range (is_match flags text pattern) to ((from + 1) - (to + length pattern)) ((from + 1) - length pattern) place (λ some. omega arith) (sym e))
