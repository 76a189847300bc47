-- Rising numbers by their index.
use Rattle.std.proofs.Common.{◌≡◌, ℕ, ◌+◌, ◌-◌, ◌<◌, ◌≤◌, zero, suc, List, length, get_or, arith}
use Rattle.std.specs.List.Sorted.{IsStrictlyIncreasing}

-- a later number is above an earlier one by their distance at least
rising_by : (s : List ℕ) → IsStrictlyIncreasing s → (d j k : ℕ) → j + d ≡ k → k < length s → get_or s j 0 + d ≤ get_or s k 0
rising_by s r zero j k e l = let same : j ≡ k = omega arith in rw same (omega arith)
rising_by s r (suc d) j k e l = omega (arith, r j (omega arith), rising_by s r d (j + 1) k (omega arith) l)

pub rising_to : (s : List ℕ) → IsStrictlyIncreasing s → (j k : ℕ) → j ≤ k → k < length s → get_or s j 0 + (k - j) ≤ get_or s k 0
rising_to s r j k h l = rising_by s r (k - j) j k (omega arith) l
