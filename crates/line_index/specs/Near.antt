-- What a contract sees of `NearLines`.
use Rattle.std.specs.Prelude.{ℕ}

-- the lines of a place and of the two places behind it
pub record Near : Type 0 where
  pub at : ℕ
  pub one_behind : ℕ
  pub two_behind : ℕ
