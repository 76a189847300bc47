-- The range that a fill changes, before it is changed.
use Rattle.std.specs.Prelude.{◌≡◌, ◌≢◌, ℕ, ◌-◌, ◌<◌, ◌≤◌, List, Some, length, slice_get}
use Rattle.run_styles.specs.Runs.{filled}

-- It suffices to set the values between the two ends, and neither the first of these has the value already nor the last.
pub record IsTrimmed {V : Type 0} (xs : List V) (place count : ℕ) (x : V) (ends : ℕ × ℕ) : Type 0 where
  pub some : ends.0 < ends.1
  pub within : ends.1 ≤ length xs
  pub enough : filled xs place count x ≡ filled xs ends.0 (ends.1 - ends.0) x
  pub first : slice_get xs ends.0 ≢ Some x
  pub last : slice_get xs (ends.1 - 1) ≢ Some x
