-- Fold levels: those that are stored, and the base level behind them.
use Rattle.std.specs.Prelude.{ℕ, ◌+◌, ◌-◌, List, ◌++◌, length, replicate}
use Rattle.ed_model.specs.Rows.{base_level}

-- the levels of so many lines
abbrev pub all_levels : List ℕ → List ℕ → ℕ → List ℕ
all_levels before after lines = before ++ after ++ replicate (lines - (length before + length after)) base_level
