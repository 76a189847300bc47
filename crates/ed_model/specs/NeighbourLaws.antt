-- Laws of line starts near a step: which starts stay, which move, and which
-- places must be tested again. Only the bytes near the step matter.
use Rattle.std.specs.Prelude.{ℕ, ◌+◌, ◌-◌, min, nat_le, nat_lt, List, ◌++◌, length, map, filter, count_by, slice_range}
use Rattle.std.specs.List.{range_with_len}
use Rattle.ed_model.specs.declared.plan.LineEndTypes.{LineEndTypes}
use Rattle.ed_model.specs.Lines.{is_line_start}

-- the bytes near a change that replaces the range from `start` to `end` by `bytes`: these bytes, and up to three on each side
abbrev pub bytes_about : ℕ → ℕ → List ℕ → List ℕ → List ℕ
bytes_about start end bytes text = slice_range text (start - min start 3) start ++ bytes ++ slice_range text end (end + 3)

-- the line starts from `start` to three bytes after the inserted bytes, found from those bytes alone
abbrev pub starts_about : LineEndTypes → ℕ → ℕ → List ℕ → List ℕ → List ℕ
starts_about types start end bytes text =
    map (λ place. (start - min start 3) + place)
    (filter (is_line_start types (bytes_about start end bytes text)) (range_with_len (min start 3) (length bytes + 3)))

-- the line starts before a place, and those at or after it
abbrev pub starts_before : ℕ → List ℕ → List ℕ
starts_before place starts = filter (λ start. nat_lt start place) starts

abbrev pub starts_from : ℕ → List ℕ → List ℕ
starts_from place starts = filter (λ start. nat_le place start) starts

-- the number of line starts before a place
abbrev pub count_before : ℕ → List ℕ → ℕ
count_before place starts = count_by (λ start. nat_lt start place) starts
