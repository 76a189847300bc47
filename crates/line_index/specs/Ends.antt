-- The bytes of line ends.
use Rattle.std.specs.Prelude.{ℕ, Bool, ◌==◌, ◌||◌, ◌&&◌, not, if◌then◌else◌}
use Rattle.ed_model.specs.declared.plan.LineEndTypes.{LineEndTypes}
use Rattle.ed_model.specs.Lines.{knows_unicode}
use Rattle.ed_model.specs.Text.{line_feed, carriage_return}

-- whether the byte is the last one of a line end
abbrev pub may_end : LineEndTypes → ℕ → Bool
may_end types byte = byte == line_feed || byte == carriage_return || (knows_unicode types && (byte == 0x85 || byte == 0xA8 || byte == 0xA9))

-- 1 if a line ends with the byte, by the two bytes before it and the one behind, and line ends of Unicode count
abbrev pub ends_with : ℕ → ℕ → ℕ → ℕ → ℕ
ends_with third second byte next =
    if byte == line_feed || (byte == carriage_return && not (next == line_feed))
    || ((byte == 0x85 && second == 0xC2) || ((byte == 0xA8 || byte == 0xA9) && second == 0x80 && third == 0xE2))
    then 1 else 0
