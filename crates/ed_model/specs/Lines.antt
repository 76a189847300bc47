-- Lines of a text, each known by its start, a position in bytes. [Scintilla: line ends; Unicode newline guidelines]
use Rattle.std.specs.Prelude.{ℕ, ◌+◌, ◌-◌, Bool, true, false, not, ◌&&◌, ◌||◌, ◌==◌, nat_le, nat_lt, if◌then◌else◌, List, length, filter, count_by, slice_get, slice_index, unwrap_or}
use Rattle.std.specs.List.{range_with_len}
use Rattle.ed_model.specs.declared.plan.LineEndTypes.{LineEndTypes}
use Rattle.ed_model.specs.declared.plan.LineEndTypes.TheVariants.{Default, Unicode}
use Rattle.ed_model.specs.Text.{stands, line_feed, carriage_return}

abbrev pub knows_unicode : LineEndTypes → Bool
knows_unicode Default = false
knows_unicode Unicode = true

-- whether the bytes of U+0085, U+2028 or U+2029 end at p
abbrev pub unicode_end_before : List ℕ → ℕ → Bool
unicode_end_before text p =
    (stands 0x85 text (p - 1) && stands 0xC2 text (p - 2))
    || ((stands 0xA8 text (p - 1) || stands 0xA9 text (p - 1)) && stands 0x80 text (p - 2) && stands 0xE2 text (p - 3))

-- whether a line end ends at p: an LF, a CR that no LF follows, or, if the document allows them, one of Unicode's
abbrev pub line_end_before : LineEndTypes → List ℕ → ℕ → Bool
line_end_before types text p =
    stands line_feed text (p - 1)
    || (stands carriage_return text (p - 1) && not (stands line_feed text p))
    || (knows_unicode types && unicode_end_before text p)

-- whether a line starts at p
abbrev pub is_line_start : LineEndTypes → List ℕ → ℕ → Bool
is_line_start types text p = p == 0 || line_end_before types text p

-- the starts of all lines, in order
abbrev pub line_starts : LineEndTypes → List ℕ → List ℕ
line_starts types text = filter (is_line_start types text) (range_with_len 0 (length text + 1))

-- the line that contains position p: the number of starts that are at most p, minus one
abbrev pub line_of : List ℕ → ℕ → ℕ
line_of starts p = count_by (λ s. nat_le s p) starts - 1

abbrev pub line_count : LineEndTypes → List ℕ → ℕ
line_count types text = length (line_starts types text)

abbrev pub start_of_line : LineEndTypes → List ℕ → ℕ → ℕ
start_of_line types text line = slice_index (line_starts types text) line

-- the start of the next line, or the text's length for the last line
abbrev pub start_after_line : LineEndTypes → List ℕ → ℕ → ℕ
start_after_line types text line = unwrap_or (slice_get (line_starts types text) (line + 1)) (length text)

-- the length in bytes of the line end before the line start p
abbrev pub line_end_length : List ℕ → ℕ → ℕ
line_end_length text p =
    if stands line_feed text (p - 1) then (if stands carriage_return text (p - 2) then 2 else 1)
    else (if stands carriage_return text (p - 1) then 1 else (if stands 0x85 text (p - 1) then 2 else 3))

-- the position before the line's line end, or the end of the text for the last line (SCI_GETLINEENDPOSITION)
abbrev pub end_of_line : LineEndTypes → List ℕ → ℕ → ℕ
end_of_line types text line =
    if nat_lt (line + 1) (line_count types text)
    then start_after_line types text line - line_end_length text (start_after_line types text line)
    else length text
