-- The character at a place, determined by the bytes around it.
use Rattle.std.specs.Prelude.{ℕ, ◌+◌, ◌-◌, nat_le, nat_lt, ◌&&◌, if◌then◌else◌, Bool, List, drop}
use Rattle.ed_model.specs.Characters.{character_length}

-- whether a character begins `back` bytes before the place and reaches past it
abbrev pub reaches : List ℕ → ℕ → ℕ → Bool
reaches text place back = nat_le back place && nat_lt back (character_length (drop (place - back) text))

-- how many bytes before the place the character begins that the byte there belongs to
abbrev pub bytes_back : List ℕ → ℕ → ℕ
bytes_back text place = if reaches text place 1 then 1 else (if reaches text place 2 then 2 else (if reaches text place 3 then 3 else 0))

abbrev pub start_of : List ℕ → ℕ → ℕ
start_of text place = place - bytes_back text place

-- where that character ends
abbrev pub end_of : List ℕ → ℕ → ℕ
end_of text place = start_of text place + character_length (drop (start_of text place) text)
