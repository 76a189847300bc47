-- What is searched for, and where.
use Rattle.std.specs.Prelude.{◌≡◌, ℕ, ◌+◌, ◌-◌, ◌<◌, Bool, false, List, ◌++◌, length}
use Rattle.std.specs.Int.{bit_at}
use Rattle.ed_model.specs.Matches.{is_match}
use Rattle.target_search.specs.declared.search.Search.{Search}

abbrev pub text_of : Search → List ℕ
text_of search = search.before.now ++ search.after.now

abbrev pub size_of : Search → ℕ
size_of search = length search.pattern.now

-- whether a match begins at the place
abbrev pub is_match_of : Search → ℕ → Bool
is_match_of search place = is_match search.flags (text_of search) search.pattern.now place

-- the place behind the last one at which a match can begin in a part of the text
abbrev pub end_in : Search → List ℕ → ℕ → ℕ
end_in search part offset = offset + length part + 1 - size_of search

-- of the 64 places from this one on, only those whose bit is set can begin a match
abbrev pub MarksMatches : Search → ℕ → ℕ → Type 0
MarksMatches search place marks = (k : ℕ) → k < 64 → bit_at marks k ≡ 0 → is_match_of search (place + k) ≡ false
