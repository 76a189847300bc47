-- The conversion of line ends to one kind, from a place of the text on.
use Rattle.std.specs.Prelude.{◌≡◌, ℕ, zero, suc, ◌+◌, ◌-◌, ◌<◌, ◌≤◌, ◌==◌, nat_lt, not, ◌&&◌, ◌||◌, Bool, true, false, List, [], ◌∷◌, ◌++◌, length, take, drop, slice_range}
use Rattle.ed_model.specs.declared.plan.LineEnd.{LineEnd}
use Rattle.ed_model.specs.Text.{line_feed, carriage_return, stands}
use Rattle.ed_model.specs.Steps.{Step, Insert, Delete, edited}
use Rattle.ed_model.specs.Edits.{stays_within}
use Rattle.ed_model.specs.LineEnds.{is_feed_foreign, is_return_foreign, is_feed_unwanted, is_return_unwanted, missing_from, unwanted_from, conversion_steps, converted, after_steps, line_end_bytes}

abbrev pub is_end : ℕ → Bool
is_end byte = byte == line_feed || byte == carriage_return

-- whether a CR stands right before the place, in the text from `start` on
abbrev pub follows_return : ℕ → List ℕ → ℕ → Bool
follows_return start text place = nat_lt start place && stands carriage_return text (place - 1)

-- the insertions from the place on
abbrev pub missing_in : LineEnd → List ℕ → ℕ → List Step
missing_in to text place = missing_from place (follows_return 0 text place) to (drop place text)

-- the deletions from the place on, as if the text began there
abbrev pub unwanted_in : LineEnd → List ℕ → ℕ → List Step
unwanted_in to text place = unwanted_from place false to (drop place text)

-- the text with the missing bytes inserted
abbrev pub completed : LineEnd → List ℕ → List ℕ
completed to text = after_steps (missing_from 0 false to text) text

-- whether a lone LF, or a lone CR, of an unwanted kind stands at the place
abbrev pub lone_feed : LineEnd → List ℕ → ℕ → Bool
lone_feed to text place = stands line_feed text place && not (follows_return 0 text place) && is_feed_foreign to

abbrev pub lone_return : LineEnd → List ℕ → ℕ → Bool
lone_return to text place =
    stands carriage_return text place && not (stands line_feed text (place + 1)) && is_return_foreign to

-- whether either stands at the place
abbrev pub lone_byte : LineEnd → List ℕ → ℕ → Bool
lone_byte to text place = lone_feed to text place || lone_return to text place

-- whether the CR, or the LF, of a CRLF stands at the place and is unwanted, in the text from `start` on
abbrev pub spare_return : LineEnd → List ℕ → ℕ → Bool
spare_return to text place =
    stands carriage_return text place && stands line_feed text (place + 1) && is_return_unwanted to

abbrev pub spare_feed : ℕ → LineEnd → List ℕ → ℕ → Bool
spare_feed start to text place = stands line_feed text place && follows_return start text place && is_feed_unwanted to

-- whether either stands at the place
abbrev pub spare_byte : ℕ → LineEnd → List ℕ → ℕ → Bool
spare_byte start to text place = spare_return to text place || spare_feed start to text place

-- the deletions from the place on, in the text from `start` on
abbrev pub unwanted_since : ℕ → LineEnd → List ℕ → ℕ → List Step
unwanted_since start to text place = unwanted_from place (follows_return start text place) to (drop place text)

-- the place is that of the first lone byte from `start` on
pub record IsNextLone (to : LineEnd) (text : List ℕ) (start place : ℕ) : Type 0 where
  pub behind : start ≤ place
  pub within : place < length text
  pub lone : lone_byte to text place ≡ true
  pub none_between : missing_in to text start ≡ missing_in to text place

-- the next step inserts this byte at this place; the steps behind it are those of the text with that byte
pub record IsNextMissing (to : LineEnd) (text : List ℕ) (start place byte : ℕ) : Type 0 where
  pub behind : start ≤ place
  pub within : place ≤ length text
  pub steps :
      missing_in to text start
      ≡ Insert place (byte ∷ []) ∷ missing_in to (edited (Insert place (byte ∷ [])) text) (place + 1)

-- the next step deletes the byte at this place; the steps behind it are those of the text without that byte
pub record IsNextUnwanted (to : LineEnd) (text : List ℕ) (start place : ℕ) : Type 0 where
  pub behind : start ≤ place
  pub within : place < length text
  pub steps :
      unwanted_in to text start
      ≡ Delete place (slice_range text place (place + 1))
      ∷ unwanted_in to (edited (Delete place (slice_range text place (place + 1))) text) place

-- whether the text has at most `limit` bytes after each step of its conversion
abbrev pub conversion_stays_within : (limit : ℕ) → LineEnd → List ℕ → Bool
conversion_stays_within limit to text = stays_within limit (length text) (conversion_steps to text)

-- For pastes: the bytes that replace a line end of so many bytes, where 0 stands for the end of the text.
abbrev pub end_bytes : ℕ → LineEnd → List ℕ
end_bytes zero to = []
end_bytes (suc count) to = line_end_bytes to

-- the text begins with `quiet` bytes, which a conversion leaves as they are, and a line end of `count` bytes
abbrev pub BeginsWithPiece : (quiet count : ℕ) → List ℕ → Type 0
BeginsWithPiece quiet count text =
    (to : LineEnd)
    → converted to text ≡ take quiet text ++ end_bytes count to ++ converted to (drop (quiet + count) text)
