-- The effect of appending.
use Rattle.std.specs.Prelude.{◌≡◌, ℕ, ℤ, List, [], ◌∷◌, ◌++◌, Option, Some, None, Result, Ok, Err, flat_map, length, take, ◌<◌, ◌≤◌}
use Rattle.std.proofs.Common.{Bor}
use Rattle.std.specs.declared.alloc.AllocError.{AllocError}
use Rattle.ed_model.specs.Text.{line_feed}
use Rattle.ed_model.specs.Spelling.{space, spelled_int, spelled_bytes, spelled_text}

-- if an allocation failed, only a front part of the text may have been appended
pub record AppendsPart (old new text : List ℕ) : Type 0 where
  pub part : List ℕ
  pub left : List ℕ
  pub split : text ≡ part ++ left
  pub appended : new ≡ old ++ part

-- the text has been appended
abbrev pub Appends : List ℕ → List ℕ → List ℕ → Result (Unit {0}) AllocError → Type 0
Appends text old new (Ok done) = new ≡ old ++ text
Appends text old new (Err refused) = AppendsPart old new text

-- numbers, each after a space
abbrev pub number_fields : List ℤ → List ℕ
number_fields numbers = flat_map (λ z. space ∷ spelled_int z) numbers

-- a text after a space, if there is one
abbrev pub text_field : Option (List ℕ) → List ℕ
text_field None = []
text_field (Some text) = space ∷ spelled_text text

-- what follows the word of a line: numbers, a text and the LF
abbrev pub behind_word : List ℤ → Option (List ℕ) → List ℕ
behind_word numbers text = number_fields numbers ++ (text_field text ++ line_feed ∷ [])

-- a line: a word, numbers and a text
abbrev pub line_of : List ℕ → List ℤ → Option (List ℕ) → List ℕ
line_of word numbers text = word ++ behind_word numbers text

-- the text that is lent
abbrev pub lent_text : Option (Bor (List ℕ)) → Option (List ℕ)
lent_text None = None
lent_text (Some text) = Some text.now

-- the spelling of the first n bytes of the text has been appended
abbrev pub AppendsSome : List ℕ → List ℕ → List ℕ → Result ℕ AllocError → Type 0
AppendsSome text old new (Ok n) = (0 < n) × (n ≤ length text) × (new ≡ old ++ spelled_bytes (take n text))
AppendsSome text old new (Err refused) = AppendsPart old new (spelled_bytes text)
