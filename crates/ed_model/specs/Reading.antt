-- The script that a text spells, or the number of the first line with a fault and the line's first fault. The text is read line
-- by line, and a line field by field, from left to right. [own]
use Rattle.std.specs.Prelude.{ℕ, zero, suc, ◌+◌, ◌-◌, ◌*◌, ◌^◌, ◌==◌, ◌&&◌, nat_lt, Bool, if◌then◌else◌, List, [], ◌∷◌, length, drop, ℤ, pos, neg_ℤ, slice_index, bytes_eq, codes, Option, Some, None, ok_or, Result, Ok, Err}
use Rattle.std.specs.List.{slice_split, before_first, starts_with}
use Rattle.std.specs.Str.Parse.{digits_value}
use Rattle.std.specs.Prelude.{nat_eq}
use Rattle.ed_types.specs.declared.script.Command.{Command}
use Rattle.ed_types.specs.declared.script.Command.TheVariants.{OpenView, CloseView, LoadFile, SendMessage, Expect}
use Rattle.ed_types.specs.declared.script.Cause.{Cause}
use Rattle.ed_types.specs.declared.script.Cause.TheVariants.{LineTooLong, NoLineEnd, BadVersion, UnknownCommand, BadShape, BadNumber, BadText}
use Rattle.ed_types.specs.declared.script.ScriptFault.{ScriptFault}
use Rattle.ed_types.specs.declared.script.ScriptFault.TheVariants.{TooLong, BadLine}
use Rattle.ed_model.specs.Text.{line_feed}
use Rattle.ed_model.specs.Spelling.{space, quote, backslash, spelled, spelled_int, spelled_byte, hex_value, is_64_bits}
use Rattle.ed_model.specs.Listing.{version_line, fits_line, fits_script}

-- continues with the value of an Ok; an Err stays
infixl 10 ◌>>=◌
abbrev pub ◌>>=◌ : {A B E : Type 0} → Result A E → (A → Result B E) → Result B E
Ok value >>= more = more value
Err fault >>= more = Err fault

-- Numbers. A word is a number if it is the spelling of the number that its digits give.

abbrev pub natural : List ℕ → Option ℕ
natural word = let n = digits_value 10 word in
    if nat_lt n (2 ^ 32) && bytes_eq word (spelled n) then Some n else None

-- the number that a word's digits give; a leading `-` makes it negative
abbrev pub signed_value : List ℕ → ℤ
signed_value word = if slice_index word 0 == 0x2D then neg_ℤ (pos (digits_value 10 (drop 1 word))) else pos (digits_value 10 word)

abbrev pub integer : List ℕ → Option ℤ
integer word = let z = signed_value word in
    if is_64_bits z && bytes_eq word (spelled_int z) then Some z else None

-- Texts. A byte is read if its spelling is next.

-- the byte that the next bytes spell if they are a spelling: after `\x` the one with these two digits, after `\` the byte itself
abbrev pub front_byte : List ℕ → ℕ
front_byte text =
    if slice_index text 0 == backslash then
    (if slice_index text 1 == 0x78 then 16 * hex_value (slice_index text 2) + hex_value (slice_index text 3) else slice_index text 1)
    else slice_index text 0

abbrev pub spells_front : List ℕ → ℕ → Bool
spells_front text b = nat_lt b 256 && starts_with nat_eq text (spelled_byte b)

-- the text that was read, with this byte before it
abbrev pub with_byte : ℕ → Result (List ℕ × List ℕ) Cause → Result (List ℕ × List ℕ) Cause
with_byte b read = do
  (text, rest) ← read
  Ok (b ∷ text, rest)

-- The text up to its closing quote, and the rest of the line. The first `passed` bytes belong to a spelling that was read already.
abbrev pub text_past : ℕ → List ℕ → Result (List ℕ × List ℕ) Cause
text_past passed [] = Err BadText
text_past (suc passed) (b ∷ bs) = text_past passed bs
text_past zero (b ∷ bs) =
    let front = front_byte (b ∷ bs) in
    let read = with_byte front (text_past (length (spelled_byte front) - 1) bs) in
    if b == quote then Ok ([], bs) else (if spells_front (b ∷ bs) front then read else Err BadText)

-- Fields. One space precedes each field; reading a field leaves the rest of the line.

abbrev pub behind : ℕ → List ℕ → Result (List ℕ) Cause
behind c [] = Err BadShape
behind c (b ∷ bs) = if b == c then Ok bs else Err BadShape

-- the bytes up to the next space or the end of the line, and the rest of the line
abbrev pub word_of : List ℕ → List ℕ
word_of line = before_first (λ b. b == space) line

abbrev pub behind_word : List ℕ → List ℕ
behind_word line = drop (length (word_of line)) line

abbrev pub not_empty : List ℕ → Result (List ℕ) Cause
not_empty [] = Err BadShape
not_empty (b ∷ bs) = Ok (b ∷ bs)

-- the word after one space, up to the next space or the end of the line
abbrev pub word_field : List ℕ → Result (List ℕ × List ℕ) Cause
word_field line = do
  fields ← behind space line
  word ← not_empty (word_of fields)
  Ok (word, behind_word fields)

abbrev pub number_field : {T : Type 0} → (List ℕ → Option T) → List ℕ → Result (T × List ℕ) Cause
number_field number line = do
  (word, rest) ← word_field line
  value ← ok_or (number word) BadNumber
  Ok (value, rest)

abbrev pub text_field : List ℕ → Result (List ℕ × List ℕ) Cause
text_field line = do
  field ← behind space line
  text ← behind quote field
  text_past 0 text

-- the command, if nothing follows it on the line
abbrev pub ended : Command → List ℕ → Result Command Cause
ended command [] = Ok command
ended command (b ∷ bs) = Err BadShape

-- Lines. The bytes up to the first space name the command.

pub data Verb : Type 0 where
  opens closes loads sends expects : Verb

abbrev pub verb_in : List (List ℕ × Verb) → List ℕ → Option Verb
verb_in [] word = None
verb_in (entry ∷ entries) word = if bytes_eq word entry.0 then Some entry.1 else verb_in entries word

abbrev pub verbs : List (List ℕ × Verb)
verbs = (codes "open", opens) ∷ (codes "close", closes) ∷ (codes "load", loads) ∷ (codes "send", sends) ∷ []

abbrev pub verbs_of : ℕ → List (List ℕ × Verb)
verbs_of version = if version == 2 then (codes "expect", expects) ∷ verbs else verbs

abbrev pub command_of : Verb → List ℕ → Result Command Cause
command_of opens line = ended OpenView line
command_of closes line = do
  (view, rest) ← number_field natural line
  ended (CloseView view) rest
command_of loads line = do
  (view, fields) ← number_field natural line
  (file, rest) ← number_field natural fields
  ended (LoadFile view file) rest
command_of sends line = do
  (view, fields) ← number_field natural line
  (number, arguments) ← number_field natural fields
  (w, argument) ← number_field integer arguments
  (l, field) ← number_field integer argument
  (text, rest) ← text_field field
  ended (SendMessage view (record { number = number; w = w; l = l; text = text })) rest
command_of expects line = do
  (value, rest) ← number_field integer line
  ended (Expect value) rest

abbrev pub read_command : ℕ → List ℕ → Result Command Cause
read_command version line = do
  verb ← ok_or (verb_in (verbs_of version) (word_of line)) UnknownCommand
  command_of verb (behind_word line)

-- the version that the first line names
abbrev pub read_version : List ℕ → Result ℕ Cause
read_version line = if bytes_eq line (version_line 1) then Ok 1 else (if bytes_eq line (version_line 2) then Ok 2 else Err BadVersion)

-- Whole texts.

-- the result of a line, unless the line is too long
abbrev pub at_line : {T : Type 0} → ℕ → List ℕ → Result T Cause → Result T ScriptFault
at_line number line (Ok value) = if fits_line line then Ok value else Err (BadLine number LineTooLong)
at_line number line (Err cause) = Err (BadLine number (if fits_line line then cause else LineTooLong))

-- The commands of the lines, of which the first has this number. The part after the last LF is no line, and must be empty.
abbrev pub read_lines : ℕ → ℕ → List (List ℕ) → Result (List Command) ScriptFault
read_lines version number [] = Ok []
read_lines version number ([] ∷ []) = Ok []
read_lines version number ((b ∷ bs) ∷ []) = at_line number (b ∷ bs) (Err NoLineEnd)
read_lines version number (line ∷ next ∷ lines) = do
  command ← at_line number line (read_command version line)
  commands ← read_lines version (number + 1) (next ∷ lines)
  Ok (command ∷ commands)

abbrev pub read_script : List (List ℕ) → Result (List Command) ScriptFault
read_script [] = Err (BadLine 1 NoLineEnd)
read_script (line ∷ []) = at_line 1 line (Err NoLineEnd)
read_script (line ∷ next ∷ lines) = do
  version ← at_line 1 line (read_version line)
  read_lines version 2 (next ∷ lines)

-- the script that a text spells, or its first fault
abbrev pub reading : List ℕ → Result (List Command) ScriptFault
reading text = if fits_script text then read_script (slice_split (λ b. b == line_feed) text) else Err TooLong
