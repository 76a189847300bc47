-- The front of a text's spelling.
use Rattle.std.specs.Prelude.{◌≡◌, ⊤, ℕ, ◌<◌, ◌≤◌, List, [], length, drop, Result, Ok, Err}
use Rattle.ed_types.specs.declared.script.Cause.TheVariants.{BadText}
use Rattle.ed_model.specs.Reading.{text_past, with_byte}
use Rattle.macro_script.specs.declared.stop.Stop.{Stop}
use Rattle.macro_script.specs.declared.stop.Stop.TheVariants.{Fault, OutOfMemory}
use Rattle.macro_script.specs.declared.texts.Front.{Front}
use Rattle.macro_script.specs.declared.texts.Front.TheVariants.{Closing, Byte, Wrong}

abbrev pub IsFront : List ℕ → Front → Type 0
IsFront text Closing = (0 < length text) × (text_past 0 text ≡ Ok ([], drop 1 text))
IsFront text (Byte byte len) = (0 < len) × (len ≤ length text) × (text_past 0 text ≡ with_byte byte (text_past 0 (drop len text)))
IsFront text Wrong = text_past 0 text ≡ Err BadText

-- the result of reading a text's spelling: the text, and the length of its spelling with the closing quote
abbrev pub ReadsText : List ℕ → Result (List ℕ × ℕ) Stop → Type 0
ReadsText spelling (Ok read) = (text_past 0 spelling ≡ Ok (read.0, drop read.1 spelling)) × (read.1 ≤ length spelling)
ReadsText spelling (Err (Fault cause)) = text_past 0 spelling ≡ Err cause
ReadsText spelling (Err OutOfMemory) = ⊤
