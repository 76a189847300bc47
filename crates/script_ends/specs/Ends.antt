-- How readers and writers report their failures, and the results of many calls.
use Rattle.std.specs.Prelude.{◌≡◌, ℕ, ◌≤◌, ◌&&◌, ◌==◌, nat_lt, if◌then◌else◌, Bool, true, false, List, ◌++◌, length, take, Option, IfSome, Result, Ok, Err}
use Rattle.std.specs.Io.KnownBytes.{Appends, Consumes}
use Rattle.script_ends.specs.declared.ends.ReadFailed.{ReadFailed}
use Rattle.script_ends.specs.declared.ends.WriteFailed.{WriteFailed}

-- a read that returns an error has failed
abbrev pub ReadTells : Bool → Bool → Result ℕ ReadFailed → Type 0
ReadTells old new (Ok count) = new ≡ old
ReadTells old new (Err failed) = new ≡ true

-- a write that returns an error has failed, and so has one that takes none of some bytes
abbrev pub WriteTells : Bool → Bool → Result ℕ WriteFailed → List ℕ → Type 0
WriteTells old new (Ok count) bytes = new ≡ (if count == 0 && nat_lt 0 (length bytes) then true else old)
WriteTells old new (Err failed) bytes = new ≡ true

-- at most so many bytes were read from the source
pub record TakesAtMost (limit : ℕ) (old new : Option (List ℕ)) : Type 0 where
  pub taken : List ℕ
  pub consumed : Consumes old new taken
  pub few : length taken ≤ limit

-- the text is the first `count` bytes that the source had, or all if it had fewer; said only if they are known
abbrev pub AreFirstBytes : ℕ → Option (List ℕ) → List ℕ → Type 0
AreFirstBytes count source text = IfSome source (λ bytes. text ≡ take count bytes)

-- a front part of a text was written, and nothing else
pub record AppendsFront (old new : Option (List ℕ)) (text : List ℕ) : Type 0 where
  pub front : List ℕ
  pub left : List ℕ
  pub split : text ≡ front ++ left
  pub appended : Appends old new front

-- the bytes were written; if a write failed, a part of them
abbrev pub WritesAll : List ℕ → Option (List ℕ) → Option (List ℕ) → Result (Unit {0}) WriteFailed → Type 0
WritesAll bytes old new (Ok done) = Appends old new bytes
WritesAll bytes old new (Err failed) = AppendsFront old new bytes

-- whether a write has failed, after all of them
abbrev pub WriteEnds : Result (Unit {0}) WriteFailed → Bool → Type 0
WriteEnds (Ok done) writer = writer ≡ false
WriteEnds (Err failed) writer = writer ≡ true
