-- What a reply says.
use Rattle.std.specs.Prelude.{ℕ, ℤ, List}

-- A note as a view gets it, with its text. [Scintilla: notifications]
pub record Notice : Type 0 where
  pub view : ℕ
  pub code : ℕ
  pub kind : ℕ
  pub position : ℤ
  pub length : ℤ
  pub lines : ℤ
  pub line : ℤ
  pub now : ℤ
  pub prev : ℤ
  pub token : ℤ
  pub message : ℕ
  pub w : ℤ
  pub l : ℤ
  pub text : List ℕ

-- The answer to a message: a value, a text, and notes in the order in which the views get them.
pub record Response : Type 0 where
  pub value : ℤ
  pub text : List ℕ
  pub notes : List Notice
