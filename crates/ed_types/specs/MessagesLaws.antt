-- What the table of messages guarantees.
use Rattle.std.specs.Prelude.{◌≡◌, ℕ, Some}
use Rattle.ed_types.specs.declared.kind.Kind.{Kind}
use Rattle.ed_types.specs.Messages.{number_of, kind_of}

-- each kind is found by its number
abbrev pub EachKindIsFound : Type 0
EachKindIsFound = (kind : Kind) → kind_of (number_of kind) ≡ Some kind

-- no other number finds a kind
abbrev pub OnlyItsNumberFindsAKind : Type 0
OnlyItsNumberFindsAKind = (number : ℕ) (kind : Kind) → kind_of number ≡ Some kind → number_of kind ≡ number
