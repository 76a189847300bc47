-- The texts of notes in their pool.
use Rattle.std.specs.Prelude.{ℕ, ◌≤◌, List, [], ◌∷◌}
use Rattle.ed_types.specs.declared.reply.Note.{Note}

-- no note's text ends past this place
abbrev pub EndWithin : ℕ → List Note → Type 0
EndWithin end [] = Unit {0}
EndWithin end (n ∷ ns) = (n.text.end ≤ end) × EndWithin end ns
