-- Names of refusals.
use Rattle.std.specs.Prelude.{ℕ, ◌==◌, if◌then◌else◌, List, [], ◌∷◌, ◌++◌, codes}

-- a name as a string of C: a NUL closes it
abbrev pub closed : List ℕ → List ℕ
closed name = name ++ (0 ∷ [])

abbrev pub closed_name : ℕ → List ℕ
closed_name n =
    if n == 0 then closed (codes "done")
    else if n == 1 then closed (codes "out of memory")
    else if n == 2 then closed (codes "no such view")
    else if n == 3 then closed (codes "unknown message")
    else if n == 4 then closed (codes "no such document")
    else if n == 5 then closed (codes "text too long")
    else if n == 6 then closed (codes "bad argument")
    else if n == 7 then closed (codes "too many")
    else closed (codes "unknown refusal")
