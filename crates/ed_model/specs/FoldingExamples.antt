-- Worked examples, written by tools/pages/example_theorems.py from examples/messages.
use Rattle.std.specs.Prelude.{[], ◌∷◌, codes}
use Rattle.ed_model.specs.Prints.{Prints, joined_lines}

abbrev pub Folding : Type 0
Folding = Prints ([])
    (joined_lines (
    codes "sci 1" ∷
    codes "open" ∷
    codes "send 1 2003 0 0 \"a\\x0ab\\x0ac\\x0ad\"" ∷
    codes "send 1 2222 0 9216 \"\"" ∷
    codes "send 1 2222 1 9217 \"\"" ∷
    codes "send 1 2222 2 1026 \"\"" ∷
    codes "send 1 2222 3 1025 \"\"" ∷
    codes "send 1 2237 1 0 \"\"" ∷
    codes "send 1 2237 0 0 \"\"" ∷
    codes "send 1 2237 0 1 \"\"" ∷
    codes "send 1 2228 0 0 \"\"" ∷
    codes "send 1 2228 1 0 \"\"" ∷
    codes "send 1 2228 2 0 \"\"" ∷
    codes "send 1 2228 3 0 \"\"" ∷
    codes "send 1 2220 2 0 \"\"" ∷
    codes "send 1 2221 3 0 \"\"" ∷
    codes "send 1 2232 2 0 \"\"" ∷
    codes "send 1 2228 0 0 \"\"" ∷
    codes "send 1 2228 1 0 \"\"" ∷
    codes "send 1 2228 2 0 \"\"" ∷
    codes "send 1 2228 3 0 \"\"" ∷
    []))
    (joined_lines (
    codes "= 1 \"\"" ∷
    codes "= 0 \"\"" ∷
    codes "@ 1 2008 1040 0 7 0 0 0 0 0 0 0 0 \"a\\x0ab\\x0ac\\x0ad\"" ∷
    codes "@ 1 2003 0 0 0 0 0 0 0 0 0 0 0 \"\"" ∷
    codes "@ 1 2008 8209 0 7 3 0 0 0 0 0 0 0 \"a\\x0ab\\x0ac\\x0ad\"" ∷
    codes "= 0 \"\"" ∷
    codes "@ 1 2008 8 0 0 0 0 9216 1024 0 0 0 0 \"\"" ∷
    codes "= 0 \"\"" ∷
    codes "@ 1 2008 8 0 0 0 1 9217 1024 0 0 0 0 \"\"" ∷
    codes "= 0 \"\"" ∷
    codes "@ 1 2008 8 0 0 0 2 1026 1024 0 0 0 0 \"\"" ∷
    codes "= 0 \"\"" ∷
    codes "@ 1 2008 8 0 0 0 3 1025 1024 0 0 0 0 \"\"" ∷
    codes "= 0 \"\"" ∷
    codes "= 0 \"\"" ∷
    codes "= 0 \"\"" ∷
    codes "= 1 \"\"" ∷
    codes "= 1 \"\"" ∷
    codes "= 0 \"\"" ∷
    codes "= 1 \"\"" ∷
    codes "= 1 \"\"" ∷
    codes "= 4 \"\"" ∷
    codes "= 0 \"\"" ∷
    codes "= 1 \"\"" ∷
    codes "= 1 \"\"" ∷
    codes "= 1 \"\"" ∷
    codes "= 1 \"\"" ∷
    []))

abbrev pub HiddenLines : Type 0
HiddenLines = Prints ([])
    (joined_lines (
    codes "sci 1" ∷
    codes "open" ∷
    codes "send 1 2003 0 0 \"a\\x0ab\\x0ac\\x0ad\"" ∷
    codes "send 1 2227 0 9 \"\"" ∷
    codes "send 1 2228 0 0 \"\"" ∷
    codes "send 1 2228 1 0 \"\"" ∷
    codes "send 1 2228 2 0 \"\"" ∷
    codes "send 1 2228 3 0 \"\"" ∷
    codes "send 1 2236 0 0 \"\"" ∷
    codes "send 1 2220 3 0 \"\"" ∷
    codes "send 1 2221 1 0 \"\"" ∷
    codes "send 1 2226 1 2 \"\"" ∷
    codes "send 1 2221 2 0 \"\"" ∷
    []))
    (joined_lines (
    codes "= 1 \"\"" ∷
    codes "= 0 \"\"" ∷
    codes "@ 1 2008 1040 0 7 0 0 0 0 0 0 0 0 \"a\\x0ab\\x0ac\\x0ad\"" ∷
    codes "@ 1 2003 0 0 0 0 0 0 0 0 0 0 0 \"\"" ∷
    codes "@ 1 2008 8209 0 7 3 0 0 0 0 0 0 0 \"a\\x0ab\\x0ac\\x0ad\"" ∷
    codes "= 0 \"\"" ∷
    codes "= 1 \"\"" ∷
    codes "= 0 \"\"" ∷
    codes "= 0 \"\"" ∷
    codes "= 0 \"\"" ∷
    codes "= 0 \"\"" ∷
    codes "= 0 \"\"" ∷
    codes "= 4 \"\"" ∷
    codes "= 0 \"\"" ∷
    codes "= 2 \"\"" ∷
    []))

abbrev pub HiddenLinesInRange : Type 0
HiddenLinesInRange = Prints ([])
    (joined_lines (
    codes "sci 1" ∷
    codes "open" ∷
    codes "send 1 2003 0 0 \"a\\x0ab\\x0ac\\x0ad\"" ∷
    codes "send 1 2227 0 3 \"\"" ∷
    codes "send 1 2228 0 0 \"\"" ∷
    codes "send 1 2228 1 0 \"\"" ∷
    codes "send 1 2228 2 0 \"\"" ∷
    codes "send 1 2228 3 0 \"\"" ∷
    codes "send 1 2236 0 0 \"\"" ∷
    codes "send 1 2220 3 0 \"\"" ∷
    codes "send 1 2221 1 0 \"\"" ∷
    codes "send 1 2226 1 2 \"\"" ∷
    codes "send 1 2221 2 0 \"\"" ∷
    []))
    (joined_lines (
    codes "= 1 \"\"" ∷
    codes "= 0 \"\"" ∷
    codes "@ 1 2008 1040 0 7 0 0 0 0 0 0 0 0 \"a\\x0ab\\x0ac\\x0ad\"" ∷
    codes "@ 1 2003 0 0 0 0 0 0 0 0 0 0 0 \"\"" ∷
    codes "@ 1 2008 8209 0 7 3 0 0 0 0 0 0 0 \"a\\x0ab\\x0ac\\x0ad\"" ∷
    codes "= 0 \"\"" ∷
    codes "= 1 \"\"" ∷
    codes "= 0 \"\"" ∷
    codes "= 0 \"\"" ∷
    codes "= 0 \"\"" ∷
    codes "= 0 \"\"" ∷
    codes "= 0 \"\"" ∷
    codes "= 4 \"\"" ∷
    codes "= 0 \"\"" ∷
    codes "= 2 \"\"" ∷
    []))

abbrev pub FoldStructure : Type 0
FoldStructure = Prints ([])
    (joined_lines (
    codes "sci 1" ∷
    codes "open" ∷
    codes "send 1 2003 0 0 \"a\\x0ab\\x0ac\\x0ad\\x0ae\\x0af\"" ∷
    codes "send 1 2222 0 9216 \"\"" ∷
    codes "send 1 2222 1 9217 \"\"" ∷
    codes "send 1 2222 2 5122 \"\"" ∷
    codes "send 1 2222 3 1026 \"\"" ∷
    codes "send 1 2222 4 1025 \"\"" ∷
    codes "send 1 2222 5 1024 \"\"" ∷
    codes "send 1 2224 0 -1 \"\"" ∷
    codes "send 1 2224 1 -1 \"\"" ∷
    codes "send 1 2224 4 -1 \"\"" ∷
    codes "send 1 2224 0 1025 \"\"" ∷
    codes "send 1 2224 0 0 \"\"" ∷
    codes "send 1 2224 9 -1 \"\"" ∷
    codes "send 1 2224 0 -2 \"\"" ∷
    codes "send 1 2225 0 0 \"\"" ∷
    codes "send 1 2225 2 0 \"\"" ∷
    codes "send 1 2225 4 0 \"\"" ∷
    codes "send 1 2225 5 0 \"\"" ∷
    codes "send 1 2225 -1 0 \"\"" ∷
    codes "send 1 2231 3 0 \"\"" ∷
    codes "send 1 2228 2 0 \"\"" ∷
    codes "send 1 2228 4 0 \"\"" ∷
    codes "send 1 2230 1 0 \"\"" ∷
    codes "send 1 2229 1 1 \"\"" ∷
    codes "send 1 2228 2 0 \"\"" ∷
    codes "send 1 2237 0 0 \"\"" ∷
    codes "send 1 2236 0 0 \"\"" ∷
    codes "send 1 2220 5 0 \"\"" ∷
    codes "send 1 2221 1 0 \"\"" ∷
    codes "send 1 2237 0 1 \"\"" ∷
    codes "send 1 2236 0 0 \"\"" ∷
    codes "send 1 2237 5 0 \"\"" ∷
    codes "send 1 2237 0 3 \"\"" ∷
    codes "send 1 2232 2 0 \"\"" ∷
    codes "send 1 2236 0 0 \"\"" ∷
    []))
    (joined_lines (
    codes "= 1 \"\"" ∷
    codes "= 0 \"\"" ∷
    codes "@ 1 2008 1040 0 11 0 0 0 0 0 0 0 0 \"a\\x0ab\\x0ac\\x0ad\\x0ae\\x0af\"" ∷
    codes "@ 1 2003 0 0 0 0 0 0 0 0 0 0 0 \"\"" ∷
    codes "@ 1 2008 8209 0 11 5 0 0 0 0 0 0 0 \"a\\x0ab\\x0ac\\x0ad\\x0ae\\x0af\"" ∷
    codes "= 0 \"\"" ∷
    codes "@ 1 2008 8 0 0 0 0 9216 1024 0 0 0 0 \"\"" ∷
    codes "= 0 \"\"" ∷
    codes "@ 1 2008 8 0 0 0 1 9217 1024 0 0 0 0 \"\"" ∷
    codes "= 0 \"\"" ∷
    codes "@ 1 2008 8 0 0 0 2 5122 1024 0 0 0 0 \"\"" ∷
    codes "= 0 \"\"" ∷
    codes "@ 1 2008 8 0 0 0 3 1026 1024 0 0 0 0 \"\"" ∷
    codes "= 0 \"\"" ∷
    codes "@ 1 2008 8 0 0 0 4 1025 1024 0 0 0 0 \"\"" ∷
    codes "= 0 \"\"" ∷
    codes "= 4 \"\"" ∷
    codes "= 3 \"\"" ∷
    codes "= 4 \"\"" ∷
    codes "= 0 \"\"" ∷
    codes "= 5 \"\"" ∷
    codes "= -1 \"\"" ∷
    codes "! 6" ∷
    codes "= -1 \"\"" ∷
    codes "= 1 \"\"" ∷
    codes "= 0 \"\"" ∷
    codes "= -1 \"\"" ∷
    codes "= -1 \"\"" ∷
    codes "= 0 \"\"" ∷
    codes "= 0 \"\"" ∷
    codes "= 1 \"\"" ∷
    codes "= 0 \"\"" ∷
    codes "= 0 \"\"" ∷
    codes "= 0 \"\"" ∷
    codes "= 0 \"\"" ∷
    codes "= 0 \"\"" ∷
    codes "= 1 \"\"" ∷
    codes "= 5 \"\"" ∷
    codes "= 0 \"\"" ∷
    codes "= 1 \"\"" ∷
    codes "= 0 \"\"" ∷
    codes "! 6" ∷
    codes "= 0 \"\"" ∷
    codes "= 1 \"\"" ∷
    []))

abbrev pub FoldingOfTwoViews : Type 0
FoldingOfTwoViews = Prints ([])
    (joined_lines (
    codes "sci 1" ∷
    codes "open" ∷
    codes "open" ∷
    codes "send 2 2358 0 1 \"\"" ∷
    codes "send 1 2003 0 0 \"a\\x0ab\\x0ac\\x0ad\"" ∷
    codes "send 1 2222 0 9216 \"\"" ∷
    codes "send 1 2222 1 1025 \"\"" ∷
    codes "send 1 2222 2 1025 \"\"" ∷
    codes "send 1 2222 3 1024 \"\"" ∷
    codes "send 2 2237 0 0 \"\"" ∷
    codes "send 1 2236 0 0 \"\"" ∷
    codes "send 2 2236 0 0 \"\"" ∷
    codes "send 2 2220 3 0 \"\"" ∷
    codes "send 1 2003 2 0 \"\\x0a\"" ∷
    codes "send 2 2228 1 0 \"\"" ∷
    codes "send 2 2228 2 0 \"\"" ∷
    codes "send 2 2228 3 0 \"\"" ∷
    codes "send 2 2220 4 0 \"\"" ∷
    codes "send 1 2176 0 0 \"\"" ∷
    codes "send 2 2228 1 0 \"\"" ∷
    codes "send 2 2228 2 0 \"\"" ∷
    codes "send 2 2230 0 0 \"\"" ∷
    codes "send 1 2645 1 1 \"\"" ∷
    codes "send 2 2154 0 0 \"\"" ∷
    codes "send 2 2228 1 0 \"\"" ∷
    codes "send 2 2230 0 0 \"\"" ∷
    []))
    (joined_lines (
    codes "= 1 \"\"" ∷
    codes "= 2 \"\"" ∷
    codes "= 0 \"\"" ∷
    codes "= 0 \"\"" ∷
    codes "@ 1 2008 1040 0 7 0 0 0 0 0 0 0 0 \"a\\x0ab\\x0ac\\x0ad\"" ∷
    codes "@ 2 2008 1040 0 7 0 0 0 0 0 0 0 0 \"a\\x0ab\\x0ac\\x0ad\"" ∷
    codes "@ 1 2003 0 0 0 0 0 0 0 0 0 0 0 \"\"" ∷
    codes "@ 2 2003 0 0 0 0 0 0 0 0 0 0 0 \"\"" ∷
    codes "@ 1 2008 8209 0 7 3 0 0 0 0 0 0 0 \"a\\x0ab\\x0ac\\x0ad\"" ∷
    codes "@ 2 2008 8209 0 7 3 0 0 0 0 0 0 0 \"a\\x0ab\\x0ac\\x0ad\"" ∷
    codes "= 0 \"\"" ∷
    codes "@ 1 2008 8 0 0 0 0 9216 1024 0 0 0 0 \"\"" ∷
    codes "@ 2 2008 8 0 0 0 0 9216 1024 0 0 0 0 \"\"" ∷
    codes "= 0 \"\"" ∷
    codes "@ 1 2008 8 0 0 0 1 1025 1024 0 0 0 0 \"\"" ∷
    codes "@ 2 2008 8 0 0 0 1 1025 1024 0 0 0 0 \"\"" ∷
    codes "= 0 \"\"" ∷
    codes "@ 1 2008 8 0 0 0 2 1025 1024 0 0 0 0 \"\"" ∷
    codes "@ 2 2008 8 0 0 0 2 1025 1024 0 0 0 0 \"\"" ∷
    codes "= 0 \"\"" ∷
    codes "= 0 \"\"" ∷
    codes "= 1 \"\"" ∷
    codes "= 0 \"\"" ∷
    codes "= 1 \"\"" ∷
    codes "= 0 \"\"" ∷
    codes "@ 1 2008 1040 2 1 0 0 0 0 0 0 0 0 \"\\x0a\"" ∷
    codes "@ 2 2008 1040 2 1 0 0 0 0 0 0 0 0 \"\\x0a\"" ∷
    codes "@ 1 2008 8209 2 1 1 0 0 0 0 0 0 0 \"\\x0a\"" ∷
    codes "@ 2 2008 8209 2 1 1 0 0 0 0 0 0 0 \"\\x0a\"" ∷
    codes "= 1 \"\"" ∷
    codes "= 0 \"\"" ∷
    codes "= 0 \"\"" ∷
    codes "= 2 \"\"" ∷
    codes "= 0 \"\"" ∷
    codes "@ 1 2008 2080 2 1 0 0 0 0 0 0 0 0 \"\"" ∷
    codes "@ 2 2008 2080 2 1 0 0 0 0 0 0 0 0 \"\"" ∷
    codes "@ 1 2008 4386 2 1 -1 0 0 0 0 0 0 0 \"\\x0a\"" ∷
    codes "@ 2 2008 4386 2 1 -1 0 0 0 0 0 0 0 \"\\x0a\"" ∷
    codes "= 1 \"\"" ∷
    codes "= 0 \"\"" ∷
    codes "= 0 \"\"" ∷
    codes "= 0 \"\"" ∷
    codes "@ 1 2008 2064 1 1 0 0 0 0 0 0 0 0 \"\"" ∷
    codes "@ 2 2008 2064 1 1 0 0 0 0 0 0 0 0 \"\"" ∷
    codes "@ 1 2008 8210 1 1 -1 0 0 0 0 0 0 0 \"\\x0a\"" ∷
    codes "@ 2 2008 8210 1 1 -1 0 0 0 0 0 0 0 \"\\x0a\"" ∷
    codes "= 3 \"\"" ∷
    codes "= 0 \"\"" ∷
    codes "= 0 \"\"" ∷
    []))
