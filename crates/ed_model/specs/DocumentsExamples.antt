-- Worked examples, written by tools/pages/example_theorems.py from examples/messages.
use Rattle.std.specs.Prelude.{[], ◌∷◌, codes}
use Rattle.ed_model.specs.Prints.{Prints, joined_lines}

abbrev pub DocumentReferences : Type 0
DocumentReferences = Prints ([])
    (joined_lines (
    codes "sci 1" ∷
    codes "open" ∷
    codes "open" ∷
    codes "send 1 2375 0 0 \"\"" ∷
    codes "send 2 2358 0 3 \"\"" ∷
    codes "send 1 2377 0 3 \"\"" ∷
    codes "send 1 2377 0 3 \"\"" ∷
    codes "close 2" ∷
    codes "send 1 2376 0 3 \"\"" ∷
    codes "send 1 2375 0 0 \"\"" ∷
    []))
    (joined_lines (
    codes "= 1 \"\"" ∷
    codes "= 2 \"\"" ∷
    codes "= 3 \"\"" ∷
    codes "= 0 \"\"" ∷
    codes "= 0 \"\"" ∷
    codes "! 4" ∷
    codes "= 0 \"\"" ∷
    codes "! 4" ∷
    codes "= 4 \"\"" ∷
    []))

abbrev pub OrderOfAttaching : Type 0
OrderOfAttaching = Prints ([])
    (joined_lines (
    codes "sci 1" ∷
    codes "open" ∷
    codes "open" ∷
    codes "send 2 2358 0 1 \"\"" ∷
    codes "send 1 2358 0 1 \"\"" ∷
    codes "send 2 2003 0 0 \"x\"" ∷
    []))
    (joined_lines (
    codes "= 1 \"\"" ∷
    codes "= 2 \"\"" ∷
    codes "= 0 \"\"" ∷
    codes "= 0 \"\"" ∷
    codes "= 0 \"\"" ∷
    codes "@ 2 2008 1040 0 1 0 0 0 0 0 0 0 0 \"x\"" ∷
    codes "@ 1 2008 1040 0 1 0 0 0 0 0 0 0 0 \"x\"" ∷
    codes "@ 2 2003 0 0 0 0 0 0 0 0 0 0 0 \"\"" ∷
    codes "@ 1 2003 0 0 0 0 0 0 0 0 0 0 0 \"\"" ∷
    codes "@ 2 2008 8209 0 1 0 0 0 0 0 0 0 0 \"x\"" ∷
    codes "@ 1 2008 8209 0 1 0 0 0 0 0 0 0 0 \"x\"" ∷
    []))

abbrev pub ReadOnlyTellsEachView : Type 0
ReadOnlyTellsEachView = Prints ([])
    (joined_lines (
    codes "sci 1" ∷
    codes "open" ∷
    codes "open" ∷
    codes "send 2 2358 0 1 \"\"" ∷
    codes "send 1 2171 1 0 \"\"" ∷
    codes "send 1 2003 0 0 \"x\"" ∷
    codes "send 1 2003 0 0 \"\"" ∷
    codes "send 1 2006 0 0 \"\"" ∷
    []))
    (joined_lines (
    codes "= 1 \"\"" ∷
    codes "= 2 \"\"" ∷
    codes "= 0 \"\"" ∷
    codes "= 0 \"\"" ∷
    codes "= 0 \"\"" ∷
    codes "@ 1 2004 0 0 0 0 0 0 0 0 0 0 0 \"\"" ∷
    codes "@ 2 2004 0 0 0 0 0 0 0 0 0 0 0 \"\"" ∷
    codes "= 0 \"\"" ∷
    codes "= 0 \"\"" ∷
    []))

abbrev pub ReadOnlyUndo : Type 0
ReadOnlyUndo = Prints ([])
    (joined_lines (
    codes "sci 1" ∷
    codes "open" ∷
    codes "open" ∷
    codes "send 2 2358 0 1 \"\"" ∷
    codes "send 1 2003 0 0 \"x\"" ∷
    codes "send 1 2171 1 0 \"\"" ∷
    codes "send 1 2176 0 0 \"\"" ∷
    codes "send 1 2006 0 0 \"\"" ∷
    []))
    (joined_lines (
    codes "= 1 \"\"" ∷
    codes "= 2 \"\"" ∷
    codes "= 0 \"\"" ∷
    codes "= 0 \"\"" ∷
    codes "@ 1 2008 1040 0 1 0 0 0 0 0 0 0 0 \"x\"" ∷
    codes "@ 2 2008 1040 0 1 0 0 0 0 0 0 0 0 \"x\"" ∷
    codes "@ 1 2003 0 0 0 0 0 0 0 0 0 0 0 \"\"" ∷
    codes "@ 2 2003 0 0 0 0 0 0 0 0 0 0 0 \"\"" ∷
    codes "@ 1 2008 8209 0 1 0 0 0 0 0 0 0 0 \"x\"" ∷
    codes "@ 2 2008 8209 0 1 0 0 0 0 0 0 0 0 \"x\"" ∷
    codes "= 0 \"\"" ∷
    codes "= 0 \"\"" ∷
    codes "@ 1 2004 0 0 0 0 0 0 0 0 0 0 0 \"\"" ∷
    codes "@ 2 2004 0 0 0 0 0 0 0 0 0 0 0 \"\"" ∷
    codes "= 1 \"\"" ∷
    []))

abbrev pub TwoViewsMoveAndHear : Type 0
TwoViewsMoveAndHear = Prints ([])
    (joined_lines (
    codes "sci 1" ∷
    codes "open" ∷
    codes "open" ∷
    codes "send 1 2003 0 0 \"abcd\"" ∷
    codes "send 2 2358 0 1 \"\"" ∷
    codes "send 2 2359 1 0 \"\"" ∷
    codes "send 2 2025 2 0 \"\"" ∷
    codes "send 1 2003 2 0 \"x\"" ∷
    codes "send 2 2008 0 0 \"\"" ∷
    codes "send 1 2003 1 0 \"y\"" ∷
    codes "send 2 2008 0 0 \"\"" ∷
    []))
    (joined_lines (
    codes "= 1 \"\"" ∷
    codes "= 2 \"\"" ∷
    codes "= 0 \"\"" ∷
    codes "@ 1 2008 1040 0 4 0 0 0 0 0 0 0 0 \"abcd\"" ∷
    codes "@ 1 2003 0 0 0 0 0 0 0 0 0 0 0 \"\"" ∷
    codes "@ 1 2008 8209 0 4 0 0 0 0 0 0 0 0 \"abcd\"" ∷
    codes "= 0 \"\"" ∷
    codes "= 0 \"\"" ∷
    codes "= 0 \"\"" ∷
    codes "= 0 \"\"" ∷
    codes "@ 1 2008 1040 2 1 0 0 0 0 0 0 0 0 \"x\"" ∷
    codes "@ 1 2008 8209 2 1 0 0 0 0 0 0 0 0 \"x\"" ∷
    codes "@ 2 2008 8209 2 1 0 0 0 0 0 0 0 0 \"x\"" ∷
    codes "= 2 \"\"" ∷
    codes "= 0 \"\"" ∷
    codes "@ 1 2008 1040 1 1 0 0 0 0 0 0 0 0 \"y\"" ∷
    codes "@ 1 2008 8209 1 1 0 0 0 0 0 0 0 0 \"y\"" ∷
    codes "@ 2 2008 8209 1 1 0 0 0 0 0 0 0 0 \"y\"" ∷
    codes "= 3 \"\"" ∷
    []))

abbrev pub UndoOfAGroupToTwoViews : Type 0
UndoOfAGroupToTwoViews = Prints ([])
    (joined_lines (
    codes "sci 1" ∷
    codes "open" ∷
    codes "send 1 2078 0 0 \"\"" ∷
    codes "send 1 2003 0 0 \"a\\x0ab\"" ∷
    codes "send 1 2003 3 0 \"c\"" ∷
    codes "send 1 2645 0 2 \"\"" ∷
    codes "send 1 2079 0 0 \"\"" ∷
    codes "open" ∷
    codes "send 2 2358 0 1 \"\"" ∷
    codes "send 1 2176 0 0 \"\"" ∷
    codes "send 1 2182 0 0 \"\"" ∷
    []))
    (joined_lines (
    codes "= 1 \"\"" ∷
    codes "= 0 \"\"" ∷
    codes "= 0 \"\"" ∷
    codes "@ 1 2008 1040 0 3 0 0 0 0 0 0 0 0 \"a\\x0ab\"" ∷
    codes "@ 1 2003 0 0 0 0 0 0 0 0 0 0 0 \"\"" ∷
    codes "@ 1 2008 8209 0 3 1 0 0 0 0 0 0 0 \"a\\x0ab\"" ∷
    codes "= 0 \"\"" ∷
    codes "@ 1 2008 1040 3 1 0 0 0 0 0 0 0 0 \"c\"" ∷
    codes "@ 1 2008 17 3 1 0 0 0 0 0 0 0 0 \"c\"" ∷
    codes "= 0 \"\"" ∷
    codes "@ 1 2008 2064 0 2 0 0 0 0 0 0 0 0 \"\"" ∷
    codes "@ 1 2008 18 0 2 -1 0 0 0 0 0 0 0 \"a\\x0a\"" ∷
    codes "= 0 \"\"" ∷
    codes "= 2 \"\"" ∷
    codes "= 0 \"\"" ∷
    codes "= 0 \"\"" ∷
    codes "@ 1 2008 1056 0 2 0 0 0 0 0 0 0 0 \"a\\x0a\"" ∷
    codes "@ 2 2008 1056 0 2 0 0 0 0 0 0 0 0 \"a\\x0a\"" ∷
    codes "@ 1 2008 161 0 2 1 0 0 0 0 0 0 0 \"a\\x0a\"" ∷
    codes "@ 2 2008 161 0 2 1 0 0 0 0 0 0 0 \"a\\x0a\"" ∷
    codes "@ 1 2008 2080 3 1 0 0 0 0 0 0 0 0 \"\"" ∷
    codes "@ 2 2008 2080 3 1 0 0 0 0 0 0 0 0 \"\"" ∷
    codes "@ 1 2008 162 3 1 0 0 0 0 0 0 0 0 \"c\"" ∷
    codes "@ 2 2008 162 3 1 0 0 0 0 0 0 0 0 \"c\"" ∷
    codes "@ 1 2008 2080 0 3 0 0 0 0 0 0 0 0 \"\"" ∷
    codes "@ 2 2008 2080 0 3 0 0 0 0 0 0 0 0 \"\"" ∷
    codes "@ 1 2008 4514 0 3 -1 0 0 0 0 0 0 0 \"a\\x0ab\"" ∷
    codes "@ 2 2008 4514 0 3 -1 0 0 0 0 0 0 0 \"a\\x0ab\"" ∷
    codes "@ 1 2002 0 0 0 0 0 0 0 0 0 0 0 \"\"" ∷
    codes "@ 2 2002 0 0 0 0 0 0 0 0 0 0 0 \"\"" ∷
    codes "= 0 \"\"" ∷
    []))

abbrev pub DocumentOptions : Type 0
DocumentOptions = Prints ([])
    (joined_lines (
    codes "sci 1" ∷
    codes "open" ∷
    codes "send 1 2375 0 1 \"\"" ∷
    codes "send 1 2358 0 2 \"\"" ∷
    codes "send 1 2003 0 0 \"ab\"" ∷
    codes "send 1 2033 2 5 \"\"" ∷
    codes "send 1 2028 0 0 \"\"" ∷
    codes "send 1 2010 0 0 \"\"" ∷
    codes "send 1 2379 0 0 \"\"" ∷
    codes "send 1 2375 0 2 \"\"" ∷
    []))
    (joined_lines (
    codes "= 1 \"\"" ∷
    codes "= 2 \"\"" ∷
    codes "= 0 \"\"" ∷
    codes "= 0 \"\"" ∷
    codes "@ 1 2008 1040 0 2 0 0 0 0 0 0 0 0 \"ab\"" ∷
    codes "@ 1 2003 0 0 0 0 0 0 0 0 0 0 0 \"\"" ∷
    codes "@ 1 2008 8209 0 2 0 0 0 0 0 0 0 0 \"ab\"" ∷
    codes "= 0 \"\"" ∷
    codes "= 2 \"\"" ∷
    codes "= 0 \"\"" ∷
    codes "= 1 \"\"" ∷
    codes "! 6" ∷
    []))

abbrev pub UnicodeLineEnds : Type 0
UnicodeLineEnds = Prints ([])
    (joined_lines (
    codes "sci 1" ∷
    codes "open" ∷
    codes "send 1 2003 0 0 \"a\\xc2\\x85b\\xe2\\x80\\xa8c\"" ∷
    codes "send 1 2154 0 0 \"\"" ∷
    codes "send 1 2656 1 0 \"\"" ∷
    codes "send 1 2154 0 0 \"\"" ∷
    codes "send 1 2167 0 0 \"\"" ∷
    codes "send 1 2167 1 0 \"\"" ∷
    codes "send 1 2167 2 0 \"\"" ∷
    codes "send 1 2136 0 0 \"\"" ∷
    codes "send 1 2136 1 0 \"\"" ∷
    codes "send 1 2350 1 0 \"\"" ∷
    codes "send 1 2029 2 0 \"\"" ∷
    codes "send 1 2006 0 0 \"\"" ∷
    codes "send 1 2043 1 5 \"\"" ∷
    codes "send 1 2656 0 0 \"\"" ∷
    codes "send 1 2046 0 0 \"\"" ∷
    codes "send 1 2656 1 0 \"\"" ∷
    codes "send 1 2046 0 0 \"\"" ∷
    codes "send 1 2046 1 0 \"\"" ∷
    codes "send 1 2046 2 0 \"\"" ∷
    codes "send 1 2003 2 0 \"x\"" ∷
    codes "send 1 2154 0 0 \"\"" ∷
    codes "send 1 2167 1 0 \"\"" ∷
    codes "send 1 2645 2 1 \"\"" ∷
    codes "send 1 2154 0 0 \"\"" ∷
    []))
    (joined_lines (
    codes "= 1 \"\"" ∷
    codes "= 0 \"\"" ∷
    codes "@ 1 2008 1040 0 8 0 0 0 0 0 0 0 0 \"a\\xc2\\x85b\\xe2\\x80\\xa8c\"" ∷
    codes "@ 1 2003 0 0 0 0 0 0 0 0 0 0 0 \"\"" ∷
    codes "@ 1 2008 8209 0 8 0 0 0 0 0 0 0 0 \"a\\xc2\\x85b\\xe2\\x80\\xa8c\"" ∷
    codes "= 1 \"\"" ∷
    codes "= 0 \"\"" ∷
    codes "= 3 \"\"" ∷
    codes "= 0 \"\"" ∷
    codes "= 3 \"\"" ∷
    codes "= 7 \"\"" ∷
    codes "= 1 \"\"" ∷
    codes "= 4 \"\"" ∷
    codes "= 4 \"\"" ∷
    codes "= 0 \"\"" ∷
    codes "= 8 \"\"" ∷
    codes "= 1 \"\"" ∷
    codes "@ 1 2008 512 3 0 0 1 0 0 0 0 0 0 \"\"" ∷
    codes "= 0 \"\"" ∷
    codes "= 32 \"\"" ∷
    codes "= 0 \"\"" ∷
    codes "= 32 \"\"" ∷
    codes "= 0 \"\"" ∷
    codes "= 0 \"\"" ∷
    codes "= 0 \"\"" ∷
    codes "@ 1 2008 1040 2 1 0 0 0 0 0 0 0 0 \"x\"" ∷
    codes "@ 1 2008 8209 2 1 -1 0 0 0 0 0 0 0 \"x\"" ∷
    codes "= 2 \"\"" ∷
    codes "= 8 \"\"" ∷
    codes "= 0 \"\"" ∷
    codes "@ 1 2008 2064 2 1 0 0 0 0 0 0 0 0 \"\"" ∷
    codes "@ 1 2008 8210 2 1 1 0 0 0 0 0 0 0 \"x\"" ∷
    codes "= 3 \"\"" ∷
    []))

abbrev pub Masks : Type 0
Masks = Prints ([])
    (joined_lines (
    codes "sci 1" ∷
    codes "open" ∷
    codes "open" ∷
    codes "send 2 2358 0 1 \"\"" ∷
    codes "send 1 2359 8192 0 \"\"" ∷
    codes "send 2 2359 0 0 \"\"" ∷
    codes "send 1 2003 0 0 \"a\"" ∷
    codes "send 1 2003 1 0 \"b\"" ∷
    codes "send 2 2359 4096 0 \"\"" ∷
    codes "send 1 2003 2 0 \"\\x0a\"" ∷
    codes "send 1 2176 0 0 \"\"" ∷
    codes "send 2 2359 1048575 0 \"\"" ∷
    codes "send 1 2011 0 0 \"\"" ∷
    codes "send 2 2171 1 0 \"\"" ∷
    codes "send 1 2003 0 0 \"z\"" ∷
    []))
    (joined_lines (
    codes "= 1 \"\"" ∷
    codes "= 2 \"\"" ∷
    codes "= 0 \"\"" ∷
    codes "= 0 \"\"" ∷
    codes "= 0 \"\"" ∷
    codes "= 0 \"\"" ∷
    codes "@ 1 2003 0 0 0 0 0 0 0 0 0 0 0 \"\"" ∷
    codes "@ 2 2003 0 0 0 0 0 0 0 0 0 0 0 \"\"" ∷
    codes "@ 1 2008 8209 0 1 0 0 0 0 0 0 0 0 \"a\"" ∷
    codes "= 0 \"\"" ∷
    codes "= 0 \"\"" ∷
    codes "= 0 \"\"" ∷
    codes "= 0 \"\"" ∷
    codes "@ 2 2008 4514 0 1 0 0 0 0 0 0 0 0 \"a\"" ∷
    codes "@ 1 2002 0 0 0 0 0 0 0 0 0 0 0 \"\"" ∷
    codes "@ 2 2002 0 0 0 0 0 0 0 0 0 0 0 \"\"" ∷
    codes "= 0 \"\"" ∷
    codes "= 0 \"\"" ∷
    codes "@ 2 2008 1088 0 1 0 0 0 0 0 0 0 0 \"a\"" ∷
    codes "@ 2 2008 193 0 1 0 0 0 0 0 0 0 0 \"a\"" ∷
    codes "@ 2 2008 1088 1 1 0 0 0 0 0 0 0 0 \"b\"" ∷
    codes "@ 2 2008 193 1 1 0 0 0 0 0 0 0 0 \"b\"" ∷
    codes "@ 2 2008 1088 2 1 0 0 0 0 0 0 0 0 \"\\x0a\"" ∷
    codes "@ 2 2008 4545 2 1 1 0 0 0 0 0 0 0 \"\\x0a\"" ∷
    codes "@ 1 2003 0 0 0 0 0 0 0 0 0 0 0 \"\"" ∷
    codes "@ 2 2003 0 0 0 0 0 0 0 0 0 0 0 \"\"" ∷
    codes "= 0 \"\"" ∷
    codes "= 0 \"\"" ∷
    codes "@ 1 2004 0 0 0 0 0 0 0 0 0 0 0 \"\"" ∷
    codes "@ 2 2004 0 0 0 0 0 0 0 0 0 0 0 \"\"" ∷
    []))

abbrev pub OptionsAndLineEndTypes : Type 0
OptionsAndLineEndTypes = Prints ([])
    (joined_lines (
    codes "sci 1" ∷
    codes "open" ∷
    codes "send 1 2379 0 0 \"\"" ∷
    codes "send 1 2657 0 0 \"\"" ∷
    codes "send 1 2658 0 0 \"\"" ∷
    codes "send 1 2375 0 257 \"\"" ∷
    codes "send 1 2358 0 2 \"\"" ∷
    codes "send 1 2379 0 0 \"\"" ∷
    codes "send 1 2003 0 0 \"a\\xc2\\x85b\\xe2\\x80\\xa8c\"" ∷
    codes "send 1 2154 0 0 \"\"" ∷
    codes "send 1 2656 1 0 \"\"" ∷
    codes "send 1 2657 0 0 \"\"" ∷
    codes "send 1 2658 0 0 \"\"" ∷
    codes "send 1 2154 0 0 \"\"" ∷
    codes "send 1 2043 1 4 \"\"" ∷
    codes "send 1 2222 2 1025 \"\"" ∷
    codes "send 1 2227 2 2 \"\"" ∷
    codes "send 1 2656 0 0 \"\"" ∷
    codes "send 1 2046 0 0 \"\"" ∷
    codes "send 1 2223 0 0 \"\"" ∷
    codes "send 1 2236 0 0 \"\"" ∷
    codes "send 1 2656 1 0 \"\"" ∷
    codes "send 1 2046 0 0 \"\"" ∷
    codes "send 1 2046 1 0 \"\"" ∷
    codes "send 1 2223 2 0 \"\"" ∷
    codes "send 1 2656 2 0 \"\"" ∷
    codes "send 1 2033 2 7 \"\"" ∷
    codes "send 1 2010 0 0 \"\"" ∷
    codes "send 1 2375 -1 0 \"\"" ∷
    codes "send 1 2375 0 3 \"\"" ∷
    codes "send 1 2645 2 1 \"\"" ∷
    codes "send 1 2154 0 0 \"\"" ∷
    codes "send 1 2003 2 0 \"\\x85\"" ∷
    codes "send 1 2154 0 0 \"\"" ∷
    codes "send 1 2176 0 0 \"\"" ∷
    codes "send 1 2176 0 0 \"\"" ∷
    codes "send 1 2154 0 0 \"\"" ∷
    []))
    (joined_lines (
    codes "= 1 \"\"" ∷
    codes "= 0 \"\"" ∷
    codes "= 0 \"\"" ∷
    codes "= 0 \"\"" ∷
    codes "= 2 \"\"" ∷
    codes "= 0 \"\"" ∷
    codes "= 257 \"\"" ∷
    codes "= 0 \"\"" ∷
    codes "@ 1 2008 1040 0 8 0 0 0 0 0 0 0 0 \"a\\xc2\\x85b\\xe2\\x80\\xa8c\"" ∷
    codes "@ 1 2003 0 0 0 0 0 0 0 0 0 0 0 \"\"" ∷
    codes "@ 1 2008 8209 0 8 0 0 0 0 0 0 0 0 \"a\\xc2\\x85b\\xe2\\x80\\xa8c\"" ∷
    codes "= 1 \"\"" ∷
    codes "= 0 \"\"" ∷
    codes "= 1 \"\"" ∷
    codes "= 1 \"\"" ∷
    codes "= 3 \"\"" ∷
    codes "= 1 \"\"" ∷
    codes "@ 1 2008 512 3 0 0 1 0 0 0 0 0 0 \"\"" ∷
    codes "= 0 \"\"" ∷
    codes "@ 1 2008 8 0 0 0 2 1025 1024 0 0 0 0 \"\"" ∷
    codes "= 0 \"\"" ∷
    codes "= 0 \"\"" ∷
    codes "= 16 \"\"" ∷
    codes "= 1024 \"\"" ∷
    codes "= 1 \"\"" ∷
    codes "= 0 \"\"" ∷
    codes "= 16 \"\"" ∷
    codes "= 0 \"\"" ∷
    codes "= 1024 \"\"" ∷
    codes "! 6" ∷
    codes "= 0 \"\"" ∷
    codes "= 0 \"\"" ∷
    codes "! 6" ∷
    codes "! 6" ∷
    codes "= 0 \"\"" ∷
    codes "@ 1 2008 2064 2 1 0 0 0 0 0 0 0 0 \"\"" ∷
    codes "@ 1 2008 8210 2 1 -1 0 0 0 0 0 0 0 \"\\x85\"" ∷
    codes "= 2 \"\"" ∷
    codes "= 0 \"\"" ∷
    codes "@ 1 2008 1040 2 1 0 0 0 0 0 0 0 0 \"\\x85\"" ∷
    codes "@ 1 2008 8209 2 1 1 0 0 0 0 0 0 0 \"\\x85\"" ∷
    codes "= 3 \"\"" ∷
    codes "= 0 \"\"" ∷
    codes "@ 1 2008 2080 2 1 0 0 0 0 0 0 0 0 \"\"" ∷
    codes "@ 1 2008 4386 2 1 -1 0 0 0 0 0 0 0 \"\\x85\"" ∷
    codes "= 0 \"\"" ∷
    codes "@ 1 2008 1056 2 1 0 0 0 0 0 0 0 0 \"\\x85\"" ∷
    codes "@ 1 2008 4385 2 1 1 0 0 0 0 0 0 0 \"\\x85\"" ∷
    codes "= 3 \"\"" ∷
    []))

abbrev pub OwnDocumentAgain : Type 0
OwnDocumentAgain = Prints ([])
    (joined_lines (
    codes "sci 1" ∷
    codes "open" ∷
    codes "open" ∷
    codes "send 2 2357 0 0 \"\"" ∷
    codes "send 2 2358 0 1 \"\"" ∷
    codes "send 2 2357 0 0 \"\"" ∷
    codes "send 1 2378 0 0 \"\"" ∷
    codes "send 1 2359 16 0 \"\"" ∷
    codes "send 1 2378 0 0 \"\"" ∷
    codes "send 1 2359 8388608 0 \"\"" ∷
    codes "send 1 2003 0 0 \"ab\\x0acd\"" ∷
    codes "send 1 2160 1 4 \"\"" ∷
    codes "send 1 2227 1 1 \"\"" ∷
    codes "send 1 2358 0 1 \"\"" ∷
    codes "send 1 2008 0 0 \"\"" ∷
    codes "send 1 2228 1 0 \"\"" ∷
    codes "send 1 2003 0 0 \"x\"" ∷
    codes "send 2 2357 0 0 \"\"" ∷
    codes "send 2 2358 0 9 \"\"" ∷
    codes "send 2 2358 0 0 \"\"" ∷
    codes "send 2 2357 0 0 \"\"" ∷
    codes "send 2 2006 0 0 \"\"" ∷
    []))
    (joined_lines (
    codes "= 1 \"\"" ∷
    codes "= 2 \"\"" ∷
    codes "= 2 \"\"" ∷
    codes "= 0 \"\"" ∷
    codes "= 1 \"\"" ∷
    codes "= 8388607 \"\"" ∷
    codes "= 0 \"\"" ∷
    codes "= 16 \"\"" ∷
    codes "! 6" ∷
    codes "= 0 \"\"" ∷
    codes "@ 1 2008 1040 0 5 0 0 0 0 0 0 0 0 \"ab\\x0acd\"" ∷
    codes "@ 2 2008 1040 0 5 0 0 0 0 0 0 0 0 \"ab\\x0acd\"" ∷
    codes "@ 1 2003 0 0 0 0 0 0 0 0 0 0 0 \"\"" ∷
    codes "@ 2 2003 0 0 0 0 0 0 0 0 0 0 0 \"\"" ∷
    codes "@ 1 2008 8209 0 5 1 0 0 0 0 0 0 0 \"ab\\x0acd\"" ∷
    codes "@ 2 2008 8209 0 5 1 0 0 0 0 0 0 0 \"ab\\x0acd\"" ∷
    codes "= 0 \"\"" ∷
    codes "= 0 \"\"" ∷
    codes "= 0 \"\"" ∷
    codes "= 0 \"\"" ∷
    codes "= 1 \"\"" ∷
    codes "= 0 \"\"" ∷
    codes "@ 2 2008 1040 0 1 0 0 0 0 0 0 0 0 \"x\"" ∷
    codes "@ 1 2008 1040 0 1 0 0 0 0 0 0 0 0 \"x\"" ∷
    codes "@ 2 2008 8209 0 1 0 0 0 0 0 0 0 0 \"x\"" ∷
    codes "@ 1 2008 8209 0 1 0 0 0 0 0 0 0 0 \"x\"" ∷
    codes "= 1 \"\"" ∷
    codes "! 4" ∷
    codes "= 0 \"\"" ∷
    codes "= 3 \"\"" ∷
    codes "= 0 \"\"" ∷
    []))
