-- Worked examples, written by tools/pages/example_theorems.py from examples/messages.
use Rattle.std.specs.Prelude.{[], ◌∷◌, codes}
use Rattle.ed_model.specs.Prints.{Prints, joined_lines}

abbrev pub AllNotesOfAnInsertion : Type 0
AllNotesOfAnInsertion = Prints ([])
    (joined_lines (
    codes "sci 1" ∷
    codes "open" ∷
    codes "send 1 2003 0 0 \"ab\\x0a\"" ∷
    codes "send 1 2182 0 0 \"\"" ∷
    codes "send 1 2003 9 0 \"z\"" ∷
    codes "send 1 2007 -1 0 \"\"" ∷
    []))
    (joined_lines (
    codes "= 1 \"\"" ∷
    codes "= 0 \"\"" ∷
    codes "@ 1 2008 1040 0 3 0 0 0 0 0 0 0 0 \"ab\\x0a\"" ∷
    codes "@ 1 2003 0 0 0 0 0 0 0 0 0 0 0 \"\"" ∷
    codes "@ 1 2008 8209 0 3 1 0 0 0 0 0 0 0 \"ab\\x0a\"" ∷
    codes "= 3 \"ab\\x0a\"" ∷
    codes "! 6" ∷
    codes "= 0 \"\"" ∷
    []))

abbrev pub ContainerSteps : Type 0
ContainerSteps = Prints ([])
    (joined_lines (
    codes "sci 1" ∷
    codes "open" ∷
    codes "send 1 2560 7 0 \"\"" ∷
    codes "send 1 2159 0 0 \"\"" ∷
    codes "send 1 2176 0 0 \"\"" ∷
    codes "send 1 2560 7 2 \"\"" ∷
    []))
    (joined_lines (
    codes "= 1 \"\"" ∷
    codes "= 0 \"\"" ∷
    codes "@ 1 2003 0 0 0 0 0 0 0 0 0 0 0 \"\"" ∷
    codes "= 1 \"\"" ∷
    codes "= 0 \"\"" ∷
    codes "@ 1 2008 262432 0 0 0 0 0 0 7 0 0 0 \"\"" ∷
    codes "@ 1 2002 0 0 0 0 0 0 0 0 0 0 0 \"\"" ∷
    codes "! 6" ∷
    []))

abbrev pub ReadOnlyNotes : Type 0
ReadOnlyNotes = Prints ([])
    (joined_lines (
    codes "sci 1" ∷
    codes "open" ∷
    codes "send 1 2171 1 0 \"\"" ∷
    codes "send 1 2003 0 0 \"x\"" ∷
    codes "send 1 2006 0 0 \"\"" ∷
    codes "send 1 2004 0 0 \"\"" ∷
    []))
    (joined_lines (
    codes "= 1 \"\"" ∷
    codes "= 0 \"\"" ∷
    codes "= 0 \"\"" ∷
    codes "@ 1 2004 0 0 0 0 0 0 0 0 0 0 0 \"\"" ∷
    codes "= 0 \"\"" ∷
    codes "= 0 \"\"" ∷
    []))

abbrev pub SavePointAmidTyping : Type 0
SavePointAmidTyping = Prints ([])
    (joined_lines (
    codes "sci 1" ∷
    codes "open" ∷
    codes "send 1 2003 0 0 \"a\"" ∷
    codes "send 1 2003 1 0 \"b\"" ∷
    codes "send 1 2014 0 0 \"\"" ∷
    codes "send 1 2003 2 0 \"c\"" ∷
    codes "send 1 2176 0 0 \"\"" ∷
    codes "send 1 2182 0 0 \"\"" ∷
    codes "send 1 2159 0 0 \"\"" ∷
    codes "send 1 2176 0 0 \"\"" ∷
    codes "send 1 2182 0 0 \"\"" ∷
    []))
    (joined_lines (
    codes "= 1 \"\"" ∷
    codes "= 0 \"\"" ∷
    codes "@ 1 2008 1040 0 1 0 0 0 0 0 0 0 0 \"a\"" ∷
    codes "@ 1 2003 0 0 0 0 0 0 0 0 0 0 0 \"\"" ∷
    codes "@ 1 2008 8209 0 1 0 0 0 0 0 0 0 0 \"a\"" ∷
    codes "= 0 \"\"" ∷
    codes "@ 1 2008 1040 1 1 0 0 0 0 0 0 0 0 \"b\"" ∷
    codes "@ 1 2008 17 1 1 0 0 0 0 0 0 0 0 \"b\"" ∷
    codes "= 0 \"\"" ∷
    codes "@ 1 2002 0 0 0 0 0 0 0 0 0 0 0 \"\"" ∷
    codes "= 0 \"\"" ∷
    codes "@ 1 2008 1040 2 1 0 0 0 0 0 0 0 0 \"c\"" ∷
    codes "@ 1 2003 0 0 0 0 0 0 0 0 0 0 0 \"\"" ∷
    codes "@ 1 2008 8209 2 1 0 0 0 0 0 0 0 0 \"c\"" ∷
    codes "= 0 \"\"" ∷
    codes "@ 1 2008 2080 2 1 0 0 0 0 0 0 0 0 \"\"" ∷
    codes "@ 1 2008 290 2 1 0 0 0 0 0 0 0 0 \"c\"" ∷
    codes "@ 1 2002 0 0 0 0 0 0 0 0 0 0 0 \"\"" ∷
    codes "= 2 \"ab\"" ∷
    codes "= 0 \"\"" ∷
    codes "= 0 \"\"" ∷
    codes "@ 1 2008 2080 1 1 0 0 0 0 0 0 0 0 \"\"" ∷
    codes "@ 1 2008 162 1 1 0 0 0 0 0 0 0 0 \"b\"" ∷
    codes "@ 1 2008 2080 0 1 0 0 0 0 0 0 0 0 \"\"" ∷
    codes "@ 1 2008 418 0 1 0 0 0 0 0 0 0 0 \"a\"" ∷
    codes "@ 1 2003 0 0 0 0 0 0 0 0 0 0 0 \"\"" ∷
    codes "= 0 \"\"" ∷
    []))

abbrev pub SavePointInAGroup : Type 0
SavePointInAGroup = Prints ([])
    (joined_lines (
    codes "sci 1" ∷
    codes "open" ∷
    codes "send 1 2078 0 0 \"\"" ∷
    codes "send 1 2003 0 0 \"a\"" ∷
    codes "send 1 2014 0 0 \"\"" ∷
    codes "send 1 2003 1 0 \"b\"" ∷
    codes "send 1 2079 0 0 \"\"" ∷
    codes "send 1 2159 0 0 \"\"" ∷
    codes "send 1 2176 0 0 \"\"" ∷
    codes "send 1 2182 0 0 \"\"" ∷
    codes "send 1 2159 0 0 \"\"" ∷
    codes "send 1 2176 0 0 \"\"" ∷
    codes "send 1 2182 0 0 \"\"" ∷
    []))
    (joined_lines (
    codes "= 1 \"\"" ∷
    codes "= 0 \"\"" ∷
    codes "= 0 \"\"" ∷
    codes "@ 1 2008 1040 0 1 0 0 0 0 0 0 0 0 \"a\"" ∷
    codes "@ 1 2003 0 0 0 0 0 0 0 0 0 0 0 \"\"" ∷
    codes "@ 1 2008 8209 0 1 0 0 0 0 0 0 0 0 \"a\"" ∷
    codes "= 0 \"\"" ∷
    codes "@ 1 2002 0 0 0 0 0 0 0 0 0 0 0 \"\"" ∷
    codes "= 0 \"\"" ∷
    codes "@ 1 2008 1040 1 1 0 0 0 0 0 0 0 0 \"b\"" ∷
    codes "@ 1 2003 0 0 0 0 0 0 0 0 0 0 0 \"\"" ∷
    codes "@ 1 2008 8209 1 1 0 0 0 0 0 0 0 0 \"b\"" ∷
    codes "= 0 \"\"" ∷
    codes "= 1 \"\"" ∷
    codes "= 0 \"\"" ∷
    codes "@ 1 2008 2080 1 1 0 0 0 0 0 0 0 0 \"\"" ∷
    codes "@ 1 2008 290 1 1 0 0 0 0 0 0 0 0 \"b\"" ∷
    codes "@ 1 2002 0 0 0 0 0 0 0 0 0 0 0 \"\"" ∷
    codes "= 1 \"a\"" ∷
    codes "= 0 \"\"" ∷
    codes "= 0 \"\"" ∷
    codes "@ 1 2008 2080 0 1 0 0 0 0 0 0 0 0 \"\"" ∷
    codes "@ 1 2008 290 0 1 0 0 0 0 0 0 0 0 \"a\"" ∷
    codes "@ 1 2003 0 0 0 0 0 0 0 0 0 0 0 \"\"" ∷
    codes "= 0 \"\"" ∷
    []))

abbrev pub SavePointOnADroppedBranch : Type 0
SavePointOnADroppedBranch = Prints ([])
    (joined_lines (
    codes "sci 1" ∷
    codes "open" ∷
    codes "send 1 2003 0 0 \"a\"" ∷
    codes "send 1 2014 0 0 \"\"" ∷
    codes "send 1 2176 0 0 \"\"" ∷
    codes "send 1 2003 0 0 \"b\"" ∷
    codes "send 1 2159 0 0 \"\"" ∷
    codes "send 1 2176 0 0 \"\"" ∷
    codes "send 1 2159 0 0 \"\"" ∷
    []))
    (joined_lines (
    codes "= 1 \"\"" ∷
    codes "= 0 \"\"" ∷
    codes "@ 1 2008 1040 0 1 0 0 0 0 0 0 0 0 \"a\"" ∷
    codes "@ 1 2003 0 0 0 0 0 0 0 0 0 0 0 \"\"" ∷
    codes "@ 1 2008 8209 0 1 0 0 0 0 0 0 0 0 \"a\"" ∷
    codes "= 0 \"\"" ∷
    codes "@ 1 2002 0 0 0 0 0 0 0 0 0 0 0 \"\"" ∷
    codes "= 0 \"\"" ∷
    codes "@ 1 2008 2080 0 1 0 0 0 0 0 0 0 0 \"\"" ∷
    codes "@ 1 2008 290 0 1 0 0 0 0 0 0 0 0 \"a\"" ∷
    codes "@ 1 2003 0 0 0 0 0 0 0 0 0 0 0 \"\"" ∷
    codes "= 0 \"\"" ∷
    codes "@ 1 2008 1040 0 1 0 0 0 0 0 0 0 0 \"b\"" ∷
    codes "@ 1 2008 8209 0 1 0 0 0 0 0 0 0 0 \"b\"" ∷
    codes "= 1 \"\"" ∷
    codes "= 0 \"\"" ∷
    codes "@ 1 2008 2080 0 1 0 0 0 0 0 0 0 0 \"\"" ∷
    codes "@ 1 2008 290 0 1 0 0 0 0 0 0 0 0 \"b\"" ∷
    codes "= 1 \"\"" ∷
    []))

abbrev pub UndoCollection : Type 0
UndoCollection = Prints ([])
    (joined_lines (
    codes "sci 1" ∷
    codes "open" ∷
    codes "send 1 2003 0 0 \"a\"" ∷
    codes "send 1 2012 0 0 \"\"" ∷
    codes "send 1 2012 1 0 \"\"" ∷
    codes "send 1 2174 0 0 \"\"" ∷
    codes "send 1 2159 0 0 \"\"" ∷
    codes "send 1 2175 0 0 \"\"" ∷
    codes "send 1 2159 0 0 \"\"" ∷
    []))
    (joined_lines (
    codes "= 1 \"\"" ∷
    codes "= 0 \"\"" ∷
    codes "@ 1 2008 1040 0 1 0 0 0 0 0 0 0 0 \"a\"" ∷
    codes "@ 1 2003 0 0 0 0 0 0 0 0 0 0 0 \"\"" ∷
    codes "@ 1 2008 8209 0 1 0 0 0 0 0 0 0 0 \"a\"" ∷
    codes "= 0 \"\"" ∷
    codes "= 0 \"\"" ∷
    codes "= 0 \"\"" ∷
    codes "= 1 \"\"" ∷
    codes "= 0 \"\"" ∷
    codes "= 0 \"\"" ∷
    []))

abbrev pub WhichDeletionsJoin : Type 0
WhichDeletionsJoin = Prints ([])
    (joined_lines (
    codes "sci 1" ∷
    codes "open" ∷
    codes "send 1 2181 0 0 \"abcdefghij\"" ∷
    codes "send 1 2645 5 1 \"\"" ∷
    codes "send 1 2645 5 1 \"\"" ∷
    codes "send 1 2645 4 1 \"\"" ∷
    codes "send 1 2645 4 1 \"\"" ∷
    codes "send 1 2645 1 3 \"\"" ∷
    codes "send 1 2182 0 0 \"\"" ∷
    codes "send 1 2176 0 0 \"\"" ∷
    codes "send 1 2182 0 0 \"\"" ∷
    codes "send 1 2176 0 0 \"\"" ∷
    codes "send 1 2182 0 0 \"\"" ∷
    []))
    (joined_lines (
    codes "= 1 \"\"" ∷
    codes "= 0 \"\"" ∷
    codes "@ 1 2008 1040 0 10 0 0 0 0 0 0 0 0 \"abcdefghij\"" ∷
    codes "@ 1 2003 0 0 0 0 0 0 0 0 0 0 0 \"\"" ∷
    codes "@ 1 2008 8209 0 10 0 0 0 0 0 0 0 0 \"abcdefghij\"" ∷
    codes "= 0 \"\"" ∷
    codes "@ 1 2008 2064 5 1 0 0 0 0 0 0 0 0 \"\"" ∷
    codes "@ 1 2008 8210 5 1 0 0 0 0 0 0 0 0 \"f\"" ∷
    codes "= 0 \"\"" ∷
    codes "@ 1 2008 2064 5 1 0 0 0 0 0 0 0 0 \"\"" ∷
    codes "@ 1 2008 18 5 1 0 0 0 0 0 0 0 0 \"g\"" ∷
    codes "= 0 \"\"" ∷
    codes "@ 1 2008 2064 4 1 0 0 0 0 0 0 0 0 \"\"" ∷
    codes "@ 1 2008 18 4 1 0 0 0 0 0 0 0 0 \"e\"" ∷
    codes "= 0 \"\"" ∷
    codes "@ 1 2008 2064 4 1 0 0 0 0 0 0 0 0 \"\"" ∷
    codes "@ 1 2008 18 4 1 0 0 0 0 0 0 0 0 \"h\"" ∷
    codes "= 0 \"\"" ∷
    codes "@ 1 2008 2064 1 3 0 0 0 0 0 0 0 0 \"\"" ∷
    codes "@ 1 2008 8210 1 3 0 0 0 0 0 0 0 0 \"bcd\"" ∷
    codes "= 3 \"aij\"" ∷
    codes "= 0 \"\"" ∷
    codes "@ 1 2008 1056 1 3 0 0 0 0 0 0 0 0 \"bcd\"" ∷
    codes "@ 1 2008 289 1 3 0 0 0 0 0 0 0 0 \"bcd\"" ∷
    codes "= 6 \"abcdij\"" ∷
    codes "= 0 \"\"" ∷
    codes "@ 1 2008 1056 4 1 0 0 0 0 0 0 0 0 \"h\"" ∷
    codes "@ 1 2008 161 4 1 0 0 0 0 0 0 0 0 \"h\"" ∷
    codes "@ 1 2008 1056 4 1 0 0 0 0 0 0 0 0 \"e\"" ∷
    codes "@ 1 2008 161 4 1 0 0 0 0 0 0 0 0 \"e\"" ∷
    codes "@ 1 2008 1056 5 1 0 0 0 0 0 0 0 0 \"g\"" ∷
    codes "@ 1 2008 161 5 1 0 0 0 0 0 0 0 0 \"g\"" ∷
    codes "@ 1 2008 1056 5 1 0 0 0 0 0 0 0 0 \"f\"" ∷
    codes "@ 1 2008 417 5 1 0 0 0 0 0 0 0 0 \"f\"" ∷
    codes "= 10 \"abcdefghij\"" ∷
    []))

abbrev pub ContainerStepFirst : Type 0
ContainerStepFirst = Prints ([])
    (joined_lines (
    codes "sci 1" ∷
    codes "open" ∷
    codes "send 1 2560 7 1 \"\"" ∷
    codes "send 1 2003 0 0 \"a\\x0a\"" ∷
    codes "send 1 2176 0 0 \"\"" ∷
    codes "send 1 2011 0 0 \"\"" ∷
    codes "send 1 2008 0 0 \"\"" ∷
    codes "send 1 2009 0 0 \"\"" ∷
    []))
    (joined_lines (
    codes "= 1 \"\"" ∷
    codes "= 0 \"\"" ∷
    codes "@ 1 2003 0 0 0 0 0 0 0 0 0 0 0 \"\"" ∷
    codes "= 0 \"\"" ∷
    codes "@ 1 2008 1040 0 2 0 0 0 0 0 0 0 0 \"a\\x0a\"" ∷
    codes "@ 1 2008 17 0 2 1 0 0 0 0 0 0 0 \"a\\x0a\"" ∷
    codes "= 0 \"\"" ∷
    codes "@ 1 2008 2080 0 2 0 0 0 0 0 0 0 0 \"\"" ∷
    codes "@ 1 2008 162 0 2 -1 0 0 0 0 0 0 0 \"a\\x0a\"" ∷
    codes "@ 1 2008 266656 0 0 0 0 0 0 7 0 0 0 \"\"" ∷
    codes "@ 1 2002 0 0 0 0 0 0 0 0 0 0 0 \"\"" ∷
    codes "= 0 \"\"" ∷
    codes "@ 1 2008 262336 0 0 0 0 0 0 7 0 0 0 \"\"" ∷
    codes "@ 1 2008 1088 0 2 0 0 0 0 0 0 0 0 \"a\\x0a\"" ∷
    codes "@ 1 2008 4545 0 2 1 0 0 0 0 0 0 0 \"a\\x0a\"" ∷
    codes "@ 1 2003 0 0 0 0 0 0 0 0 0 0 0 \"\"" ∷
    codes "= 2 \"\"" ∷
    codes "= 2 \"\"" ∷
    []))

abbrev pub ContainerStepsAlone : Type 0
ContainerStepsAlone = Prints ([])
    (joined_lines (
    codes "sci 1" ∷
    codes "open" ∷
    codes "send 1 2560 1 1 \"\"" ∷
    codes "send 1 2560 2 0 \"\"" ∷
    codes "send 1 2560 3 1 \"\"" ∷
    codes "send 1 2560 4 1 \"\"" ∷
    codes "send 1 2176 0 0 \"\"" ∷
    codes "send 1 2176 0 0 \"\"" ∷
    codes "send 1 2176 0 0 \"\"" ∷
    codes "send 1 2011 0 0 \"\"" ∷
    codes "send 1 2011 0 0 \"\"" ∷
    []))
    (joined_lines (
    codes "= 1 \"\"" ∷
    codes "= 0 \"\"" ∷
    codes "@ 1 2003 0 0 0 0 0 0 0 0 0 0 0 \"\"" ∷
    codes "= 0 \"\"" ∷
    codes "= 0 \"\"" ∷
    codes "= 0 \"\"" ∷
    codes "= 0 \"\"" ∷
    codes "@ 1 2008 262304 0 0 0 0 0 0 4 0 0 0 \"\"" ∷
    codes "@ 1 2008 262560 0 0 0 0 0 0 3 0 0 0 \"\"" ∷
    codes "= 0 \"\"" ∷
    codes "@ 1 2008 262304 0 0 0 0 0 0 2 0 0 0 \"\"" ∷
    codes "@ 1 2008 262560 0 0 0 0 0 0 1 0 0 0 \"\"" ∷
    codes "@ 1 2002 0 0 0 0 0 0 0 0 0 0 0 \"\"" ∷
    codes "= 0 \"\"" ∷
    codes "= 0 \"\"" ∷
    codes "@ 1 2008 262336 0 0 0 0 0 0 1 0 0 0 \"\"" ∷
    codes "@ 1 2008 262592 0 0 0 0 0 0 2 0 0 0 \"\"" ∷
    codes "@ 1 2003 0 0 0 0 0 0 0 0 0 0 0 \"\"" ∷
    codes "= 0 \"\"" ∷
    codes "@ 1 2008 262336 0 0 0 0 0 0 3 0 0 0 \"\"" ∷
    codes "@ 1 2008 262592 0 0 0 0 0 0 4 0 0 0 \"\"" ∷
    []))

abbrev pub ContainerStepsJoin : Type 0
ContainerStepsJoin = Prints ([])
    (joined_lines (
    codes "sci 1" ∷
    codes "open" ∷
    codes "send 1 2003 0 0 \"a\"" ∷
    codes "send 1 2560 1 1 \"\"" ∷
    codes "send 1 2003 1 0 \"b\"" ∷
    codes "send 1 2176 0 0 \"\"" ∷
    codes "send 1 2182 0 0 \"\"" ∷
    codes "send 1 2011 0 0 \"\"" ∷
    codes "send 1 2182 0 0 \"\"" ∷
    codes "send 1 2560 2 0 \"\"" ∷
    codes "send 1 2003 2 0 \"c\"" ∷
    codes "send 1 2176 0 0 \"\"" ∷
    codes "send 1 2182 0 0 \"\"" ∷
    codes "send 1 2176 0 0 \"\"" ∷
    codes "send 1 2182 0 0 \"\"" ∷
    []))
    (joined_lines (
    codes "= 1 \"\"" ∷
    codes "= 0 \"\"" ∷
    codes "@ 1 2008 1040 0 1 0 0 0 0 0 0 0 0 \"a\"" ∷
    codes "@ 1 2003 0 0 0 0 0 0 0 0 0 0 0 \"\"" ∷
    codes "@ 1 2008 8209 0 1 0 0 0 0 0 0 0 0 \"a\"" ∷
    codes "= 0 \"\"" ∷
    codes "= 0 \"\"" ∷
    codes "@ 1 2008 1040 1 1 0 0 0 0 0 0 0 0 \"b\"" ∷
    codes "@ 1 2008 17 1 1 0 0 0 0 0 0 0 0 \"b\"" ∷
    codes "= 0 \"\"" ∷
    codes "@ 1 2008 2080 1 1 0 0 0 0 0 0 0 0 \"\"" ∷
    codes "@ 1 2008 162 1 1 0 0 0 0 0 0 0 0 \"b\"" ∷
    codes "@ 1 2008 262304 0 0 0 0 0 0 1 0 0 0 \"\"" ∷
    codes "@ 1 2008 2080 0 1 0 0 0 0 0 0 0 0 \"\"" ∷
    codes "@ 1 2008 418 0 1 0 0 0 0 0 0 0 0 \"a\"" ∷
    codes "@ 1 2002 0 0 0 0 0 0 0 0 0 0 0 \"\"" ∷
    codes "= 0 \"\"" ∷
    codes "= 0 \"\"" ∷
    codes "@ 1 2008 1088 0 1 0 0 0 0 0 0 0 0 \"a\"" ∷
    codes "@ 1 2008 193 0 1 0 0 0 0 0 0 0 0 \"a\"" ∷
    codes "@ 1 2008 262336 0 0 0 0 0 0 1 0 0 0 \"\"" ∷
    codes "@ 1 2008 1088 1 1 0 0 0 0 0 0 0 0 \"b\"" ∷
    codes "@ 1 2008 449 1 1 0 0 0 0 0 0 0 0 \"b\"" ∷
    codes "@ 1 2003 0 0 0 0 0 0 0 0 0 0 0 \"\"" ∷
    codes "= 2 \"ab\"" ∷
    codes "= 0 \"\"" ∷
    codes "= 0 \"\"" ∷
    codes "@ 1 2008 1040 2 1 0 0 0 0 0 0 0 0 \"c\"" ∷
    codes "@ 1 2008 8209 2 1 0 0 0 0 0 0 0 0 \"c\"" ∷
    codes "= 0 \"\"" ∷
    codes "@ 1 2008 2080 2 1 0 0 0 0 0 0 0 0 \"\"" ∷
    codes "@ 1 2008 290 2 1 0 0 0 0 0 0 0 0 \"c\"" ∷
    codes "= 2 \"ab\"" ∷
    codes "= 0 \"\"" ∷
    codes "@ 1 2008 262432 0 0 0 0 0 0 2 0 0 0 \"\"" ∷
    codes "= 2 \"ab\"" ∷
    []))

abbrev pub GroupsAndSeals : Type 0
GroupsAndSeals = Prints ([])
    (joined_lines (
    codes "sci 1" ∷
    codes "open" ∷
    codes "send 1 2003 0 0 \"a\"" ∷
    codes "send 1 2078 0 0 \"\"" ∷
    codes "send 1 2078 0 0 \"\"" ∷
    codes "send 1 2003 1 0 \"b\"" ∷
    codes "send 1 2079 0 0 \"\"" ∷
    codes "send 1 2003 2 0 \"c\"" ∷
    codes "send 1 2079 0 0 \"\"" ∷
    codes "send 1 2079 0 0 \"\"" ∷
    codes "send 1 2003 3 0 \"d\"" ∷
    codes "send 1 2176 0 0 \"\"" ∷
    codes "send 1 2182 0 0 \"\"" ∷
    codes "send 1 2176 0 0 \"\"" ∷
    codes "send 1 2182 0 0 \"\"" ∷
    codes "send 1 2176 0 0 \"\"" ∷
    codes "send 1 2182 0 0 \"\"" ∷
    []))
    (joined_lines (
    codes "= 1 \"\"" ∷
    codes "= 0 \"\"" ∷
    codes "@ 1 2008 1040 0 1 0 0 0 0 0 0 0 0 \"a\"" ∷
    codes "@ 1 2003 0 0 0 0 0 0 0 0 0 0 0 \"\"" ∷
    codes "@ 1 2008 8209 0 1 0 0 0 0 0 0 0 0 \"a\"" ∷
    codes "= 0 \"\"" ∷
    codes "= 0 \"\"" ∷
    codes "= 0 \"\"" ∷
    codes "@ 1 2008 1040 1 1 0 0 0 0 0 0 0 0 \"b\"" ∷
    codes "@ 1 2008 8209 1 1 0 0 0 0 0 0 0 0 \"b\"" ∷
    codes "= 0 \"\"" ∷
    codes "= 0 \"\"" ∷
    codes "@ 1 2008 1040 2 1 0 0 0 0 0 0 0 0 \"c\"" ∷
    codes "@ 1 2008 17 2 1 0 0 0 0 0 0 0 0 \"c\"" ∷
    codes "= 0 \"\"" ∷
    codes "= 0 \"\"" ∷
    codes "= 0 \"\"" ∷
    codes "@ 1 2008 1040 3 1 0 0 0 0 0 0 0 0 \"d\"" ∷
    codes "@ 1 2008 8209 3 1 0 0 0 0 0 0 0 0 \"d\"" ∷
    codes "= 0 \"\"" ∷
    codes "@ 1 2008 2080 3 1 0 0 0 0 0 0 0 0 \"\"" ∷
    codes "@ 1 2008 290 3 1 0 0 0 0 0 0 0 0 \"d\"" ∷
    codes "= 3 \"abc\"" ∷
    codes "= 0 \"\"" ∷
    codes "@ 1 2008 2080 2 1 0 0 0 0 0 0 0 0 \"\"" ∷
    codes "@ 1 2008 162 2 1 0 0 0 0 0 0 0 0 \"c\"" ∷
    codes "@ 1 2008 2080 1 1 0 0 0 0 0 0 0 0 \"\"" ∷
    codes "@ 1 2008 418 1 1 0 0 0 0 0 0 0 0 \"b\"" ∷
    codes "= 1 \"a\"" ∷
    codes "= 0 \"\"" ∷
    codes "@ 1 2008 2080 0 1 0 0 0 0 0 0 0 0 \"\"" ∷
    codes "@ 1 2008 290 0 1 0 0 0 0 0 0 0 0 \"a\"" ∷
    codes "@ 1 2002 0 0 0 0 0 0 0 0 0 0 0 \"\"" ∷
    codes "= 0 \"\"" ∷
    []))

abbrev pub UndoQueries : Type 0
UndoQueries = Prints ([])
    (joined_lines (
    codes "sci 1" ∷
    codes "open" ∷
    codes "send 1 2174 0 0 \"\"" ∷
    codes "send 1 2016 0 0 \"\"" ∷
    codes "send 1 2019 0 0 \"\"" ∷
    codes "send 1 2159 0 0 \"\"" ∷
    codes "send 1 2140 0 0 \"\"" ∷
    codes "send 1 2003 0 0 \"a\"" ∷
    codes "send 1 2174 0 0 \"\"" ∷
    codes "send 1 2016 0 0 \"\"" ∷
    codes "send 1 2159 0 0 \"\"" ∷
    codes "send 1 2176 0 0 \"\"" ∷
    codes "send 1 2174 0 0 \"\"" ∷
    codes "send 1 2016 0 0 \"\"" ∷
    codes "send 1 2159 0 0 \"\"" ∷
    codes "send 1 2011 0 0 \"\"" ∷
    codes "send 1 2078 0 0 \"\"" ∷
    codes "send 1 2174 0 0 \"\"" ∷
    codes "send 1 2176 0 0 \"\"" ∷
    codes "send 1 2079 0 0 \"\"" ∷
    codes "send 1 2174 0 0 \"\"" ∷
    codes "send 1 2171 5 0 \"\"" ∷
    codes "send 1 2140 0 0 \"\"" ∷
    codes "send 1 2173 0 0 \"\"" ∷
    codes "send 1 2174 0 0 \"\"" ∷
    codes "send 1 2016 0 0 \"\"" ∷
    codes "send 1 2171 0 0 \"\"" ∷
    codes "send 1 2173 0 0 \"\"" ∷
    codes "send 1 2012 0 0 \"\"" ∷
    codes "send 1 2019 0 0 \"\"" ∷
    codes "send 1 2174 0 0 \"\"" ∷
    codes "send 1 2159 0 0 \"\"" ∷
    codes "send 1 2003 0 0 \"b\"" ∷
    codes "send 1 2174 0 0 \"\"" ∷
    codes "send 1 2012 1 0 \"\"" ∷
    codes "send 1 2019 0 0 \"\"" ∷
    codes "send 1 2159 0 0 \"\"" ∷
    codes "send 1 2014 0 0 \"\"" ∷
    codes "send 1 2159 0 0 \"\"" ∷
    []))
    (joined_lines (
    codes "= 1 \"\"" ∷
    codes "= 0 \"\"" ∷
    codes "= 0 \"\"" ∷
    codes "= 1 \"\"" ∷
    codes "= 0 \"\"" ∷
    codes "= 0 \"\"" ∷
    codes "= 0 \"\"" ∷
    codes "@ 1 2008 1040 0 1 0 0 0 0 0 0 0 0 \"a\"" ∷
    codes "@ 1 2003 0 0 0 0 0 0 0 0 0 0 0 \"\"" ∷
    codes "@ 1 2008 8209 0 1 0 0 0 0 0 0 0 0 \"a\"" ∷
    codes "= 1 \"\"" ∷
    codes "= 0 \"\"" ∷
    codes "= 1 \"\"" ∷
    codes "= 0 \"\"" ∷
    codes "@ 1 2008 2080 0 1 0 0 0 0 0 0 0 0 \"\"" ∷
    codes "@ 1 2008 290 0 1 0 0 0 0 0 0 0 0 \"a\"" ∷
    codes "@ 1 2002 0 0 0 0 0 0 0 0 0 0 0 \"\"" ∷
    codes "= 0 \"\"" ∷
    codes "= 1 \"\"" ∷
    codes "= 0 \"\"" ∷
    codes "= 0 \"\"" ∷
    codes "@ 1 2008 1088 0 1 0 0 0 0 0 0 0 0 \"a\"" ∷
    codes "@ 1 2008 321 0 1 0 0 0 0 0 0 0 0 \"a\"" ∷
    codes "@ 1 2003 0 0 0 0 0 0 0 0 0 0 0 \"\"" ∷
    codes "= 0 \"\"" ∷
    codes "= 0 \"\"" ∷
    codes "= 0 \"\"" ∷
    codes "= 0 \"\"" ∷
    codes "= 1 \"\"" ∷
    codes "= 0 \"\"" ∷
    codes "= 1 \"\"" ∷
    codes "= 0 \"\"" ∷
    codes "= 0 \"\"" ∷
    codes "= 0 \"\"" ∷
    codes "= 0 \"\"" ∷
    codes "= 1 \"\"" ∷
    codes "= 0 \"\"" ∷
    codes "= 0 \"\"" ∷
    codes "= 0 \"\"" ∷
    codes "= 1 \"\"" ∷
    codes "= 0 \"\"" ∷
    codes "@ 1 2008 1040 0 1 0 0 0 0 0 0 0 0 \"b\"" ∷
    codes "@ 1 2008 17 0 1 0 0 0 0 0 0 0 0 \"b\"" ∷
    codes "= 0 \"\"" ∷
    codes "= 0 \"\"" ∷
    codes "= 1 \"\"" ∷
    codes "= 1 \"\"" ∷
    codes "= 0 \"\"" ∷
    codes "@ 1 2002 0 0 0 0 0 0 0 0 0 0 0 \"\"" ∷
    codes "= 0 \"\"" ∷
    []))

abbrev pub CollectionOffEndsGroups : Type 0
CollectionOffEndsGroups = Prints ([])
    (joined_lines (
    codes "sci 1" ∷
    codes "open" ∷
    codes "send 1 2012 0 0 \"\"" ∷
    codes "send 1 2078 0 0 \"\"" ∷
    codes "send 1 2012 0 0 \"\"" ∷
    codes "send 1 2012 1 0 \"\"" ∷
    codes "send 1 2003 0 0 \"a\"" ∷
    codes "send 1 2174 0 0 \"\"" ∷
    codes "open" ∷
    codes "send 2 2012 0 0 \"\"" ∷
    codes "send 2 2078 0 0 \"\"" ∷
    codes "send 2 2012 1 0 \"\"" ∷
    codes "send 2 2003 0 0 \"a\"" ∷
    codes "send 2 2012 1 0 \"\"" ∷
    codes "send 2 2174 0 0 \"\"" ∷
    codes "send 2 2079 0 0 \"\"" ∷
    codes "send 2 2174 0 0 \"\"" ∷
    []))
    (joined_lines (
    codes "= 1 \"\"" ∷
    codes "= 0 \"\"" ∷
    codes "= 0 \"\"" ∷
    codes "= 0 \"\"" ∷
    codes "= 0 \"\"" ∷
    codes "= 0 \"\"" ∷
    codes "@ 1 2008 1040 0 1 0 0 0 0 0 0 0 0 \"a\"" ∷
    codes "@ 1 2003 0 0 0 0 0 0 0 0 0 0 0 \"\"" ∷
    codes "@ 1 2008 8209 0 1 0 0 0 0 0 0 0 0 \"a\"" ∷
    codes "= 1 \"\"" ∷
    codes "= 2 \"\"" ∷
    codes "= 0 \"\"" ∷
    codes "= 0 \"\"" ∷
    codes "= 0 \"\"" ∷
    codes "= 0 \"\"" ∷
    codes "@ 2 2008 1040 0 1 0 0 0 0 0 0 0 0 \"a\"" ∷
    codes "@ 2 2003 0 0 0 0 0 0 0 0 0 0 0 \"\"" ∷
    codes "@ 2 2008 8209 0 1 0 0 0 0 0 0 0 0 \"a\"" ∷
    codes "= 0 \"\"" ∷
    codes "= 0 \"\"" ∷
    codes "= 0 \"\"" ∷
    codes "= 1 \"\"" ∷
    []))
