-- Worked examples, written by tools/pages/example_theorems.py from examples/messages.
use Rattle.std.specs.Prelude.{[], ◌∷◌, codes}
use Rattle.ed_model.specs.Prints.{Prints, joined_lines}

abbrev pub Expects : Type 0
Expects = Prints ([])
    (joined_lines (
    codes "sci 2" ∷
    codes "open" ∷
    codes "expect 1" ∷
    codes "expect 1" ∷
    codes "send 1 2006 0 0 \"\"" ∷
    codes "expect 3" ∷
    codes "send 9 2006 0 0 \"\"" ∷
    codes "expect 0" ∷
    []))
    (joined_lines (
    codes "= 1 \"\"" ∷
    codes "+ 1" ∷
    codes "+ 1" ∷
    codes "= 0 \"\"" ∷
    codes "- 3" ∷
    codes "! 2" ∷
    codes "- 0" ∷
    []))

abbrev pub Hello : Type 0
Hello = Prints ([])
    (joined_lines (
    codes "sci 1" ∷
    codes "open" ∷
    codes "send 1 2003 0 0 \"hello\"" ∷
    codes "send 1 2006 0 0 \"\"" ∷
    codes "send 1 2182 0 0 \"\"" ∷
    []))
    (joined_lines (
    codes "= 1 \"\"" ∷
    codes "= 0 \"\"" ∷
    codes "@ 1 2008 1040 0 5 0 0 0 0 0 0 0 0 \"hello\"" ∷
    codes "@ 1 2003 0 0 0 0 0 0 0 0 0 0 0 \"\"" ∷
    codes "@ 1 2008 8209 0 5 0 0 0 0 0 0 0 0 \"hello\"" ∷
    codes "= 5 \"\"" ∷
    codes "= 5 \"hello\"" ∷
    []))

abbrev pub Refusals : Type 0
Refusals = Prints ([])
    (joined_lines (
    codes "sci 1" ∷
    codes "open" ∷
    codes "send 1 2003 0 0 \"abcd\"" ∷
    codes "send 1 2645 1 4 \"\"" ∷
    codes "send 1 2645 1 2 \"\"" ∷
    codes "send 1 2182 0 0 \"\"" ∷
    codes "send 1 9999 0 0 \"\"" ∷
    codes "send 2 2006 0 0 \"\"" ∷
    []))
    (joined_lines (
    codes "= 1 \"\"" ∷
    codes "= 0 \"\"" ∷
    codes "@ 1 2008 1040 0 4 0 0 0 0 0 0 0 0 \"abcd\"" ∷
    codes "@ 1 2003 0 0 0 0 0 0 0 0 0 0 0 \"\"" ∷
    codes "@ 1 2008 8209 0 4 0 0 0 0 0 0 0 0 \"abcd\"" ∷
    codes "! 6" ∷
    codes "= 0 \"\"" ∷
    codes "@ 1 2008 2064 1 2 0 0 0 0 0 0 0 0 \"\"" ∷
    codes "@ 1 2008 8210 1 2 0 0 0 0 0 0 0 0 \"bc\"" ∷
    codes "= 2 \"ad\"" ∷
    codes "! 3" ∷
    codes "! 2" ∷
    []))

abbrev pub LineQueries : Type 0
LineQueries = Prints ([])
    (joined_lines (
    codes "sci 1" ∷
    codes "open" ∷
    codes "send 1 2003 0 0 \"a\\x0d\\x0ab\\x0dc\\x0ad\"" ∷
    codes "send 1 2136 -1 0 \"\"" ∷
    codes "send 1 2136 0 0 \"\"" ∷
    codes "send 1 2136 1 0 \"\"" ∷
    codes "send 1 2136 2 0 \"\"" ∷
    codes "send 1 2136 3 0 \"\"" ∷
    codes "send 1 2153 0 0 \"\"" ∷
    codes "send 1 2153 9 0 \"\"" ∷
    codes "send 1 2027 0 0 \"\"" ∷
    codes "send 1 2350 3 0 \"\"" ∷
    codes "send 1 2162 3 -1 \"\"" ∷
    codes "send 1 2162 5 4 \"\"" ∷
    codes "send 1 2167 -1 0 \"\"" ∷
    []))
    (joined_lines (
    codes "= 1 \"\"" ∷
    codes "= 0 \"\"" ∷
    codes "@ 1 2008 1040 0 8 0 0 0 0 0 0 0 0 \"a\\x0d\\x0ab\\x0dc\\x0ad\"" ∷
    codes "@ 1 2003 0 0 0 0 0 0 0 0 0 0 0 \"\"" ∷
    codes "@ 1 2008 8209 0 8 3 0 0 0 0 0 0 0 \"a\\x0d\\x0ab\\x0dc\\x0ad\"" ∷
    codes "= -1 \"\"" ∷
    codes "= 1 \"\"" ∷
    codes "= 4 \"\"" ∷
    codes "= 6 \"\"" ∷
    codes "= 8 \"\"" ∷
    codes "= 3 \"a\\x0d\\x0a\"" ∷
    codes "= 0 \"\"" ∷
    codes "= 0 \"a\\x0d\\x0a\"" ∷
    codes "= 1 \"\"" ∷
    codes "= 5 \"b\\x0dc\\x0ad\"" ∷
    codes "! 6" ∷
    codes "= 0 \"\"" ∷
    []))

abbrev pub MixedLineEnds : Type 0
MixedLineEnds = Prints ([])
    (joined_lines (
    codes "sci 1" ∷
    codes "open" ∷
    codes "send 1 2003 0 0 \"a\\x0d\\x0ab\\x0dc\\x0ad\"" ∷
    codes "send 1 2167 0 0 \"\"" ∷
    codes "send 1 2167 1 0 \"\"" ∷
    codes "send 1 2167 2 0 \"\"" ∷
    codes "send 1 2167 3 0 \"\"" ∷
    codes "send 1 2166 2 0 \"\"" ∷
    codes "send 1 2167 4 0 \"\"" ∷
    codes "send 1 2167 5 0 \"\"" ∷
    []))
    (joined_lines (
    codes "= 1 \"\"" ∷
    codes "= 0 \"\"" ∷
    codes "@ 1 2008 1040 0 8 0 0 0 0 0 0 0 0 \"a\\x0d\\x0ab\\x0dc\\x0ad\"" ∷
    codes "@ 1 2003 0 0 0 0 0 0 0 0 0 0 0 \"\"" ∷
    codes "@ 1 2008 8209 0 8 3 0 0 0 0 0 0 0 \"a\\x0d\\x0ab\\x0dc\\x0ad\"" ∷
    codes "= 0 \"\"" ∷
    codes "= 3 \"\"" ∷
    codes "= 5 \"\"" ∷
    codes "= 7 \"\"" ∷
    codes "= 0 \"\"" ∷
    codes "= 8 \"\"" ∷
    codes "= -1 \"\"" ∷
    []))

abbrev pub NewView : Type 0
NewView = Prints ([])
    (joined_lines (
    codes "sci 1" ∷
    codes "open" ∷
    codes "send 1 2006 0 0 \"\"" ∷
    codes "send 1 2154 0 0 \"\"" ∷
    codes "send 1 2182 0 0 \"\"" ∷
    codes "send 1 2167 1 0 \"\"" ∷
    codes "send 1 2167 2 0 \"\"" ∷
    []))
    (joined_lines (
    codes "= 1 \"\"" ∷
    codes "= 0 \"\"" ∷
    codes "= 1 \"\"" ∷
    codes "= 0 \"\"" ∷
    codes "= 0 \"\"" ∷
    codes "= -1 \"\"" ∷
    []))

abbrev pub LoadFiles : Type 0
LoadFiles = Prints ((codes "hi") ∷ [])
    (joined_lines (
    codes "sci 1" ∷
    codes "open" ∷
    codes "load 1 1" ∷
    codes "load 9 1" ∷
    codes "load 1 2" ∷
    codes "send 1 2182 0 0 \"\"" ∷
    []))
    (joined_lines (
    codes "= 1 \"\"" ∷
    codes "= 0 \"\"" ∷
    codes "@ 1 2008 1040 0 2 0 0 0 0 0 0 0 0 \"hi\"" ∷
    codes "@ 1 2003 0 0 0 0 0 0 0 0 0 0 0 \"\"" ∷
    codes "@ 1 2008 8209 0 2 0 0 0 0 0 0 0 0 \"hi\"" ∷
    codes "! 2" ∷
    codes "! 6" ∷
    codes "= 2 \"hi\"" ∷
    []))

abbrev pub ScriptSpelling : Type 0
ScriptSpelling = Prints ([])
    (joined_lines (
    codes "sci 1" ∷
    codes "open" ∷
    codes "send 1 2282 4 -9223372036854775808 \"\\\"\\\\\\x00\\x80\"" ∷
    codes "send 1 2182 0 0 \"\"" ∷
    []))
    (joined_lines (
    codes "= 1 \"\"" ∷
    codes "= 0 \"\"" ∷
    codes "@ 1 2008 1040 0 4 0 0 0 0 0 0 0 0 \"\\\"\\\\\\x00\\x80\"" ∷
    codes "@ 1 2003 0 0 0 0 0 0 0 0 0 0 0 \"\"" ∷
    codes "@ 1 2008 8209 0 4 0 0 0 0 0 0 0 0 \"\\\"\\\\\\x00\\x80\"" ∷
    codes "= 4 \"\\\"\\\\\\x00\\x80\"" ∷
    []))

abbrev pub ExpectAtTheStart : Type 0
ExpectAtTheStart = Prints ([])
    (joined_lines (
    codes "sci 2" ∷
    codes "expect 0" ∷
    codes "open" ∷
    codes "expect 1" ∷
    codes "close 1" ∷
    codes "expect 0" ∷
    codes "close 1" ∷
    codes "expect 0" ∷
    []))
    (joined_lines (
    codes "- 0" ∷
    codes "= 1 \"\"" ∷
    codes "+ 1" ∷
    codes "= 0 \"\"" ∷
    codes "+ 0" ∷
    codes "! 2" ∷
    codes "- 0" ∷
    []))

abbrev pub ExpectsOfEveryCommand : Type 0
ExpectsOfEveryCommand = Prints ((codes "hi") ∷ [])
    (joined_lines (
    codes "sci 2" ∷
    codes "expect 0" ∷
    codes "open" ∷
    codes "expect 1" ∷
    codes "expect 1" ∷
    codes "load 1 1" ∷
    codes "expect 0" ∷
    codes "send 1 2006 0 0 \"\"" ∷
    codes "expect 3" ∷
    codes "expect 2" ∷
    codes "send 1 2167 9 0 \"\"" ∷
    codes "expect -1" ∷
    codes "load 1 2" ∷
    codes "expect 0" ∷
    codes "send 9 2006 0 0 \"\"" ∷
    codes "expect 2" ∷
    codes "close 1" ∷
    codes "expect 0" ∷
    codes "expect 1" ∷
    []))
    (joined_lines (
    codes "- 0" ∷
    codes "= 1 \"\"" ∷
    codes "+ 1" ∷
    codes "+ 1" ∷
    codes "= 0 \"\"" ∷
    codes "@ 1 2008 1040 0 2 0 0 0 0 0 0 0 0 \"hi\"" ∷
    codes "@ 1 2003 0 0 0 0 0 0 0 0 0 0 0 \"\"" ∷
    codes "@ 1 2008 8209 0 2 0 0 0 0 0 0 0 0 \"hi\"" ∷
    codes "+ 0" ∷
    codes "= 2 \"\"" ∷
    codes "- 3" ∷
    codes "+ 2" ∷
    codes "= -1 \"\"" ∷
    codes "+ -1" ∷
    codes "! 6" ∷
    codes "- 0" ∷
    codes "! 2" ∷
    codes "- 2" ∷
    codes "= 0 \"\"" ∷
    codes "+ 0" ∷
    codes "- 1" ∷
    []))

abbrev pub TextLengthAndAppending : Type 0
TextLengthAndAppending = Prints ([])
    (joined_lines (
    codes "sci 1" ∷
    codes "open" ∷
    codes "send 1 2181 0 0 \"one\\x0atwo\"" ∷
    codes "send 1 2006 0 0 \"\"" ∷
    codes "send 1 2183 0 0 \"\"" ∷
    codes "send 1 2282 4 0 \"\\x0athree\"" ∷
    codes "send 1 2282 2 0 \"xyz\"" ∷
    codes "send 1 2001 1 0 \"ab\"" ∷
    codes "send 1 2001 3 0 \"ab\"" ∷
    codes "send 1 2282 -1 0 \"ab\"" ∷
    codes "send 1 2182 0 0 \"\"" ∷
    codes "send 1 2001 0 0 \"\"" ∷
    codes "send 1 2004 0 0 \"\"" ∷
    codes "send 1 2182 0 0 \"\"" ∷
    codes "send 1 2004 0 0 \"\"" ∷
    []))
    (joined_lines (
    codes "= 1 \"\"" ∷
    codes "= 0 \"\"" ∷
    codes "@ 1 2008 1040 0 7 0 0 0 0 0 0 0 0 \"one\\x0atwo\"" ∷
    codes "@ 1 2003 0 0 0 0 0 0 0 0 0 0 0 \"\"" ∷
    codes "@ 1 2008 8209 0 7 1 0 0 0 0 0 0 0 \"one\\x0atwo\"" ∷
    codes "= 7 \"\"" ∷
    codes "= 7 \"\"" ∷
    codes "= 0 \"\"" ∷
    codes "@ 1 2008 1040 7 4 0 0 0 0 0 0 0 0 \"\\x0athr\"" ∷
    codes "@ 1 2008 17 7 4 1 0 0 0 0 0 0 0 \"\\x0athr\"" ∷
    codes "= 0 \"\"" ∷
    codes "@ 1 2008 1040 11 2 0 0 0 0 0 0 0 0 \"xy\"" ∷
    codes "@ 1 2008 17 11 2 0 0 0 0 0 0 0 0 \"xy\"" ∷
    codes "= 0 \"\"" ∷
    codes "@ 1 2008 1040 0 1 0 0 0 0 0 0 0 0 \"a\"" ∷
    codes "@ 1 2008 8209 0 1 0 0 0 0 0 0 0 0 \"a\"" ∷
    codes "! 6" ∷
    codes "! 6" ∷
    codes "= 14 \"aone\\x0atwo\\x0athrxy\"" ∷
    codes "= 0 \"\"" ∷
    codes "= 0 \"\"" ∷
    codes "@ 1 2008 2064 0 14 0 0 0 0 0 0 0 0 \"\"" ∷
    codes "@ 1 2008 8210 0 14 -2 0 0 0 0 0 0 0 \"aone\\x0atwo\\x0athrxy\"" ∷
    codes "= 0 \"\"" ∷
    codes "= 0 \"\"" ∷
    []))
