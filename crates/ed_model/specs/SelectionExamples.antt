-- Worked examples, written by tools/pages/example_theorems.py from examples/messages.
use Rattle.std.specs.Prelude.{[], ◌∷◌, codes}
use Rattle.ed_model.specs.Prints.{Prints, joined_lines}

abbrev pub CharacterCuts : Type 0
CharacterCuts = Prints ([])
    (joined_lines (
    codes "sci 1" ∷
    codes "open" ∷
    codes "send 1 2003 0 0 \"a\\xc3\\xa9\\x0d\\x0a\\x80\"" ∷
    codes "send 1 2418 1 0 \"\"" ∷
    codes "send 1 2418 3 0 \"\"" ∷
    codes "send 1 2418 5 0 \"\"" ∷
    codes "send 1 2417 3 0 \"\"" ∷
    codes "send 1 2417 2 0 \"\"" ∷
    []))
    (joined_lines (
    codes "= 1 \"\"" ∷
    codes "= 0 \"\"" ∷
    codes "@ 1 2008 1040 0 6 0 0 0 0 0 0 0 0 \"a\\xc3\\xa9\\x0d\\x0a\\x80\"" ∷
    codes "@ 1 2003 0 0 0 0 0 0 0 0 0 0 0 \"\"" ∷
    codes "@ 1 2008 8209 0 6 1 0 0 0 0 0 0 0 \"a\\xc3\\xa9\\x0d\\x0a\\x80\"" ∷
    codes "= 3 \"\"" ∷
    codes "= 5 \"\"" ∷
    codes "= 6 \"\"" ∷
    codes "= 1 \"\"" ∷
    codes "= 1 \"\"" ∷
    []))

abbrev pub ClearOverCrlf : Type 0
ClearOverCrlf = Prints ([])
    (joined_lines (
    codes "sci 1" ∷
    codes "open" ∷
    codes "send 1 2003 0 0 \"a\\x0d\\x0ab\"" ∷
    codes "send 1 2025 1 0 \"\"" ∷
    codes "send 1 2180 0 0 \"\"" ∷
    codes "send 1 2182 0 0 \"\"" ∷
    []))
    (joined_lines (
    codes "= 1 \"\"" ∷
    codes "= 0 \"\"" ∷
    codes "@ 1 2008 1040 0 4 0 0 0 0 0 0 0 0 \"a\\x0d\\x0ab\"" ∷
    codes "@ 1 2003 0 0 0 0 0 0 0 0 0 0 0 \"\"" ∷
    codes "@ 1 2008 8209 0 4 1 0 0 0 0 0 0 0 \"a\\x0d\\x0ab\"" ∷
    codes "= 0 \"\"" ∷
    codes "= 0 \"\"" ∷
    codes "@ 1 2008 2064 1 2 0 0 0 0 0 0 0 0 \"\"" ∷
    codes "@ 1 2008 8210 1 2 -1 0 0 0 0 0 0 0 \"\\x0d\\x0a\"" ∷
    codes "= 2 \"ab\"" ∷
    []))

abbrev pub Clipboard : Type 0
Clipboard = Prints ([])
    (joined_lines (
    codes "sci 1" ∷
    codes "open" ∷
    codes "send 1 2003 0 0 \"abcd\"" ∷
    codes "send 1 2160 1 3 \"\"" ∷
    codes "send 1 2177 0 0 \"\"" ∷
    codes "send 1 2182 0 0 \"\"" ∷
    codes "send 1 2008 0 0 \"\"" ∷
    codes "send 1 2025 0 0 \"\"" ∷
    codes "send 1 2179 0 0 \"\"" ∷
    codes "send 1 2182 0 0 \"\"" ∷
    codes "send 1 2008 0 0 \"\"" ∷
    codes "send 1 2177 0 0 \"\"" ∷
    codes "send 1 2182 0 0 \"\"" ∷
    codes "send 1 2160 1 3 \"\"" ∷
    codes "send 1 2142 4 0 \"\"" ∷
    codes "send 1 2009 0 0 \"\"" ∷
    codes "send 1 2008 0 0 \"\"" ∷
    []))
    (joined_lines (
    codes "= 1 \"\"" ∷
    codes "= 0 \"\"" ∷
    codes "@ 1 2008 1040 0 4 0 0 0 0 0 0 0 0 \"abcd\"" ∷
    codes "@ 1 2003 0 0 0 0 0 0 0 0 0 0 0 \"\"" ∷
    codes "@ 1 2008 8209 0 4 0 0 0 0 0 0 0 0 \"abcd\"" ∷
    codes "= 0 \"\"" ∷
    codes "= 0 \"\"" ∷
    codes "@ 1 2008 2064 1 2 0 0 0 0 0 0 0 0 \"\"" ∷
    codes "@ 1 2008 8210 1 2 0 0 0 0 0 0 0 0 \"bc\"" ∷
    codes "= 2 \"ad\"" ∷
    codes "= 1 \"\"" ∷
    codes "= 0 \"\"" ∷
    codes "= 0 \"\"" ∷
    codes "@ 1 2008 1040 0 2 0 0 0 0 0 0 0 0 \"bc\"" ∷
    codes "@ 1 2008 8209 0 2 0 0 0 0 0 0 0 0 \"bc\"" ∷
    codes "= 4 \"bcad\"" ∷
    codes "= 2 \"\"" ∷
    codes "= 0 \"\"" ∷
    codes "= 4 \"bcad\"" ∷
    codes "= 0 \"\"" ∷
    codes "= 0 \"\"" ∷
    codes "= 4 \"\"" ∷
    codes "= 4 \"\"" ∷
    []))

abbrev pub CutOfNothing : Type 0
CutOfNothing = Prints ([])
    (joined_lines (
    codes "sci 1" ∷
    codes "open" ∷
    codes "send 1 2003 0 0 \"abcd\"" ∷
    codes "send 1 2160 1 3 \"\"" ∷
    codes "send 1 2177 0 0 \"\"" ∷
    codes "send 1 2177 0 0 \"\"" ∷
    codes "send 1 2025 0 0 \"\"" ∷
    codes "send 1 2179 0 0 \"\"" ∷
    codes "send 1 2182 0 0 \"\"" ∷
    []))
    (joined_lines (
    codes "= 1 \"\"" ∷
    codes "= 0 \"\"" ∷
    codes "@ 1 2008 1040 0 4 0 0 0 0 0 0 0 0 \"abcd\"" ∷
    codes "@ 1 2003 0 0 0 0 0 0 0 0 0 0 0 \"\"" ∷
    codes "@ 1 2008 8209 0 4 0 0 0 0 0 0 0 0 \"abcd\"" ∷
    codes "= 0 \"\"" ∷
    codes "= 0 \"\"" ∷
    codes "@ 1 2008 2064 1 2 0 0 0 0 0 0 0 0 \"\"" ∷
    codes "@ 1 2008 8210 1 2 0 0 0 0 0 0 0 0 \"bc\"" ∷
    codes "= 0 \"\"" ∷
    codes "= 0 \"\"" ∷
    codes "= 0 \"\"" ∷
    codes "@ 1 2008 1040 0 2 0 0 0 0 0 0 0 0 \"bc\"" ∷
    codes "@ 1 2008 8209 0 2 0 0 0 0 0 0 0 0 \"bc\"" ∷
    codes "= 4 \"bcad\"" ∷
    []))

abbrev pub NewlineAndDeleteBack : Type 0
NewlineAndDeleteBack = Prints ([])
    (joined_lines (
    codes "sci 1" ∷
    codes "open" ∷
    codes "send 1 2031 0 0 \"\"" ∷
    codes "send 1 2329 0 0 \"\"" ∷
    codes "send 1 2182 0 0 \"\"" ∷
    codes "send 1 2008 0 0 \"\"" ∷
    codes "send 1 2326 0 0 \"\"" ∷
    codes "send 1 2182 0 0 \"\"" ∷
    []))
    (joined_lines (
    codes "= 1 \"\"" ∷
    codes "= 0 \"\"" ∷
    codes "= 0 \"\"" ∷
    codes "@ 1 2008 1040 0 2 0 0 0 0 0 0 0 0 \"\\x0d\\x0a\"" ∷
    codes "@ 1 2003 0 0 0 0 0 0 0 0 0 0 0 \"\"" ∷
    codes "@ 1 2008 8209 0 2 1 0 0 0 0 0 0 0 \"\\x0d\\x0a\"" ∷
    codes "= 2 \"\\x0d\\x0a\"" ∷
    codes "= 2 \"\"" ∷
    codes "= 0 \"\"" ∷
    codes "@ 1 2008 2064 0 2 0 0 0 0 0 0 0 0 \"\"" ∷
    codes "@ 1 2008 8210 0 2 -1 0 0 0 0 0 0 0 \"\\x0d\\x0a\"" ∷
    codes "= 0 \"\"" ∷
    []))

abbrev pub PasteAsItIs : Type 0
PasteAsItIs = Prints ([])
    (joined_lines (
    codes "sci 1" ∷
    codes "open" ∷
    codes "send 1 2467 0 0 \"\"" ∷
    codes "send 1 2420 4 0 \"x\\x0d\\x0ay\"" ∷
    codes "send 1 2179 0 0 \"\"" ∷
    codes "send 1 2182 0 0 \"\"" ∷
    codes "send 1 2008 0 0 \"\"" ∷
    []))
    (joined_lines (
    codes "= 1 \"\"" ∷
    codes "= 0 \"\"" ∷
    codes "= 0 \"\"" ∷
    codes "= 0 \"\"" ∷
    codes "@ 1 2008 1040 0 4 0 0 0 0 0 0 0 0 \"x\\x0d\\x0ay\"" ∷
    codes "@ 1 2003 0 0 0 0 0 0 0 0 0 0 0 \"\"" ∷
    codes "@ 1 2008 8209 0 4 1 0 0 0 0 0 0 0 \"x\\x0d\\x0ay\"" ∷
    codes "= 4 \"x\\x0d\\x0ay\"" ∷
    codes "= 4 \"\"" ∷
    []))

abbrev pub PasteConvertsLineEnds : Type 0
PasteConvertsLineEnds = Prints ([])
    (joined_lines (
    codes "sci 1" ∷
    codes "open" ∷
    codes "send 1 2420 4 0 \"x\\x0d\\x0ay\"" ∷
    codes "send 1 2179 0 0 \"\"" ∷
    codes "send 1 2182 0 0 \"\"" ∷
    codes "send 1 2008 0 0 \"\"" ∷
    []))
    (joined_lines (
    codes "= 1 \"\"" ∷
    codes "= 0 \"\"" ∷
    codes "= 0 \"\"" ∷
    codes "@ 1 2008 1040 0 3 0 0 0 0 0 0 0 0 \"x\\x0ay\"" ∷
    codes "@ 1 2003 0 0 0 0 0 0 0 0 0 0 0 \"\"" ∷
    codes "@ 1 2008 8209 0 3 1 0 0 0 0 0 0 0 \"x\\x0ay\"" ∷
    codes "= 3 \"x\\x0ay\"" ∷
    codes "= 3 \"\"" ∷
    []))

abbrev pub SearchBackwardsEmptyMissing : Type 0
SearchBackwardsEmptyMissing = Prints ([])
    (joined_lines (
    codes "sci 1" ∷
    codes "open" ∷
    codes "send 1 2003 0 0 \"abab\"" ∷
    codes "send 1 2190 4 0 \"\"" ∷
    codes "send 1 2192 0 0 \"\"" ∷
    codes "send 1 2198 0 0 \"\"" ∷
    codes "send 1 2197 2 0 \"ab\"" ∷
    codes "send 1 2190 4 0 \"\"" ∷
    codes "send 1 2192 0 0 \"\"" ∷
    codes "send 1 2197 0 0 \"\"" ∷
    codes "send 1 2191 0 0 \"\"" ∷
    codes "send 1 2193 0 0 \"\"" ∷
    codes "send 1 2190 0 0 \"\"" ∷
    codes "send 1 2192 4 0 \"\"" ∷
    codes "send 1 2197 1 0 \"x\"" ∷
    codes "send 1 2191 0 0 \"\"" ∷
    codes "send 1 2193 0 0 \"\"" ∷
    []))
    (joined_lines (
    codes "= 1 \"\"" ∷
    codes "= 0 \"\"" ∷
    codes "@ 1 2008 1040 0 4 0 0 0 0 0 0 0 0 \"abab\"" ∷
    codes "@ 1 2003 0 0 0 0 0 0 0 0 0 0 0 \"\"" ∷
    codes "@ 1 2008 8209 0 4 0 0 0 0 0 0 0 0 \"abab\"" ∷
    codes "= 0 \"\"" ∷
    codes "= 0 \"\"" ∷
    codes "= 0 \"\"" ∷
    codes "= 2 \"\"" ∷
    codes "= 0 \"\"" ∷
    codes "= 0 \"\"" ∷
    codes "= 0 \"\"" ∷
    codes "= 0 \"\"" ∷
    codes "= 0 \"\"" ∷
    codes "= 0 \"\"" ∷
    codes "= 0 \"\"" ∷
    codes "= -1 \"\"" ∷
    codes "= 0 \"\"" ∷
    codes "= 4 \"\"" ∷
    []))

abbrev pub SearchCaseAndReplace : Type 0
SearchCaseAndReplace = Prints ([])
    (joined_lines (
    codes "sci 1" ∷
    codes "open" ∷
    codes "send 1 2003 0 0 \"ab AB\"" ∷
    codes "send 1 2690 0 0 \"\"" ∷
    codes "send 1 2197 2 0 \"AB\"" ∷
    codes "send 1 2198 4 0 \"\"" ∷
    codes "send 1 2690 0 0 \"\"" ∷
    codes "send 1 2197 2 0 \"AB\"" ∷
    codes "send 1 2198 1 0 \"\"" ∷
    codes "send 1 2194 -1 0 \"xyz\"" ∷
    codes "send 1 2182 0 0 \"\"" ∷
    codes "send 1 2191 0 0 \"\"" ∷
    codes "send 1 2193 0 0 \"\"" ∷
    []))
    (joined_lines (
    codes "= 1 \"\"" ∷
    codes "= 0 \"\"" ∷
    codes "@ 1 2008 1040 0 5 0 0 0 0 0 0 0 0 \"ab AB\"" ∷
    codes "@ 1 2003 0 0 0 0 0 0 0 0 0 0 0 \"\"" ∷
    codes "@ 1 2008 8209 0 5 0 0 0 0 0 0 0 0 \"ab AB\"" ∷
    codes "= 0 \"\"" ∷
    codes "= 0 \"\"" ∷
    codes "= 0 \"\"" ∷
    codes "= 0 \"\"" ∷
    codes "= 3 \"\"" ∷
    codes "! 6" ∷
    codes "= 3 \"\"" ∷
    codes "@ 1 2008 2064 3 2 0 0 0 0 0 0 0 0 \"\"" ∷
    codes "@ 1 2008 8210 3 2 0 0 0 0 0 0 0 0 \"AB\"" ∷
    codes "@ 1 2008 1040 3 3 0 0 0 0 0 0 0 0 \"xyz\"" ∷
    codes "@ 1 2008 17 3 3 0 0 0 0 0 0 0 0 \"xyz\"" ∷
    codes "= 6 \"ab xyz\"" ∷
    codes "= 3 \"\"" ∷
    codes "= 6 \"\"" ∷
    []))

abbrev pub SearchWholeWord : Type 0
SearchWholeWord = Prints ([])
    (joined_lines (
    codes "sci 1" ∷
    codes "open" ∷
    codes "send 1 2003 0 0 \"ab_ab ab\"" ∷
    codes "send 1 2190 0 0 \"\"" ∷
    codes "send 1 2192 8 0 \"\"" ∷
    codes "send 1 2198 2 0 \"\"" ∷
    codes "send 1 2197 2 0 \"ab\"" ∷
    codes "send 1 2191 0 0 \"\"" ∷
    codes "send 1 2193 0 0 \"\"" ∷
    []))
    (joined_lines (
    codes "= 1 \"\"" ∷
    codes "= 0 \"\"" ∷
    codes "@ 1 2008 1040 0 8 0 0 0 0 0 0 0 0 \"ab_ab ab\"" ∷
    codes "@ 1 2003 0 0 0 0 0 0 0 0 0 0 0 \"\"" ∷
    codes "@ 1 2008 8209 0 8 0 0 0 0 0 0 0 0 \"ab_ab ab\"" ∷
    codes "= 0 \"\"" ∷
    codes "= 0 \"\"" ∷
    codes "= 0 \"\"" ∷
    codes "= 6 \"\"" ∷
    codes "= 6 \"\"" ∷
    codes "= 8 \"\"" ∷
    []))

abbrev pub CaretKeys : Type 0
CaretKeys = Prints ([])
    (joined_lines (
    codes "sci 1" ∷
    codes "open" ∷
    codes "send 1 2003 0 0 \"a\\xc3\\xa9\\x0d\\x0ab\\xf0\\x9f\\x98\\x80\"" ∷
    codes "send 1 2318 0 0 \"\"" ∷
    codes "send 1 2008 0 0 \"\"" ∷
    codes "send 1 2304 0 0 \"\"" ∷
    codes "send 1 2008 0 0 \"\"" ∷
    codes "send 1 2304 0 0 \"\"" ∷
    codes "send 1 2304 0 0 \"\"" ∷
    codes "send 1 2008 0 0 \"\"" ∷
    codes "send 1 2304 0 0 \"\"" ∷
    codes "send 1 2008 0 0 \"\"" ∷
    codes "send 1 2304 0 0 \"\"" ∷
    codes "send 1 2008 0 0 \"\"" ∷
    codes "send 1 2306 0 0 \"\"" ∷
    codes "send 1 2008 0 0 \"\"" ∷
    codes "send 1 2307 0 0 \"\"" ∷
    codes "send 1 2009 0 0 \"\"" ∷
    codes "send 1 2008 0 0 \"\"" ∷
    codes "send 1 2305 0 0 \"\"" ∷
    codes "send 1 2008 0 0 \"\"" ∷
    codes "send 1 2305 0 0 \"\"" ∷
    codes "send 1 2009 0 0 \"\"" ∷
    codes "send 1 2008 0 0 \"\"" ∷
    codes "send 1 2304 0 0 \"\"" ∷
    codes "send 1 2008 0 0 \"\"" ∷
    codes "send 1 2315 0 0 \"\"" ∷
    codes "send 1 2009 0 0 \"\"" ∷
    codes "send 1 2008 0 0 \"\"" ∷
    codes "send 1 2306 0 0 \"\"" ∷
    codes "send 1 2008 0 0 \"\"" ∷
    codes "send 1 2314 0 0 \"\"" ∷
    codes "send 1 2008 0 0 \"\"" ∷
    codes "send 1 2312 0 0 \"\"" ∷
    codes "send 1 2008 0 0 \"\"" ∷
    codes "send 1 2319 0 0 \"\"" ∷
    codes "send 1 2009 0 0 \"\"" ∷
    codes "send 1 2008 0 0 \"\"" ∷
    codes "send 1 2313 0 0 \"\"" ∷
    codes "send 1 2009 0 0 \"\"" ∷
    codes "send 1 2008 0 0 \"\"" ∷
    codes "send 1 2316 0 0 \"\"" ∷
    codes "send 1 2008 0 0 \"\"" ∷
    codes "send 1 2304 0 0 \"\"" ∷
    codes "send 1 2008 0 0 \"\"" ∷
    codes "send 1 2319 0 0 \"\"" ∷
    codes "send 1 2317 0 0 \"\"" ∷
    codes "send 1 2009 0 0 \"\"" ∷
    codes "send 1 2008 0 0 \"\"" ∷
    codes "send 1 2318 0 0 \"\"" ∷
    codes "send 1 2306 0 0 \"\"" ∷
    codes "send 1 2008 0 0 \"\"" ∷
    codes "send 1 2326 0 0 \"\"" ∷
    codes "send 1 2182 0 0 \"\"" ∷
    codes "send 1 2160 0 1 \"\"" ∷
    codes "send 1 2326 0 0 \"\"" ∷
    codes "send 1 2182 0 0 \"\"" ∷
    codes "send 1 2329 0 0 \"\"" ∷
    codes "send 1 2182 0 0 \"\"" ∷
    []))
    (joined_lines (
    codes "= 1 \"\"" ∷
    codes "= 0 \"\"" ∷
    codes "@ 1 2008 1040 0 10 0 0 0 0 0 0 0 0 \"a\\xc3\\xa9\\x0d\\x0ab\\xf0\\x9f\\x98\\x80\"" ∷
    codes "@ 1 2003 0 0 0 0 0 0 0 0 0 0 0 \"\"" ∷
    codes "@ 1 2008 8209 0 10 1 0 0 0 0 0 0 0 \"a\\xc3\\xa9\\x0d\\x0ab\\xf0\\x9f\\x98\\x80\"" ∷
    codes "= 0 \"\"" ∷
    codes "= 10 \"\"" ∷
    codes "= 0 \"\"" ∷
    codes "= 6 \"\"" ∷
    codes "= 0 \"\"" ∷
    codes "= 0 \"\"" ∷
    codes "= 3 \"\"" ∷
    codes "= 0 \"\"" ∷
    codes "= 1 \"\"" ∷
    codes "= 0 \"\"" ∷
    codes "= 0 \"\"" ∷
    codes "= 0 \"\"" ∷
    codes "= 1 \"\"" ∷
    codes "= 0 \"\"" ∷
    codes "= 1 \"\"" ∷
    codes "= 3 \"\"" ∷
    codes "= 0 \"\"" ∷
    codes "= 1 \"\"" ∷
    codes "= 0 \"\"" ∷
    codes "= 1 \"\"" ∷
    codes "= 0 \"\"" ∷
    codes "= 0 \"\"" ∷
    codes "= 0 \"\"" ∷
    codes "= 0 \"\"" ∷
    codes "= 0 \"\"" ∷
    codes "= 3 \"\"" ∷
    codes "= 0 \"\"" ∷
    codes "= 3 \"\"" ∷
    codes "= 0 \"\"" ∷
    codes "= 3 \"\"" ∷
    codes "= 0 \"\"" ∷
    codes "= 0 \"\"" ∷
    codes "= 0 \"\"" ∷
    codes "= 0 \"\"" ∷
    codes "= 10 \"\"" ∷
    codes "= 0 \"\"" ∷
    codes "= 0 \"\"" ∷
    codes "= 5 \"\"" ∷
    codes "= 0 \"\"" ∷
    codes "= 0 \"\"" ∷
    codes "= 0 \"\"" ∷
    codes "= 0 \"\"" ∷
    codes "= 0 \"\"" ∷
    codes "= 0 \"\"" ∷
    codes "= 0 \"\"" ∷
    codes "= 0 \"\"" ∷
    codes "= 0 \"\"" ∷
    codes "= 0 \"\"" ∷
    codes "= 10 \"\"" ∷
    codes "= 0 \"\"" ∷
    codes "@ 1 2008 2064 6 4 0 0 0 0 0 0 0 0 \"\"" ∷
    codes "@ 1 2008 8210 6 4 0 0 0 0 0 0 0 0 \"\\xf0\\x9f\\x98\\x80\"" ∷
    codes "= 6 \"a\\xc3\\xa9\\x0d\\x0ab\"" ∷
    codes "= 0 \"\"" ∷
    codes "= 0 \"\"" ∷
    codes "@ 1 2008 2064 0 1 0 0 0 0 0 0 0 0 \"\"" ∷
    codes "@ 1 2008 8210 0 1 0 0 0 0 0 0 0 0 \"a\"" ∷
    codes "= 5 \"\\xc3\\xa9\\x0d\\x0ab\"" ∷
    codes "= 0 \"\"" ∷
    codes "@ 1 2008 1040 0 1 0 0 0 0 0 0 0 0 \"\\x0a\"" ∷
    codes "@ 1 2008 8209 0 1 1 0 0 0 0 0 0 0 \"\\x0a\"" ∷
    codes "= 6 \"\\x0a\\xc3\\xa9\\x0d\\x0ab\"" ∷
    []))

abbrev pub LineEndMode : Type 0
LineEndMode = Prints ([])
    (joined_lines (
    codes "sci 1" ∷
    codes "open" ∷
    codes "send 1 2030 0 0 \"\"" ∷
    codes "send 1 2031 0 0 \"\"" ∷
    codes "send 1 2030 0 0 \"\"" ∷
    codes "send 1 2031 3 0 \"\"" ∷
    codes "send 1 2329 0 0 \"\"" ∷
    codes "send 1 2031 1 0 \"\"" ∷
    codes "send 1 2329 0 0 \"\"" ∷
    codes "send 1 2031 2 0 \"\"" ∷
    codes "send 1 2329 0 0 \"\"" ∷
    codes "send 1 2182 0 0 \"\"" ∷
    codes "send 1 2029 2 0 \"\"" ∷
    codes "send 1 2182 0 0 \"\"" ∷
    codes "send 1 2029 1 0 \"\"" ∷
    codes "send 1 2182 0 0 \"\"" ∷
    codes "send 1 2029 0 0 \"\"" ∷
    codes "send 1 2182 0 0 \"\"" ∷
    codes "send 1 2029 3 0 \"\"" ∷
    codes "send 1 2468 0 0 \"\"" ∷
    codes "send 1 2467 0 0 \"\"" ∷
    codes "send 1 2468 0 0 \"\"" ∷
    codes "send 1 2420 2 0 \"\\x0d\\x0a\"" ∷
    codes "send 1 2179 0 0 \"\"" ∷
    codes "send 1 2182 0 0 \"\"" ∷
    codes "send 1 2467 1 0 \"\"" ∷
    codes "send 1 2031 2 0 \"\"" ∷
    codes "send 1 2179 0 0 \"\"" ∷
    codes "send 1 2182 0 0 \"\"" ∷
    []))
    (joined_lines (
    codes "= 1 \"\"" ∷
    codes "= 2 \"\"" ∷
    codes "= 0 \"\"" ∷
    codes "= 0 \"\"" ∷
    codes "! 6" ∷
    codes "= 0 \"\"" ∷
    codes "@ 1 2008 1040 0 2 0 0 0 0 0 0 0 0 \"\\x0d\\x0a\"" ∷
    codes "@ 1 2003 0 0 0 0 0 0 0 0 0 0 0 \"\"" ∷
    codes "@ 1 2008 8209 0 2 1 0 0 0 0 0 0 0 \"\\x0d\\x0a\"" ∷
    codes "= 0 \"\"" ∷
    codes "= 0 \"\"" ∷
    codes "@ 1 2008 1040 2 1 0 0 0 0 0 0 0 0 \"\\x0d\"" ∷
    codes "@ 1 2008 17 2 1 1 0 0 0 0 0 0 0 \"\\x0d\"" ∷
    codes "= 0 \"\"" ∷
    codes "= 0 \"\"" ∷
    codes "@ 1 2008 1040 3 1 0 0 0 0 0 0 0 0 \"\\x0a\"" ∷
    codes "@ 1 2008 17 3 1 0 0 0 0 0 0 0 0 \"\\x0a\"" ∷
    codes "= 4 \"\\x0d\\x0a\\x0d\\x0a\"" ∷
    codes "= 0 \"\"" ∷
    codes "@ 1 2008 2064 0 1 0 0 0 0 0 0 0 0 \"\"" ∷
    codes "@ 1 2008 8210 0 1 0 0 0 0 0 0 0 0 \"\\x0d\"" ∷
    codes "@ 1 2008 2064 1 1 0 0 0 0 0 0 0 0 \"\"" ∷
    codes "@ 1 2008 18 1 1 0 0 0 0 0 0 0 0 \"\\x0d\"" ∷
    codes "= 2 \"\\x0a\\x0a\"" ∷
    codes "= 0 \"\"" ∷
    codes "@ 1 2008 1040 0 1 0 0 0 0 0 0 0 0 \"\\x0d\"" ∷
    codes "@ 1 2008 8209 0 1 0 0 0 0 0 0 0 0 \"\\x0d\"" ∷
    codes "@ 1 2008 1040 2 1 0 0 0 0 0 0 0 0 \"\\x0d\"" ∷
    codes "@ 1 2008 17 2 1 0 0 0 0 0 0 0 0 \"\\x0d\"" ∷
    codes "@ 1 2008 2064 1 1 0 0 0 0 0 0 0 0 \"\"" ∷
    codes "@ 1 2008 18 1 1 0 0 0 0 0 0 0 0 \"\\x0a\"" ∷
    codes "@ 1 2008 2064 2 1 0 0 0 0 0 0 0 0 \"\"" ∷
    codes "@ 1 2008 18 2 1 0 0 0 0 0 0 0 0 \"\\x0a\"" ∷
    codes "= 2 \"\\x0d\\x0d\"" ∷
    codes "= 0 \"\"" ∷
    codes "@ 1 2008 1040 1 1 0 0 0 0 0 0 0 0 \"\\x0a\"" ∷
    codes "@ 1 2008 8209 1 1 0 0 0 0 0 0 0 0 \"\\x0a\"" ∷
    codes "@ 1 2008 1040 3 1 0 0 0 0 0 0 0 0 \"\\x0a\"" ∷
    codes "@ 1 2008 17 3 1 0 0 0 0 0 0 0 0 \"\\x0a\"" ∷
    codes "= 4 \"\\x0d\\x0a\\x0d\\x0a\"" ∷
    codes "! 6" ∷
    codes "= 1 \"\"" ∷
    codes "= 0 \"\"" ∷
    codes "= 0 \"\"" ∷
    codes "= 0 \"\"" ∷
    codes "= 0 \"\"" ∷
    codes "@ 1 2008 1040 3 2 0 0 0 0 0 0 0 0 \"\\x0d\\x0a\"" ∷
    codes "@ 1 2008 8209 3 2 2 0 0 0 0 0 0 0 \"\\x0d\\x0a\"" ∷
    codes "= 6 \"\\x0d\\x0a\\x0d\\x0d\\x0a\\x0a\"" ∷
    codes "= 0 \"\"" ∷
    codes "= 0 \"\"" ∷
    codes "= 0 \"\"" ∷
    codes "@ 1 2008 1040 5 1 0 0 0 0 0 0 0 0 \"\\x0a\"" ∷
    codes "@ 1 2008 17 5 1 1 0 0 0 0 0 0 0 \"\\x0a\"" ∷
    codes "= 7 \"\\x0d\\x0a\\x0d\\x0d\\x0a\\x0a\\x0a\"" ∷
    []))

abbrev pub SearchWithoutCase : Type 0
SearchWithoutCase = Prints ([])
    (joined_lines (
    codes "sci 1" ∷
    codes "open" ∷
    codes "send 1 2003 0 0 \"Ab_[{ aB \\xc3\\xa9ab AB@`\"" ∷
    codes "send 1 2690 0 0 \"\"" ∷
    codes "send 1 2197 2 0 \"ab\"" ∷
    codes "send 1 2686 1 99 \"\"" ∷
    codes "send 1 2197 2 0 \"ab\"" ∷
    codes "send 1 2690 0 0 \"\"" ∷
    codes "send 1 2198 2 0 \"\"" ∷
    codes "send 1 2197 2 0 \"AB\"" ∷
    codes "send 1 2686 9 99 \"\"" ∷
    codes "send 1 2197 2 0 \"AB\"" ∷
    codes "send 1 2690 0 0 \"\"" ∷
    codes "send 1 2198 1048576 0 \"\"" ∷
    codes "send 1 2197 1 0 \"a\"" ∷
    codes "send 1 2686 1 99 \"\"" ∷
    codes "send 1 2197 1 0 \"a\"" ∷
    codes "send 1 2686 99 0 \"\"" ∷
    codes "send 1 2197 2 0 \"ab\"" ∷
    codes "send 1 2198 0 0 \"\"" ∷
    codes "send 1 2690 0 0 \"\"" ∷
    codes "send 1 2197 1 0 \"{\"" ∷
    codes "send 1 2690 0 0 \"\"" ∷
    codes "send 1 2197 1 0 \"@\"" ∷
    codes "send 1 2686 99 0 \"\"" ∷
    codes "send 1 2197 0 0 \"ab\"" ∷
    codes "send 1 2191 0 0 \"\"" ∷
    codes "send 1 2193 0 0 \"\"" ∷
    []))
    (joined_lines (
    codes "= 1 \"\"" ∷
    codes "= 0 \"\"" ∷
    codes "@ 1 2008 1040 0 18 0 0 0 0 0 0 0 0 \"Ab_[{ aB \\xc3\\xa9ab AB@`\"" ∷
    codes "@ 1 2003 0 0 0 0 0 0 0 0 0 0 0 \"\"" ∷
    codes "@ 1 2008 8209 0 18 0 0 0 0 0 0 0 0 \"Ab_[{ aB \\xc3\\xa9ab AB@`\"" ∷
    codes "= 0 \"\"" ∷
    codes "= 0 \"\"" ∷
    codes "= 0 \"\"" ∷
    codes "= 6 \"\"" ∷
    codes "= 0 \"\"" ∷
    codes "= 0 \"\"" ∷
    codes "= 6 \"\"" ∷
    codes "= 0 \"\"" ∷
    codes "= 14 \"\"" ∷
    codes "= 0 \"\"" ∷
    codes "= 0 \"\"" ∷
    codes "= 0 \"\"" ∷
    codes "= 0 \"\"" ∷
    codes "= 6 \"\"" ∷
    codes "= 0 \"\"" ∷
    codes "= 14 \"\"" ∷
    codes "= 0 \"\"" ∷
    codes "= 0 \"\"" ∷
    codes "= 4 \"\"" ∷
    codes "= 0 \"\"" ∷
    codes "= 16 \"\"" ∷
    codes "= 0 \"\"" ∷
    codes "= 0 \"\"" ∷
    codes "= 0 \"\"" ∷
    codes "= 0 \"\"" ∷
    []))

abbrev pub SelectionQueries : Type 0
SelectionQueries = Prints ([])
    (joined_lines (
    codes "sci 1" ∷
    codes "open" ∷
    codes "send 1 2003 0 0 \"hello\\x0aworld\"" ∷
    codes "send 1 2160 2 8 \"\"" ∷
    codes "send 1 2008 0 0 \"\"" ∷
    codes "send 1 2009 0 0 \"\"" ∷
    codes "send 1 2143 0 0 \"\"" ∷
    codes "send 1 2145 0 0 \"\"" ∷
    codes "send 1 2650 0 0 \"\"" ∷
    codes "send 1 2161 0 0 \"\"" ∷
    codes "send 1 2142 5 0 \"\"" ∷
    codes "send 1 2009 0 0 \"\"" ∷
    codes "send 1 2008 0 0 \"\"" ∷
    codes "send 1 2144 3 0 \"\"" ∷
    codes "send 1 2009 0 0 \"\"" ∷
    codes "send 1 2008 0 0 \"\"" ∷
    codes "send 1 2142 9 0 \"\"" ∷
    codes "send 1 2144 20 0 \"\"" ∷
    codes "send 1 2143 0 0 \"\"" ∷
    codes "send 1 2145 0 0 \"\"" ∷
    codes "send 1 2026 4 0 \"\"" ∷
    codes "send 1 2141 -3 0 \"\"" ∷
    codes "send 1 2143 0 0 \"\"" ∷
    codes "send 1 2145 0 0 \"\"" ∷
    codes "send 1 2556 7 0 \"\"" ∷
    codes "send 1 2650 0 0 \"\"" ∷
    codes "send 1 2009 0 0 \"\"" ∷
    codes "send 1 2013 0 0 \"\"" ∷
    codes "send 1 2161 0 0 \"\"" ∷
    codes "send 1 2160 -1 4 \"\"" ∷
    codes "send 1 2009 0 0 \"\"" ∷
    codes "send 1 2160 4 -1 \"\"" ∷
    codes "send 1 2143 0 0 \"\"" ∷
    codes "send 1 2145 0 0 \"\"" ∷
    codes "send 1 2024 1 0 \"\"" ∷
    codes "send 1 2008 0 0 \"\"" ∷
    codes "send 1 2024 99 0 \"\"" ∷
    codes "send 1 2008 0 0 \"\"" ∷
    codes "send 1 2024 -1 0 \"\"" ∷
    codes "send 1 2008 0 0 \"\"" ∷
    codes "send 1 2025 99 0 \"\"" ∷
    codes "send 1 2008 0 0 \"\"" ∷
    []))
    (joined_lines (
    codes "= 1 \"\"" ∷
    codes "= 0 \"\"" ∷
    codes "@ 1 2008 1040 0 11 0 0 0 0 0 0 0 0 \"hello\\x0aworld\"" ∷
    codes "@ 1 2003 0 0 0 0 0 0 0 0 0 0 0 \"\"" ∷
    codes "@ 1 2008 8209 0 11 1 0 0 0 0 0 0 0 \"hello\\x0aworld\"" ∷
    codes "= 0 \"\"" ∷
    codes "= 8 \"\"" ∷
    codes "= 2 \"\"" ∷
    codes "= 2 \"\"" ∷
    codes "= 8 \"\"" ∷
    codes "= 0 \"\"" ∷
    codes "= 6 \"llo\\x0awo\"" ∷
    codes "= 0 \"\"" ∷
    codes "= 5 \"\"" ∷
    codes "= 8 \"\"" ∷
    codes "= 0 \"\"" ∷
    codes "= 3 \"\"" ∷
    codes "= 3 \"\"" ∷
    codes "= 0 \"\"" ∷
    codes "= 0 \"\"" ∷
    codes "= 9 \"\"" ∷
    codes "= 11 \"\"" ∷
    codes "= 0 \"\"" ∷
    codes "= 0 \"\"" ∷
    codes "= 0 \"\"" ∷
    codes "= 4 \"\"" ∷
    codes "= 0 \"\"" ∷
    codes "= 1 \"\"" ∷
    codes "= 7 \"\"" ∷
    codes "= 0 \"\"" ∷
    codes "= 11 \"hello\\x0aworld\"" ∷
    codes "= 0 \"\"" ∷
    codes "= 4 \"\"" ∷
    codes "= 0 \"\"" ∷
    codes "= 4 \"\"" ∷
    codes "= 11 \"\"" ∷
    codes "= 0 \"\"" ∷
    codes "= 6 \"\"" ∷
    codes "= 0 \"\"" ∷
    codes "= 6 \"\"" ∷
    codes "= 0 \"\"" ∷
    codes "= 0 \"\"" ∷
    codes "= 0 \"\"" ∷
    codes "= 11 \"\"" ∷
    []))

abbrev pub TargetQueries : Type 0
TargetQueries = Prints ([])
    (joined_lines (
    codes "sci 1" ∷
    codes "open" ∷
    codes "send 1 2003 0 0 \"one two one\"" ∷
    codes "send 1 2190 4 0 \"\"" ∷
    codes "send 1 2192 7 0 \"\"" ∷
    codes "send 1 2191 0 0 \"\"" ∷
    codes "send 1 2193 0 0 \"\"" ∷
    codes "send 1 2687 0 0 \"\"" ∷
    codes "send 1 2686 7 4 \"\"" ∷
    codes "send 1 2191 0 0 \"\"" ∷
    codes "send 1 2193 0 0 \"\"" ∷
    codes "send 1 2687 0 0 \"\"" ∷
    codes "send 1 2003 0 0 \"x\"" ∷
    codes "send 1 2191 0 0 \"\"" ∷
    codes "send 1 2193 0 0 \"\"" ∷
    codes "send 1 2160 1 4 \"\"" ∷
    codes "send 1 2287 0 0 \"\"" ∷
    codes "send 1 2191 0 0 \"\"" ∷
    codes "send 1 2193 0 0 \"\"" ∷
    codes "send 1 2690 0 0 \"\"" ∷
    codes "send 1 2191 0 0 \"\"" ∷
    codes "send 1 2193 0 0 \"\"" ∷
    codes "send 1 2199 0 0 \"\"" ∷
    codes "send 1 2198 6 0 \"\"" ∷
    codes "send 1 2199 0 0 \"\"" ∷
    codes "send 1 2198 8 0 \"\"" ∷
    codes "send 1 2198 1048576 0 \"\"" ∷
    codes "send 1 2199 0 0 \"\"" ∷
    codes "send 1 2197 3 0 \"ONE\"" ∷
    codes "send 1 2191 0 0 \"\"" ∷
    codes "send 1 2193 0 0 \"\"" ∷
    codes "send 1 2686 99 -5 \"\"" ∷
    codes "send 1 2191 0 0 \"\"" ∷
    codes "send 1 2193 0 0 \"\"" ∷
    codes "send 1 2197 3 0 \"one\"" ∷
    codes "send 1 2191 0 0 \"\"" ∷
    codes "send 1 2193 0 0 \"\"" ∷
    codes "send 1 2194 2 0 \"abc\"" ∷
    codes "send 1 2191 0 0 \"\"" ∷
    codes "send 1 2193 0 0 \"\"" ∷
    codes "send 1 2194 -1 0 \"\"" ∷
    codes "send 1 2191 0 0 \"\"" ∷
    codes "send 1 2193 0 0 \"\"" ∷
    codes "send 1 2194 4 0 \"abc\"" ∷
    codes "send 1 2182 0 0 \"\"" ∷
    []))
    (joined_lines (
    codes "= 1 \"\"" ∷
    codes "= 0 \"\"" ∷
    codes "@ 1 2008 1040 0 11 0 0 0 0 0 0 0 0 \"one two one\"" ∷
    codes "@ 1 2003 0 0 0 0 0 0 0 0 0 0 0 \"\"" ∷
    codes "@ 1 2008 8209 0 11 0 0 0 0 0 0 0 0 \"one two one\"" ∷
    codes "= 0 \"\"" ∷
    codes "= 0 \"\"" ∷
    codes "= 4 \"\"" ∷
    codes "= 7 \"\"" ∷
    codes "= 3 \"two\"" ∷
    codes "= 0 \"\"" ∷
    codes "= 7 \"\"" ∷
    codes "= 4 \"\"" ∷
    codes "= 3 \"two\"" ∷
    codes "= 0 \"\"" ∷
    codes "@ 1 2008 1040 0 1 0 0 0 0 0 0 0 0 \"x\"" ∷
    codes "@ 1 2008 8209 0 1 0 0 0 0 0 0 0 0 \"x\"" ∷
    codes "= 8 \"\"" ∷
    codes "= 5 \"\"" ∷
    codes "= 0 \"\"" ∷
    codes "= 0 \"\"" ∷
    codes "= 1 \"\"" ∷
    codes "= 4 \"\"" ∷
    codes "= 0 \"\"" ∷
    codes "= 0 \"\"" ∷
    codes "= 12 \"\"" ∷
    codes "= 0 \"\"" ∷
    codes "= 0 \"\"" ∷
    codes "= 6 \"\"" ∷
    codes "! 6" ∷
    codes "= 0 \"\"" ∷
    codes "= 1048576 \"\"" ∷
    codes "= 9 \"\"" ∷
    codes "= 9 \"\"" ∷
    codes "= 12 \"\"" ∷
    codes "= 0 \"\"" ∷
    codes "= 12 \"\"" ∷
    codes "= 0 \"\"" ∷
    codes "= 9 \"\"" ∷
    codes "= 9 \"\"" ∷
    codes "= 12 \"\"" ∷
    codes "= 2 \"\"" ∷
    codes "@ 1 2008 2064 9 3 0 0 0 0 0 0 0 0 \"\"" ∷
    codes "@ 1 2008 8210 9 3 0 0 0 0 0 0 0 0 \"one\"" ∷
    codes "@ 1 2008 1040 9 2 0 0 0 0 0 0 0 0 \"ab\"" ∷
    codes "@ 1 2008 17 9 2 0 0 0 0 0 0 0 0 \"ab\"" ∷
    codes "= 9 \"\"" ∷
    codes "= 11 \"\"" ∷
    codes "= 0 \"\"" ∷
    codes "@ 1 2008 2064 9 2 0 0 0 0 0 0 0 0 \"\"" ∷
    codes "@ 1 2008 8210 9 2 0 0 0 0 0 0 0 0 \"ab\"" ∷
    codes "= 9 \"\"" ∷
    codes "= 9 \"\"" ∷
    codes "! 6" ∷
    codes "= 9 \"xone two \"" ∷
    []))

abbrev pub AddingNothing : Type 0
AddingNothing = Prints ([])
    (joined_lines (
    codes "sci 1" ∷
    codes "open" ∷
    codes "send 1 2003 0 0 \"abcd\"" ∷
    codes "send 1 2160 1 3 \"\"" ∷
    codes "send 1 2001 0 0 \"xy\"" ∷
    codes "send 1 2009 0 0 \"\"" ∷
    codes "send 1 2008 0 0 \"\"" ∷
    codes "send 1 2160 3 1 \"\"" ∷
    codes "send 1 2001 0 0 \"\"" ∷
    codes "send 1 2009 0 0 \"\"" ∷
    codes "send 1 2171 1 0 \"\"" ∷
    codes "send 1 2160 0 2 \"\"" ∷
    codes "send 1 2001 0 0 \"\"" ∷
    codes "send 1 2009 0 0 \"\"" ∷
    codes "send 1 2182 0 0 \"\"" ∷
    []))
    (joined_lines (
    codes "= 1 \"\"" ∷
    codes "= 0 \"\"" ∷
    codes "@ 1 2008 1040 0 4 0 0 0 0 0 0 0 0 \"abcd\"" ∷
    codes "@ 1 2003 0 0 0 0 0 0 0 0 0 0 0 \"\"" ∷
    codes "@ 1 2008 8209 0 4 0 0 0 0 0 0 0 0 \"abcd\"" ∷
    codes "= 0 \"\"" ∷
    codes "= 0 \"\"" ∷
    codes "= 3 \"\"" ∷
    codes "= 3 \"\"" ∷
    codes "= 0 \"\"" ∷
    codes "= 0 \"\"" ∷
    codes "= 1 \"\"" ∷
    codes "= 0 \"\"" ∷
    codes "= 0 \"\"" ∷
    codes "= 0 \"\"" ∷
    codes "= 2 \"\"" ∷
    codes "= 4 \"abcd\"" ∷
    []))

abbrev pub CopyingNothing : Type 0
CopyingNothing = Prints ([])
    (joined_lines (
    codes "sci 1" ∷
    codes "open" ∷
    codes "send 1 2420 2 0 \"xy\"" ∷
    codes "send 1 2178 0 0 \"\"" ∷
    codes "send 1 2179 0 0 \"\"" ∷
    codes "send 1 2182 0 0 \"\"" ∷
    codes "send 1 2420 0 0 \"abc\"" ∷
    codes "send 1 2179 0 0 \"\"" ∷
    codes "send 1 2182 0 0 \"\"" ∷
    codes "send 1 2419 0 2 \"\"" ∷
    codes "send 1 2179 0 0 \"\"" ∷
    codes "send 1 2182 0 0 \"\"" ∷
    codes "send 1 2419 1 1 \"\"" ∷
    codes "send 1 2179 0 0 \"\"" ∷
    codes "send 1 2182 0 0 \"\"" ∷
    []))
    (joined_lines (
    codes "= 1 \"\"" ∷
    codes "= 0 \"\"" ∷
    codes "= 0 \"\"" ∷
    codes "= 0 \"\"" ∷
    codes "@ 1 2008 1040 0 2 0 0 0 0 0 0 0 0 \"xy\"" ∷
    codes "@ 1 2003 0 0 0 0 0 0 0 0 0 0 0 \"\"" ∷
    codes "@ 1 2008 8209 0 2 0 0 0 0 0 0 0 0 \"xy\"" ∷
    codes "= 2 \"xy\"" ∷
    codes "= 0 \"\"" ∷
    codes "= 0 \"\"" ∷
    codes "= 2 \"xy\"" ∷
    codes "= 0 \"\"" ∷
    codes "= 0 \"\"" ∷
    codes "@ 1 2008 1040 2 2 0 0 0 0 0 0 0 0 \"xy\"" ∷
    codes "@ 1 2008 17 2 2 0 0 0 0 0 0 0 0 \"xy\"" ∷
    codes "= 4 \"xyxy\"" ∷
    codes "= 0 \"\"" ∷
    codes "= 0 \"\"" ∷
    codes "= 4 \"xyxy\"" ∷
    []))

abbrev pub CutWhenReadOnly : Type 0
CutWhenReadOnly = Prints ([])
    (joined_lines (
    codes "sci 1" ∷
    codes "open" ∷
    codes "send 1 2420 2 0 \"xy\"" ∷
    codes "send 1 2003 0 0 \"abcd\"" ∷
    codes "send 1 2160 1 3 \"\"" ∷
    codes "send 1 2171 1 0 \"\"" ∷
    codes "send 1 2177 0 0 \"\"" ∷
    codes "send 1 2009 0 0 \"\"" ∷
    codes "send 1 2008 0 0 \"\"" ∷
    codes "send 1 2160 2 2 \"\"" ∷
    codes "send 1 2177 0 0 \"\"" ∷
    codes "send 1 2171 0 0 \"\"" ∷
    codes "send 1 2025 0 0 \"\"" ∷
    codes "send 1 2179 0 0 \"\"" ∷
    codes "send 1 2182 0 0 \"\"" ∷
    []))
    (joined_lines (
    codes "= 1 \"\"" ∷
    codes "= 0 \"\"" ∷
    codes "= 0 \"\"" ∷
    codes "@ 1 2008 1040 0 4 0 0 0 0 0 0 0 0 \"abcd\"" ∷
    codes "@ 1 2003 0 0 0 0 0 0 0 0 0 0 0 \"\"" ∷
    codes "@ 1 2008 8209 0 4 0 0 0 0 0 0 0 0 \"abcd\"" ∷
    codes "= 0 \"\"" ∷
    codes "= 0 \"\"" ∷
    codes "= 0 \"\"" ∷
    codes "@ 1 2004 0 0 0 0 0 0 0 0 0 0 0 \"\"" ∷
    codes "= 1 \"\"" ∷
    codes "= 3 \"\"" ∷
    codes "= 0 \"\"" ∷
    codes "= 0 \"\"" ∷
    codes "= 0 \"\"" ∷
    codes "= 0 \"\"" ∷
    codes "= 0 \"\"" ∷
    codes "@ 1 2008 1040 0 2 0 0 0 0 0 0 0 0 \"xy\"" ∷
    codes "@ 1 2008 8209 0 2 0 0 0 0 0 0 0 0 \"xy\"" ∷
    codes "= 6 \"xyabcd\"" ∷
    []))

abbrev pub DeletionInsideACharacter : Type 0
DeletionInsideACharacter = Prints ([])
    (joined_lines (
    codes "sci 1" ∷
    codes "open" ∷
    codes "send 1 2003 0 0 \"a\\xe2\\x82\\xacb\"" ∷
    codes "send 1 2025 2 0 \"\"" ∷
    codes "send 1 2180 0 0 \"\"" ∷
    codes "send 1 2182 0 0 \"\"" ∷
    codes "send 1 2008 0 0 \"\"" ∷
    codes "send 1 2176 0 0 \"\"" ∷
    codes "send 1 2008 0 0 \"\"" ∷
    codes "send 1 2025 3 0 \"\"" ∷
    codes "send 1 2326 0 0 \"\"" ∷
    codes "send 1 2182 0 0 \"\"" ∷
    codes "send 1 2008 0 0 \"\"" ∷
    codes "open" ∷
    codes "send 2 2003 0 0 \"x\\x0d\\x0ay\"" ∷
    codes "send 2 2025 2 0 \"\"" ∷
    codes "send 2 2180 0 0 \"\"" ∷
    codes "send 2 2182 0 0 \"\"" ∷
    codes "send 2 2176 0 0 \"\"" ∷
    codes "send 2 2025 2 0 \"\"" ∷
    codes "send 2 2326 0 0 \"\"" ∷
    codes "send 2 2182 0 0 \"\"" ∷
    codes "send 2 2008 0 0 \"\"" ∷
    []))
    (joined_lines (
    codes "= 1 \"\"" ∷
    codes "= 0 \"\"" ∷
    codes "@ 1 2008 1040 0 5 0 0 0 0 0 0 0 0 \"a\\xe2\\x82\\xacb\"" ∷
    codes "@ 1 2003 0 0 0 0 0 0 0 0 0 0 0 \"\"" ∷
    codes "@ 1 2008 8209 0 5 0 0 0 0 0 0 0 0 \"a\\xe2\\x82\\xacb\"" ∷
    codes "= 0 \"\"" ∷
    codes "= 0 \"\"" ∷
    codes "@ 1 2008 2064 2 2 0 0 0 0 0 0 0 0 \"\"" ∷
    codes "@ 1 2008 8210 2 2 0 0 0 0 0 0 0 0 \"\\x82\\xac\"" ∷
    codes "= 3 \"a\\xe2b\"" ∷
    codes "= 2 \"\"" ∷
    codes "= 0 \"\"" ∷
    codes "@ 1 2008 1056 2 2 0 0 0 0 0 0 0 0 \"\\x82\\xac\"" ∷
    codes "@ 1 2008 289 2 2 0 0 0 0 0 0 0 0 \"\\x82\\xac\"" ∷
    codes "= 4 \"\"" ∷
    codes "= 0 \"\"" ∷
    codes "= 0 \"\"" ∷
    codes "@ 1 2008 2064 1 2 0 0 0 0 0 0 0 0 \"\"" ∷
    codes "@ 1 2008 8210 1 2 0 0 0 0 0 0 0 0 \"\\xe2\\x82\"" ∷
    codes "= 3 \"a\\xacb\"" ∷
    codes "= 1 \"\"" ∷
    codes "= 2 \"\"" ∷
    codes "= 0 \"\"" ∷
    codes "@ 2 2008 1040 0 4 0 0 0 0 0 0 0 0 \"x\\x0d\\x0ay\"" ∷
    codes "@ 2 2003 0 0 0 0 0 0 0 0 0 0 0 \"\"" ∷
    codes "@ 2 2008 8209 0 4 1 0 0 0 0 0 0 0 \"x\\x0d\\x0ay\"" ∷
    codes "= 0 \"\"" ∷
    codes "= 0 \"\"" ∷
    codes "@ 2 2008 2064 2 1 0 0 0 0 0 0 0 0 \"\"" ∷
    codes "@ 2 2008 8210 2 1 0 0 0 0 0 0 0 0 \"\\x0a\"" ∷
    codes "= 3 \"x\\x0dy\"" ∷
    codes "= 0 \"\"" ∷
    codes "@ 2 2008 1056 2 1 0 0 0 0 0 0 0 0 \"\\x0a\"" ∷
    codes "@ 2 2008 289 2 1 0 0 0 0 0 0 0 0 \"\\x0a\"" ∷
    codes "= 0 \"\"" ∷
    codes "= 0 \"\"" ∷
    codes "@ 2 2008 2064 1 1 0 0 0 0 0 0 0 0 \"\"" ∷
    codes "@ 2 2008 8210 1 1 0 0 0 0 0 0 0 0 \"\\x0d\"" ∷
    codes "= 3 \"x\\x0ay\"" ∷
    codes "= 1 \"\"" ∷
    []))

abbrev pub PasteOfNothing : Type 0
PasteOfNothing = Prints ([])
    (joined_lines (
    codes "sci 1" ∷
    codes "open" ∷
    codes "send 1 2003 0 0 \"abcd\"" ∷
    codes "send 1 2160 1 3 \"\"" ∷
    codes "send 1 2179 0 0 \"\"" ∷
    codes "send 1 2009 0 0 \"\"" ∷
    codes "send 1 2008 0 0 \"\"" ∷
    codes "send 1 2171 1 0 \"\"" ∷
    codes "send 1 2179 0 0 \"\"" ∷
    codes "send 1 2161 0 0 \"\"" ∷
    codes "send 1 2182 0 0 \"\"" ∷
    []))
    (joined_lines (
    codes "= 1 \"\"" ∷
    codes "= 0 \"\"" ∷
    codes "@ 1 2008 1040 0 4 0 0 0 0 0 0 0 0 \"abcd\"" ∷
    codes "@ 1 2003 0 0 0 0 0 0 0 0 0 0 0 \"\"" ∷
    codes "@ 1 2008 8209 0 4 0 0 0 0 0 0 0 0 \"abcd\"" ∷
    codes "= 0 \"\"" ∷
    codes "= 0 \"\"" ∷
    codes "= 1 \"\"" ∷
    codes "= 3 \"\"" ∷
    codes "= 0 \"\"" ∷
    codes "= 0 \"\"" ∷
    codes "= 2 \"bc\"" ∷
    codes "= 4 \"abcd\"" ∷
    []))
