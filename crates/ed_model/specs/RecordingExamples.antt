-- Worked examples, written by tools/pages/example_theorems.py from examples/messages.
use Rattle.std.specs.Prelude.{[], ◌∷◌, codes}
use Rattle.ed_model.specs.Prints.{Prints, joined_lines}

abbrev pub ALongWalk : Type 0
ALongWalk = Prints ([])
    (joined_lines (
    codes "sci 1" ∷
    codes "open" ∷
    codes "send 1 2282 2 0 \"abc\"" ∷
    codes "send 1 2182 0 0 \"\"" ∷
    codes "send 1 2160 0 2 \"\"" ∷
    codes "send 1 2161 0 0 \"\"" ∷
    codes "send 1 2178 0 0 \"\"" ∷
    codes "send 1 2170 0 0 \"x\\x0ay\"" ∷
    codes "send 1 2182 0 0 \"\"" ∷
    codes "send 1 2176 0 0 \"\"" ∷
    codes "send 1 2182 0 0 \"\"" ∷
    codes "send 1 2011 0 0 \"\"" ∷
    codes "send 1 2182 0 0 \"\"" ∷
    codes "send 1 2008 0 0 \"\"" ∷
    codes "send 1 2179 0 0 \"\"" ∷
    codes "send 1 2182 0 0 \"\"" ∷
    codes "send 1 2419 0 1 \"\"" ∷
    codes "send 1 2179 0 0 \"\"" ∷
    codes "send 1 2182 0 0 \"\"" ∷
    codes "send 1 2466 1 7 \"\"" ∷
    codes "send 1 2044 1 0 \"\"" ∷
    codes "send 1 2018 2 0 \"\"" ∷
    codes "send 1 2046 1 0 \"\"" ∷
    codes "send 1 2045 -1 0 \"\"" ∷
    codes "send 1 2046 1 0 \"\"" ∷
    codes "send 1 2092 1 9 \"\"" ∷
    codes "send 1 2686 1 3 \"\"" ∷
    codes "send 1 2687 0 0 \"\"" ∷
    codes "send 1 2504 0 6 \"\"" ∷
    codes "send 1 2505 0 6 \"\"" ∷
    codes "send 1 2222 0 9216 \"\"" ∷
    codes "send 1 2222 1 1025 \"\"" ∷
    codes "send 1 2231 0 0 \"\"" ∷
    codes "send 1 2229 0 1 \"\"" ∷
    codes "send 1 2230 0 0 \"\"" ∷
    codes "send 1 2228 1 0 \"\"" ∷
    []))
    (joined_lines (
    codes "= 1 \"\"" ∷
    codes "= 0 \"\"" ∷
    codes "@ 1 2008 1040 0 2 0 0 0 0 0 0 0 0 \"ab\"" ∷
    codes "@ 1 2003 0 0 0 0 0 0 0 0 0 0 0 \"\"" ∷
    codes "@ 1 2008 8209 0 2 0 0 0 0 0 0 0 0 \"ab\"" ∷
    codes "= 2 \"ab\"" ∷
    codes "= 0 \"\"" ∷
    codes "= 2 \"ab\"" ∷
    codes "= 0 \"\"" ∷
    codes "= 0 \"\"" ∷
    codes "@ 1 2008 2064 0 2 0 0 0 0 0 0 0 0 \"\"" ∷
    codes "@ 1 2008 8210 0 2 0 0 0 0 0 0 0 0 \"ab\"" ∷
    codes "@ 1 2008 1040 0 3 0 0 0 0 0 0 0 0 \"x\\x0ay\"" ∷
    codes "@ 1 2008 17 0 3 1 0 0 0 0 0 0 0 \"x\\x0ay\"" ∷
    codes "= 3 \"x\\x0ay\"" ∷
    codes "= 0 \"\"" ∷
    codes "@ 1 2008 2080 0 3 0 0 0 0 0 0 0 0 \"\"" ∷
    codes "@ 1 2008 162 0 3 -1 0 0 0 0 0 0 0 \"x\\x0ay\"" ∷
    codes "@ 1 2008 1056 0 2 0 0 0 0 0 0 0 0 \"ab\"" ∷
    codes "@ 1 2008 4513 0 2 0 0 0 0 0 0 0 0 \"ab\"" ∷
    codes "= 2 \"ab\"" ∷
    codes "= 0 \"\"" ∷
    codes "@ 1 2008 2112 0 2 0 0 0 0 0 0 0 0 \"\"" ∷
    codes "@ 1 2008 194 0 2 0 0 0 0 0 0 0 0 \"ab\"" ∷
    codes "@ 1 2008 1088 0 3 0 0 0 0 0 0 0 0 \"x\\x0ay\"" ∷
    codes "@ 1 2008 4545 0 3 1 0 0 0 0 0 0 0 \"x\\x0ay\"" ∷
    codes "= 3 \"x\\x0ay\"" ∷
    codes "= 3 \"\"" ∷
    codes "= 0 \"\"" ∷
    codes "@ 1 2008 1040 3 2 0 0 0 0 0 0 0 0 \"ab\"" ∷
    codes "@ 1 2008 8209 3 2 0 0 0 0 0 0 0 0 \"ab\"" ∷
    codes "= 5 \"x\\x0ayab\"" ∷
    codes "= 0 \"\"" ∷
    codes "= 0 \"\"" ∷
    codes "@ 1 2008 1040 5 1 0 0 0 0 0 0 0 0 \"x\"" ∷
    codes "@ 1 2008 17 5 1 0 0 0 0 0 0 0 0 \"x\"" ∷
    codes "= 6 \"x\\x0ayabx\"" ∷
    codes "= 0 \"\"" ∷
    codes "@ 1 2008 512 2 0 0 1 0 0 0 0 0 0 \"\"" ∷
    codes "= 0 \"\"" ∷
    codes "@ 1 2008 512 2 0 0 1 0 0 0 0 0 0 \"\"" ∷
    codes "= 0 \"\"" ∷
    codes "@ 1 2008 512 2 0 0 1 0 0 0 0 0 0 \"\"" ∷
    codes "= 4 \"\"" ∷
    codes "= 0 \"\"" ∷
    codes "@ 1 2008 512 0 0 0 -1 0 0 0 0 0 0 \"\"" ∷
    codes "= 0 \"\"" ∷
    codes "= 0 \"\"" ∷
    codes "@ 1 2008 32768 0 0 0 1 0 0 0 0 0 0 \"\"" ∷
    codes "= 0 \"\"" ∷
    codes "= 2 \"\\x0ay\"" ∷
    codes "= 0 \"\"" ∷
    codes "@ 1 2008 16400 0 6 0 0 0 0 0 0 0 0 \"\"" ∷
    codes "= 0 \"\"" ∷
    codes "@ 1 2008 16400 0 6 0 0 0 0 0 0 0 0 \"\"" ∷
    codes "= 0 \"\"" ∷
    codes "@ 1 2008 8 0 0 0 0 9216 1024 0 0 0 0 \"\"" ∷
    codes "= 0 \"\"" ∷
    codes "@ 1 2008 8 0 0 0 1 1025 1024 0 0 0 0 \"\"" ∷
    codes "= 0 \"\"" ∷
    codes "= 0 \"\"" ∷
    codes "= 1 \"\"" ∷
    codes "= 0 \"\"" ∷
    []))

abbrev pub ALongWalkWithGotopos : Type 0
ALongWalkWithGotopos = Prints ([])
    (joined_lines (
    codes "sci 1" ∷
    codes "open" ∷
    codes "send 1 2282 2 0 \"abc\"" ∷
    codes "send 1 2160 0 2 \"\"" ∷
    codes "send 1 2178 0 0 \"\"" ∷
    codes "send 1 2170 0 0 \"x\\x0ay\"" ∷
    codes "send 1 2176 0 0 \"\"" ∷
    codes "send 1 2011 0 0 \"\"" ∷
    codes "send 1 2025 3 0 \"\"" ∷
    codes "send 1 2179 0 0 \"\"" ∷
    codes "send 1 2182 0 0 \"\"" ∷
    codes "send 1 2419 0 1 \"\"" ∷
    codes "send 1 2179 0 0 \"\"" ∷
    codes "send 1 2182 0 0 \"\"" ∷
    []))
    (joined_lines (
    codes "= 1 \"\"" ∷
    codes "= 0 \"\"" ∷
    codes "@ 1 2008 1040 0 2 0 0 0 0 0 0 0 0 \"ab\"" ∷
    codes "@ 1 2003 0 0 0 0 0 0 0 0 0 0 0 \"\"" ∷
    codes "@ 1 2008 8209 0 2 0 0 0 0 0 0 0 0 \"ab\"" ∷
    codes "= 0 \"\"" ∷
    codes "= 0 \"\"" ∷
    codes "= 0 \"\"" ∷
    codes "@ 1 2008 2064 0 2 0 0 0 0 0 0 0 0 \"\"" ∷
    codes "@ 1 2008 8210 0 2 0 0 0 0 0 0 0 0 \"ab\"" ∷
    codes "@ 1 2008 1040 0 3 0 0 0 0 0 0 0 0 \"x\\x0ay\"" ∷
    codes "@ 1 2008 17 0 3 1 0 0 0 0 0 0 0 \"x\\x0ay\"" ∷
    codes "= 0 \"\"" ∷
    codes "@ 1 2008 2080 0 3 0 0 0 0 0 0 0 0 \"\"" ∷
    codes "@ 1 2008 162 0 3 -1 0 0 0 0 0 0 0 \"x\\x0ay\"" ∷
    codes "@ 1 2008 1056 0 2 0 0 0 0 0 0 0 0 \"ab\"" ∷
    codes "@ 1 2008 4513 0 2 0 0 0 0 0 0 0 0 \"ab\"" ∷
    codes "= 0 \"\"" ∷
    codes "@ 1 2008 2112 0 2 0 0 0 0 0 0 0 0 \"\"" ∷
    codes "@ 1 2008 194 0 2 0 0 0 0 0 0 0 0 \"ab\"" ∷
    codes "@ 1 2008 1088 0 3 0 0 0 0 0 0 0 0 \"x\\x0ay\"" ∷
    codes "@ 1 2008 4545 0 3 1 0 0 0 0 0 0 0 \"x\\x0ay\"" ∷
    codes "= 0 \"\"" ∷
    codes "= 0 \"\"" ∷
    codes "@ 1 2008 1040 3 2 0 0 0 0 0 0 0 0 \"ab\"" ∷
    codes "@ 1 2008 8209 3 2 0 0 0 0 0 0 0 0 \"ab\"" ∷
    codes "= 5 \"x\\x0ayab\"" ∷
    codes "= 0 \"\"" ∷
    codes "= 0 \"\"" ∷
    codes "@ 1 2008 1040 5 1 0 0 0 0 0 0 0 0 \"x\"" ∷
    codes "@ 1 2008 17 5 1 0 0 0 0 0 0 0 0 \"x\"" ∷
    codes "= 6 \"x\\x0ayabx\"" ∷
    []))

abbrev pub MacroRecording : Type 0
MacroRecording = Prints ([])
    (joined_lines (
    codes "sci 1" ∷
    codes "open" ∷
    codes "send 1 3001 0 0 \"\"" ∷
    codes "send 1 2001 3 0 \"abc\"" ∷
    codes "send 1 2006 0 0 \"\"" ∷
    codes "send 1 2304 0 0 \"\"" ∷
    codes "send 1 2326 0 0 \"\"" ∷
    codes "send 1 3002 0 0 \"\"" ∷
    codes "send 1 2182 0 0 \"\"" ∷
    codes "send 1 2008 0 0 \"\"" ∷
    codes "send 1 2176 0 0 \"\"" ∷
    codes "send 1 2182 0 0 \"\"" ∷
    codes "send 1 2176 0 0 \"\"" ∷
    codes "send 1 2182 0 0 \"\"" ∷
    codes "send 1 2174 0 0 \"\"" ∷
    []))
    (joined_lines (
    codes "= 1 \"\"" ∷
    codes "= 0 \"\"" ∷
    codes "= 0 \"\"" ∷
    codes "@ 1 2009 0 0 0 0 0 0 0 0 2001 3 0 \"abc\"" ∷
    codes "@ 1 2008 1040 0 3 0 0 0 0 0 0 0 0 \"abc\"" ∷
    codes "@ 1 2003 0 0 0 0 0 0 0 0 0 0 0 \"\"" ∷
    codes "@ 1 2008 8209 0 3 0 0 0 0 0 0 0 0 \"abc\"" ∷
    codes "= 3 \"\"" ∷
    codes "= 0 \"\"" ∷
    codes "@ 1 2009 0 0 0 0 0 0 0 0 2304 0 0 \"\"" ∷
    codes "= 0 \"\"" ∷
    codes "@ 1 2009 0 0 0 0 0 0 0 0 2326 0 0 \"\"" ∷
    codes "@ 1 2008 2064 1 1 0 0 0 0 0 0 0 0 \"\"" ∷
    codes "@ 1 2008 8210 1 1 0 0 0 0 0 0 0 0 \"b\"" ∷
    codes "= 0 \"\"" ∷
    codes "= 2 \"ac\"" ∷
    codes "= 1 \"\"" ∷
    codes "= 0 \"\"" ∷
    codes "@ 1 2008 1056 1 1 0 0 0 0 0 0 0 0 \"b\"" ∷
    codes "@ 1 2008 289 1 1 0 0 0 0 0 0 0 0 \"b\"" ∷
    codes "= 3 \"abc\"" ∷
    codes "= 0 \"\"" ∷
    codes "@ 1 2008 2080 0 3 0 0 0 0 0 0 0 0 \"\"" ∷
    codes "@ 1 2008 290 0 3 0 0 0 0 0 0 0 0 \"abc\"" ∷
    codes "@ 1 2002 0 0 0 0 0 0 0 0 0 0 0 \"\"" ∷
    codes "= 0 \"\"" ∷
    codes "= 0 \"\"" ∷
    []))

abbrev pub RecordingWhenReadOnly : Type 0
RecordingWhenReadOnly = Prints ([])
    (joined_lines (
    codes "sci 1" ∷
    codes "open" ∷
    codes "send 1 2171 1 0 \"\"" ∷
    codes "send 1 3001 0 0 \"\"" ∷
    codes "send 1 2001 1 0 \"x\"" ∷
    codes "send 1 2001 2 0 \"x\"" ∷
    []))
    (joined_lines (
    codes "= 1 \"\"" ∷
    codes "= 0 \"\"" ∷
    codes "= 0 \"\"" ∷
    codes "= 0 \"\"" ∷
    codes "@ 1 2009 0 0 0 0 0 0 0 0 2001 1 0 \"x\"" ∷
    codes "@ 1 2004 0 0 0 0 0 0 0 0 0 0 0 \"\"" ∷
    codes "! 6" ∷
    []))

abbrev pub RecordingKeys : Type 0
RecordingKeys = Prints ([])
    (joined_lines (
    codes "sci 1" ∷
    codes "open" ∷
    codes "open" ∷
    codes "send 2 2358 0 1 \"\"" ∷
    codes "send 1 3001 0 0 \"\"" ∷
    codes "send 1 2001 2 0 \"ab\"" ∷
    codes "send 1 2305 0 0 \"\"" ∷
    codes "send 1 2025 1 0 \"\"" ∷
    codes "send 1 2143 0 0 \"\"" ∷
    codes "send 1 2001 9 0 \"ab\"" ∷
    codes "send 1 2329 0 0 \"\"" ∷
    codes "send 1 2178 0 0 \"\"" ∷
    codes "send 1 2313 0 0 \"\"" ∷
    codes "send 2 2001 1 0 \"z\"" ∷
    codes "send 1 3002 0 0 \"\"" ∷
    codes "send 1 2318 0 0 \"\"" ∷
    codes "send 1 2182 0 0 \"\"" ∷
    []))
    (joined_lines (
    codes "= 1 \"\"" ∷
    codes "= 2 \"\"" ∷
    codes "= 0 \"\"" ∷
    codes "= 0 \"\"" ∷
    codes "= 0 \"\"" ∷
    codes "@ 1 2009 0 0 0 0 0 0 0 0 2001 2 0 \"ab\"" ∷
    codes "@ 1 2008 1040 0 2 0 0 0 0 0 0 0 0 \"ab\"" ∷
    codes "@ 2 2008 1040 0 2 0 0 0 0 0 0 0 0 \"ab\"" ∷
    codes "@ 1 2003 0 0 0 0 0 0 0 0 0 0 0 \"\"" ∷
    codes "@ 2 2003 0 0 0 0 0 0 0 0 0 0 0 \"\"" ∷
    codes "@ 1 2008 8209 0 2 0 0 0 0 0 0 0 0 \"ab\"" ∷
    codes "@ 2 2008 8209 0 2 0 0 0 0 0 0 0 0 \"ab\"" ∷
    codes "= 0 \"\"" ∷
    codes "@ 1 2009 0 0 0 0 0 0 0 0 2305 0 0 \"\"" ∷
    codes "= 0 \"\"" ∷
    codes "@ 1 2009 0 0 0 0 0 0 0 0 2025 1 0 \"\"" ∷
    codes "= 1 \"\"" ∷
    codes "! 6" ∷
    codes "= 0 \"\"" ∷
    codes "@ 1 2009 0 0 0 0 0 0 0 0 2329 0 0 \"\"" ∷
    codes "@ 1 2008 1040 1 1 0 0 0 0 0 0 0 0 \"\\x0a\"" ∷
    codes "@ 2 2008 1040 1 1 0 0 0 0 0 0 0 0 \"\\x0a\"" ∷
    codes "@ 1 2008 8209 1 1 1 0 0 0 0 0 0 0 \"\\x0a\"" ∷
    codes "@ 2 2008 8209 1 1 1 0 0 0 0 0 0 0 \"\\x0a\"" ∷
    codes "= 0 \"\"" ∷
    codes "@ 1 2009 0 0 0 0 0 0 0 0 2178 0 0 \"\"" ∷
    codes "= 0 \"\"" ∷
    codes "@ 1 2009 0 0 0 0 0 0 0 0 2313 0 0 \"\"" ∷
    codes "= 0 \"\"" ∷
    codes "@ 1 2008 1040 0 1 0 0 0 0 0 0 0 0 \"z\"" ∷
    codes "@ 2 2008 1040 0 1 0 0 0 0 0 0 0 0 \"z\"" ∷
    codes "@ 1 2008 8209 0 1 0 0 0 0 0 0 0 0 \"z\"" ∷
    codes "@ 2 2008 8209 0 1 0 0 0 0 0 0 0 0 \"z\"" ∷
    codes "= 0 \"\"" ∷
    codes "= 0 \"\"" ∷
    codes "= 4 \"za\\x0ab\"" ∷
    []))
