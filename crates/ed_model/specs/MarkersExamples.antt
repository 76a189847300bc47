-- Worked examples, written by tools/pages/example_theorems.py from examples/messages.
use Rattle.std.specs.Prelude.{[], ◌∷◌, codes}
use Rattle.ed_model.specs.Prints.{Prints, joined_lines}

abbrev pub DeletionJoinsCrlf : Type 0
DeletionJoinsCrlf = Prints ([])
    (joined_lines (
    codes "sci 1" ∷
    codes "open" ∷
    codes "send 1 2003 0 0 \"x\\x0d\\x0aa\"" ∷
    codes "send 1 2043 0 1 \"\"" ∷
    codes "send 1 2043 1 2 \"\"" ∷
    codes "send 1 2003 2 0 \"z\"" ∷
    codes "send 1 2645 2 1 \"\"" ∷
    codes "send 1 2154 0 0 \"\"" ∷
    codes "send 1 2046 0 0 \"\"" ∷
    codes "send 1 2046 1 0 \"\"" ∷
    []))
    (joined_lines (
    codes "= 1 \"\"" ∷
    codes "= 0 \"\"" ∷
    codes "@ 1 2008 1040 0 4 0 0 0 0 0 0 0 0 \"x\\x0d\\x0aa\"" ∷
    codes "@ 1 2003 0 0 0 0 0 0 0 0 0 0 0 \"\"" ∷
    codes "@ 1 2008 8209 0 4 1 0 0 0 0 0 0 0 \"x\\x0d\\x0aa\"" ∷
    codes "= 1 \"\"" ∷
    codes "@ 1 2008 512 0 0 0 0 0 0 0 0 0 0 \"\"" ∷
    codes "= 2 \"\"" ∷
    codes "@ 1 2008 512 3 0 0 1 0 0 0 0 0 0 \"\"" ∷
    codes "= 0 \"\"" ∷
    codes "@ 1 2008 1040 2 1 0 0 0 0 0 0 0 0 \"z\"" ∷
    codes "@ 1 2008 8209 2 1 1 0 0 0 0 0 0 0 \"z\"" ∷
    codes "= 0 \"\"" ∷
    codes "@ 1 2008 2064 2 1 0 0 0 0 0 0 0 0 \"\"" ∷
    codes "@ 1 2008 8210 2 1 -1 0 0 0 0 0 0 0 \"z\"" ∷
    codes "= 2 \"\"" ∷
    codes "= 2 \"\"" ∷
    codes "= 4 \"\"" ∷
    []))

abbrev pub DeletionJoinsMarkers : Type 0
DeletionJoinsMarkers = Prints ([])
    (joined_lines (
    codes "sci 1" ∷
    codes "open" ∷
    codes "send 1 2003 0 0 \"x\\x0d\\x0aa\"" ∷
    codes "send 1 2043 0 1 \"\"" ∷
    codes "send 1 2043 1 2 \"\"" ∷
    codes "send 1 2003 2 0 \"z\"" ∷
    codes "send 1 2043 1 3 \"\"" ∷
    codes "send 1 2645 2 1 \"\"" ∷
    codes "send 1 2154 0 0 \"\"" ∷
    codes "send 1 2046 0 0 \"\"" ∷
    codes "send 1 2046 1 0 \"\"" ∷
    []))
    (joined_lines (
    codes "= 1 \"\"" ∷
    codes "= 0 \"\"" ∷
    codes "@ 1 2008 1040 0 4 0 0 0 0 0 0 0 0 \"x\\x0d\\x0aa\"" ∷
    codes "@ 1 2003 0 0 0 0 0 0 0 0 0 0 0 \"\"" ∷
    codes "@ 1 2008 8209 0 4 1 0 0 0 0 0 0 0 \"x\\x0d\\x0aa\"" ∷
    codes "= 1 \"\"" ∷
    codes "@ 1 2008 512 0 0 0 0 0 0 0 0 0 0 \"\"" ∷
    codes "= 2 \"\"" ∷
    codes "@ 1 2008 512 3 0 0 1 0 0 0 0 0 0 \"\"" ∷
    codes "= 0 \"\"" ∷
    codes "@ 1 2008 1040 2 1 0 0 0 0 0 0 0 0 \"z\"" ∷
    codes "@ 1 2008 8209 2 1 1 0 0 0 0 0 0 0 \"z\"" ∷
    codes "= 3 \"\"" ∷
    codes "@ 1 2008 512 2 0 0 1 0 0 0 0 0 0 \"\"" ∷
    codes "= 0 \"\"" ∷
    codes "@ 1 2008 2064 2 1 0 0 0 0 0 0 0 0 \"\"" ∷
    codes "@ 1 2008 8210 2 1 -1 0 0 0 0 0 0 0 \"z\"" ∷
    codes "= 2 \"\"" ∷
    codes "= 10 \"\"" ∷
    codes "= 4 \"\"" ∷
    []))

abbrev pub InsertionSplitsCrlf : Type 0
InsertionSplitsCrlf = Prints ([])
    (joined_lines (
    codes "sci 1" ∷
    codes "open" ∷
    codes "send 1 2003 0 0 \"x\\x0d\\x0aa\"" ∷
    codes "send 1 2043 0 1 \"\"" ∷
    codes "send 1 2043 1 2 \"\"" ∷
    codes "send 1 2003 2 0 \"z\"" ∷
    codes "send 1 2154 0 0 \"\"" ∷
    codes "send 1 2046 0 0 \"\"" ∷
    codes "send 1 2046 1 0 \"\"" ∷
    codes "send 1 2046 2 0 \"\"" ∷
    []))
    (joined_lines (
    codes "= 1 \"\"" ∷
    codes "= 0 \"\"" ∷
    codes "@ 1 2008 1040 0 4 0 0 0 0 0 0 0 0 \"x\\x0d\\x0aa\"" ∷
    codes "@ 1 2003 0 0 0 0 0 0 0 0 0 0 0 \"\"" ∷
    codes "@ 1 2008 8209 0 4 1 0 0 0 0 0 0 0 \"x\\x0d\\x0aa\"" ∷
    codes "= 1 \"\"" ∷
    codes "@ 1 2008 512 0 0 0 0 0 0 0 0 0 0 \"\"" ∷
    codes "= 2 \"\"" ∷
    codes "@ 1 2008 512 3 0 0 1 0 0 0 0 0 0 \"\"" ∷
    codes "= 0 \"\"" ∷
    codes "@ 1 2008 1040 2 1 0 0 0 0 0 0 0 0 \"z\"" ∷
    codes "@ 1 2008 8209 2 1 1 0 0 0 0 0 0 0 \"z\"" ∷
    codes "= 3 \"\"" ∷
    codes "= 2 \"\"" ∷
    codes "= 0 \"\"" ∷
    codes "= 4 \"\"" ∷
    []))

abbrev pub MarkerAndLevelQueries : Type 0
MarkerAndLevelQueries = Prints ([])
    (joined_lines (
    codes "sci 1" ∷
    codes "open" ∷
    codes "send 1 2003 0 0 \"x\\x0d\\x0aa\"" ∷
    codes "send 1 2043 0 1 \"\"" ∷
    codes "send 1 2043 1 2 \"\"" ∷
    codes "send 1 2003 2 0 \"z\"" ∷
    codes "send 1 2047 0 4 \"\"" ∷
    codes "send 1 2048 1 4 \"\"" ∷
    codes "send 1 2048 2 2 \"\"" ∷
    codes "send 1 2047 -5 2 \"\"" ∷
    codes "send 1 2043 9 0 \"\"" ∷
    codes "send 1 2043 1 0 \"\"" ∷
    codes "send 1 2222 0 9216 \"\"" ∷
    codes "send 1 2222 0 9216 \"\"" ∷
    codes "send 1 2223 9 0 \"\"" ∷
    []))
    (joined_lines (
    codes "= 1 \"\"" ∷
    codes "= 0 \"\"" ∷
    codes "@ 1 2008 1040 0 4 0 0 0 0 0 0 0 0 \"x\\x0d\\x0aa\"" ∷
    codes "@ 1 2003 0 0 0 0 0 0 0 0 0 0 0 \"\"" ∷
    codes "@ 1 2008 8209 0 4 1 0 0 0 0 0 0 0 \"x\\x0d\\x0aa\"" ∷
    codes "= 1 \"\"" ∷
    codes "@ 1 2008 512 0 0 0 0 0 0 0 0 0 0 \"\"" ∷
    codes "= 2 \"\"" ∷
    codes "@ 1 2008 512 3 0 0 1 0 0 0 0 0 0 \"\"" ∷
    codes "= 0 \"\"" ∷
    codes "@ 1 2008 1040 2 1 0 0 0 0 0 0 0 0 \"z\"" ∷
    codes "@ 1 2008 8209 2 1 1 0 0 0 0 0 0 0 \"z\"" ∷
    codes "= 2 \"\"" ∷
    codes "= -1 \"\"" ∷
    codes "= 0 \"\"" ∷
    codes "= 0 \"\"" ∷
    codes "= -1 \"\"" ∷
    codes "= 3 \"\"" ∷
    codes "@ 1 2008 512 2 0 0 1 0 0 0 0 0 0 \"\"" ∷
    codes "= 0 \"\"" ∷
    codes "@ 1 2008 8 0 0 0 0 9216 1024 0 0 0 0 \"\"" ∷
    codes "= 0 \"\"" ∷
    codes "= 1024 \"\"" ∷
    []))

abbrev pub UndoBringsNoMarkerBack : Type 0
UndoBringsNoMarkerBack = Prints ([])
    (joined_lines (
    codes "sci 1" ∷
    codes "open" ∷
    codes "send 1 2003 0 0 \"ab\\x0acd\"" ∷
    codes "send 1 2043 1 0 \"\"" ∷
    codes "send 1 2004 0 0 \"\"" ∷
    codes "send 1 2176 0 0 \"\"" ∷
    codes "send 1 2182 0 0 \"\"" ∷
    codes "send 1 2046 1 0 \"\"" ∷
    codes "send 1 2017 1 0 \"\"" ∷
    []))
    (joined_lines (
    codes "= 1 \"\"" ∷
    codes "= 0 \"\"" ∷
    codes "@ 1 2008 1040 0 5 0 0 0 0 0 0 0 0 \"ab\\x0acd\"" ∷
    codes "@ 1 2003 0 0 0 0 0 0 0 0 0 0 0 \"\"" ∷
    codes "@ 1 2008 8209 0 5 1 0 0 0 0 0 0 0 \"ab\\x0acd\"" ∷
    codes "= 1 \"\"" ∷
    codes "@ 1 2008 512 3 0 0 1 0 0 0 0 0 0 \"\"" ∷
    codes "= 0 \"\"" ∷
    codes "@ 1 2008 2064 0 5 0 0 0 0 0 0 0 0 \"\"" ∷
    codes "@ 1 2008 8210 0 5 -1 0 0 0 0 0 0 0 \"ab\\x0acd\"" ∷
    codes "= 0 \"\"" ∷
    codes "@ 1 2008 1056 0 5 0 0 0 0 0 0 0 0 \"ab\\x0acd\"" ∷
    codes "@ 1 2008 4385 0 5 1 0 0 0 0 0 0 0 \"ab\\x0acd\"" ∷
    codes "= 5 \"ab\\x0acd\"" ∷
    codes "= 0 \"\"" ∷
    codes "= -1 \"\"" ∷
    []))

abbrev pub ConvertLineEndsKeepsMarkers : Type 0
ConvertLineEndsKeepsMarkers = Prints ([])
    (joined_lines (
    codes "sci 1" ∷
    codes "open" ∷
    codes "send 1 2003 0 0 \"\\x0a\\x0a\"" ∷
    codes "send 1 2043 0 1 \"\"" ∷
    codes "send 1 2043 1 2 \"\"" ∷
    codes "send 1 2029 0 0 \"\"" ∷
    codes "send 1 2182 0 0 \"\"" ∷
    codes "send 1 2046 0 0 \"\"" ∷
    codes "send 1 2046 1 0 \"\"" ∷
    codes "send 1 2029 1 0 \"\"" ∷
    codes "send 1 2182 0 0 \"\"" ∷
    codes "send 1 2046 0 0 \"\"" ∷
    codes "send 1 2046 1 0 \"\"" ∷
    []))
    (joined_lines (
    codes "= 1 \"\"" ∷
    codes "= 0 \"\"" ∷
    codes "@ 1 2008 1040 0 2 0 0 0 0 0 0 0 0 \"\\x0a\\x0a\"" ∷
    codes "@ 1 2003 0 0 0 0 0 0 0 0 0 0 0 \"\"" ∷
    codes "@ 1 2008 8209 0 2 2 0 0 0 0 0 0 0 \"\\x0a\\x0a\"" ∷
    codes "= 1 \"\"" ∷
    codes "@ 1 2008 512 0 0 0 0 0 0 0 0 0 0 \"\"" ∷
    codes "= 2 \"\"" ∷
    codes "@ 1 2008 512 1 0 0 1 0 0 0 0 0 0 \"\"" ∷
    codes "= 0 \"\"" ∷
    codes "@ 1 2008 1040 0 1 0 0 0 0 0 0 0 0 \"\\x0d\"" ∷
    codes "@ 1 2008 8209 0 1 0 0 0 0 0 0 0 0 \"\\x0d\"" ∷
    codes "@ 1 2008 1040 2 1 0 0 0 0 0 0 0 0 \"\\x0d\"" ∷
    codes "@ 1 2008 17 2 1 0 0 0 0 0 0 0 0 \"\\x0d\"" ∷
    codes "= 4 \"\\x0d\\x0a\\x0d\\x0a\"" ∷
    codes "= 2 \"\"" ∷
    codes "= 4 \"\"" ∷
    codes "= 0 \"\"" ∷
    codes "@ 1 2008 2064 1 1 0 0 0 0 0 0 0 0 \"\"" ∷
    codes "@ 1 2008 8210 1 1 0 0 0 0 0 0 0 0 \"\\x0a\"" ∷
    codes "@ 1 2008 2064 2 1 0 0 0 0 0 0 0 0 \"\"" ∷
    codes "@ 1 2008 18 2 1 0 0 0 0 0 0 0 0 \"\\x0a\"" ∷
    codes "= 2 \"\\x0d\\x0d\"" ∷
    codes "= 2 \"\"" ∷
    codes "= 4 \"\"" ∷
    []))

abbrev pub LineStates : Type 0
LineStates = Prints ([])
    (joined_lines (
    codes "sci 1" ∷
    codes "open" ∷
    codes "send 1 2003 0 0 \"a\\x0ab\\x0ac\"" ∷
    codes "send 1 2092 1 7 \"\"" ∷
    codes "send 1 2093 1 0 \"\"" ∷
    codes "send 1 2093 0 0 \"\"" ∷
    codes "send 1 2093 9 0 \"\"" ∷
    codes "send 1 2092 9 1 \"\"" ∷
    codes "send 1 2092 1 2147483648 \"\"" ∷
    codes "send 1 2092 1 -2147483648 \"\"" ∷
    codes "send 1 2092 1 -2147483648 \"\"" ∷
    codes "send 1 2093 1 0 \"\"" ∷
    codes "send 1 2003 0 0 \"\\x0a\"" ∷
    codes "send 1 2093 1 0 \"\"" ∷
    codes "send 1 2093 2 0 \"\"" ∷
    codes "send 1 2645 0 3 \"\"" ∷
    codes "send 1 2093 0 0 \"\"" ∷
    codes "send 1 2093 1 0 \"\"" ∷
    codes "send 1 2176 0 0 \"\"" ∷
    codes "send 1 2093 2 0 \"\"" ∷
    []))
    (joined_lines (
    codes "= 1 \"\"" ∷
    codes "= 0 \"\"" ∷
    codes "@ 1 2008 1040 0 5 0 0 0 0 0 0 0 0 \"a\\x0ab\\x0ac\"" ∷
    codes "@ 1 2003 0 0 0 0 0 0 0 0 0 0 0 \"\"" ∷
    codes "@ 1 2008 8209 0 5 2 0 0 0 0 0 0 0 \"a\\x0ab\\x0ac\"" ∷
    codes "= 0 \"\"" ∷
    codes "@ 1 2008 32768 0 0 0 1 0 0 0 0 0 0 \"\"" ∷
    codes "= 7 \"\"" ∷
    codes "= 0 \"\"" ∷
    codes "= 0 \"\"" ∷
    codes "= 0 \"\"" ∷
    codes "! 6" ∷
    codes "= 0 \"\"" ∷
    codes "@ 1 2008 32768 0 0 0 1 0 0 0 0 0 0 \"\"" ∷
    codes "= 0 \"\"" ∷
    codes "= -2147483648 \"\"" ∷
    codes "= 0 \"\"" ∷
    codes "@ 1 2008 1040 0 1 0 0 0 0 0 0 0 0 \"\\x0a\"" ∷
    codes "@ 1 2008 8209 0 1 1 0 0 0 0 0 0 0 \"\\x0a\"" ∷
    codes "= 0 \"\"" ∷
    codes "= -2147483648 \"\"" ∷
    codes "= 0 \"\"" ∷
    codes "@ 1 2008 2064 0 3 0 0 0 0 0 0 0 0 \"\"" ∷
    codes "@ 1 2008 8210 0 3 -2 0 0 0 0 0 0 0 \"\\x0aa\\x0a\"" ∷
    codes "= 0 \"\"" ∷
    codes "= 0 \"\"" ∷
    codes "= 0 \"\"" ∷
    codes "@ 1 2008 1056 0 3 0 0 0 0 0 0 0 0 \"\\x0aa\\x0a\"" ∷
    codes "@ 1 2008 4385 0 3 2 0 0 0 0 0 0 0 \"\\x0aa\\x0a\"" ∷
    codes "= 0 \"\"" ∷
    []))

abbrev pub MarkersMeetAndPart : Type 0
MarkersMeetAndPart = Prints ([])
    (joined_lines (
    codes "sci 1" ∷
    codes "open" ∷
    codes "send 1 2003 0 0 \"a\\x0ab\\x0ac\\x0ad\"" ∷
    codes "send 1 2043 0 3 \"\"" ∷
    codes "send 1 2043 1 3 \"\"" ∷
    codes "send 1 2043 2 5 \"\"" ∷
    codes "send 1 2466 1 9 \"\"" ∷
    codes "send 1 2046 1 0 \"\"" ∷
    codes "send 1 2645 1 4 \"\"" ∷
    codes "send 1 2046 0 0 \"\"" ∷
    codes "send 1 2046 1 0 \"\"" ∷
    codes "send 1 2017 2 0 \"\"" ∷
    codes "send 1 2017 3 0 \"\"" ∷
    codes "send 1 2044 0 3 \"\"" ∷
    codes "send 1 2046 0 0 \"\"" ∷
    codes "send 1 2044 0 3 \"\"" ∷
    codes "send 1 2044 0 3 \"\"" ∷
    codes "send 1 2018 3 0 \"\"" ∷
    codes "send 1 2018 3 0 \"\"" ∷
    codes "send 1 2017 3 0 \"\"" ∷
    codes "send 1 2045 0 0 \"\"" ∷
    codes "send 1 2045 0 0 \"\"" ∷
    codes "send 1 2044 0 -1 \"\"" ∷
    codes "send 1 2045 -1 0 \"\"" ∷
    codes "send 1 2466 0 4294967296 \"\"" ∷
    codes "send 1 2466 0 -1 \"\"" ∷
    codes "send 1 2043 0 32 \"\"" ∷
    codes "send 1 2043 0 -1 \"\"" ∷
    codes "send 1 2044 0 -2 \"\"" ∷
    codes "send 1 2045 32 0 \"\"" ∷
    codes "send 1 2046 0 0 \"\"" ∷
    []))
    (joined_lines (
    codes "= 1 \"\"" ∷
    codes "= 0 \"\"" ∷
    codes "@ 1 2008 1040 0 7 0 0 0 0 0 0 0 0 \"a\\x0ab\\x0ac\\x0ad\"" ∷
    codes "@ 1 2003 0 0 0 0 0 0 0 0 0 0 0 \"\"" ∷
    codes "@ 1 2008 8209 0 7 3 0 0 0 0 0 0 0 \"a\\x0ab\\x0ac\\x0ad\"" ∷
    codes "= 1 \"\"" ∷
    codes "@ 1 2008 512 0 0 0 0 0 0 0 0 0 0 \"\"" ∷
    codes "= 2 \"\"" ∷
    codes "@ 1 2008 512 2 0 0 1 0 0 0 0 0 0 \"\"" ∷
    codes "= 3 \"\"" ∷
    codes "@ 1 2008 512 4 0 0 2 0 0 0 0 0 0 \"\"" ∷
    codes "= 0 \"\"" ∷
    codes "@ 1 2008 512 2 0 0 1 0 0 0 0 0 0 \"\"" ∷
    codes "= 9 \"\"" ∷
    codes "= 0 \"\"" ∷
    codes "@ 1 2008 2064 1 4 0 0 0 0 0 0 0 0 \"\"" ∷
    codes "@ 1 2008 8210 1 4 -2 0 0 0 0 0 0 0 \"\\x0ab\\x0ac\"" ∷
    codes "= 41 \"\"" ∷
    codes "= 0 \"\"" ∷
    codes "= 0 \"\"" ∷
    codes "= 0 \"\"" ∷
    codes "= 0 \"\"" ∷
    codes "@ 1 2008 512 0 0 0 0 0 0 0 0 0 0 \"\"" ∷
    codes "= 41 \"\"" ∷
    codes "= 0 \"\"" ∷
    codes "@ 1 2008 512 0 0 0 0 0 0 0 0 0 0 \"\"" ∷
    codes "= 0 \"\"" ∷
    codes "@ 1 2008 512 0 0 0 0 0 0 0 0 0 0 \"\"" ∷
    codes "= 0 \"\"" ∷
    codes "@ 1 2008 512 0 0 0 0 0 0 0 0 0 0 \"\"" ∷
    codes "= 0 \"\"" ∷
    codes "= -1 \"\"" ∷
    codes "= 0 \"\"" ∷
    codes "@ 1 2008 512 0 0 0 -1 0 0 0 0 0 0 \"\"" ∷
    codes "= 0 \"\"" ∷
    codes "= 0 \"\"" ∷
    codes "= 0 \"\"" ∷
    codes "! 6" ∷
    codes "! 6" ∷
    codes "! 6" ∷
    codes "! 6" ∷
    codes "! 6" ∷
    codes "! 6" ∷
    codes "= 0 \"\"" ∷
    []))

abbrev pub MarkersOnALineStart : Type 0
MarkersOnALineStart = Prints ([])
    (joined_lines (
    codes "sci 1" ∷
    codes "open" ∷
    codes "send 1 2003 0 0 \"x\\x0aY\"" ∷
    codes "send 1 2043 1 1 \"\"" ∷
    codes "send 1 2222 1 9216 \"\"" ∷
    codes "send 1 2003 2 0 \"abc\\x0a\"" ∷
    codes "send 1 2046 1 0 \"\"" ∷
    codes "send 1 2046 2 0 \"\"" ∷
    codes "send 1 2223 1 0 \"\"" ∷
    codes "send 1 2223 2 0 \"\"" ∷
    codes "send 1 2645 0 8 \"\"" ∷
    codes "send 1 2154 0 0 \"\"" ∷
    codes "send 1 2046 0 0 \"\"" ∷
    codes "send 1 2223 0 0 \"\"" ∷
    []))
    (joined_lines (
    codes "= 1 \"\"" ∷
    codes "= 0 \"\"" ∷
    codes "@ 1 2008 1040 0 3 0 0 0 0 0 0 0 0 \"x\\x0aY\"" ∷
    codes "@ 1 2003 0 0 0 0 0 0 0 0 0 0 0 \"\"" ∷
    codes "@ 1 2008 8209 0 3 1 0 0 0 0 0 0 0 \"x\\x0aY\"" ∷
    codes "= 1 \"\"" ∷
    codes "@ 1 2008 512 2 0 0 1 0 0 0 0 0 0 \"\"" ∷
    codes "= 0 \"\"" ∷
    codes "@ 1 2008 8 0 0 0 1 9216 1024 0 0 0 0 \"\"" ∷
    codes "= 0 \"\"" ∷
    codes "@ 1 2008 1040 2 4 0 0 0 0 0 0 0 0 \"abc\\x0a\"" ∷
    codes "@ 1 2008 8209 2 4 1 0 0 0 0 0 0 0 \"abc\\x0a\"" ∷
    codes "= 0 \"\"" ∷
    codes "= 2 \"\"" ∷
    codes "= 1024 \"\"" ∷
    codes "= 9216 \"\"" ∷
    codes "! 6" ∷
    codes "= 3 \"\"" ∷
    codes "= 0 \"\"" ∷
    codes "= 1024 \"\"" ∷
    []))
