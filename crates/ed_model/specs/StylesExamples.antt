-- Worked examples, written by tools/pages/example_theorems.py from examples/messages.
use Rattle.std.specs.Prelude.{[], ◌∷◌, codes}
use Rattle.ed_model.specs.Prints.{Prints, joined_lines}

abbrev pub EndStyled : Type 0
EndStyled = Prints ([])
    (joined_lines (
    codes "sci 1" ∷
    codes "open" ∷
    codes "send 1 2003 0 0 \"abcd\"" ∷
    codes "send 1 2032 0 0 \"\"" ∷
    codes "send 1 2033 4 5 \"\"" ∷
    codes "send 1 2028 0 0 \"\"" ∷
    codes "send 1 2003 2 0 \"x\"" ∷
    codes "send 1 2028 0 0 \"\"" ∷
    codes "send 1 2010 2 0 \"\"" ∷
    codes "send 1 2010 3 0 \"\"" ∷
    codes "send 1 4003 0 -1 \"\"" ∷
    codes "send 1 2028 0 0 \"\"" ∷
    codes "send 1 2033 6 1 \"\"" ∷
    []))
    (joined_lines (
    codes "= 1 \"\"" ∷
    codes "= 0 \"\"" ∷
    codes "@ 1 2008 1040 0 4 0 0 0 0 0 0 0 0 \"abcd\"" ∷
    codes "@ 1 2003 0 0 0 0 0 0 0 0 0 0 0 \"\"" ∷
    codes "@ 1 2008 8209 0 4 0 0 0 0 0 0 0 0 \"abcd\"" ∷
    codes "= 0 \"\"" ∷
    codes "= 0 \"\"" ∷
    codes "@ 1 2008 20 0 4 0 0 0 0 0 0 0 0 \"\"" ∷
    codes "= 4 \"\"" ∷
    codes "= 0 \"\"" ∷
    codes "@ 1 2008 1040 2 1 0 0 0 0 0 0 0 0 \"x\"" ∷
    codes "@ 1 2008 8209 2 1 0 0 0 0 0 0 0 0 \"x\"" ∷
    codes "= 2 \"\"" ∷
    codes "= 0 \"\"" ∷
    codes "= 5 \"\"" ∷
    codes "= 0 \"\"" ∷
    codes "@ 1 2000 0 5 0 0 0 0 0 0 0 0 0 \"\"" ∷
    codes "= 0 \"\"" ∷
    codes "! 6" ∷
    []))

abbrev pub IndicatorGrowsAt0 : Type 0
IndicatorGrowsAt0 = Prints ([])
    (joined_lines (
    codes "sci 1" ∷
    codes "open" ∷
    codes "send 1 2003 0 0 \"abcd\"" ∷
    codes "send 1 2500 8 0 \"\"" ∷
    codes "send 1 2504 1 2 \"\"" ∷
    codes "send 1 2003 0 0 \"X\"" ∷
    codes "send 1 2507 8 0 \"\"" ∷
    []))
    (joined_lines (
    codes "= 1 \"\"" ∷
    codes "= 0 \"\"" ∷
    codes "@ 1 2008 1040 0 4 0 0 0 0 0 0 0 0 \"abcd\"" ∷
    codes "@ 1 2003 0 0 0 0 0 0 0 0 0 0 0 \"\"" ∷
    codes "@ 1 2008 8209 0 4 0 0 0 0 0 0 0 0 \"abcd\"" ∷
    codes "= 0 \"\"" ∷
    codes "= 0 \"\"" ∷
    codes "@ 1 2008 16400 1 2 0 0 0 0 0 0 0 0 \"\"" ∷
    codes "= 0 \"\"" ∷
    codes "@ 1 2008 1040 0 1 0 0 0 0 0 0 0 0 \"X\"" ∷
    codes "@ 1 2008 8209 0 1 0 0 0 0 0 0 0 0 \"X\"" ∷
    codes "= 0 \"\"" ∷
    []))

abbrev pub IndicatorGrowsAt1 : Type 0
IndicatorGrowsAt1 = Prints ([])
    (joined_lines (
    codes "sci 1" ∷
    codes "open" ∷
    codes "send 1 2003 0 0 \"abcd\"" ∷
    codes "send 1 2500 8 0 \"\"" ∷
    codes "send 1 2504 1 2 \"\"" ∷
    codes "send 1 2003 1 0 \"X\"" ∷
    codes "send 1 2507 8 1 \"\"" ∷
    []))
    (joined_lines (
    codes "= 1 \"\"" ∷
    codes "= 0 \"\"" ∷
    codes "@ 1 2008 1040 0 4 0 0 0 0 0 0 0 0 \"abcd\"" ∷
    codes "@ 1 2003 0 0 0 0 0 0 0 0 0 0 0 \"\"" ∷
    codes "@ 1 2008 8209 0 4 0 0 0 0 0 0 0 0 \"abcd\"" ∷
    codes "= 0 \"\"" ∷
    codes "= 0 \"\"" ∷
    codes "@ 1 2008 16400 1 2 0 0 0 0 0 0 0 0 \"\"" ∷
    codes "= 0 \"\"" ∷
    codes "@ 1 2008 1040 1 1 0 0 0 0 0 0 0 0 \"X\"" ∷
    codes "@ 1 2008 8209 1 1 0 0 0 0 0 0 0 0 \"X\"" ∷
    codes "= 0 \"\"" ∷
    []))

abbrev pub IndicatorGrowsAt2 : Type 0
IndicatorGrowsAt2 = Prints ([])
    (joined_lines (
    codes "sci 1" ∷
    codes "open" ∷
    codes "send 1 2003 0 0 \"abcd\"" ∷
    codes "send 1 2500 8 0 \"\"" ∷
    codes "send 1 2504 1 2 \"\"" ∷
    codes "send 1 2003 2 0 \"X\"" ∷
    codes "send 1 2507 8 2 \"\"" ∷
    []))
    (joined_lines (
    codes "= 1 \"\"" ∷
    codes "= 0 \"\"" ∷
    codes "@ 1 2008 1040 0 4 0 0 0 0 0 0 0 0 \"abcd\"" ∷
    codes "@ 1 2003 0 0 0 0 0 0 0 0 0 0 0 \"\"" ∷
    codes "@ 1 2008 8209 0 4 0 0 0 0 0 0 0 0 \"abcd\"" ∷
    codes "= 0 \"\"" ∷
    codes "= 0 \"\"" ∷
    codes "@ 1 2008 16400 1 2 0 0 0 0 0 0 0 0 \"\"" ∷
    codes "= 0 \"\"" ∷
    codes "@ 1 2008 1040 2 1 0 0 0 0 0 0 0 0 \"X\"" ∷
    codes "@ 1 2008 8209 2 1 0 0 0 0 0 0 0 0 \"X\"" ∷
    codes "= 1 \"\"" ∷
    []))

abbrev pub IndicatorGrowsAt3 : Type 0
IndicatorGrowsAt3 = Prints ([])
    (joined_lines (
    codes "sci 1" ∷
    codes "open" ∷
    codes "send 1 2003 0 0 \"abcd\"" ∷
    codes "send 1 2500 8 0 \"\"" ∷
    codes "send 1 2504 1 2 \"\"" ∷
    codes "send 1 2003 3 0 \"X\"" ∷
    codes "send 1 2507 8 3 \"\"" ∷
    []))
    (joined_lines (
    codes "= 1 \"\"" ∷
    codes "= 0 \"\"" ∷
    codes "@ 1 2008 1040 0 4 0 0 0 0 0 0 0 0 \"abcd\"" ∷
    codes "@ 1 2003 0 0 0 0 0 0 0 0 0 0 0 \"\"" ∷
    codes "@ 1 2008 8209 0 4 0 0 0 0 0 0 0 0 \"abcd\"" ∷
    codes "= 0 \"\"" ∷
    codes "= 0 \"\"" ∷
    codes "@ 1 2008 16400 1 2 0 0 0 0 0 0 0 0 \"\"" ∷
    codes "= 0 \"\"" ∷
    codes "@ 1 2008 1040 3 1 0 0 0 0 0 0 0 0 \"X\"" ∷
    codes "@ 1 2008 8209 3 1 0 0 0 0 0 0 0 0 \"X\"" ∷
    codes "= 0 \"\"" ∷
    []))

abbrev pub IndicatorGrowsAt4 : Type 0
IndicatorGrowsAt4 = Prints ([])
    (joined_lines (
    codes "sci 1" ∷
    codes "open" ∷
    codes "send 1 2003 0 0 \"abcd\"" ∷
    codes "send 1 2500 8 0 \"\"" ∷
    codes "send 1 2504 1 2 \"\"" ∷
    codes "send 1 2003 4 0 \"X\"" ∷
    codes "send 1 2507 8 4 \"\"" ∷
    []))
    (joined_lines (
    codes "= 1 \"\"" ∷
    codes "= 0 \"\"" ∷
    codes "@ 1 2008 1040 0 4 0 0 0 0 0 0 0 0 \"abcd\"" ∷
    codes "@ 1 2003 0 0 0 0 0 0 0 0 0 0 0 \"\"" ∷
    codes "@ 1 2008 8209 0 4 0 0 0 0 0 0 0 0 \"abcd\"" ∷
    codes "= 0 \"\"" ∷
    codes "= 0 \"\"" ∷
    codes "@ 1 2008 16400 1 2 0 0 0 0 0 0 0 0 \"\"" ∷
    codes "= 0 \"\"" ∷
    codes "@ 1 2008 1040 4 1 0 0 0 0 0 0 0 0 \"X\"" ∷
    codes "@ 1 2008 17 4 1 0 0 0 0 0 0 0 0 \"X\"" ∷
    codes "= 0 \"\"" ∷
    []))

abbrev pub StylesAndIndicators : Type 0
StylesAndIndicators = Prints ([])
    (joined_lines (
    codes "sci 1" ∷
    codes "open" ∷
    codes "send 1 2003 0 0 \"abcd\"" ∷
    codes "send 1 2032 1 0 \"\"" ∷
    codes "send 1 2073 2 0 \"\\x05\\x00\"" ∷
    codes "send 1 2028 0 0 \"\"" ∷
    codes "send 1 2015 1 3 \"\"" ∷
    codes "send 1 2500 8 0 \"\"" ∷
    codes "send 1 2504 1 2 \"\"" ∷
    codes "send 1 2508 8 3 \"\"" ∷
    codes "send 1 2509 8 2 \"\"" ∷
    codes "send 1 2506 1 0 \"\"" ∷
    codes "send 1 2504 1 2 \"\"" ∷
    []))
    (joined_lines (
    codes "= 1 \"\"" ∷
    codes "= 0 \"\"" ∷
    codes "@ 1 2008 1040 0 4 0 0 0 0 0 0 0 0 \"abcd\"" ∷
    codes "@ 1 2003 0 0 0 0 0 0 0 0 0 0 0 \"\"" ∷
    codes "@ 1 2008 8209 0 4 0 0 0 0 0 0 0 0 \"abcd\"" ∷
    codes "= 0 \"\"" ∷
    codes "= 0 \"\"" ∷
    codes "@ 1 2008 20 1 1 0 0 0 0 0 0 0 0 \"\"" ∷
    codes "= 3 \"\"" ∷
    codes "= 4 \"b\\x05c\\x00\"" ∷
    codes "= 0 \"\"" ∷
    codes "= 0 \"\"" ∷
    codes "@ 1 2008 16400 1 2 0 0 0 0 0 0 0 0 \"\"" ∷
    codes "= 3 \"\"" ∷
    codes "= 3 \"\"" ∷
    codes "= 256 \"\"" ∷
    codes "= 0 \"\"" ∷
    []))

abbrev pub IndicatorCurrentAndValue : Type 0
IndicatorCurrentAndValue = Prints ([])
    (joined_lines (
    codes "sci 1" ∷
    codes "open" ∷
    codes "open" ∷
    codes "send 2 2358 0 1 \"\"" ∷
    codes "send 1 2500 31 0 \"\"" ∷
    codes "send 1 2501 0 0 \"\"" ∷
    codes "send 2 2501 0 0 \"\"" ∷
    codes "send 1 2502 0 0 \"\"" ∷
    codes "send 1 2503 0 0 \"\"" ∷
    codes "send 1 2502 2147483647 0 \"\"" ∷
    codes "send 1 2503 0 0 \"\"" ∷
    codes "send 1 2500 32 0 \"\"" ∷
    codes "send 1 2502 -1 0 \"\"" ∷
    codes "send 1 2003 0 0 \"abcdef\"" ∷
    codes "send 1 2504 1 4 \"\"" ∷
    codes "send 1 2507 31 2 \"\"" ∷
    codes "send 1 2508 31 2 \"\"" ∷
    codes "send 1 2509 31 2 \"\"" ∷
    codes "send 1 2506 1 0 \"\"" ∷
    codes "send 2 2500 31 0 \"\"" ∷
    codes "send 2 2502 2 0 \"\"" ∷
    codes "send 2 2504 2 2 \"\"" ∷
    codes "send 1 2509 31 1 \"\"" ∷
    codes "send 1 2505 0 3 \"\"" ∷
    codes "send 1 2507 31 2 \"\"" ∷
    codes "send 1 2507 31 3 \"\"" ∷
    codes "send 1 2504 5 2 \"\"" ∷
    codes "send 1 2504 3 0 \"\"" ∷
    codes "send 1 2506 9 0 \"\"" ∷
    codes "send 1 2507 31 -1 \"\"" ∷
    []))
    (joined_lines (
    codes "= 1 \"\"" ∷
    codes "= 2 \"\"" ∷
    codes "= 0 \"\"" ∷
    codes "= 0 \"\"" ∷
    codes "= 31 \"\"" ∷
    codes "= 0 \"\"" ∷
    codes "= 0 \"\"" ∷
    codes "= 1 \"\"" ∷
    codes "= 0 \"\"" ∷
    codes "= 2147483647 \"\"" ∷
    codes "! 6" ∷
    codes "! 6" ∷
    codes "= 0 \"\"" ∷
    codes "@ 1 2008 1040 0 6 0 0 0 0 0 0 0 0 \"abcdef\"" ∷
    codes "@ 2 2008 1040 0 6 0 0 0 0 0 0 0 0 \"abcdef\"" ∷
    codes "@ 1 2003 0 0 0 0 0 0 0 0 0 0 0 \"\"" ∷
    codes "@ 2 2003 0 0 0 0 0 0 0 0 0 0 0 \"\"" ∷
    codes "@ 1 2008 8209 0 6 0 0 0 0 0 0 0 0 \"abcdef\"" ∷
    codes "@ 2 2008 8209 0 6 0 0 0 0 0 0 0 0 \"abcdef\"" ∷
    codes "= 0 \"\"" ∷
    codes "@ 1 2008 16400 1 4 0 0 0 0 0 0 0 0 \"\"" ∷
    codes "@ 2 2008 16400 1 4 0 0 0 0 0 0 0 0 \"\"" ∷
    codes "= 2147483647 \"\"" ∷
    codes "= 1 \"\"" ∷
    codes "= 5 \"\"" ∷
    codes "= 2147483648 \"\"" ∷
    codes "= 0 \"\"" ∷
    codes "= 0 \"\"" ∷
    codes "= 0 \"\"" ∷
    codes "@ 1 2008 16400 2 2 0 0 0 0 0 0 0 0 \"\"" ∷
    codes "@ 2 2008 16400 2 2 0 0 0 0 0 0 0 0 \"\"" ∷
    codes "= 2 \"\"" ∷
    codes "= 0 \"\"" ∷
    codes "@ 1 2008 16400 1 2 0 0 0 0 0 0 0 0 \"\"" ∷
    codes "@ 2 2008 16400 1 2 0 0 0 0 0 0 0 0 \"\"" ∷
    codes "= 0 \"\"" ∷
    codes "= 2 \"\"" ∷
    codes "! 6" ∷
    codes "= 0 \"\"" ∷
    codes "= 0 \"\"" ∷
    codes "= 0 \"\"" ∷
    []))

abbrev pub StyledText : Type 0
StyledText = Prints ([])
    (joined_lines (
    codes "sci 1" ∷
    codes "open" ∷
    codes "send 1 2003 0 0 \"ab\\x0acd\"" ∷
    codes "send 1 2032 1 0 \"\"" ∷
    codes "send 1 2073 2 0 \"\\x03\\x04\"" ∷
    codes "send 1 2028 0 0 \"\"" ∷
    codes "send 1 2033 2 3 \"\"" ∷
    codes "send 1 2033 0 3 \"\"" ∷
    codes "send 1 2033 1 256 \"\"" ∷
    codes "send 1 2010 1 0 \"\"" ∷
    codes "send 1 2010 3 0 \"\"" ∷
    codes "send 1 2010 5 0 \"\"" ∷
    codes "send 1 2015 0 -1 \"\"" ∷
    codes "send 1 2015 2 1 \"\"" ∷
    codes "send 1 2032 1 0 \"\"" ∷
    codes "send 1 2073 2 0 \"\\x03\\x04\"" ∷
    codes "send 1 2032 6 0 \"\"" ∷
    codes "send 1 2645 1 2 \"\"" ∷
    codes "send 1 2028 0 0 \"\"" ∷
    codes "send 1 2015 0 -1 \"\"" ∷
    []))
    (joined_lines (
    codes "= 1 \"\"" ∷
    codes "= 0 \"\"" ∷
    codes "@ 1 2008 1040 0 5 0 0 0 0 0 0 0 0 \"ab\\x0acd\"" ∷
    codes "@ 1 2003 0 0 0 0 0 0 0 0 0 0 0 \"\"" ∷
    codes "@ 1 2008 8209 0 5 1 0 0 0 0 0 0 0 \"ab\\x0acd\"" ∷
    codes "= 0 \"\"" ∷
    codes "= 0 \"\"" ∷
    codes "@ 1 2008 20 1 2 0 0 0 0 0 0 0 0 \"\"" ∷
    codes "= 3 \"\"" ∷
    codes "= 0 \"\"" ∷
    codes "@ 1 2008 20 3 2 0 0 0 0 0 0 0 0 \"\"" ∷
    codes "= 0 \"\"" ∷
    codes "! 6" ∷
    codes "= 3 \"\"" ∷
    codes "= 3 \"\"" ∷
    codes "= 0 \"\"" ∷
    codes "= 10 \"a\\x00b\\x03\\x0a\\x04c\\x03d\\x03\"" ∷
    codes "! 6" ∷
    codes "= 0 \"\"" ∷
    codes "= 0 \"\"" ∷
    codes "! 6" ∷
    codes "= 0 \"\"" ∷
    codes "@ 1 2008 2064 1 2 0 0 0 0 0 0 0 0 \"\"" ∷
    codes "@ 1 2008 8210 1 2 -1 0 0 0 0 0 0 0 \"b\\x0a\"" ∷
    codes "= 1 \"\"" ∷
    codes "= 6 \"a\\x00c\\x03d\\x03\"" ∷
    []))
