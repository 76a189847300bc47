-- Worked examples of scripts: how texts are read, how scripts are listed, and what outcomes print. [own]
use Rattle.std.specs.Prelude.{◌≡◌, ℕ, ◌+◌, ◌-◌, ◌^◌, ◌==◌, not, List, [], ◌∷◌, ◌++◌, map, filter, count_by, take, codes, Result, Ok, Err, is_ok, pos, negsuc, true, false}
use Rattle.std.specs.List.{AllByRecursion, list_any, range_with_len}
use Rattle.ed_types.specs.declared.refusal.Refusal.TheVariants.{NoSuchView, BadArgument}
use Rattle.ed_types.specs.declared.script.Command.{Command}
use Rattle.ed_types.specs.declared.script.Command.TheVariants.{OpenView, CloseView, LoadFile, SendMessage, Expect}
use Rattle.ed_types.specs.declared.script.Outcome.TheVariants.{Opened, Closed, Replied, Refused, Expected}
use Rattle.ed_types.specs.declared.script.Cause.{Cause}
use Rattle.ed_types.specs.declared.script.Cause.TheVariants.{NoLineEnd, BadVersion, UnknownCommand, BadShape, BadNumber, BadText}
use Rattle.ed_types.specs.declared.script.ScriptFault.{ScriptFault}
use Rattle.ed_types.specs.declared.script.ScriptFault.TheVariants.{BadLine}
use Rattle.ed_model.specs.Text.{line_feed}
use Rattle.ed_model.specs.Spelling.{spelled_byte}
use Rattle.ed_model.specs.Listing.{listing, ended_line}
use Rattle.ed_model.specs.Reading.{reading}
use Rattle.ed_model.specs.Printed.{printed}

-- Each kind of byte, and the least signed 64-bit number.
abbrev pub every_kind_of_byte : List Command
every_kind_of_byte =
    OpenView ∷
    SendMessage 1 (record { number = 2282; w = pos 4; l = negsuc (2 ^ 63 - 1); text = 0x22 ∷ 0x5C ∷ 0 ∷ 0x80 ∷ [] }) ∷
    SendMessage 1 (record { number = 2182; w = pos 0; l = pos 0; text = [] }) ∷ []

abbrev pub commands_of_every_kind_of_byte : List ℕ
commands_of_every_kind_of_byte = codes "open\nsend 1 2282 4 -9223372036854775808 \"\\\"\\\\\\x00\\x80\"\nsend 1 2182 0 0 \"\"\n"

abbrev pub EveryKindOfByteIsRead : Type 0
EveryKindOfByteIsRead = reading (codes "sci 1\n" ++ commands_of_every_kind_of_byte) ≡ Ok every_kind_of_byte

abbrev pub EveryKindOfByteIsListed : Type 0
EveryKindOfByteIsListed = listing 2 every_kind_of_byte ≡ codes "sci 2\n" ++ commands_of_every_kind_of_byte

abbrev pub EdgesOfPlainBytes : Type 0
EdgesOfPlainBytes =
    map spelled_byte (0x1F ∷ 0x20 ∷ 0x21 ∷ 0x7E ∷ 0x7F ∷ 0x80 ∷ 0xFF ∷ []) ≡
    codes "\\x1f" ∷ codes " " ∷ codes "!" ∷ codes "~" ∷ codes "\\x7f" ∷ codes "\\x80" ∷ codes "\\xff" ∷ []

abbrev pub OtherCommandsAreRead : Type 0
OtherCommandsAreRead =
    reading (codes "sci 2\nload 1 4294967295\nclose 0\nexpect -1\n") ≡
    Ok (LoadFile 1 4294967295 ∷ CloseView 0 ∷ Expect (negsuc 0) ∷ [])

-- The line, as the second line of a script after `sci 1`, is refused with the cause.
abbrev pub IsRefused : Cause → List ℕ → Type 0
IsRefused cause line = reading (codes "sci 1\n" ++ ended_line line) ≡ Err (BadLine 2 cause)

abbrev pub AreRefused : Cause → List (List ℕ) → Type 0
AreRefused cause lines = AllByRecursion (IsRefused cause) lines

abbrev pub UnknownCommands : Type 0
UnknownCommands = AreRefused UnknownCommand (
    codes "Open" ∷ codes "open\r" ∷ codes "" ∷ codes " open" ∷ codes "opened" ∷ codes "sci 1" ∷ codes "expect 0" ∷ codes "expect" ∷ [])

abbrev pub WrongShapes : Type 0
WrongShapes = AreRefused BadShape (
    codes "open " ∷ codes "open 1" ∷ codes "close" ∷ codes "close " ∷ codes "close  1" ∷ codes "close 1 " ∷ codes "load 1" ∷ codes "load 1 2 3" ∷
    codes "send 1 2003 0 0" ∷ codes "send 1 2003 0 0 " ∷ codes "send 1 2003 0 0 a\"" ∷ codes "send 1 2003 0 0  \"a\"" ∷ codes "send 1 2003 0 0 \"a\" " ∷ codes "send 1 2003 0 0 \"a\"\"" ∷ [])

abbrev pub WrongNumbers : Type 0
WrongNumbers = AreRefused BadNumber (
    codes "close 01" ∷ codes "close -0" ∷ codes "close -1" ∷ codes "close -" ∷ codes "close +5" ∷ codes "close 1x" ∷ codes "close x y" ∷ codes "close \t1" ∷
    codes "load 1 4294967296" ∷ codes "send 1 2003 9223372036854775808 0 \"\"" ∷ codes "send 1 2003 -9223372036854775809 0 \"\"" ∷
    codes "send 1 2003 -0 0 \"\"" ∷ codes "send 1 2003 --1 0 \"\"" ∷ codes "send 1 2003 +5 0 \"\"" ∷ codes "send 1 2003 00 0 \"\"" ∷ codes "send 1 2003 0 0\"a b\"" ∷ [])

abbrev pub text_line : List ℕ → List ℕ
text_line text = codes "send 1 2003 0 0 \"" ++ text

abbrev pub WrongTexts : Type 0
WrongTexts = AreRefused BadText (map text_line (
    codes "a" ∷ codes "" ∷ codes "a\\\"" ∷ codes "\\" ∷ codes "\\n\"" ∷ codes "\\x0A\"" ∷ codes "\\x41\"" ∷ codes "\\x22\"" ∷ codes "\\x5c\"" ∷ codes "\\x20\"" ∷ codes "\\x7e\"" ∷
    codes "\\x0\"" ∷ codes "\\x" ∷ codes "\\xg0\"" ∷ codes "\t\"" ∷ (0x80 ∷ codes "\"") ∷ codes "\\x0A\" x" ∷ []))

abbrev pub WrongFirstLines : Type 0
WrongFirstLines = AllByRecursion (λ text. reading text ≡ Err (BadLine 1 BadVersion)) (
    codes "sci 1 \n" ∷ codes "sci 3\n" ∷ codes "sci 0\n" ∷ codes "sci 01\n" ∷ codes "sci\n" ∷ codes "\n" ∷ codes "open\n" ∷ codes "sci 1\r\nopen\n" ∷ [])

abbrev pub NoLineEnds : Type 0
NoLineEnds =
    (reading [] ≡ Err (BadLine 1 NoLineEnd)) ×
    (reading (codes "sci 3") ≡ Err (BadLine 1 NoLineEnd)) ×
    (reading (codes "sci 1\nopen") ≡ Err (BadLine 2 NoLineEnd)) ×
    (reading (codes "sci 1\nopen\n ") ≡ Err (BadLine 3 NoLineEnd))

-- the first line with a fault is named, with its first fault
abbrev pub FirstFaults : Type 0
FirstFaults =
    (reading (codes "sci 1\nopen\nclose 01\nOpen\nclose") ≡ Err (BadLine 3 BadNumber)) ×
    (reading (codes "sci 1\nclose 01 \"\n") ≡ Err (BadLine 2 BadNumber)) ×
    (reading (codes "sci 3\nOpen\n") ≡ Err (BadLine 1 BadVersion))

abbrev pub ExpectIsOfVersion2 : Type 0
ExpectIsOfVersion2 =
    (reading (codes "sci 2\nexpect 0\n") ≡ Ok (Expect (pos 0) ∷ [])) ×
    (reading (codes "sci 1\nexpect 0\n") ≡ Err (BadLine 2 UnknownCommand))

-- A script of 95 bytes and its prefixes: a prefix that ends with a line is a script, any other has no LF at the end of its last line.
abbrev pub script_of_95_bytes : List ℕ
script_of_95_bytes = codes "sci 1\nopen\nsend 1 2003 0 0 \"ab\\x0a\"\nsend 1 2182 0 0 \"\"\nsend 1 2003 9 0 \"z\"\nsend 1 2007 -1 0 \"\"\n"

abbrev pub whole_lines : List ℕ
whole_lines = 6 ∷ 11 ∷ 36 ∷ 55 ∷ 75 ∷ 95 ∷ []

abbrev pub cut_lines : List ℕ
cut_lines = filter (λ n. not (list_any (λ m. m == n) whole_lines)) (range_with_len 0 96)

abbrev pub unended : List ℕ → Result (List Command) ScriptFault
unended text = Err (BadLine (count_by (λ b. b == line_feed) text + 1) NoLineEnd)

abbrev pub PrefixesOfAScript : Type 0
PrefixesOfAScript =
    (map (λ n. is_ok (reading (take n script_of_95_bytes))) whole_lines ≡ true ∷ true ∷ true ∷ true ∷ true ∷ true ∷ []) ×
    (map (λ n. reading (take n script_of_95_bytes)) cut_lines ≡ map (λ n. unended (take n script_of_95_bytes)) cut_lines)

-- What outcomes print.
abbrev pub OutcomesArePrinted : Type 0
OutcomesArePrinted =
    printed (Opened 1 ∷ Expected true (pos 1) ∷ Closed ∷ Expected false (negsuc 2) ∷ Refused NoSuchView ∷ Refused BadArgument ∷ Replied (record { value = pos 5; text = codes "a\n"; notes = [] }) ∷ []) ≡
    codes "= 1 \"\"\n+ 1\n= 0 \"\"\n- -3\n! 2\n! 6\n= 5 \"a\\x0a\"\n"

abbrev pub NotesArePrinted : Type 0
NotesArePrinted =
    printed (Replied (record {
      value = pos 0;
      text = [];
      notes =
          record { view = 1; code = 2008; kind = 8209; position = pos 0; length = pos 3; lines = pos 1; line = pos 0; now = pos 0; prev = pos 0; token = pos 0; message = 0; w = pos 0; l = pos 0; text = codes "ab\n" } ∷
          record { view = 2; code = 2009; kind = 0; position = pos 0; length = pos 0; lines = pos 0; line = pos 0; now = pos 0; prev = pos 0; token = pos 0; message = 2180; w = negsuc 0; l = pos 7; text = [] } ∷ [];
    }) ∷ []) ≡
    codes "= 0 \"\"\n@ 1 2008 8209 0 3 1 0 0 0 0 0 0 0 \"ab\\x0a\"\n@ 2 2009 0 0 0 0 0 0 0 0 2180 -1 7 \"\"\n"
