-- Scripts as text. A script is a list of lines, each ended by LF. The first line names the version; each other line is one
-- command, whose fields have single spaces between them. [own]
use Rattle.std.specs.Prelude.{⊤, IsTrue, ◌<◌, ◌^◌, ℕ, ◌==◌, ◌&&◌, ◌||◌, nat_le, Bool, true, false, not, List, [], ◌∷◌, ◌++◌, length, flat_map, codes}
use Rattle.std.specs.List.{AllByRecursion, join_with_byte, list_all}
use Rattle.ed_types.specs.declared.script.Command.{Command}
use Rattle.ed_types.specs.declared.script.Command.TheVariants.{OpenView, CloseView, LoadFile, SendMessage, Expect}
use Rattle.ed_model.specs.Text.{line_feed}
use Rattle.ed_model.specs.Spelling.{space, spelled, spelled_int, spelled_text, is_64_bits}

abbrev pub fields_of : Command → List (List ℕ)
fields_of OpenView = codes "open" ∷ []
fields_of (CloseView view) = codes "close" ∷ spelled view ∷ []
fields_of (LoadFile view file) = codes "load" ∷ spelled view ∷ spelled file ∷ []
fields_of (SendMessage view message) = codes "send" ∷ spelled view ∷ spelled message.number ∷ spelled_int message.w ∷ spelled_int message.l ∷ spelled_text message.text ∷ []
fields_of (Expect value) = codes "expect" ∷ spelled_int value ∷ []

-- a command's line, without the LF
abbrev pub listed_command : Command → List ℕ
listed_command command = join_with_byte space (fields_of command)

abbrev pub ended_line : List ℕ → List ℕ
ended_line line = line ++ line_feed ∷ []

-- the first line
abbrev pub version_line : ℕ → List ℕ
version_line version = codes "sci " ++ spelled version

-- the listing of a script in a version
abbrev pub listing : ℕ → List Command → List ℕ
listing version commands = ended_line (version_line version) ++ flat_map (λ command. ended_line (listed_command command)) commands

-- Each number of a command is a value of its Rust type, and its text consists of bytes. Every command of a program is such.
abbrev pub FitsTypes : Command → Type 0
FitsTypes OpenView = ⊤
FitsTypes (CloseView view) = view < 2 ^ 32
FitsTypes (LoadFile view file) = (view < 2 ^ 32) × (file < 2 ^ 32)
FitsTypes (SendMessage view message) = (view < 2 ^ 32) × (message.number < 2 ^ 32) × IsTrue (is_64_bits message.w) × IsTrue (is_64_bits message.l) × AllByRecursion (λ b. b < 256) message.text
FitsTypes (Expect value) = IsTrue (is_64_bits value)

-- whether the command is an `expect`, which version 1 does not have
abbrev pub is_expect : Command → Bool
is_expect OpenView = false
is_expect (CloseView view) = false
is_expect (LoadFile view file) = false
is_expect (SendMessage view message) = false
is_expect (Expect value) = true

-- whether the version has all these commands; there are versions 1 and 2
abbrev pub speaks : ℕ → List Command → Bool
speaks version commands = version == 2 || (version == 1 && list_all (λ command. not (is_expect command)) commands)

-- the greatest length of a line, without its LF, and of a script, in bytes
abbrev pub line_limit : ℕ
line_limit = 65536

abbrev pub script_limit : ℕ
script_limit = 16777216

abbrev pub fits_line : List ℕ → Bool
fits_line line = nat_le (length line) line_limit

abbrev pub fits_script : List ℕ → Bool
fits_script text = nat_le (length text) script_limit

-- Whether commands are within the limits of a script: the length of each line, and that of the whole. Listings have the same
-- length in both versions.
abbrev pub keeps_limits : List Command → Bool
keeps_limits commands = list_all (λ command. fits_line (listed_command command)) commands && fits_script (listing 2 commands)
