-- Notes: their codes, kinds and fields, and which views are notified in which order. [Scintilla: notifications; order and receivers: own]
use Rattle.std.specs.Prelude.{ℕ, ℤ, pos, Bool, true, false, List, [], length, map, filter, bit_or}
use Rattle.ed_types.specs.Notices.{Notice}
use Rattle.ed_model.specs.Numbers.{meets}
use Rattle.ed_model.specs.Steps.{Step, Insert, Delete}
use Rattle.ed_model.specs.Session.{View}

-- Codes: SCN_STYLENEEDED, SCN_SAVEPOINTREACHED, SCN_SAVEPOINTLEFT, SCN_MODIFYATTEMPTRO, SCN_MODIFIED, SCN_MACRORECORD.
abbrev pub style_needed : ℕ
style_needed = 2000

abbrev pub save_point_reached : ℕ
save_point_reached = 2002

abbrev pub save_point_left : ℕ
save_point_left = 2003

abbrev pub modify_attempt : ℕ
modify_attempt = 2004

abbrev pub modified : ℕ
modified = 2008

abbrev pub macro_record : ℕ
macro_record = 2009

-- Bits of the kind of SCN_MODIFIED (`modificationType`), named without SC_MOD_ and SC_.
abbrev pub insert_text : ℕ
insert_text = 0x1

abbrev pub delete_text : ℕ
delete_text = 0x2

abbrev pub change_style : ℕ
change_style = 0x4

abbrev pub change_fold : ℕ
change_fold = 0x8

abbrev pub performed_user : ℕ
performed_user = 0x10

abbrev pub performed_undo : ℕ
performed_undo = 0x20

abbrev pub performed_redo : ℕ
performed_redo = 0x40

abbrev pub multi_step : ℕ
multi_step = 0x80

abbrev pub last_step : ℕ
last_step = 0x100

abbrev pub change_marker : ℕ
change_marker = 0x200

abbrev pub before_insert : ℕ
before_insert = 0x400

abbrev pub before_delete : ℕ
before_delete = 0x800

abbrev pub multi_line : ℕ
multi_line = 0x1000

abbrev pub start_action : ℕ
start_action = 0x2000

abbrev pub change_indicator : ℕ
change_indicator = 0x4000

abbrev pub change_line_state : ℕ
change_line_state = 0x8000

abbrev pub container : ℕ
container = 0x40000

-- the bit if the flag is on, otherwise 0
abbrev pub bit_if : Bool → ℕ → ℕ
bit_if true bit = bit
bit_if false bit = 0

-- a note with this code, no view yet, and all other fields 0 or empty
abbrev pub blank : ℕ → Notice
blank code = record {
  view = 0;
  code = code;
  kind = 0;
  position = pos 0;
  length = pos 0;
  lines = pos 0;
  line = pos 0;
  now = pos 0;
  prev = pos 0;
  token = pos 0;
  message = 0;
  w = pos 0;
  l = pos 0;
  text = [];
}

abbrev pub change_note : ℕ → Notice
change_note kind = let n = blank modified in record n { kind = kind }

-- the note of a change of `count` bytes from `start` on
abbrev pub range_note : ℕ → ℕ → ℕ → Notice
range_note kind start count = let n = change_note kind in record n { position = pos start; length = pos count }

-- the note before a step; `bits` says who performs it
abbrev pub before_note : ℕ → Step → Notice
before_note bits (Insert p bytes) = let n = range_note (bit_or before_insert bits) p (length bytes) in record n { text = bytes }
before_note bits (Delete p bytes) = range_note (bit_or before_delete bits) p (length bytes)

-- the note after a step; `lines` is by how many the number of lines grew (`linesAdded`)
abbrev pub after_note : ℕ → ℤ → Step → Notice
after_note bits lines (Insert p bytes) = let n = range_note (bit_or insert_text bits) p (length bytes) in record n { lines = lines; text = bytes }
after_note bits lines (Delete p bytes) = let n = range_note (bit_or delete_text bits) p (length bytes) in record n { lines = lines; text = bytes }

-- Which views are notified.

-- a note to each of these views, in this order
abbrev pub told : List View → Notice → List Notice
told views note = map (λ (v : View). record note { view = v.id }) views

-- a note to each of these views whose mask has a bit in common with the note's kind
abbrev pub heard : List View → Notice → List Notice
heard views note = told (filter (λ (v : View). meets v.mask note.kind) views) note
