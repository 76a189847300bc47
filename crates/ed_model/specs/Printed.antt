-- The text that a run of a script prints: a line for each outcome, and after the line of a reply a line for each of its notes. [own]
use Rattle.std.specs.Prelude.{ℕ, ℤ, pos, Bool, true, false, List, [], ◌∷◌, ◌++◌, flat_map, codes}
use Rattle.std.specs.List.{join_with_byte}
use Rattle.ed_types.specs.declared.refusal.Refusal.{Refusal}
use Rattle.ed_types.specs.declared.refusal.Refusal.TheVariants.{OutOfMemory, NoSuchView, UnknownMessage, NoSuchDocument, TooLong, BadArgument, TooMany}
use Rattle.ed_types.specs.declared.script.Outcome.{Outcome}
use Rattle.ed_types.specs.declared.script.Outcome.TheVariants.{Opened, Closed, Replied, Refused, Expected}
use Rattle.ed_types.specs.Notices.{Notice, Response}
use Rattle.ed_model.specs.Spelling.{space, spelled, spelled_int, spelled_text}
use Rattle.ed_model.specs.Listing.{ended_line}

abbrev pub refusal_number : Refusal → ℕ
refusal_number OutOfMemory = 1
refusal_number NoSuchView = 2
refusal_number UnknownMessage = 3
refusal_number NoSuchDocument = 4
refusal_number TooLong = 5
refusal_number BadArgument = 6
refusal_number TooMany = 7

-- a line of fields, with single spaces between them
abbrev pub printed_line : List (List ℕ) → List ℕ
printed_line fields = ended_line (join_with_byte space fields)

abbrev pub printed_answer : ℤ → List ℕ → List ℕ
printed_answer value text = printed_line (codes "=" ∷ spelled_int value ∷ spelled_text text ∷ [])

-- code, kind, position, length, lines, line, now, prev, token, message, w, l, in this order
abbrev pub printed_note : Notice → List ℕ
printed_note note = printed_line (codes "@" ∷ spelled note.view ∷ spelled note.code ∷ spelled note.kind ∷ spelled_int note.position ∷ spelled_int note.length ∷ spelled_int note.lines ∷ spelled_int note.line ∷ spelled_int note.now ∷ spelled_int note.prev ∷ spelled_int note.token ∷ spelled note.message ∷ spelled_int note.w ∷ spelled_int note.l ∷ spelled_text note.text ∷ [])

abbrev pub printed_reply : Response → List ℕ
printed_reply reply = printed_answer reply.value reply.text ++ flat_map printed_note reply.notes

abbrev pub printed_sign : Bool → List ℕ
printed_sign true = codes "+"
printed_sign false = codes "-"

abbrev pub printed_outcome : Outcome → List ℕ
printed_outcome (Opened view) = printed_answer (pos view) []
printed_outcome Closed = printed_answer (pos 0) []
printed_outcome (Replied reply) = printed_reply reply
printed_outcome (Refused refusal) = printed_line (codes "!" ∷ spelled (refusal_number refusal) ∷ [])
printed_outcome (Expected met value) = printed_line (printed_sign met ∷ spelled_int value ∷ [])

abbrev pub printed : List Outcome → List ℕ
printed outcomes = flat_map printed_outcome outcomes
