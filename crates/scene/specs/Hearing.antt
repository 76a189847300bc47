-- The views that are notified, and the texts of their notes.
use Rattle.std.specs.Prelude.{ℕ, nat_lt, if◌then◌else◌, Bool, true, List, [], ◌∷◌, length, filter, bit_or}
use Rattle.ed_types.specs.Notices.{Notice}
use Rattle.ed_types.specs.declared.reply.Note.{Note}
use Rattle.ed_types.specs.Heard.{with_text}
use Rattle.ed_model.specs.Numbers.{meets}
use Rattle.ed_model.specs.Steps.{Step, Insert, Delete}
use Rattle.ed_model.specs.History.{History, TextStep, begins_transaction}
use Rattle.ed_model.specs.Session.{View}
use Rattle.ed_model.specs.Notes as notes
use Rattle.scene.specs.declared.telling.Audience.{Audience}
use Rattle.scene.specs.declared.telling.Audience.TheVariants.{Everyone, Hearers}
use Rattle.scene.specs.declared.telling.NoteText.{NoteText}
use Rattle.scene.specs.declared.telling.NoteText.TheVariants.{Empty, Shared}

-- of the views that watch, the audience of a note of this kind
abbrev pub audience_of : Audience → ℕ → List View → List View
audience_of Everyone kind views = views
audience_of Hearers kind views = filter (λ (v : View). meets v.mask kind) views

-- whether the view is in the audience
abbrev pub belongs : Audience → ℕ → View → Bool
belongs Everyone kind v = true
belongs Hearers kind v = meets v.mask kind

-- the note with the shared text, or with none
abbrev pub with_note_text : NoteText → Note → List ℕ → Notice
with_note_text Empty note shared = with_text note []
with_note_text Shared note shared = with_text note shared

-- how many of the views hear notes of one of the kinds
abbrev pub hearers : ℕ → List View → ℕ
hearers kinds views = length (filter (λ (v : View). meets v.mask kinds) views)

-- the bits of all their masks, joined with earlier ones
abbrev pub masks_from : ℕ → List View → ℕ
masks_from masks [] = masks
masks_from masks (v ∷ vs) = masks_from (bit_or masks v.mask) vs

abbrev pub masks_of : List View → ℕ
masks_of views = masks_from 0 views

-- the kind of the note before a step, with bits for who makes the step
abbrev pub before_kind : ℕ → Step → ℕ
before_kind bits (Insert p bytes) = bit_or notes.before_insert bits
before_kind bits (Delete p bytes) = bit_or notes.before_delete bits

abbrev pub after_kind : ℕ → Step → ℕ
after_kind bits (Insert p bytes) = bit_or notes.insert_text bits
after_kind bits (Delete p bytes) = bit_or notes.delete_text bits

abbrev pub step_kinds : ℕ → ℕ → Step → ℕ
step_kinds before_bits after_bits step = bit_or (before_kind before_bits step) (after_kind after_bits step)

-- the bits of the note after a step of a message
abbrev pub user_bits : Bool → ℕ
user_bits begins = bit_or notes.performed_user (notes.bit_if begins notes.start_action)

-- the kinds of the notes of a step of a message
abbrev pub made_kinds : Bool → Step → History → ℕ
made_kinds later step h = step_kinds notes.performed_user (user_bits (begins_transaction later (TextStep step) h)) step

-- how many bytes are shared if this many views hear the step: none if no view does
abbrev pub bytes_shared : ℕ → List View → ℕ → ℕ
bytes_shared kinds views count = if nat_lt 0 (hearers kinds views) then count else 0

-- the notes that the save point is left, if it is
abbrev pub left_note : Bool → List View → List Notice
left_note is_left views = if is_left then notes.told views (notes.blank notes.save_point_left) else []
