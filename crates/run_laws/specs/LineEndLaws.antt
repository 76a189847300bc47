-- The conversion of line ends to one kind: the text after its steps, and that each line then ends in that kind.
use Rattle.std.specs.Prelude.{◌≡◌, ◌⊎◌, ℕ, ◌+◌, ◌<◌, ◌==◌, ◌||◌, ◌&&◌, not, Bool, true, false, pos, List, filter, slice_range, Some, Ok, option_map}
use Rattle.ed_types.specs.declared.kind.Kind.TheVariants.{ConvertEols}
use Rattle.ed_types.specs.declared.message.Message.{Message}
use Rattle.ed_types.specs.Notices.{Response}
use Rattle.ed_types.specs.Messages.{kind_of}
use Rattle.ed_model.specs.declared.plan.LineEnd.{LineEnd}
use Rattle.ed_model.specs.declared.plan.LineEnd.TheVariants.{CrLf, Cr, Lf}
use Rattle.ed_model.specs.declared.plan.LineEndTypes.{LineEndTypes}
use Rattle.ed_model.specs.Text.{stands, line_feed, carriage_return}
use Rattle.ed_model.specs.Lines.{knows_unicode, unicode_end_before, line_count, start_after_line, end_of_line}
use Rattle.ed_model.specs.LineEnds.{line_end_bytes, converted, conversion_steps, after_steps}
use Rattle.ed_model.specs.LinePlans.{line_end_kind}
use Rattle.ed_model.specs.Session.{Session, View, Document, view_at, document_at, text_of}
use Rattle.ed_model.specs.Table.{table}

-- the steps of a conversion lead to the converted text
abbrev pub StepsConvert : Type 0
StepsConvert = (to : LineEnd) (text : List ℕ) → after_steps (conversion_steps to text) text ≡ converted to text

-- Each CR and each LF of the text belongs to a line end of the kind. For CRLF: the text does not begin with an LF, and each CR
-- comes just before an LF, and each LF just after a CR.
abbrev pub HasOnly : LineEnd → List ℕ → Type 0
HasOnly CrLf text = (stands line_feed text 0 ≡ false) × ((p : ℕ) → stands carriage_return text p ≡ stands line_feed text (p + 1))
HasOnly Cr text = (p : ℕ) → stands line_feed text p ≡ false
HasOnly Lf text = (p : ℕ) → stands carriage_return text p ≡ false

-- a converted text has only line ends of the wanted kind
abbrev pub ConvertedHaveOnlyThese : Type 0
ConvertedHaveOnlyThese = (to : LineEnd) (text : List ℕ) → HasOnly to (converted to text)

-- the bytes of the line's end; none for the last line
abbrev pub bytes_of_end : LineEndTypes → List ℕ → ℕ → List ℕ
bytes_of_end types text line = slice_range text (end_of_line types text line) (start_after_line types text line)

-- whether the line ends in U+0085, U+2028 or U+2029, if the document allows these
abbrev pub ends_in_unicode : LineEndTypes → List ℕ → ℕ → Bool
ends_in_unicode types text line = knows_unicode types && unicode_end_before text (start_after_line types text line)

-- each line of a converted text but the last ends in the wanted kind, or in a Unicode line end
abbrev pub ConvertedLinesEndSo : Type 0
ConvertedLinesEndSo =
    (to : LineEnd) (types : LineEndTypes) (text : List ℕ) (line : ℕ) → line + 1 < line_count types (converted to text)
    → (bytes_of_end types (converted to text) line ≡ line_end_bytes to) ⊎ (ends_in_unicode types (converted to text) line ≡ true)

-- whether the byte is neither CR nor LF
abbrev pub is_other : ℕ → Bool
is_other byte = not (byte == line_feed || byte == carriage_return)

-- all other bytes stay, in their order, also those of Unicode line ends
abbrev pub OtherBytesStay : Type 0
OtherBytesStay = (to : LineEnd) (text : List ℕ) → filter is_other (converted to text) ≡ filter is_other text

-- the number of lines stays, whether the document allows Unicode line ends or not
abbrev pub LineCountStays : Type 0
LineCountStays = (to : LineEnd) (types : LineEndTypes) (text : List ℕ) → line_count types (converted to text) ≡ line_count types text

-- a text that has only line ends of the kind stays as it is
abbrev pub TextsOfTheKindStay : Type 0
TextsOfTheKindStay = (to : LineEnd) (text : List ℕ) → HasOnly to text → converted to text ≡ text

-- a text that is converted twice is the text converted to the second kind alone, so no line end is lost on the way
abbrev pub LastKindCounts : Type 0
LastKindCounts = (first to : LineEnd) (text : List ℕ) → converted to (converted first text) ≡ converted to text

-- CONVERTEOLS, if it is answered and the document is not read-only, leaves the text converted to the kind that w names
abbrev pub ConvertEolsConverts : Type 0
ConvertEolsConverts =
    (s : Session) (view : ℕ) (m : Message) (v : View) (d : Document) (mode : ℕ) (done : Session × Response) →
    kind_of m.number ≡ Some ConvertEols → m.w ≡ pos mode → view_at s.views view ≡ Some v → document_at s.documents v.document ≡ Some d → d.read_only ≡ false
    → table s view m ≡ Ok done → option_map text_of (document_at done.0.documents v.document) ≡ Some (converted (line_end_kind mode) (text_of d))
