-- Documents, views and sessions. [Scintilla: document pointers]
use Rattle.std.specs.Prelude.{ℕ, ◌+◌, ◌-◌, ◌^◌, ◌==◌, nat_lt, nat_le, ◌&&◌, not, if◌then◌else◌, Bool, true, false, List, [], ◌∷◌, length, map, filter, find, filter_map, replicate, Option}
use Rattle.ed_types.specs.declared.limits.Limits.{Limits}
use Rattle.ed_model.specs.declared.plan.LineEnd.{LineEnd}
use Rattle.ed_model.specs.declared.plan.LineEnd.TheVariants.{Lf}
use Rattle.ed_model.specs.declared.plan.LineEndTypes.{LineEndTypes}
use Rattle.ed_model.specs.declared.plan.LineEndTypes.TheVariants.{Default}
use Rattle.ed_model.specs.Numbers.{meets}
use Rattle.ed_model.specs.Text.{Cell, bytes_of}
use Rattle.ed_model.specs.Lines.{line_count}
use Rattle.ed_model.specs.Rows.{Row, Flags, fresh_row, fresh_flags}
use Rattle.ed_model.specs.History.{History, fresh_history}

-- A document: its cells; a row for each line; 32 lists of indicator values; end styled, the position up to which it is styled;
-- its undo history; whether it is read-only; its line end mode (SCI_SETEOLMODE); its options (SCI_CREATEDOCUMENT) and its line
-- end types; the handle that the next marker gets; the ids of the views attached to it, in the order in which they were attached;
-- and the number of references that callers hold.
pub record Document : Type 0 where
  pub id : ℕ
  pub cells : List Cell
  pub rows : List Row
  pub indicators : List (List ℕ)
  pub end_styled : ℕ
  pub history : History
  pub read_only : Bool
  pub line_end : LineEnd
  pub options : ℕ
  pub line_end_types : LineEndTypes
  pub next_handle : ℕ
  pub views : List ℕ
  pub held_by_callers : ℕ

-- A view: its id and its document's; anchor, caret and target, positions in bytes; search flags; the mask of modifications that
-- it is notified of (SCI_SETMODEVENTMASK); the current indicator and its value; whether pastes convert line ends; whether it
-- records; and the flags of each line.
pub record View : Type 0 where
  pub id : ℕ
  pub document : ℕ
  pub anchor : ℕ
  pub caret : ℕ
  pub target_start : ℕ
  pub target_end : ℕ
  pub search_flags : ℕ
  pub mask : ℕ
  pub indicator : ℕ
  pub indicator_value : ℕ
  pub converts_pastes : Bool
  pub records : Bool
  pub flags : List Flags

-- A session: documents and views in the order of their ids, the clipboard, the
-- ids that the next document and the next view get, and the limits.
pub record Session : Type 0 where
  pub documents : List Document
  pub views : List View
  pub clipboard : List ℕ
  pub next_document : ℕ
  pub next_view : ℕ
  pub limits : Limits

-- the greatest limits that a session may have
abbrev pub greatest_limits : Limits
greatest_limits = record { doc_bytes = 2 ^ 31 - 1; large_bytes = 2 ^ 40; handles = 2 ^ 31 - 1; ids = 2 ^ 31 - 1; refs = 2 ^ 31 - 1; views = 1024; depth = 255 }

-- whether n is from 1 to the greatest
abbrev pub is_between_one_and : ℕ → ℕ → Bool
is_between_one_and greatest n = nat_lt 0 n && nat_le n greatest

-- whether a session may have these limits: none is 0, and none is above the greatest
abbrev pub is_allowed : Limits → Bool
is_allowed l =
    is_between_one_and greatest_limits.doc_bytes l.doc_bytes && is_between_one_and greatest_limits.large_bytes l.large_bytes
    && is_between_one_and greatest_limits.handles l.handles && is_between_one_and greatest_limits.ids l.ids
    && is_between_one_and greatest_limits.refs l.refs && is_between_one_and greatest_limits.views l.views
    && is_between_one_and greatest_limits.depth l.depth

abbrev pub new_session : Limits → Session
new_session limits = record { documents = []; views = []; clipboard = []; next_document = 1; next_view = 1; limits = limits }

-- a document without text, views or references
abbrev pub new_document : ℕ → ℕ → Document
new_document id options = record {
  id = id;
  cells = [];
  rows = fresh_row ∷ [];
  indicators = replicate 32 [];
  end_styled = 0;
  history = fresh_history;
  read_only = false;
  line_end = Lf;
  options = options;
  line_end_types = Default;
  next_handle = 1;
  views = [];
  held_by_callers = 0;
}

-- the mask of a new view, which is notified of every modification (SC_MODEVENTMASKALL)
abbrev pub whole_mask : ℕ
whole_mask = 0x7FFFFF

abbrev pub text_of : Document → List ℕ
text_of d = bytes_of d.cells

abbrev pub lines_in : Document → ℕ
lines_in d = line_count d.line_end_types (text_of d)

-- whether the document keeps no styles (SC_DOCUMENTOPTION_STYLES_NONE), and whether it is for large texts
-- (SC_DOCUMENTOPTION_TEXT_LARGE)
abbrev pub keeps_no_styles : Document → Bool
keeps_no_styles d = meets d.options 0x1

abbrev pub is_large : Document → Bool
is_large d = meets d.options 0x100

-- the view attached to the document: anchor, caret and target at the start, all lines visible and expanded
abbrev pub attached_to : Document → View → View
attached_to d v = record v { document = d.id; anchor = 0; caret = 0; target_start = 0; target_end = 0; flags = replicate (lines_in d) fresh_flags }

abbrev pub new_view : ℕ → Document → View
new_view id d = record {
  id = id;
  document = d.id;
  anchor = 0;
  caret = 0;
  target_start = 0;
  target_end = 0;
  search_flags = 0;
  mask = whole_mask;
  indicator = 0;
  indicator_value = 1;
  converts_pastes = true;
  records = false;
  flags = replicate (lines_in d) fresh_flags;
}

-- Look-up and replacement by id.

abbrev pub view_at : List View → ℕ → Option View
view_at views id = find (λ (v : View). v.id == id) views

abbrev pub document_at : List Document → ℕ → Option Document
document_at documents id = find (λ (d : Document). d.id == id) documents

abbrev pub in_place_of_view : View → View → View
in_place_of_view new v = if v.id == new.id then new else v

abbrev pub with_view : View → List View → List View
with_view new views = map (in_place_of_view new) views

abbrev pub in_place_of_document : Document → Document → Document
in_place_of_document new d = if d.id == new.id then new else d

abbrev pub with_document : Document → List Document → List Document
with_document new documents = map (in_place_of_document new) documents

-- the document's views, in the order in which they were attached
abbrev pub watching : List View → Document → List View
watching views d = filter_map (view_at views) d.views

-- References: the attached views, and those that callers hold. A document lives as long as it has one.

abbrev pub references : Document → ℕ
references d = length d.views + d.held_by_callers

abbrev pub living : List Document → List Document
living documents = filter (λ (d : Document). nat_lt 0 (references d)) documents

abbrev pub without : ℕ → List ℕ → List ℕ
without id ids = filter (λ k. not (k == id)) ids

-- the document after the view is detached from it
abbrev pub left_by : ℕ → Document → Document
left_by view d = record d { views = without view d.views }

-- the greatest length of the document's text, in bytes
abbrev pub limit_of : Limits → Document → ℕ
limit_of limits d = if is_large d then limits.large_bytes else limits.doc_bytes
