-- One change of those that undo or redo performs.
use Rattle.std.specs.Prelude.{◌≡◌, ℕ, ℤ, [], ◌<◌, ◌^◌, ◌+◌, ◌++◌, ◌==◌, nat_lt, Bool, true, false, if◌then◌else◌, List, length, slice_get, bit_or, Option, Some}
use Rattle.ed_model.specs.Steps.{Step, place_of, step_bytes}
use Rattle.ed_model.specs.History.{History, Change, TextStep, ContainerStep}
use Rattle.ed_model.specs.InverseLaws.{Fits}
use Rattle.ed_model.specs.Session.{View, text_of}
use Rattle.ed_model.specs.Notes.{bit_if, multi_step, heard, before_note, after_note}
use Rattle.ed_model.specs.Performing.{last_bits, changes_lines, change_performed}
use Rattle.id_table.specs.Entries.{Entries}
use Rattle.notify.specs.Gathered.{Gathered, CanPut, CanShare}
use Rattle.ed_view.specs.Kept.{KeptView}
use Rattle.document.specs.declared.undoing.Direction.{Direction}
use Rattle.document.specs.Kept.{Kept, HasTextRoom}
use Rattle.document.specs.Undoing.{changes_of, need_of_change}
use Rattle.scene.specs.declared.performing.Turn.{Turn}
use Rattle.scene.specs.Scenes.{kept_scene, watchers, IsWatched, RoomsStay}
use Rattle.scene.specs.Undoing.{LeavesRoomBehind, bits_of, performed_kinds, notes_of_change, bytes_of_change}
use Rattle.scene.specs.Hearing.{hearers}

-- the change whose turn it is
abbrev pub change_at : Turn → History → Option Change
change_at turn h = slice_get (changes_of turn.direction h) turn.index

-- the turn of the change at `index`, of `count` changes
abbrev pub turn_of : Direction → ℕ → ℕ → Turn
turn_of direction index count = record { direction = direction; index = index; several = nat_lt 1 count; last = index + 1 == count }

-- if the change is a step of the text, it fits
abbrev pub ChangeFits : Change → List ℕ → Type 0
ChangeFits (TextStep step) text = Fits step text
ChangeFits (ContainerStep token coalesce) text = Unit {0}

-- the bit that says that there are several changes
abbrev pub several_bits : Turn → ℕ
several_bits turn = bit_if turn.several multi_step

-- the bits of the note after the change; the flag says whether the number of lines has changed by then
abbrev pub bits_behind : Turn → Bool → ℕ
bits_behind turn lines_changed = bit_or (bit_or (bits_of turn.direction) (several_bits turn)) (last_bits turn.last lines_changed)

-- the change whose turn it is fits, and there is room for it and for its notes
pub record CanPerform (turn : Turn) (k : Kept) (views : Entries KeptView) (gathered : Gathered) (change : Change) : Type 0 where
  pub at : change_at turn k.document.history ≡ Some change
  pub fits : ChangeFits change (text_of k.document)
  pub room : HasTextRoom (need_of_change k.document.line_end_types change) k
  pub watched : IsWatched k.document views
  pub notes : CanPut (notes_of_change (watchers k.document views) (bits_of turn.direction) change) gathered
  pub texts : CanShare (bytes_of_change (watchers k.document views) (bits_of turn.direction) change) gathered

-- that change is performed; `changed` says whether the number of lines has changed by then
pub record IsPerformed (turn : Turn) (lines_changed changed : Bool) (k : Kept) (views : Entries KeptView) (gathered : Gathered)
    (k' : Kept) (views' : Entries KeptView) (gathered' : Gathered) (change : Change) : Type 0 where
  pub lines : changed ≡ (if lines_changed then true else changes_lines change k.document)
  pub scene : kept_scene k' views' gathered'
      ≡ change_performed (bits_of turn.direction) (several_bits turn) turn.last changed change (kept_scene k views gathered)
  pub watched : IsWatched k'.document views'
  pub room : LeavesRoomBehind change k k'
  pub rooms : RoomsStay k k' views views' gathered gathered'
  pub held : gathered'.held ≡ gathered.held + bytes_of_change (watchers k.document views) (bits_of turn.direction) change

-- the views that hear the step are notified before it is made, and its bytes are shared if any view hears it, which `hears` says
pub record IsToldBefore (who : ℕ) (views : List View) (hears : Bool) (old new : Gathered) (step : Step) : Type 0 where
  pub notes : new.notes ≡ old.notes ++ heard views (before_note who step)
  pub capacity : new.capacity ≡ old.capacity
  pub held : new.held ≡ old.held + bytes_of_change views who (TextStep step)
  pub unheard : hears ≡ false → hearers (performed_kinds who step) views ≡ 0
  pub shared : hears ≡ true → new.shared ≡ step_bytes step

-- the step was made on this text: if no view hears it, there is no note after it, and otherwise its bytes are shared; its numbers are
-- small, and its notes fit in
pub record CanTellAfter (hears : Bool) (bits : ℕ) (lines : ℤ) (step : Step) (text : List ℕ) (views : List View) (g : Gathered) : Type 0 where
  pub fits : Fits step text
  pub place : place_of step < 2 ^ 63
  pub count : length (step_bytes step) < 2 ^ 63
  pub unheard : hears ≡ false → heard views (after_note bits lines step) ≡ []
  pub shared : hears ≡ true → g.shared ≡ step_bytes step
  pub room : CanPut (length (heard views (after_note bits lines step))) g

-- no view that watches hears the change whose turn it is
abbrev pub IsUnheard : Turn → Kept → Entries KeptView → Type 0
IsUnheard turn k views =
    (change : Change) → change_at turn k.document.history ≡ Some change
    → notes_of_change (watchers k.document views) (bits_of turn.direction) change ≡ 0
