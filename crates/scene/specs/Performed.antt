-- All changes of undo or redo, one after the other.
use Rattle.std.specs.Prelude.{◌≡◌, ◌+◌, nat_lt, false, length}
use Rattle.ed_model.specs.Session.{text_of}
use Rattle.ed_model.specs.SoundLaws.{AreStepsOf}
use Rattle.ed_model.specs.UndoPlans.{text_steps}
use Rattle.ed_model.specs.Notes.{bit_if, multi_step}
use Rattle.ed_model.specs.Performing.{Scene, changes_performed, transaction_performed}
use Rattle.id_table.specs.Entries.{Entries}
use Rattle.notify.specs.Gathered.{Gathered, CanPut, CanShare}
use Rattle.ed_view.specs.Kept.{KeptView}
use Rattle.document.specs.declared.undoing.Direction.{Direction}
use Rattle.document.specs.Kept.{Kept, HasTextRoom}
use Rattle.document.specs.Undoing.{changes_of, history_behind, save_point_told}
use Rattle.scene.specs.Scenes.{kept_scene, watchers, IsWatched, RoomsStay}
use Rattle.scene.specs.Undoing.{bits_of, history_bytes, history_notes, history_room, save_point_notes}

-- the changes are steps of the text that fit one after another
abbrev pub HistoryFits : Direction → Kept → Type 0
HistoryFits direction k = AreStepsOf (text_of k.document) (text_steps (changes_of direction k.document.history))

-- the changes are steps of the text that fit one after another, and there is room for them and for all notes
pub record CanPerformAll (direction : Direction) (k : Kept) (views : Entries KeptView) (gathered : Gathered) : Type 0 where
  pub steps : HistoryFits direction k
  pub room : HasTextRoom (history_room direction k) k
  pub watched : IsWatched k.document views
  pub notes : CanPut (history_notes direction k views) gathered
  pub texts : CanShare (history_bytes direction k views) gathered

-- all changes are performed, the history is unchanged, and there is room for the notes about the save point
pub record AreAllPerformed (direction : Direction) (k : Kept) (views : Entries KeptView) (gathered : Gathered)
    (k' : Kept) (views' : Entries KeptView) (gathered' : Gathered) : Type 0 where
  pub scene : kept_scene k' views' gathered'
      ≡ changes_performed (bits_of direction) (bit_if (nat_lt 1 (length (changes_of direction k.document.history))) multi_step) false
      (changes_of direction k.document.history) (kept_scene k views gathered)
  pub history : k'.document.history ≡ k.document.history
  pub watched : IsWatched k'.document views'
  pub rooms : RoomsStay k k' views views' gathered gathered'
  pub left : CanPut (save_point_notes (save_point_told direction k.document.history) (length (watchers k'.document views'))) gathered'
  pub held : gathered'.held ≡ gathered.held + history_bytes direction k views

-- the scene of a document after undo or redo
abbrev pub scene_gone : Direction → Entries KeptView → Gathered → Kept → Scene
scene_gone direction views notes k = transaction_performed (bits_of direction) (changes_of direction k.document.history) (history_behind direction k.document.history) (kept_scene k views notes)
