-- Views that follow a step of their document.
use Rattle.std.specs.Prelude.{◌≡◌, ℕ, ◌+◌, ◌==◌, ◌^◌, ◌<◌, if◌then◌else◌, Bool, List, [], ◌∷◌, length, map}
use Rattle.std.specs.List.{AllByRecursion}
use Rattle.line_index.specs.declared.edit.LineEdit.{LineEdit}
use Rattle.line_index.specs.Edits.{FitLines, fresh_lines}
use Rattle.selection.specs.declared.movements.Movement.{Movement}
use Rattle.selection.specs.Positions.{count_of}
use Rattle.ed_model.specs.Session.{View}
use Rattle.id_table.specs.Entries.{Entry, Entries}
use Rattle.ed_view.specs.Flags.{AreFewLines}
use Rattle.ed_view.specs.Kept.{KeptView}
use Rattle.ed_view.specs.Moving.{view_moved}
use Rattle.scene.specs.Scenes.{views_in, AreNamed, IdsRise, ViewsStay}

-- the view once the view with this id followed
abbrev pub followed_at : Movement → List LineEdit → ℕ → View → View
followed_at movement edits id v = if v.id == id then view_moved movement edits v else v

-- the view once those with the ids followed, one after the other
abbrev pub followed : Movement → List LineEdit → List ℕ → View → View
followed movement edits [] v = v
followed movement edits (id ∷ ids) v = followed movement edits ids (followed_at movement edits id v)

-- the positions of the view stay small enough, the edits are in range for its lines, and numbers of its width can count the lines
pub record CanFollow (movement : Movement) (edits : List LineEdit) (large : Bool) (v : View) : Type 0 where
  pub anchor : v.anchor + count_of movement < 2 ^ 64
  pub caret : v.caret + count_of movement < 2 ^ 64
  pub target_start : v.target_start + count_of movement < 2 ^ 64
  pub target_end : v.target_end + count_of movement < 2 ^ 64
  pub lines : FitLines (length v.flags) edits
  pub few : AreFewLines large (length v.flags + fresh_lines edits)

-- the view can follow each time that its id comes
abbrev pub CanFollowInTurn : Movement → List LineEdit → List ℕ → Bool → View → Type 0
CanFollowInTurn movement edits [] large v = Unit {0}
CanFollowInTurn movement edits (id ∷ ids) large v =
    (v.id ≡ id → CanFollow movement edits large v) × CanFollowInTurn movement edits ids large (followed_at movement edits id v)

abbrev pub CanFollowAt : Movement → List LineEdit → List ℕ → Entry KeptView → Type 0
CanFollowAt movement edits order e = CanFollowInTurn movement edits order e.value.large e.value.view

-- each view is stored under its own id, the ids rise, and each view can follow in its turn
pub record CanAllFollow (movement : Movement) (edits : List LineEdit) (order : List ℕ) (table : Entries KeptView) : Type 0 where
  pub named : AreNamed table.entries
  pub rise : IdsRise table
  pub can : AllByRecursion (CanFollowAt movement edits order) table.entries

-- the views followed in this order of their ids
pub record HaveFollowed (movement : Movement) (edits : List LineEdit) (order : List ℕ) (old new : Entries KeptView) : Type 0 where
  pub views : views_in new ≡ map (followed movement edits order) (views_in old)
  pub named : AreNamed new.entries
  pub stay : ViewsStay old new
