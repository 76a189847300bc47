-- The changes that undo and redo perform, and what each of them needs.
use Rattle.std.specs.Prelude.{◌≡◌, ℕ, if◌then◌else◌, not, Bool, List, [], length, slice_get, Option, Some, None, IsSomeAnd}
use Rattle.ed_model.specs.declared.plan.LineEndTypes.{LineEndTypes}
use Rattle.ed_model.specs.Steps as model
use Rattle.ed_model.specs.History.{History, Change, TextStep, ContainerStep, at_save_point, undo_changes, redo_changes, undone, redone}
use Rattle.ed_model.specs.InverseLaws.{Fits}
use Rattle.ed_model.specs.Session.{text_of}
use Rattle.document.specs.declared.need.DocumentNeed.{DocumentNeed}
use Rattle.document.specs.declared.undoing.Direction.{Direction}
use Rattle.document.specs.declared.undoing.Direction.TheVariants.{Undo, Redo}
use Rattle.document.specs.declared.undoing.ChangeOutline.{ChangeOutline}
use Rattle.document.specs.declared.undoing.ChangeOutline.TheVariants.{Insert, Delete, Container}
use Rattle.document.specs.declared.text_step.TextStep.{TextStep as Lent}
use Rattle.document.specs.declared.text_step.TextStep.TheVariants as lent
use Rattle.document.specs.Kept.{Kept, HasTextRoom, nothing_needed, text_part}
use Rattle.document.specs.TextSteps.{need_of_step}

-- the changes that it performs, in their order
abbrev pub changes_of : Direction → History → List Change
changes_of Undo h = undo_changes h
changes_of Redo h = redo_changes h

-- the change that it performs at the index
abbrev pub performed_at : Direction → ℕ → History → Option Change
performed_at direction index h = slice_get (changes_of direction h) index

-- there is such a change, and it has the property
abbrev pub OfChange : Direction → ℕ → Kept → (Change → Type 0) → Type 0
OfChange direction index k property = IsSomeAnd (performed_at direction index k.document.history) property

-- if the change is a step of the text, that step has the property
abbrev pub IfStep : Direction → ℕ → Kept → (model.Step → Type 0) → Type 0
IfStep direction index k property =
    (step : model.Step) → performed_at direction index k.document.history ≡ Some (TextStep step) → property step

-- the history afterwards
abbrev pub history_behind : Direction → History → History
history_behind Undo h = undone h
history_behind Redo h = redone h

-- whether exactly one of the two holds
abbrev pub is_other : Bool → Bool → Bool
is_other was is = if was then not is else is

-- whether it reaches or leaves the save point
abbrev pub save_point_told : Direction → History → Bool
save_point_told direction h = is_other (at_save_point h) (at_save_point (history_behind direction h))

-- a change with the number of its bytes only
abbrev pub outline_of : Change → ChangeOutline
outline_of (TextStep (model.Insert place bytes)) = Insert place (length bytes)
outline_of (TextStep (model.Delete place bytes)) = Delete place (length bytes)
outline_of (ContainerStep token coalesce) = Container token

-- the bytes that it inserts or deletes
abbrev pub bytes_in : Change → List ℕ
bytes_in (TextStep step) = model.step_bytes step
bytes_in (ContainerStep token coalesce) = []

-- what a change of the document needs, none of it in the history
abbrev pub need_of_change : LineEndTypes → Change → DocumentNeed
need_of_change types (TextStep step) = text_part (need_of_step types step)
need_of_change types (ContainerStep token coalesce) = nothing_needed

-- it is a step of the document's text, for which there is room
abbrev pub CanMake : Kept → Change → Type 0
CanMake k (TextStep step) = Fits step (text_of k.document) × HasTextRoom (need_of_step k.document.line_end_types step) k
CanMake k (ContainerStep token coalesce) = ⊥

-- the step lends the bytes that the change inserts, or has the number of those that it deletes; a container's change
-- has no such step
abbrev pub IsLentOf : Option Lent → Change → Type 0
IsLentOf (Some (lent.Insert place bytes)) (TextStep (model.Insert p bs)) = (place ≡ p) × (bytes.now ≡ bs)
IsLentOf (Some (lent.Insert place bytes)) (TextStep (model.Delete p bs)) = ⊥
IsLentOf (Some (lent.Delete place count)) (TextStep (model.Insert p bs)) = ⊥
IsLentOf (Some (lent.Delete place count)) (TextStep (model.Delete p bs)) = (place ≡ p) × (count ≡ length bs)
IsLentOf (Some step) (ContainerStep token coalesce) = ⊥
IsLentOf None (TextStep step) = ⊥
IsLentOf None (ContainerStep token coalesce) = Unit {0}
