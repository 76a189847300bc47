-- Laws of the undo history: what each of its operations changes and keeps.
use Rattle.std.specs.Prelude.{◌≡◌, ◌+◌, ◌-◌, ◌<◌, if◌then◌else◌, Bool, true, false, ℤ, List, [], ◌∷◌, length, map}
use Rattle.ed_model.specs.History.{History, Transaction, Change, at_save_point, joins, appended, begins_transaction, reachable, first_changes, sealed_outside_groups, group_begun, group_ended, with_container_step, undone, redone, saved}

-- Append, while undo is collected and while it is not.

-- while undo is not collected, append changes nothing
abbrev pub NotCollectingAppendsNothing : Type 0
NotCollectingAppendsNothing = (later : Bool) (c : Change) (h : History) → h.collecting ≡ false → appended later c h ≡ h

-- While undo is collected, a change drops the future, and a save point that
-- only the future had; it keeps the depth of groups and the collecting.
pub record KeepsAllButThePast (h a : History) : Type 0 where
  pub future : a.future ≡ []
  pub save_point : a.save_point ≡ reachable (length h.past) h.save_point
  pub depth : a.depth ≡ h.depth
  pub collecting : a.collecting ≡ true

abbrev pub AppendKeepsAllButThePast : Type 0
AppendKeepsAllButThePast = (later : Bool) (c : Change) (h : History) → h.collecting ≡ true → KeepsAllButThePast h (appended later c h)

-- A change that joins is the latest change of the last transaction, which was not sealed, in a document that counted as modified.
pub record JoinsTheLast (c : Change) (t : Transaction) (ts : List Transaction) (h a : History) : Type 0 where
  pub past : a.past ≡ record t { changes = c ∷ t.changes } ∷ ts
  pub is_open : t.is_sealed ≡ false
  pub modified : at_save_point h ≡ false

abbrev pub AppendJoins : Type 0
AppendJoins =
    (later : Bool) (c : Change) (h : History) (t : Transaction) (ts : List Transaction) →
    h.collecting ≡ true → h.past ≡ t ∷ ts → joins later c h ≡ true → JoinsTheLast c t ts h (appended later c h)

-- without a transaction no change joins
abbrev pub NothingJoinsNone : Type 0
NothingJoinsNone = (later : Bool) (c : Change) (h : History) → h.past ≡ [] → joins later c h ≡ false

-- a change that begins a transaction is alone in it, after all earlier transactions
abbrev pub AppendBegins : Type 0
AppendBegins =
    (later : Bool) (c : Change) (h : History) → begins_transaction later c h ≡ true →
    (appended later c h).past ≡ record { changes = c ∷ []; is_sealed = false } ∷ h.past

-- the past grows by one transaction if the change begins one, and stays as long otherwise
abbrev pub AppendCounts : Type 0
AppendCounts =
    (later : Bool) (c : Change) (h : History) →
    length (appended later c h).past ≡ (if begins_transaction later c h then length h.past + 1 else length h.past)

-- The save point.

-- after a change that is collected, the document counts as modified
abbrev pub AppendLeavesTheSavePoint : Type 0
AppendLeavesTheSavePoint = (later : Bool) (c : Change) (h : History) → h.collecting ≡ true → at_save_point (appended later c h) ≡ false

-- Seals and groups.

-- sealing twice is the same as sealing once
abbrev pub SealsOnce : Type 0
SealsOnce = (h : History) → sealed_outside_groups (sealed_outside_groups h) ≡ sealed_outside_groups h

-- outside groups nothing joins a sealed transaction
abbrev pub NothingJoinsASealedOne : Type 0
NothingJoinsASealedOne = (later : Bool) (c : Change) (h : History) → h.depth ≡ 0 → joins later c (sealed_outside_groups h) ≡ false

-- Two histories that differ at most in which transactions are sealed.
pub record SameButForSeals (h g : History) : Type 0 where
  pub past : map (λ (t : Transaction). t.changes) g.past ≡ map (λ (t : Transaction). t.changes) h.past
  pub future : g.future ≡ h.future
  pub save_point : g.save_point ≡ h.save_point
  pub collecting : g.collecting ≡ h.collecting

abbrev pub SealsChangeNoChange : Type 0
SealsChangeNoChange = (h : History) → SameButForSeals h (sealed_outside_groups h)

abbrev pub GroupBegunChangesNoChange : Type 0
GroupBegunChangesNoChange = (h : History) → SameButForSeals h (group_begun h)

abbrev pub GroupEndedChangesNoChange : Type 0
GroupEndedChangesNoChange = (h : History) → SameButForSeals h (group_ended h)

-- each BEGINUNDOACTION opens one group, and each ENDUNDOACTION closes one
abbrev pub GroupBegunIsDeeper : Type 0
GroupBegunIsDeeper = (h : History) → (group_begun h).depth ≡ h.depth + 1

abbrev pub GroupEndedIsLessDeep : Type 0
GroupEndedIsLessDeep = (h : History) → (group_ended h).depth ≡ h.depth - 1

-- only groups, EMPTYUNDOBUFFER and SETUNDOCOLLECTION change the number of open groups
pub record KeepTheDepth (h : History) : Type 0 where
  pub append : (later : Bool) (c : Change) → (appended later c h).depth ≡ h.depth
  pub container : (token : ℤ) (coalesce : Bool) → (with_container_step token coalesce h).depth ≡ h.depth
  pub seal : (sealed_outside_groups h).depth ≡ h.depth
  pub undo : (undone h).depth ≡ h.depth
  pub redo : (redone h).depth ≡ h.depth
  pub save : (saved h).depth ≡ h.depth

abbrev pub OthersKeepTheDepth : Type 0
OthersKeepTheDepth = (h : History) → KeepTheDepth h

-- Undo and redo.

-- undo moves the last transaction from the past to the future
pub record MovesToTheFuture (h g : History) : Type 0 where
  pub past : length g.past ≡ length h.past - 1
  pub future : length g.future ≡ length h.future + 1
  pub changes : first_changes g.future ≡ first_changes h.past
  pub save_point : g.save_point ≡ h.save_point

abbrev pub UndoMovesToTheFuture : Type 0
UndoMovesToTheFuture = (h : History) → 0 < length h.past → MovesToTheFuture h (undone h)

-- redo moves the next transaction back to the past
pub record MovesToThePast (h g : History) : Type 0 where
  pub past : length g.past ≡ length h.past + 1
  pub future : length g.future ≡ length h.future - 1
  pub changes : first_changes g.past ≡ first_changes h.future
  pub save_point : g.save_point ≡ h.save_point

abbrev pub RedoMovesToThePast : Type 0
RedoMovesToThePast = (h : History) → 0 < length h.future → MovesToThePast h (redone h)

-- undo and then redo restore the history, except for seals
abbrev pub UndoThenRedoGivesBackTheHistory : Type 0
UndoThenRedoGivesBackTheHistory = (h : History) → 0 < length h.past → SameButForSeals h (redone (undone h))
