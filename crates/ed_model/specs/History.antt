-- Undo history. [Scintilla: undo; which steps join, and seals: own]
use Rattle.std.specs.Prelude.{ℕ, ◌+◌, ◌-◌, ◌==◌, nat_le, nat_lt, not, ◌&&◌, ◌||◌, if◌then◌else◌, Bool, true, false, ℤ, List, [], ◌∷◌, length, map, reverse, Option, Some, None}
use Rattle.ed_model.specs.Numbers.{is_number}
use Rattle.ed_model.specs.Steps.{Step, Insert, Delete, inverse_of}

-- A change is a step of the text, or a container's step (SCI_ADDUNDOACTION) with a token and a flag that says whether it coalesces.
pub data Change : Type 0 where
  TextStep : (step : Step) → Change
  ContainerStep : (token : ℤ) (coalesce : Bool) → Change

-- A transaction is undone and redone as one. Its changes are listed latest first. No change joins a sealed transaction.
pub record Transaction : Type 0 where
  pub changes : List Change
  pub is_sealed : Bool

-- The past lists its transactions latest first, the future next first. The save point is a number of past transactions, or none
-- if it can no longer be reached. `depth` is the number of open groups.
pub record History : Type 0 where
  pub past : List Transaction
  pub future : List Transaction
  pub save_point : Option ℕ
  pub depth : ℕ
  pub collecting : Bool

abbrev pub fresh_history : History
fresh_history = record { past = []; future = []; save_point = Some 0; depth = 0; collecting = true }

-- whether the document counts as unmodified
abbrev pub at_save_point : History → Bool
at_save_point h = is_number (length h.past) h.save_point

-- Which changes join the last transaction.

abbrev pub is_container_step : Change → Bool
is_container_step (TextStep step) = false
is_container_step (ContainerStep token coalesce) = true

abbrev pub all_container_steps : List Change → Bool
all_container_steps [] = true
all_container_steps (c ∷ cs) = is_container_step c && all_container_steps cs

-- the latest step of the text
abbrev pub latest_text_step : List Change → Option Step
latest_text_step [] = None
latest_text_step (TextStep step ∷ cs) = Some step
latest_text_step (ContainerStep token coalesce ∷ cs) = latest_text_step cs

-- whether a step continues the earlier one: typing goes on where the earlier insertion ended, and a deletion of one or two bytes
-- ends or begins where the earlier deletion began
abbrev pub goes_on : Step → Step → Bool
goes_on (Insert p bytes) (Insert p' bytes') = p == p' + length bytes'
goes_on (Insert p bytes) (Delete p' bytes') = false
goes_on (Delete p bytes) (Insert p' bytes') = false
goes_on (Delete p bytes) (Delete p' bytes') = nat_le (length bytes) 2 && (p + length bytes == p' || p == p')

abbrev pub goes_on_after : Step → Option Step → Bool
goes_on_after step None = false
goes_on_after step (Some earlier) = goes_on step earlier

-- whether the change continues these changes of a transaction by its kind and place
abbrev pub belongs : Change → List Change → Bool
belongs (TextStep step) cs = goes_on_after step (latest_text_step cs) || all_container_steps cs
belongs (ContainerStep token coalesce) cs = coalesce || all_container_steps cs

-- whether the change joins the last transaction; `later` says that it is a later step of the same message
abbrev pub joins_last : Bool → Change → History → List Transaction → Bool
joins_last later change h [] = false
joins_last later change h (t ∷ ts) = not t.is_sealed && not (at_save_point h) && (nat_lt 0 h.depth || later || belongs change t.changes)

abbrev pub joins : Bool → Change → History → Bool
joins later change h = joins_last later change h h.past

-- Append, undo, redo.

-- the save point, if it can still be reached from a past of n transactions
abbrev pub reachable : ℕ → Option ℕ → Option ℕ
reachable n None = None
reachable n (Some k) = if nat_le k n then Some k else None

abbrev pub with_change : Bool → Change → List Transaction → List Transaction
with_change joined change [] = record { changes = change ∷ []; is_sealed = false } ∷ []
with_change joined change (t ∷ ts) =
    if joined then record t { changes = change ∷ t.changes } ∷ ts
    else record { changes = change ∷ []; is_sealed = false } ∷ t ∷ ts

-- Appending drops the future, and a save point that only the future had. The change then joins the last transaction or begins
-- one. Nothing is appended while undo is not collected.
abbrev pub appended : Bool → Change → History → History
appended later change h =
    if h.collecting
    then record h { past = with_change (joins later change h) change h.past; future = []; save_point = reachable (length h.past) h.save_point }
    else h

-- whether the change begins a transaction
abbrev pub begins_transaction : Bool → Change → History → Bool
begins_transaction later change h = h.collecting && not (joins later change h)

abbrev pub seal_first : List Transaction → List Transaction
seal_first [] = []
seal_first (t ∷ ts) = record t { is_sealed = true } ∷ ts

abbrev pub with_last_sealed : History → History
with_last_sealed h = record h { past = seal_first h.past }

abbrev pub sealed_outside_groups : History → History
sealed_outside_groups h = if h.depth == 0 then with_last_sealed h else h

-- the outermost group seals the last transaction when it begins and when it ends
abbrev pub group_begun : History → History
group_begun h = let g = sealed_outside_groups h in record g { depth = h.depth + 1 }

abbrev pub group_ended : History → History
group_ended h = if h.depth == 0 then h else sealed_outside_groups (record h { depth = h.depth - 1 })

-- the history after a container's step is appended; a step that does not coalesce seals its transaction, outside groups
abbrev pub with_container_step : ℤ → Bool → History → History
with_container_step token coalesce h =
    let a = appended false (ContainerStep token coalesce) h in
    if coalesce || not h.collecting then a else sealed_outside_groups a

abbrev pub can_undo : History → Bool
can_undo h = h.depth == 0 && nat_lt 0 (length h.past)

abbrev pub can_redo : History → Bool
can_redo h = h.depth == 0 && nat_lt 0 (length h.future)

abbrev pub inverse_change : Change → Change
inverse_change (TextStep step) = TextStep (inverse_of step)
inverse_change (ContainerStep token coalesce) = ContainerStep token coalesce

abbrev pub first_changes : List Transaction → List Change
first_changes [] = []
first_changes (t ∷ ts) = t.changes

-- the changes that UNDO performs: the inverses, latest first
abbrev pub undo_changes : History → List Change
undo_changes h = map inverse_change (first_changes h.past)

-- the changes that REDO performs, as they were made
abbrev pub redo_changes : History → List Change
redo_changes h = reverse (first_changes h.future)

abbrev pub undone_to : History → List Transaction → History
undone_to h [] = h
undone_to h (t ∷ ts) = record h { past = seal_first ts; future = t ∷ h.future }

-- the last transaction moves to the future, and the one before it is sealed
abbrev pub undone : History → History
undone h = undone_to h h.past

abbrev pub redone_from : History → List Transaction → History
redone_from h [] = h
redone_from h (t ∷ ts) = record h { past = seal_first (t ∷ h.past); future = ts }

-- the next transaction moves back to the past, sealed
abbrev pub redone : History → History
redone h = redone_from h h.future

-- SCI_EMPTYUNDOBUFFER, SCI_SETUNDOCOLLECTION and SCI_SETSAVEPOINT.

-- the history is forgotten, all groups end, and the current state is the save point
abbrev pub emptied : History → History
emptied h = record h { past = []; future = []; save_point = Some 0; depth = 0 }

-- the history is forgotten and all groups end; the document counts as modified or unmodified as before
abbrev pub not_collecting : History → History
not_collecting h = record h { past = []; future = []; save_point = if at_save_point h then Some 0 else None; depth = 0; collecting = false }

abbrev pub collecting_set : Bool → History → History
collecting_set true h = record h { collecting = true }
collecting_set false h = not_collecting h

abbrev pub saved : History → History
saved h = record h { save_point = Some (length h.past) }
