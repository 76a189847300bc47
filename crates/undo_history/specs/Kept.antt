-- What a contract sees of an `UndoHistory`.
use Rattle.std.specs.Prelude.{◌≤◌, ◌+◌, ℕ, if◌then◌else◌, Bool, true, List, ◌++◌, length, reverse, flat_map, sum_by, ◌≡◌}
use Rattle.ed_model.specs.Steps.{step_bytes}
use Rattle.ed_model.specs.History.{Change, TextStep, ContainerStep, Transaction, History, fresh_history, collecting_set}
use Rattle.split_vector.specs.Split.{most_held}

-- how many steps, and how many bytes of steps, fit in all with no allocation
pub record HistoryCapacity : Type 0 where
  pub steps : ℕ
  pub bytes : ℕ

-- the history, and how much fits in
pub record Kept : Type 0 where
  pub history : History
  pub capacity : HistoryCapacity

abbrev pub history_capacity : ℕ → ℕ → HistoryCapacity
history_capacity steps bytes = record { steps = steps; bytes = bytes }

abbrev pub kept : History → HistoryCapacity → Kept
kept history capacity = record { history = history; capacity = capacity }

-- the history with no memory: nothing fits in
abbrev pub holding_nothing : History → Kept
holding_nothing history = kept history (history_capacity 0 0)

abbrev pub fresh : Kept
fresh = holding_nothing fresh_history

-- What a history holds.

abbrev pub changes_of : Transaction → List Change
changes_of t = t.changes

-- all changes, those that can be redone too; the latest first
abbrev pub all_changes : History → List Change
all_changes h = flat_map changes_of (reverse h.future ++ h.past)

-- the bytes of a change; a container's step has none
abbrev pub byte_count : Change → ℕ
byte_count (TextStep step) = length (step_bytes step)
byte_count (ContainerStep token coalesce) = 0

abbrev pub held_steps : History → ℕ
held_steps h = length (all_changes h)

abbrev pub held_bytes : History → ℕ
held_bytes h = sum_by byte_count (all_changes h)

-- Room.

-- `steps` more steps with `bytes` bytes in all fit in
abbrev pub Fits : ℕ → ℕ → Kept → Type 0
Fits steps bytes k = (held_steps k.history + steps ≤ k.capacity.steps) × (held_bytes k.history + bytes ≤ k.capacity.bytes)

-- there is room for them; a history that does not collect needs none
abbrev pub HasRoom : ℕ → ℕ → Kept → Type 0
HasRoom steps bytes k = k.history.collecting ≡ true → Fits steps bytes k

-- no capacity is given back
abbrev pub KeepsCapacity : HistoryCapacity → HistoryCapacity → Type 0
KeepsCapacity old new = (old.steps ≤ new.steps) × (old.bytes ≤ new.bytes)

-- a block stays if what was requested fits in, and otherwise grows to twice its size, or to what was requested if that is more
abbrev pub CapacityAtMost : ℕ → ℕ → Kept → Kept → Type 0
CapacityAtMost steps bytes old new =
    (new.capacity.steps ≤ most_held old.capacity.steps (held_steps old.history + steps))
    × (new.capacity.bytes ≤ most_held old.capacity.bytes (held_bytes old.history + bytes))

-- after the collection of steps is turned on or off: if it is off, there is no memory
abbrev pub with_collecting : Bool → Kept → Kept
with_collecting on k = kept (collecting_set on k.history) (if on then k.capacity else history_capacity 0 0)
