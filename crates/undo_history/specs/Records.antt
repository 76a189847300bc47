-- The records of a history. There is one for each step, the oldest first. It has the end of the step's bytes among the
-- bytes of all steps, whether the step begins a transaction, and whether its transaction is sealed behind it.
use Rattle.std.specs.Prelude.{◌≡◌, ◌≤◌, ℕ, List, [], ◌∷◌, length, take, drop, reverse, slice_range, slice_set, slice_index_or, if◌then◌else◌, Option, Bool, true, false, zero, suc}
use Rattle.ed_model.specs.History.{Change, TextStep, ContainerStep, Transaction, History}
use Rattle.ed_model.specs.Steps as model
use Rattle.undo_history.specs.declared.records.ChangeKind.{ChangeKind}
use Rattle.undo_history.specs.declared.records.ChangeKind.TheVariants.{Text, Container}
use Rattle.undo_history.specs.declared.records.LentChange.{LentChange}
use Rattle.undo_history.specs.declared.records.StepKind.{StepKind}
use Rattle.undo_history.specs.declared.records.StepKind.TheVariants.{Insert, Delete}
use Rattle.undo_history.specs.declared.records.StepRecord.{StepRecord}

abbrev pub step_of : StepKind → ℕ → List ℕ → model.Step
step_of Insert place bytes = model.Insert place bytes
step_of Delete place bytes = model.Delete place bytes

abbrev pub change_of : ChangeKind → List ℕ → Change
change_of (Text kind place) bytes = TextStep (step_of kind place bytes)
change_of (Container coalesce token) bytes = ContainerStep token coalesce

-- the change that is lent
abbrev pub change_lent : LentChange → Change
change_lent c = change_of c.kind c.bytes.now

-- a container's step has no bytes
abbrev pub HasItsBytes : ChangeKind → List ℕ → Type 0
HasItsBytes (Text kind place) bytes = Unit {0}
HasItsBytes (Container coalesce token) bytes = bytes ≡ []

-- such a change may have the part from one place up to the other: a container's is empty
abbrev pub HasItsPart : ChangeKind → (from end : ℕ) → Type 0
HasItsPart (Text kind place) from end = from ≤ end
HasItsPart (Container coalesce token) from end = from ≡ end

-- the parts of steps lie one behind the other, from a place up to the end of the whole
abbrev pub AreParts : (from : ℕ) → List StepRecord → (whole : ℕ) → Type 0
AreParts from [] whole = from ≡ whole
AreParts from (r ∷ rs) whole = HasItsPart r.kind from r.bytes_end × AreParts r.bytes_end rs whole

-- the end of the last part
abbrev pub last_end : (from : ℕ) → List StepRecord → ℕ
last_end from [] = from
last_end from (r ∷ rs) = last_end r.bytes_end rs

-- a change with its marks
pub record Entry : Type 0 where
  pub change : Change
  pub starts : Bool
  pub is_sealed : Bool

abbrev pub entry : Change → Bool → Bool → Entry
entry change starts is_sealed = record { change = change; starts = starts; is_sealed = is_sealed }

abbrev pub entry_in : StepRecord → List ℕ → Entry
entry_in r bytes = entry (change_of r.kind bytes) r.starts r.is_sealed

-- the entries of steps whose first part begins at `from`
abbrev pub entries_from : ℕ → List StepRecord → List ℕ → List Entry
entries_from from [] bytes = []
entries_from from (r ∷ rs) bytes = entry_in r (slice_range bytes from r.bytes_end) ∷ entries_from r.bytes_end rs bytes

abbrev pub entries_in : List StepRecord → List ℕ → List Entry
entries_in rs bytes = entries_from 0 rs bytes

abbrev pub change_in : Entry → Change
change_in e = e.change

-- Transactions.

abbrev pub alone : Entry → Transaction
alone e = record { changes = e.change ∷ []; is_sealed = e.is_sealed }

abbrev pub joined : Entry → Transaction → Transaction
joined e t = record { changes = e.change ∷ t.changes; is_sealed = e.is_sealed }

-- the transactions once the entry was appended, the last first
abbrev pub pushed : Entry → List Transaction → List Transaction
pushed e [] = alone e ∷ []
pushed e (t ∷ ts) = if e.starts then alone e ∷ t ∷ ts else joined e t ∷ ts

-- the transactions of entries, both with the latest first
abbrev pub transactions : List Entry → List Transaction
transactions [] = []
transactions (e ∷ es) = pushed e (transactions es)

-- the past transactions of the first `past` steps, the last first
abbrev pub past_of : List StepRecord → List ℕ → ℕ → List Transaction
past_of rs bytes past = transactions (reverse (take past (entries_in rs bytes)))

-- the first `past` entries are past, and the others are to be redone
abbrev pub history_of : List Entry → ℕ → Option ℕ → ℕ → Bool → History
history_of all past save_point depth collecting = record {
  past = transactions (reverse (take past all));
  future = reverse (transactions (reverse (drop past all)));
  save_point = save_point;
  depth = depth;
  collecting = collecting;
}

-- how many entries the last transaction has; the entries come latest first
abbrev pub last_count : List Entry → ℕ
last_count [] = 0
last_count (e ∷ es) = if e.starts then 1 else suc (last_count es)

-- how many entries come before the next one that begins a transaction
abbrev pub joined_count : List Entry → ℕ
joined_count [] = 0
joined_count (e ∷ es) = if e.starts then 0 else suc (joined_count es)

-- how many entries the first transaction has; the entries come oldest first
abbrev pub next_count : List Entry → ℕ
next_count [] = 0
next_count (e ∷ es) = suc (joined_count es)

-- whether the first entry begins a transaction; true if there is none
abbrev pub begins_or_none : List Entry → Bool
begins_or_none [] = true
begins_or_none (e ∷ es) = e.starts

abbrev pub BeginsOne : List Entry → Type 0
BeginsOne es = begins_or_none es ≡ true

-- there is a last transaction, and it is not sealed
abbrev pub LastIsOpen : List Transaction → Type 0
LastIsOpen [] = ⊥
LastIsOpen (t ∷ ts) = t.is_sealed ≡ false

-- Sealing.

abbrev pub sealed_record : StepRecord → StepRecord
sealed_record r = record r { is_sealed = true }

-- the record that a read behind all of them returns
abbrev pub no_step : StepRecord
no_step = record { kind = Text Insert 0; bytes_end = 0; starts = false; is_sealed = false }

-- the last of the first `count` steps sealed
abbrev pub with_sealed : ℕ → List StepRecord → List StepRecord
with_sealed zero rs = rs
with_sealed (suc i) rs = slice_set rs i (sealed_record (slice_index_or rs i no_step))

-- Each step has its bytes. The first step begins a transaction, and so does the first of those that can be redone. The
-- past has `count` transactions.
pub record IsInOrder (rs : List StepRecord) (bytes : List ℕ) (past count : ℕ) : Type 0 where
  pub parts : AreParts 0 rs (length bytes)
  pub begins : BeginsOne (entries_in rs bytes)
  pub boundary : BeginsOne (drop past (entries_in rs bytes))
  pub there : past ≤ length rs
  pub counted : count ≡ length (past_of rs bytes past)
