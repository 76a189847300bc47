-- What a contract sees of a `LineIndex`.
use Rattle.std.specs.Prelude.{◌≡◌, ℕ, ◌+◌, ◌-◌, ◌<◌, ◌≤◌, false, List, ◌++◌, length, take, drop, filter, slice_index, slice_range}
use Rattle.std.specs.List.{range_with_len}
use Rattle.std.specs.Int.{bit_at}
use Rattle.ed_model.specs.declared.plan.LineEndTypes.{LineEndTypes}
use Rattle.ed_model.specs.declared.plan.LineEndTypes.TheVariants.{Default, Unicode}
use Rattle.ed_model.specs.Lines.{is_line_start, line_starts, line_count}
use Rattle.ed_model.specs.Steps.{Step, Insert, Delete, place_of, edited}
use Rattle.ed_model.specs.MergeLaws.{end_of, put_in}
use Rattle.split_vector.specs.Split.{most_held}
use Rattle.partitioning.specs.Partitions.{Partitions}

-- which line ends count, where the lines start, the length of the text, and how many lines fit in without an allocation
pub record Index : Type 0 where
  pub types : LineEndTypes
  pub starts : List ℕ
  pub length : ℕ
  pub capacity : ℕ

abbrev pub index : LineEndTypes → List ℕ → ℕ → ℕ → Index
index types starts end capacity = record { types = types; starts = starts; length = end; capacity = capacity }

-- `count` more lines fit in without an allocation
abbrev pub MoreLinesFit : ℕ → Index → Type 0
MoreLinesFit count i = length i.starts + count ≤ i.capacity

-- nothing but the capacity has changed: it is not less, and at most what `count` more lines want
abbrev pub Grows : ℕ → (old new : Index) → Type 0
Grows count old new =
    (new ≡ record old { capacity = new.capacity }) × (old.capacity ≤ new.capacity) × (new.capacity ≤ most_held old.capacity (length old.starts + count))

-- that of the partitions of a text into lines
abbrev pub index_by : LineEndTypes → Partitions → Index
index_by types lines = index types lines.starts lines.length lines.capacity

-- the index has the line starts of the text, and its length
pub record IsIndexOf (text : List ℕ) (i : Index) : Type 0 where
  pub starts : i.starts ≡ line_starts i.types text
  pub length : i.length ≡ length text

-- the bytes of a text that a step inserted, with up to three on each side: all that a step reads
abbrev pub bytes_near : ℕ → ℕ → List ℕ → List ℕ
bytes_near place count text = slice_range text (place - 3) (place + count + 3)

-- The index is that of a text before the step. `near` are now the bytes around what the step inserted, and the new lines
-- fit in.
pub record IsBefore (step : Step) (near old : List ℕ) (i : Index) : Type 0 where
  pub within : end_of step ≤ length old
  pub index : IsIndexOf old i
  pub reads : near ≡ bytes_near (place_of step) (length (put_in step)) (edited step old)
  pub fits : line_count i.types (edited step old) ≤ i.capacity

-- the index is that of a text before one of these steps
pub record WasBefore (Steps : Step → Type 0) (near : List ℕ) (i : Index) : Type 0 where
  pub old : List ℕ
  pub step : Step
  pub made : Steps step
  pub is : IsBefore step near old i

-- whichever text and step these were, the index is now that of the text after the step
abbrev pub Follows : (Step → Type 0) → List ℕ → Index → Index → Type 0
Follows Steps near was now = (step : Step) (old : List ℕ) → Steps step → IsBefore step near old was → IsIndexOf (edited step old) now

-- the insertions, and the deletions, of `count` bytes at the place
abbrev pub Inserts : ℕ → ℕ → Step → Type 0
Inserts place count (Insert p bytes) = (p ≡ place) × (length bytes ≡ count)
Inserts place count (Delete p bytes) = ⊥

abbrev pub Deletes : ℕ → ℕ → Step → Type 0
Deletes place count (Insert p bytes) = ⊥
Deletes place count (Delete p bytes) = (p ≡ place) × (length bytes ≡ count)

-- the places from one up to another where a line starts
abbrev pub starts_within : LineEndTypes → List ℕ → ℕ → ℕ → List ℕ
starts_within types text from to = filter (is_line_start types text) (range_with_len from (to - from))

-- so many lines start there, which are not more than there are places
pub record AreStarts (types : LineEndTypes) (text : List ℕ) (from to n : ℕ) : Type 0 where
  pub lines : n ≡ length (starts_within types text from to)
  pub few : n ≤ to - from

-- so many lines start at the first byte of the text and behind so many bytes
pub record CountsUpTo (types : LineEndTypes) (text : List ℕ) (seen : ℕ × ℕ) : Type 0 where
  pub counted : AreStarts types text 0 (seen.1 + 1) seen.0
  pub within : seen.1 ≤ length text

-- the same places, by the bytes around them alone, of which the first stands at `base`
abbrev pub starts_near : LineEndTypes → List ℕ → ℕ → ℕ → ℕ → List ℕ
starts_near types near base from to = filter (λ place. is_line_start types near (place - base)) (range_with_len from (to - from))

-- how many these are
abbrev pub count_near : LineEndTypes → List ℕ → ℕ → ℕ → ℕ → ℕ
count_near types near base from to = length (starts_near types near base from to)

-- the line is there, and starts at the place or before it
abbrev pub StartsUpTo : List ℕ → ℕ → ℕ → Type 0
StartsUpTo starts line place = (line < length starts) × (slice_index starts line ≤ place)

-- the start of line `at` is the first that can lie from `from` up to `to`, and none does: the starts before it are
-- below `from`, the others at `to` or behind it
pub record IsFree (starts : List ℕ) (end from to at : ℕ) : Type 0 where
  pub not_first : 0 < at
  pub within : at ≤ length starts
  pub below : (k : ℕ) → k < at → slice_index starts k < from
  pub above : (k : ℕ) → at ≤ k → k < length starts → to ≤ slice_index starts k
  pub order : from ≤ to
  pub to_end : to ≤ end + 1

-- the line starts from `from` up to `to` can be inserted before line `at`: none is there yet, and they fit in
pub record CanAdd (types : LineEndTypes) (near : List ℕ) (base from to at : ℕ) (was : Partitions) : Type 0 where
  pub free : IsFree was.starts was.length from to at
  pub fits : length was.starts + length (starts_near types near base from to) ≤ was.capacity

-- they were inserted there, and `next` is the line behind them
pub record WereAdded (types : LineEndTypes) (near : List ℕ) (base from to at next : ℕ) (was now : Partitions) : Type 0 where
  pub starts : now.starts ≡ take at was.starts ++ starts_near types near base from to ++ drop at was.starts
  pub end : now.length ≡ was.length
  pub capacity : now.capacity ≡ was.capacity
  pub line : next ≡ at + length (starts_near types near base from to)

-- of the 64 places from this one on, only those whose bit is set can be line starts
abbrev pub MarkStarts : LineEndTypes → List ℕ → ℕ → ℕ → Type 0
MarkStarts types text place marks = (k : ℕ) → k < 64 → bit_at marks k ≡ 0 → is_line_start types text (place + k) ≡ false

-- The last place whose line start may depend on a step that ends at `end`. Whether a line starts at a place depends on
-- the byte before it and the one behind it, and if line ends of Unicode count, on the three before it.
abbrev pub last_touched : LineEndTypes → ℕ → ℕ
last_touched Default end = end
last_touched Unicode end = end + 2
