-- How large a block becomes, and what pays for it.
use Rattle.std.specs.Prelude.{◌≡◌, ℕ, ◌+◌, ◌*◌, ◌^◌, ◌-◌, ◌<◌, ◌≤◌, ◌⊎◌, min, length, Vec, vec_len, vec_capacity}
use Rattle.split_vector.specs.Split.{Split, most_held}

-- nothing but the capacity has changed: it is no less, and no more than `wanted` items ask for
abbrev pub GrowsTo : ℕ → Split ℕ → Split ℕ → Type 0
GrowsTo wanted old new =
    (new ≡ record old { capacity = new.capacity })
    × (old.capacity ≤ new.capacity)
    × (new.capacity ≤ most_held old.capacity wanted)
    × (new.capacity < 2 ^ 63)

-- the block did not grow, or to twice its size at least
abbrev pub IsDoubled : Split ℕ → Split ℕ → Type 0
IsDoubled old new = (new ≡ old) ⊎ (2 * old.capacity ≤ new.capacity)

-- `count` more bytes are few beside the text, and growth by little is paid for: the text was moved by more than the
-- units from which on it is
abbrev pub IsPaidFor : ℕ → Split ℕ → ℕ → Type 0
IsPaidFor count bytes paid_from = (64 * count ≤ length bytes.items) × (paid_from * 65536 + 65536 ≤ bytes.moved)

-- growth by little is not paid for until 64 times as many bytes as the text has were moved, but for two units
abbrev pub IsFullPrice : Split ℕ → ℕ → Type 0
IsFullPrice bytes paid_from =
    (bytes.moved + 64 * length bytes.items < paid_from * 65536 + 2 * 65536) ⊎ (paid_from ≡ 2 ^ 32 - 1)

-- the vector has memory for so many items, or for as many as a `usize` can count
abbrev pub HasCapacity : {X A : Type 0} → ℕ → Vec X A → Type 0
HasCapacity count items = min count (2 ^ 64 - 1) ≤ vec_capacity items

-- the vector has memory for so many more items
abbrev pub HasRoomFor : {X A : Type 0} → ℕ → Vec X A → Type 0
HasRoomFor count items = vec_len items + count ≤ vec_capacity items
