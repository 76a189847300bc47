-- What the parts of a block own and lend, at items of the row R.
use Rattle.std.specs.Prelude.{ℕ, zero, suc, ◌+◌, ◌*◌, ◌^◌, List, [], ◌∷◌, ◌++◌, length, map, replicate, Option, Some, None}
use Rattle.std.specs.Mem.{type_size}
use base.Fraction.{full_share}
use base.Fml.{Lft, Fml, ftrue, ffalse, fsep, flt, froom}
use mir.Syntax.{Ty, ty_array}
use mir.Raw.{raw}
use denote.RattleType.{RattleType}
use denote.Memory.{lone, part_at, shared_of}
use denote.Sharing.{nothing, said, beside}
use denote.RawPtr.{Ptr, block_ptr, null_ptr}

-- the cells of a block: the items xs, then n cells with no item, then the items ys
abbrev pub cells_of : {X : Type 0} → List X → ℕ → List X → List (Option X)
cells_of xs n ys = map Some xs ++ (replicate n None ++ map Some ys)

module _ (R : RattleType) where
  -- one cell, o bytes into the block b
  abbrev pub slot : ℕ → ℕ → Option R.Denot → Fml
  slot b o (Some x) = part_at R full_share x b o
  slot b o None = froom (raw (lone R.mir)) b o

  -- cells side by side
  abbrev pub slots : ℕ → ℕ → List (Option R.Denot) → Fml
  slots b o [] = ftrue
  slots b o (c ∷ cs) = fsep (slot b o c) (slots b (o + type_size R) cs)

  abbrev pub slot_lent : ℕ → ℕ → Option R.Denot → Lft → Fml
  slot_lent b o (Some x) = shared_of R x b o
  slot_lent b o None = nothing

  abbrev pub slots_lent : ℕ → ℕ → List (Option R.Denot) → Lft → Fml
  slots_lent b o [] = nothing
  slots_lent b o (c ∷ cs) = beside (slot_lent b o c) (slots_lent b (o + type_size R) cs)

  -- the cells take fewer than 2 ^ 63 bytes
  abbrev pub fit : List (Option R.Denot) → Fml
  fit cs = flt (length cs * type_size R) (2 ^ 63)

  abbrev pub cells_own : Ptr → List (Option R.Denot) → Fml
  cells_own (block_ptr b o) cs = fsep (fit cs) (slots b o cs)
  cells_own null_ptr cs = ffalse

  abbrev pub cells_lent : Ptr → List (Option R.Denot) → Lft → Fml
  cells_lent (block_ptr b o) cs = beside (said (fit cs)) (slots_lent b o cs)
  cells_lent null_ptr cs = said ffalse

  -- the allocator's token for a block of n cells; there is none if n is 0
  abbrev pub deed_owns : (Ty → Ptr → Fml) → Ptr → ℕ → Fml
  deed_owns token p zero = ftrue
  deed_owns token p (suc n) = token (raw (ty_array (lone R.mir) (suc n))) p
