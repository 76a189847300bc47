-- How a table ends that lent one of its values.
use Rattle.std.specs.Prelude.{ℕ, Option}
use Rattle.std.specs.Borrow.{Lends, LendsIf, Fml, RattleType, MutBor}
use Rattle.id_table.specs.Entries.{Entries, with_value_at}
use Rattle.id_table.specs.contracts.table.IdTable.{the_row}

module _ (T : RattleType) (t : MutBor (Entries T.Denot)) (id : ℕ) where
  -- once the loan r ends, the id has the value that was written; at `None` nothing has changed
  abbrev pub lends_value : Option (MutBor T.Denot) → Fml
  lends_value r =
      LendsIf (the_row T) T t r (λ w. record t.now { entries = with_value_at id w t.now.entries }) t.now

  -- the same of an id that has a value
  abbrev pub lends_value_at : MutBor T.Denot → Fml
  lends_value_at r = Lends (the_row T) T t r (λ w. record t.now { entries = with_value_at id w t.now.entries })
