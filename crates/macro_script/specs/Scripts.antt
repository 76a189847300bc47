-- What every script guarantees.
use Rattle.std.specs.Prelude.{◌≡◌, ℕ, List, length, IsTrue}
use Rattle.std.specs.List.{AllByRecursion}
use Rattle.ed_types.specs.declared.script.Command.{Command}
use Rattle.ed_model.specs.Listing.{listing, keeps_limits, FitsTypes}

-- the commands keep the limits, and their listing has this length
pub record IsProper (commands : List Command) (listed : ℕ) : Type 0 where
  pub typed : AllByRecursion FitsTypes commands
  pub within : IsTrue (keeps_limits commands)
  pub length_is : listed ≡ length (listing 2 commands)
