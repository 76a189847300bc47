-- Laws of scripts: which texts are read as scripts, and that each script has one spelling in a version. [own]
use Rattle.std.specs.Prelude.{◌≡◌, ℕ, ◌==◌, IsTrue, List, Ok}
use Rattle.std.specs.List.{AllByRecursion, before_first, list_all, slice_split}
use Rattle.ed_types.specs.declared.script.Command.{Command}
use Rattle.ed_model.specs.Text.{line_feed}
use Rattle.ed_model.specs.Listing.{listing, speaks, keeps_limits, fits_line, fits_script, FitsTypes}
use Rattle.ed_model.specs.Reading.{reading}

-- Commands that form a script in a version. In version 2, all commands of a program that are within the limits do.
pub record IsScript (version : ℕ) (commands : List Command) : Type 0 where
  pub spoken : IsTrue (speaks version commands)
  pub typed : AllByRecursion FitsTypes commands
  pub within : IsTrue (keeps_limits commands)

-- reading the listing of a script gives the script
abbrev pub ListingsAreRead : Type 0
ListingsAreRead = (version : ℕ) (commands : List Command) → IsScript version commands → reading (listing version commands) ≡ Ok commands

-- every text that is read as a script is a listing of it
abbrev pub OnlyListingsAreRead : Type 0
OnlyListingsAreRead = (text : List ℕ) (commands : List Command) → reading text ≡ Ok commands → (version : ℕ) × (text ≡ listing version commands) × IsScript version commands

abbrev pub first_line : List ℕ → List ℕ
first_line text = before_first (λ b. b == line_feed) text

-- no two texts of the same version are read as the same script
abbrev pub ScriptsHaveOneSpelling : Type 0
ScriptsHaveOneSpelling = (text other : List ℕ) (commands : List Command) → reading text ≡ Ok commands → reading other ≡ Ok commands → first_line text ≡ first_line other → text ≡ other

-- the listing of a script is within the limits
abbrev pub ListingsKeepLimits : Type 0
ListingsKeepLimits = (version : ℕ) (commands : List Command) → IsScript version commands → IsTrue (fits_script (listing version commands)) × IsTrue (list_all fits_line (slice_split (λ b. b == line_feed) (listing version commands)))
