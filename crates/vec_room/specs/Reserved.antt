-- What each `reserve` promises of the value whose capacity it raises.
use Rattle.std.specs.Prelude.{◌≡◌, OnOk, IsOk, Result}

-- what was asked for fits in after a success; if it fitted in before, the call succeeds and changes nothing
abbrev pub IsReserved : {S T E : Type 0} → (Fits : S → Type 0) → Result T E → (old new : S) → Type 0
IsReserved Fits result old new = OnOk result (Fits new) × (Fits old → IsOk result × (new ≡ old))
