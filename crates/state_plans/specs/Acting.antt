-- The plans of UNDO and REDO. No public clause cites this definition.
use Rattle.std.specs.Prelude.{not, if◌then◌else◌, Bool, pos, Ok}
use Rattle.ed_model.specs.declared.plan.Plan.{Plan}
use Rattle.ed_model.specs.declared.plan.Plan.TheVariants as plan
use Rattle.ed_model.specs.Requests.{Planned, answer}

abbrev pub act_if : Bool → Bool → Plan → Planned
act_if can read_only act = if not can then answer (pos 0) else (if read_only then Ok plan.Attempt else Ok act)
