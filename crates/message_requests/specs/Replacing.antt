-- How the plan of a replacement is decided. No public contract cites this module.
use Rattle.std.specs.Prelude.{ℕ, ◌+◌, ◌-◌, ◌==◌, nat_le, ◌&&◌, ◌||◌, if◌then◌else◌, Bool, Ok, Err}
use Rattle.ed_types.specs.declared.refusal.Refusal.TheVariants.{TooLong}
use Rattle.ed_model.specs.declared.plan.Plan.{Plan}
use Rattle.ed_model.specs.declared.plan.Plan.TheVariants as plan
use Rattle.ed_model.specs.Requests.{Planned}

-- whether a text of `size` bytes is within the limit after each step: a deletion of `count` bytes, and then an insertion of `added` bytes; a
-- number of 0 makes no step
abbrev pub keeps_limit : ℕ → ℕ → ℕ → ℕ → Bool
keeps_limit limit size count added = (count == 0 || nat_le (size - count) limit) && (added == 0 || nat_le (size - count + added) limit)

abbrev pub edit_if : Bool → Bool → Plan → Planned
edit_if kept_out within edit = if kept_out then Ok plan.Attempt else (if within then Ok edit else Err TooLong)
