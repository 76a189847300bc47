-- Plans that hand out bytes of the document.
use Rattle.std.specs.Prelude.{pos, Ok, Option, Some, None}
use Rattle.ed_model.specs.declared.plan.Plan.TheVariants as plan
use Rattle.ed_model.specs.Requests.{Planned, answer}
use Rattle.message_requests.specs.declared.answers.HandedOut.{HandedOut}

-- the plan that hands out these bytes; `handed_or_zero` answers 0 if there are none
abbrev pub handed_out : HandedOut → Planned
handed_out h = Ok (plan.HandOut h.value h.start h.count)

abbrev pub handed_or_zero : Option HandedOut → Planned
handed_or_zero None = answer (pos 0)
handed_or_zero (Some h) = handed_out h
