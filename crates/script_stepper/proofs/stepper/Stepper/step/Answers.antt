use Rattle.std.proofs.Common.{rules, ◌≡◌, ◌≤◌, ◌<◌, length, get_or, slice_get, Some, refl, ap, ◌∙◌, true, false}
use Rattle.std.proofs.lemmas.Option.{slice_get_read}
use Rattle.ed_types.specs.declared.script.Outcome.TheVariants.{Refused}
use Rattle.ed_model.specs.Run.{after_command}
use Rattle.script_stepper.specs.Stepping.{next_outcome}
use Rattle.script_stepper.proofs.NextCommand.{stands_on, came_next, none_next}
use Rattle.script_stepper.proofs.stepper.Stepper.step.Goals as goal

pub returns-in_default-clause-outcome : goal.returns-in_default-clause-outcome
returns-in_default-clause-outcome c =
    let s = c.self.inside in
    let past : length s.script ≤ s.state = search rules in
    none_next s.state s.script s.files.items past ∙ ap next_outcome c.self.view_is

-- the command that was performed is the next one
there : (c : goal.After-self-1) → slice_get c.self.inside.script c.self.inside.state ≡ Some c.in-Some.command.now
there c =
    let s = c.self.inside in
    let within : s.state < length s.script = search rules in
    let is : c.in-Some.command.now ≡ get_or s.script s.state c.in-Some.command.now = search rules in
    slice_get_read s.script (length s.script) s.state c.in-Some.command.now refl within is

pub invariant_of-self-2 : goal.invariant_of-self-2
invariant_of-self-2 c =
    let s = c.self.inside in
    stands_on s.state s.script s.files.items s.run c.step.new.self c.in-Some.command.now c.self.invariant (there c) (search rules)

pub returns-clause-outcome : goal.returns-clause-outcome
returns-clause-outcome c =
    let s = c.self.inside in
    came_next s.state s.script s.files.items s.run c.in-Some.command.now c.in_ok-outcome.outcome c.self.invariant (there c) (search rules) ∙ ap next_outcome c.self.view_is

-- a command that the model refuses does not end the run
pub returns-in_err-outcome-clause-goes_on : goal.returns-in_err-outcome-clause-goes_on
returns-in_err-outcome-clause-goes_on c refusal refused =
    let s = c.self.inside in
    let command = c.in-Some.command.now in
    let within : s.state < length s.script = search rules in
    let read : command ≡ get_or s.script s.state command = search rules in
    let there = slice_get_read s.script (length s.script) s.state command refl within read in
    let comes = (after_command s.files.items command s.run).1 in
    let next : Some comes ≡ next_outcome c.args.self.now = came_next s.state s.script s.files.items s.run command comes c.self.invariant there refl ∙ ap next_outcome c.self.view_is in
    let both : Some comes ≡ Some (Refused refusal) = next ∙ refused in
    let is : comes ≡ Refused refusal = cc in
    let lent : c.deref.result.now ≡ s.files.items = search rules in
    let bad : false ≡ true = c.in_err-outcome.ensures.refused refusal (ap (λ files. (after_command files command s.run).1) lent ∙ is) in
    absurd (cc)
