-- The run of one more command.
use Rattle.std.proofs.Common.{◌≡◌, ◌≤◌, ◌<◌, ◌+◌, ℕ, zero, suc, List, [], ◌∷◌, ◌++◌, length, take, slice_get, Some, None, refl, ap, sym, ◌∙◌, arith}
use Rattle.std.proofs.lemmas.Option.{slice_get_within, slice_get_past}
use Rattle.ed_types.specs.declared.script.Command.{Command}
use Rattle.ed_types.specs.declared.script.Outcome.{Outcome}
use Rattle.ed_model.specs.Run.{Running, starting, outcomes, run_to, after_command}
use Rattle.ed_model.specs.Session.{new_session, greatest_limits}
use Rattle.script_stepper.specs.Stepping.{Stepping, StandsAt, next_outcome}

-- the run of the first `i + 1` commands
pub one_more : (files : List (List ℕ)) (commands : List Command) (start : Running) (i : ℕ) (c : Command) → slice_get commands i ≡ Some c →
    run_to files (take (suc i) commands) start ≡ (after_command files c (run_to files (take i commands) start)).0
one_more files [] start i c e = absurd (cc)
one_more files (d ∷ ds) start zero c e = let same : d ≡ c = cc in ap (λ x. (after_command files x start).0) same
one_more files (d ∷ ds) start (suc i) c e = one_more files ds (after_command files d start).0 i c e

-- the outcome of that command
pub outcome_there : (files : List (List ℕ)) (commands : List Command) (start : Running) (i : ℕ) (c : Command) → slice_get commands i ≡ Some c →
    slice_get (outcomes files commands start) i ≡ Some (after_command files c (run_to files (take i commands) start)).1
outcome_there files [] start i c e = absurd (cc)
outcome_there files (d ∷ ds) start zero c e = let same : d ≡ c = cc in ap (λ x. Some (after_command files x start).1) same
outcome_there files (d ∷ ds) start (suc i) c e = outcome_there files ds (after_command files d start).0 i c e

pub no_outcome : (files : List (List ℕ)) (commands : List Command) (start : Running) (i : ℕ) → slice_get commands i ≡ None → slice_get (outcomes files commands start) i ≡ None
no_outcome files [] start i e = refl
no_outcome files (d ∷ ds) start zero e = absurd (cc)
no_outcome files (d ∷ ds) start (suc i) e = no_outcome files ds (after_command files d start).0 i e

-- The same for the states of a stepper.

pub stands_on : (state : ℕ) (commands : List Command) (files : List (List ℕ)) (run new : Running) (c : Command) → StandsAt state commands files run → slice_get commands state ≡ Some c →
    new ≡ (after_command files c run).0 → StandsAt (state + 1) commands files new
stands_on state commands files run new c was there done =
    let after : state + 1 ≡ suc state = omega arith in
    record {
      within = omega (arith, slice_get_within commands state c there);
      stands = rw after (done ∙ ap (λ r. (after_command files c r).0) was.stands ∙ sym (one_more files commands (starting (new_session greatest_limits)) state c there));
    }

pub came_next : (state : ℕ) (commands : List Command) (files : List (List ℕ)) (run : Running) (c : Command) (outcome : Outcome) → StandsAt state commands files run → slice_get commands state ≡ Some c →
    outcome ≡ (after_command files c run).1 → Some outcome ≡ next_outcome (record { commands = commands; files = files; state = state })
came_next state commands files run c outcome was there came =
    ap (λ o. Some o) (came ∙ ap (λ r. (after_command files c r).1) was.stands) ∙ sym (outcome_there files commands (starting (new_session greatest_limits)) state c there)

pub none_next : (state : ℕ) (commands : List Command) (files : List (List ℕ)) → length commands ≤ state → None ≡ next_outcome (record { commands = commands; files = files; state = state })
none_next state commands files past = sym (no_outcome files commands (starting (new_session greatest_limits)) state (slice_get_past commands state past))
