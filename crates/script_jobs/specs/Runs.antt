-- What a run and a job return and write.
use Rattle.std.specs.Prelude.{◌≡◌, ⊤, ℕ, Bool, true, false, List, [], map, count_by, Option, Result, Ok, Err, Vec}
use Rattle.std.proofs.Common.{Global}
use Rattle.std.specs.Io.KnownBytes.{Appends}
use Rattle.ed_types.specs.declared.script.Command.{Command}
use Rattle.ed_types.specs.declared.script.Outcome.{Outcome}
use Rattle.ed_types.specs.declared.script.Outcome.TheVariants.{Replied}
use Rattle.ed_types.specs.declared.script.ScriptFault.{ScriptFault}
use Rattle.ed_types.specs.declared.script.ScriptFault.TheVariants.{OutOfMemory}
use Rattle.ed_model.specs.Listing.{listing}
use Rattle.ed_model.specs.Printed.{printed}
use Rattle.ed_model.specs.Run.{Running, starting, outcomes, is_unmet}
use Rattle.ed_model.specs.Session.{new_session, greatest_limits}
use Rattle.job_words.specs.declared.words.Job.{Job}
use Rattle.job_words.specs.declared.words.Job.TheVariants.{Run, List as ListJob, Check}
use Rattle.script_ends.specs.declared.fault.RunFault.{RunFault}
use Rattle.script_ends.specs.declared.fault.RunFault.TheVariants.{Script, Read, Write}
use Rattle.script_ends.specs.Ends.{AppendsFront}
use Rattle.script_ends.specs.Answers.{Answers, PutsOutcome, checked, none}
use Rattle.script_jobs.specs.declared.notes.Notes.{Notes}
use Rattle.script_jobs.specs.declared.notes.Notes.TheVariants.{Shown, LeftOut}

-- a run in a new session
abbrev pub new_run : Running
new_run = starting (new_session greatest_limits)

-- the outcomes of a script's commands with these files, in a new session
abbrev pub answers : List (List ℕ) → List Command → List Outcome
answers files commands = outcomes files commands new_run

-- the text printed for them, and how many `expect` commands were not met
abbrev pub printed_run : List (List ℕ) → List Command → List ℕ
printed_run files commands = printed (answers files commands)

abbrev pub unmet : List (List ℕ) → List Command → ℕ
unmet files commands = count_by is_unmet (answers files commands)

-- an outcome without its notes: a reply loses them, and any other outcome stays the same
abbrev pub without_notes : Outcome → Outcome
without_notes (Replied reply) = Replied (record reply { notes = [] })
without_notes outcome = outcome

-- the text printed for them without notes
abbrev pub printed_without_notes : List (List ℕ) → List Command → List ℕ
printed_without_notes files commands = printed (map without_notes (answers files commands))

-- the text that a job writes for a script's commands with these files, and the number that it returns
abbrev pub text_of_job : Job → List (List ℕ) → List Command → List ℕ
text_of_job (Run script paths) files = printed_run files
text_of_job (ListJob script) files = listing 2
text_of_job (Check script) files = checked

abbrev pub value_of_job : Job → List (List ℕ) → List Command → ℕ
value_of_job (Run script paths) files = unmet files
value_of_job (ListJob script) files = none
value_of_job (Check script) files = none

-- The answer and the output of a run, for a script that was read or for its first fault.
abbrev pub AnswersRun : List (List ℕ) → Result (List Command) ScriptFault → Result ℕ RunFault → Option (List ℕ) → Option (List ℕ) → Type 0
AnswersRun files read result old new = Answers (printed_run files) (unmet files) read result old new

-- the same for a run that prints no notes
abbrev pub AnswersWithoutNotes : List (List ℕ) → Result (List Command) ScriptFault → Result ℕ RunFault → Option (List ℕ) → Option (List ℕ) → Type 0
AnswersWithoutNotes files read result old new = Answers (printed_without_notes files) (unmet files) read result old new

-- the same for a job
abbrev pub AnswersJob : Job → List (List ℕ) → Result (List Command) ScriptFault → Result ℕ RunFault → Option (List ℕ) → Option (List ℕ) → Type 0
AnswersJob job files read result old new = Answers (text_of_job job files) (value_of_job job files) read result old new

-- The parts of a run.

-- outcomes with their notes or without them
abbrev pub shown_outcome : Notes → Outcome → Outcome
shown_outcome Shown outcome = outcome
shown_outcome LeftOut outcome = without_notes outcome

abbrev pub shown_outcomes : Notes → List Outcome → List Outcome
shown_outcomes Shown outcomes = outcomes
shown_outcomes LeftOut outcomes = map without_notes outcomes

-- the text printed for the commands' outcomes, with their notes or without them
abbrev pub text_of_run : Notes → List (List ℕ) → List Command → Running → List ℕ
text_of_run notes files commands run = printed (shown_outcomes notes (outcomes files commands run))

-- what an outcome prints, with its notes or without them, was put into a buffer before a writer
abbrev pub PutsOne : {T : Type 0} → Notes → Outcome → Result T RunFault → Option (List ℕ) → Option (List ℕ) → Vec ℕ Global → Vec ℕ Global → Type 0
PutsOne notes outcome result old new before after = PutsOutcome (shown_outcome notes outcome) result old new before after

-- a text was put into a buffer and written, so that the buffer is empty; or, after an error, a prefix of it
abbrev pub Writes : List ℕ → Result ℕ RunFault → Option (List ℕ) → Option (List ℕ) → Type 0
Writes text (Ok value) old new = Appends old new text
Writes text (Err (Script fault)) old new = (fault ≡ OutOfMemory) × AppendsFront old new text
Writes text (Err Read) old new = ⊥
Writes text (Err Write) old new = AppendsFront old new text

-- the text printed for the commands' outcomes was written so
abbrev pub Prints : Notes → List (List ℕ) → List Command → Running → Result ℕ RunFault → Option (List ℕ) → Option (List ℕ) → Type 0
Prints notes files commands run result old new = Writes (text_of_run notes files commands run) result old new

-- a write fault comes only from a write that failed; after a failed allocation the buffer may still be written
abbrev pub WriteCause : {T : Type 0} → Result T RunFault → Bool → Type 0
WriteCause (Ok value) writer = writer ≡ false
WriteCause (Err (Script fault)) writer = ⊤
WriteCause (Err Read) writer = ⊥
WriteCause (Err Write) writer = writer ≡ true
