-- The jobs that words ask for.
use Rattle.std.specs.Prelude.{◌≡◌, ⊤, ℕ, ◌==◌, not, if◌then◌else◌, Bool, false, List, [], ◌∷◌, codes, bytes_eq, Option, Some, None, Result, Ok, Err}
use Rattle.std.specs.List.{list_all}
use Rattle.job_words.specs.declared.words.Job.{Job}
use Rattle.job_words.specs.declared.words.Job.TheVariants.{Run, List as ListJob, Check}
use Rattle.job_words.specs.declared.words.Task.{Task}
use Rattle.job_words.specs.declared.words.Task.TheVariants.{Whole, Step}
use Rattle.job_words.specs.declared.words.WordFault.{WordFault}
use Rattle.job_words.specs.declared.words.WordFault.TheVariants.{Usage, OutOfMemory}

-- no word is empty or begins with `-`
abbrev pub is_plain : List ℕ → Bool
is_plain [] = false
is_plain (b ∷ bs) = not (b == 0x2D)

abbrev pub are_plain : List (List ℕ) → Bool
are_plain words = list_all is_plain words

-- `run SCRIPT FILE..`, `list SCRIPT` or `check SCRIPT`, and nothing else, asks for exactly that job
abbrev pub single_job : List ℕ → List ℕ → List (List ℕ) → Option Job
single_job verb script [] = if bytes_eq verb (codes "list") then Some (ListJob script) else (if bytes_eq verb (codes "check") then Some (Check script) else None)
single_job verb script (word ∷ words) = None

abbrev pub job_of : List (List ℕ) → Option Job
job_of [] = None
job_of (verb ∷ []) = None
job_of (verb ∷ script ∷ files) = if bytes_eq verb (codes "run") then Some (Run script files) else single_job verb script files

-- the result for plain words: the job that they ask for, or a failed allocation; a usage fault only if they ask for none
abbrev pub ReadsWords : List (List ℕ) → Result Job WordFault → Type 0
ReadsWords words (Ok job) = job_of words ≡ Some job
ReadsWords words (Err (Usage error)) = job_of words ≡ None
ReadsWords words (Err OutOfMemory) = ⊤

-- `step SCRIPT FILE..` asks to step
abbrev pub step_of : List (List ℕ) → Option Task
step_of [] = None
step_of (verb ∷ []) = None
step_of (verb ∷ script ∷ files) = if bytes_eq verb (codes "step") then Some (Step script files) else None

abbrev pub step_or_job : Option Task → Option Job → Option Task
step_or_job (Some task) job = Some task
step_or_job None (Some job) = Some (Whole job)
step_or_job None None = None

abbrev pub task_of : List (List ℕ) → Option Task
task_of words = step_or_job (step_of words) (job_of words)

-- the same for tasks: to step, or a job
abbrev pub ReadsTask : List (List ℕ) → Result Task WordFault → Type 0
ReadsTask words (Ok task) = task_of words ≡ Some task
ReadsTask words (Err (Usage error)) = task_of words ≡ None
ReadsTask words (Err OutOfMemory) = ⊤
