-- What is written piece by piece, and the answer for a script that was not read.
use Rattle.std.proofs.Common.{◌≡◌, ℕ, List, [], ◌++◌, refl, sym, ◌∙◌, ap, subst, append_assoc, append-nil, Option, Some, None, IfSome, Result, Ok, Err, inl, inr}
use Rattle.std.specs.Io.KnownBytes.{Keeps, Appends}
use Rattle.ed_types.specs.declared.script.Command.{Command}
use Rattle.ed_types.specs.declared.script.ScriptFault.{ScriptFault}
use Rattle.ed_model.specs.Reading.{reading}
use Rattle.script_ends.specs.declared.fault.RunFault.{RunFault}
use Rattle.script_ends.specs.declared.fault.RunFault.TheVariants.{Script, Read, Write}
use Rattle.script_ends.specs.Ends.{AppendsFront}
use Rattle.script_ends.specs.Answers.{Answers, ReadsScript}

-- nothing is written yet
pub appends_none : (old : Option (List ℕ)) → Appends old old []
appends_none None = tt
appends_none (Some bytes) = sym (append-nil bytes)

pub keeps : (old : Option (List ℕ)) → Keeps old old
keeps None = tt
keeps (Some bytes) = refl

-- what was written, and then what is written next
pub appends_more : (old mid new : Option (List ℕ)) (first more : List ℕ) → Appends old mid first → Appends mid new more → Appends old new (first ++ more)
appends_more None mid new first more a b = tt
appends_more (Some xs) None new first more a b = absurd a
appends_more (Some xs) (Some ys) None first more a b = absurd b
appends_more (Some xs) (Some ys) (Some zs) first more a b = b ∙ ap (λ front. front ++ more) a ∙ append_assoc xs first more

-- nothing is written
pub front_none : (old : Option (List ℕ)) (text : List ℕ) → AppendsFront old old text
front_none old text = record { front = []; left = text; split = refl; appended = appends_none old }

-- the answer if the script was not read
pub not_read : (text : List Command → List ℕ) (value : List Command → ℕ) (read : Result (List Command) ScriptFault) (fault : RunFault) (old : Option (List ℕ)) → ReadsScript read (Err fault) → Answers text value read (Err fault) old old
not_read text value (Ok commands) (Script fault) old (inl other) = cc
not_read text value (Ok commands) (Script fault) old (inr which) = (which, front_none old (text commands))
not_read text value (Ok commands) Read old none = keeps old
not_read text value (Ok commands) Write old none = absurd none
not_read text value (Err named) (Script fault) old (inl same) = (inl (cc), keeps old)
not_read text value (Err named) (Script fault) old (inr which) = (inr which, keeps old)
not_read text value (Err named) Read old none = keeps old
not_read text value (Err named) Write old none = absurd none

pub unread : (text : List Command → List ℕ) (value : List Command → ℕ) (r : Result ℕ RunFault) (fault : RunFault) (known old : Option (List ℕ)) → r ≡ Err fault → IfSome known (λ bytes. ReadsScript (reading bytes) (Err fault)) → IfSome known (λ bytes. Answers text value (reading bytes) r old old)
unread text value r fault None old is read = tt
unread text value r fault (Some bytes) old is read = subst (λ (q : Result ℕ RunFault). Answers text value (reading bytes) q old old) (sym is) (not_read text value (reading bytes) fault old read)
