-- Text that is written through a buffer.
use Rattle.std.proofs.Common.{◌≡◌, ℕ, ◌+◌, ◌<◌, ◌≤◌, Bool, true, false, cond, List, [], ◌∷◌, ◌++◌, length, drop, map, refl, sym, ◌∙◌, ap, subst, arith, append_assoc, append-nil, add-zero, Option, Result, Ok, Err, get_or}
use Rattle.std.proofs.lemmas.List.{drop_more}
use Rattle.std.proofs.lemmas.List.Sums.{sum_by-cons}
use Rattle.std.specs.List.{count_by}
use Rattle.std.specs.Io.KnownBytes.{Appends}
use Rattle.ed_types.specs.declared.script.Command.{Command}
use Rattle.ed_types.specs.declared.script.Outcome.{Outcome}
use Rattle.ed_types.specs.declared.script.ScriptFault.{ScriptFault}
use Rattle.ed_types.specs.declared.script.ScriptFault.TheVariants.{OutOfMemory}
use Rattle.ed_model.specs.Printed.{printed, printed_outcome}
use Rattle.ed_model.specs.Run.{Running, outcomes, after_command, is_unmet}
use Rattle.script_ends.specs.declared.fault.RunFault.{RunFault}
use Rattle.script_ends.specs.declared.fault.RunFault.TheVariants.{Script, Read, Write}
use Rattle.script_ends.specs.declared.ends.WriteFailed.{WriteFailed}
use Rattle.script_ends.specs.Ends.{AppendsFront, WritesAll}
use Rattle.script_ends.specs.Answers.{Moves, MovesPart, Puts}
use Rattle.script_ends.specs.proved.Written.{appends_more}
use Rattle.script_jobs.specs.declared.notes.Notes.{Notes}
use Rattle.script_jobs.specs.declared.notes.Notes.TheVariants.{Shown, LeftOut}
use Rattle.script_jobs.specs.Runs.{Writes, without_notes, shown_outcome, shown_outcomes}

-- The progress of a text: a part of it is written or in the buffer, and the rest remains.
pub record Progress (old now : Option (List ℕ)) (before after all rest : List ℕ) : Type 0 where
  pub done : List ℕ
  pub moved : Moves old now before after done
  pub split : all ≡ done ++ rest

pub moves_more : (old mid new : Option (List ℕ)) (before between after first more : List ℕ) → Moves old mid before between first → Moves mid new between after more → Moves old new before after (first ++ more)
moves_more old mid new before between after first more a b = record {
  written = a.written ++ b.written;
  appended = appends_more old mid new a.written b.written a.appended b.appended;
  split = sym (append_assoc before first more) ∙ ap (λ bs. bs ++ more) a.split ∙ append_assoc a.written between more
      ∙ ap (λ bs. a.written ++ bs) b.split ∙ sym (append_assoc a.written b.written after);
}

-- one more piece
pub go_on : (old mid new : Option (List ℕ)) (before between after all piece rest : List ℕ) → Progress old mid before between all (piece ++ rest) → Moves mid new between after piece → Progress old new before after all rest
go_on old mid new before between after all piece rest so_far more = record {
  done = so_far.done ++ piece;
  moved = moves_more old mid new before between after so_far.done piece so_far.moved more;
  split = so_far.split ∙ sym (append_assoc so_far.done piece rest);
}

-- the text ends here
pub stopped : (old now : Option (List ℕ)) (before after all rest : List ℕ) → Progress old now before after all rest → MovesPart old now before after all
stopped old now before after all rest so_far = record { part = so_far.done; left = rest; split = so_far.split; moved = so_far.moved }

-- the text ends within a piece
pub stopped_within : (old mid new : Option (List ℕ)) (before between after all piece rest : List ℕ) → Progress old mid before between all (piece ++ rest) → MovesPart mid new between after piece → MovesPart old new before after all
stopped_within old mid new before between after all piece rest so_far more = record {
  part = so_far.done ++ more.part;
  left = more.left ++ rest;
  split = so_far.split ∙ ap (λ bs. so_far.done ++ (bs ++ rest)) more.split ∙ ap (λ bs. so_far.done ++ bs) (append_assoc more.part more.left rest)
      ∙ sym (append_assoc so_far.done more.part (more.left ++ rest));
  moved = moves_more old mid new before between after so_far.done more.part so_far.moved more.moved;
}

-- a write fails within a piece
pub cut_within : (old mid new : Option (List ℕ)) (before between all piece rest : List ℕ) → Progress old mid before between all (piece ++ rest) → AppendsFront mid new (between ++ piece) → AppendsFront old new (before ++ all)
cut_within old mid new before between all piece rest so_far more =
    let w = so_far.moved.written in
    record {
      front = w ++ more.front;
      left = more.left ++ rest;
      split = ap (λ bs. before ++ bs) so_far.split ∙ sym (append_assoc before so_far.done (piece ++ rest))
          ∙ ap (λ bs. bs ++ (piece ++ rest)) so_far.moved.split ∙ append_assoc w between (piece ++ rest)
          ∙ ap (λ bs. w ++ bs) (sym (append_assoc between piece rest) ∙ ap (λ bs. bs ++ rest) more.split ∙ append_assoc more.front more.left rest)
          ∙ sym (append_assoc w more.front (more.left ++ rest));
      appended = appends_more old mid new w more.front so_far.moved.appended more.appended;
    }

-- the piece of one command, after `put`
pub put_failed : {T : Type 0} (r : Result T RunFault) (old mid new : Option (List ℕ)) (before between after all piece rest : List ℕ) (fault : RunFault) → r ≡ Err fault → Progress old mid before between all (piece ++ rest) → Puts {T = Unit {0}} piece (Err fault) mid new between after → Puts all r old new before after
put_failed r old mid new before between after all piece rest (Script fault) is so_far put = subst (λ (q : Result _ RunFault). Puts all q old new before after) (sym is) (put.0, stopped_within old mid new before between after all piece rest so_far put.1)
put_failed r old mid new before between after all piece rest Read is so_far put = absurd put
put_failed r old mid new before between after all piece rest Write is so_far put = subst (λ (q : Result _ RunFault). Puts all q old new before after) (sym is) (cut_within old mid new before between all piece rest so_far put)

-- a command that was refused because an allocation failed
pub step_failed : {T : Type 0} (r : Result T RunFault) (old now : Option (List ℕ)) (before after all rest : List ℕ) (fault : RunFault) → r ≡ Err fault → fault ≡ Script OutOfMemory → Progress old now before after all rest → Puts all r old now before after
step_failed r old now before after all rest fault is which so_far = subst (λ (q : Result _ RunFault). Puts all q old now before after) (sym (is ∙ ap Err which)) (refl, stopped old now before after all rest so_far)

-- Commands, one after another.

-- the outcomes of the commands from index `i` on
abbrev pub left : List (List ℕ) → List Command → ℕ → Running → List Outcome
left files commands i s = outcomes files (drop i commands) s

pub next_outcomes : (files : List (List ℕ)) (commands : List Command) (i : ℕ) (d : Command) (s : Running) → i < length commands → d ≡ get_or commands i d → outcomes files (drop i commands) s ≡ (after_command files d s).1 ∷ outcomes files (drop (i + 1) commands) (after_command files d s).0
next_outcomes files commands i d s h is =
    ap (λ cs. outcomes files cs s) (drop_more commands i d h)
    ∙ ap (λ c. (after_command files c s).1 ∷ outcomes files (drop (i + 1) commands) (after_command files c s).0) (sym is)

pub unrolled : (files : List (List ℕ)) (commands : List Command) (i : ℕ) (d : Command) (s new : Running) (outcome : Outcome) → i < length commands → d ≡ get_or commands i d → new ≡ (after_command files d s).0 → outcome ≡ (after_command files d s).1 → left files commands i s ≡ outcome ∷ left files commands (i + 1) new
unrolled files commands i d s new outcome h is state came =
    next_outcomes files commands i d s h is
    ∙ ap (λ o. o ∷ left files commands (i + 1) (after_command files d s).0) (sym came)
    ∙ ap (λ t. outcome ∷ left files commands (i + 1) t) (sym state)

-- the progress before a command, with its outcome added to the rest
pub before_outcome : (notes : Notes) (old now : Option (List ℕ)) (before after all : List ℕ) (rest more : List Outcome) (outcome : Outcome) → rest ≡ outcome ∷ more → Progress old now before after all (printed (shown_outcomes notes rest)) → Progress old now before after all (printed_outcome (shown_outcome notes outcome) ++ printed (shown_outcomes notes more))
before_outcome Shown old now before after all rest more outcome is so_far = subst (λ (os : List Outcome). Progress old now before after all (printed os)) is so_far
before_outcome LeftOut old now before after all rest more outcome is so_far = subst (λ (os : List Outcome). Progress old now before after all (printed (map without_notes os))) is so_far

pub count_cons : {X : Type 0} (p : X → Bool) (x : X) (xs : List X) → count_by p (x ∷ xs) ≡ cond (p x) 1 0 + count_by p xs
count_cons p x xs = sum_by-cons (λ y. cond (p y) 1 0) x xs

pub counted_more : (u v total : ℕ) (flag : Bool) (rest more : List Outcome) (outcome : Outcome) → rest ≡ outcome ∷ more → flag ≡ is_unmet outcome → v ≡ u + cond flag 1 0 → u + count_by is_unmet rest ≡ total → v + count_by is_unmet more ≡ total
counted_more u v total flag rest more outcome is told grown so_far =
    let split : count_by is_unmet rest ≡ cond flag 1 0 + count_by is_unmet more = ap (count_by is_unmet) is ∙ count_cons is_unmet outcome more ∙ ap (λ b. cond b 1 0 + count_by is_unmet more) (sym told) in
    omega (arith, split, grown, so_far)

pub counts_none : (u v : ℕ) (flag : Bool) → flag ≡ false → v ≡ u → v ≡ u + cond flag 1 0
counts_none u v flag off same = same ∙ sym (ap (λ (b : Bool). u + cond b 1 0) off ∙ add-zero u)

pub few_counted : (u v i : ℕ) (flag : Bool) → v ≡ u + cond flag 1 0 → u ≤ i → v ≤ i + 1
few_counted u v i true grown h = omega (arith, grown)
few_counted u v i false grown h = omega (arith, grown)

-- The end of a run.

-- the buffer is written, up to the first failure
pub flush_failed : (old mid new : Option (List ℕ)) (before buffer text : List ℕ) → before ≡ [] → Moves old mid before buffer text → AppendsFront mid new buffer → AppendsFront old new text
flush_failed old mid new before buffer text none moved more = record {
  front = moved.written ++ more.front;
  left = more.left;
  split = sym (ap (λ bs. bs ++ text) none) ∙ moved.split ∙ ap (λ bs. moved.written ++ bs) more.split ∙ sym (append_assoc moved.written more.front more.left);
  appended = appends_more old mid new moved.written more.front moved.appended more.appended;
}

pub front_of_part : (old new : Option (List ℕ)) (text part left : List ℕ) → text ≡ part ++ left → AppendsFront old new part → AppendsFront old new text
front_of_part old new text part left is more = record {
  front = more.front;
  left = more.left ++ left;
  split = is ∙ ap (λ bs. bs ++ left) more.split ∙ append_assoc more.front more.left left;
  appended = more.appended;
}

pub flush_part : (old mid new : Option (List ℕ)) (before buffer text : List ℕ) (r : Result (Unit {0}) WriteFailed) → before ≡ [] → MovesPart old mid before buffer text → WritesAll buffer mid new r → AppendsFront old new text
flush_part old mid new before buffer text (Ok done) none some more =
    let all : AppendsFront mid new buffer = record { front = buffer; left = []; split = sym (append-nil buffer); appended = more } in
    front_of_part old new text some.part some.left some.split (flush_failed old mid new before buffer some.part none some.moved all)
flush_part old mid new before buffer text (Err failed) none some more =
    front_of_part old new text some.part some.left some.split (flush_failed old mid new before buffer some.part none some.moved more)

-- the result after a write failed
pub writes_failed : (r : Result ℕ RunFault) (fault : RunFault) (text : List ℕ) (old new : Option (List ℕ)) → r ≡ Err fault → fault ≡ Write → AppendsFront old new text → Writes text r old new
writes_failed r fault text old new is which some = subst (λ (q : Result ℕ RunFault). Writes text q old new) (sym (is ∙ ap Err which)) some

-- a run whose buffer is written at the end
pub run_cut : (old mid new : Option (List ℕ)) (before buffer shown text : List ℕ) → before ≡ [] → shown ≡ buffer → Moves old mid before buffer text → AppendsFront mid new shown → AppendsFront old new text
run_cut old mid new before buffer shown text none same moved more = flush_failed old mid new before buffer text none moved (subst (AppendsFront mid new) same more)

pub run_written : (old mid new : Option (List ℕ)) (before buffer shown text : List ℕ) → before ≡ [] → shown ≡ buffer → Moves old mid before buffer text → Appends mid new shown → Appends old new text
run_written old mid new before buffer shown text none same moved more =
    subst (Appends old new) (sym (sym (ap (λ bs. bs ++ text) none) ∙ moved.split)) (appends_more old mid new moved.written buffer moved.appended (subst (Appends mid new) same more))

pub run_stopped : (old mid new : Option (List ℕ)) (before buffer shown text : List ℕ) (r : Result (Unit {0}) WriteFailed) → before ≡ [] → shown ≡ buffer → MovesPart old mid before buffer text → WritesAll shown mid new r → AppendsFront old new text
run_stopped old mid new before buffer shown text r none same some more = flush_part old mid new before buffer text r none some (subst (λ (bs : List ℕ). WritesAll bs mid new r) same more)

pub stopped_by : (text : List ℕ) (field : RunFault) (fault : ScriptFault) (old now : Option (List ℕ)) (before after : List ℕ) → field ≡ Script fault → Puts {T = ℕ} text (Err field) old now before after → (fault ≡ OutOfMemory) × MovesPart old now before after text
stopped_by text field fault old now before after is put = let P : RunFault → Type 0 = λ f. Puts {T = ℕ} text (Err f) old now before after in subst P is put
