-- Successive writes.
use Rattle.script_ends.proofs.Names.{◌≡◌, ℕ, zero, suc, ◌+◌, ◌-◌, Bool, true, false, cond, List, length, take, drop, refl, sym, ◌∙◌, ap, subst, arith, take-add, take-append-drop, length-drop, Option, Some, None, IfSome, Result, Ok, Err, IsErr, ne_eqb, take_all, Keeps, Appends, Command, ScriptFault, OutOfMemory, reading, AppendsFront, WritesAll, Answers, appends_more, front_none}
use Rattle.std.specs.Prelude.{◌==◌, ◌&&◌, nat_lt}
use Rattle.script_ends.specs.declared.fault.RunFault.{RunFault}
use Rattle.script_ends.specs.declared.fault.RunFault.TheVariants.{Script}
use Rattle.script_ends.specs.declared.ends.WriteFailed.{WriteFailed}

-- a write that fails writes nothing
pub appends_kept : (old mid new : Option (List ℕ)) (first : List ℕ) → Appends old mid first → Keeps mid new → Appends old new first
appends_kept None mid new first a b = tt
appends_kept (Some xs) None new first a b = absurd a
appends_kept (Some xs) (Some ys) None first a b = absurd b
appends_kept (Some xs) (Some ys) (Some zs) first a b = b ∙ a

-- one more part of the bytes
pub written_on : (old mid new : Option (List ℕ)) (bytes : List ℕ) (at count : ℕ) → Appends old mid (take at bytes) → Appends mid new (take count (drop at bytes)) → Appends old new (take (at + count) bytes)
written_on old mid new bytes at count a b = subst (Appends old new) (sym (take-add at count bytes)) (appends_more old mid new (take at bytes) (take count (drop at bytes)) a b)

pub front_written : (old now : Option (List ℕ)) (bytes : List ℕ) (at : ℕ) → Appends old now (take at bytes) → AppendsFront old now bytes
front_written old now bytes at a = record { front = take at bytes; left = drop at bytes; split = sym (take-append-drop at bytes); appended = a }

pub front_kept : (old mid new : Option (List ℕ)) (bytes : List ℕ) (at : ℕ) → Appends old mid (take at bytes) → Keeps mid new → AppendsFront old new bytes
front_kept old mid new bytes at a b = front_written old new bytes at (appends_kept old mid new (take at bytes) a b)

-- the rest of the bytes
pub tail : (at : ℕ) (bytes : List ℕ) → take (length bytes - at) (drop at bytes) ≡ drop at bytes
tail at bytes = take_all (length bytes - at) (drop at bytes) (omega (arith, length-drop at bytes))

pub written_from : (old mid new : Option (List ℕ)) (bytes : List ℕ) (at count : ℕ) → Appends old mid (take at bytes) → Appends mid new (take count (take (length bytes - at) (drop at bytes))) → Appends old new (take (at + count) bytes)
written_from old mid new bytes at count a b = written_on old mid new bytes at count a (subst (λ (rest : List ℕ). Appends mid new (take count rest)) (tail at bytes) b)

-- a write that took some bytes has not failed
pub still_fresh : (old new : Bool) (count len : ℕ) → (count ≡ 0 → ⊥) → new ≡ cond (count == 0 && nat_lt 0 len) true old → old ≡ false → new ≡ false
still_fresh old new zero len some is fresh = absurd (some refl)
still_fresh old new (suc n) len some is fresh = is ∙ ap (λ b. cond (b && nat_lt 0 len) true old) (ne_eqb (suc n) 0 some) ∙ fresh

pub failed_write : (r : Result (Unit {0}) WriteFailed) (old new : Option (List ℕ)) (bytes : List ℕ) → IsErr r → AppendsFront old new bytes → WritesAll bytes old new r
failed_write (Ok done) old new bytes is some = cc
failed_write (Err failed) old new bytes is some = some

-- the answer if an allocation failed after a script was read
pub no_memory : (text : List Command → List ℕ) (value : List Command → ℕ) (r : Result ℕ RunFault) (fault : RunFault) (commands : List Command) (known old : Option (List ℕ)) → r ≡ Err fault → fault ≡ Script OutOfMemory → IfSome known (λ bytes. reading bytes ≡ Ok commands) → IfSome known (λ bytes. Answers text value (reading bytes) r old old)
no_memory text value r fault commands None old is which read = tt
no_memory text value r fault commands (Some bytes) old is which read =
    subst (λ (script : Result (List Command) ScriptFault). Answers text value script r old old) (sym read)
    (subst (λ (q : Result ℕ RunFault). Answers text value (Ok commands) q old old) (sym (is ∙ ap Err which)) (refl, front_none old (text commands)))
