-- Successive reads.
use Rattle.script_ends.proofs.Names.{◌≡◌, ℕ, ◌+◌, ◌<◌, ◌≤◌, List, [], ◌++◌, length, take, refl, sym, ◌∙◌, ap, subst, arith, append_assoc, append-nil, length-append, Option, Some, None, IfSome, Result, Ok, Err, inl, inr, false, true, Bool, ◌⊎◌, length-take, Consumes, Keeps, IsAtEnd, take_all, take-append-le, length-take-le, cases_lt, lt-leb, TooLong, OutOfMemory, ScriptFault, Command, reading, TakesAtMost}
use Rattle.ed_model.specs.Listing.{script_limit, fits_script}

-- nothing has been read yet
pub taken_none : (old : Option (List ℕ)) → Consumes old old []
taken_none None = tt
taken_none (Some bytes) = refl

-- what was read, and then what is read next
pub taken_more : (old mid new : Option (List ℕ)) (first more : List ℕ) → Consumes old mid first → Consumes mid new more → Consumes old new (first ++ more)
taken_more None mid new first more a b = tt
taken_more (Some xs) None new first more a b = absurd a
taken_more (Some xs) (Some ys) None first more a b = absurd b
taken_more (Some xs) (Some ys) (Some zs) first more a b = a ∙ ap (λ rest. first ++ rest) b ∙ sym (append_assoc first more zs)

-- a read that fails consumes nothing
pub taken_kept : (old mid new : Option (List ℕ)) (first : List ℕ) → Consumes old mid first → Keeps mid new → Consumes old new first
taken_kept None mid new first a b = tt
taken_kept (Some xs) None new first a b = absurd a
taken_kept (Some xs) (Some ys) None first a b = absurd b
taken_kept (Some xs) (Some ys) (Some zs) first a b = a ∙ ap (λ rest. first ++ rest) (sym b)

-- what was read at the end is everything, if it is no longer than requested
pub text_at_end : (limit : ℕ) (old new : Option (List ℕ)) (text : List ℕ) → length text ≤ limit → Consumes old new text → IsAtEnd new → IfSome old (λ bytes. text ≡ take limit bytes)
text_at_end limit None new text h a e = tt
text_at_end limit (Some xs) None text h a e = absurd a
text_at_end limit (Some xs) (Some ys) text h a e =
    let all : xs ≡ text = a ∙ ap (λ rest. text ++ rest) e ∙ append-nil text in
    sym (ap (take limit) all ∙ take_all limit text h)

-- what was read is as much as was requested
pub text_when_full : (limit : ℕ) (old new : Option (List ℕ)) (text : List ℕ) → length text ≡ limit → Consumes old new text → IfSome old (λ bytes. text ≡ take limit bytes)
text_when_full limit None new text h a = tt
text_when_full limit (Some xs) None text h a = absurd a
text_when_full limit (Some xs) (Some ys) text h a =
    sym (ap (take limit) a ∙ take-append-le limit text ys (omega arith) ∙ take_all limit text (omega arith))

pub takes : (limit : ℕ) (old new : Option (List ℕ)) (text : List ℕ) → length text ≤ limit → Consumes old new text → TakesAtMost limit old new
takes limit old new text h a = record { taken = text; consumed = a; few = h }

-- if each text longer than the limit is refused, a text is read like its front of one byte more than the limit
pub same_of_front : {A : Type 0} (read : List ℕ → A) (refused : A) (limit : ℕ) (bytes : List ℕ) → ((text : List ℕ) → limit < length text → read text ≡ refused) → read (take (limit + 1) bytes) ≡ read bytes
same_of_front read refused limit bytes long = elim (cases_lt (length bytes) (limit + 1)) [
  | inl short ↦ ap read (take_all (limit + 1) bytes (omega arith))
  | inr more ↦ long (take (limit + 1) bytes) (omega (arith, length-take-le (limit + 1) bytes more)) ∙ sym (long bytes (omega arith))
]

pub long_script : (text : List ℕ) → script_limit < length text → reading text ≡ Err TooLong
long_script text h = let refused : fits_script text ≡ false = lt-leb (length text) script_limit h in rw refused refl

-- the first 16 MiB and one byte of a script suffice to read it
pub read_of_front : (bytes : List ℕ) → reading (take (script_limit + 1) bytes) ≡ reading bytes
read_of_front bytes = same_of_front reading (Err TooLong) script_limit bytes long_script

pub few_more : (limit : ℕ) (new old buf : List ℕ) (count : ℕ) → new ≡ old ++ take count buf → count ≤ length buf → length old + length buf ≤ limit → length new ≤ limit
few_more limit new old buf count is within h = omega (arith, ap length is, length-append old (take count buf), length-take-le count buf within)

-- what was read last was not kept
pub takes_more : (limit : ℕ) (old mid new : Option (List ℕ)) (text buf : List ℕ) (count : ℕ) → count ≤ length buf → length text + length buf ≤ limit → Consumes old mid text → Consumes mid new (take count buf) → TakesAtMost limit old new
takes_more limit old mid new text buf count within h a b = record {
  taken = text ++ take count buf;
  consumed = taken_more old mid new text (take count buf) a b;
  few = few_more limit (text ++ take count buf) text buf count refl within h;
}

-- a read of no byte, at the end
pub text_then_end : (limit : ℕ) (old mid new : Option (List ℕ)) (text buf : List ℕ) (count : ℕ) → count ≡ 0 → length text ≤ limit → Consumes old mid text → Consumes mid new (take count buf) → IsAtEnd new → IfSome old (λ bytes. text ≡ take limit bytes)
text_then_end limit old mid new text buf count none h a b end =
    let b0 : Consumes mid new [] = subst (λ (n : ℕ). Consumes mid new (take n buf)) none b in
    text_at_end limit old new text h (subst (Consumes old new) (append-nil text) (taken_more old mid new text [] a b0)) end

-- what was read of a file, up to one byte past the limit, is longer than the limit only if the file is
pub file_too_long : (limit : ℕ) (old : Option (List ℕ)) (text : List ℕ) (reader : Bool) → limit < length text → IfSome old (λ bytes. text ≡ take (limit + 1) bytes) → IfSome old (λ bytes. (reader ≡ true) ⊎ (limit < length bytes))
file_too_long limit None text reader long is = tt
file_too_long limit (Some bytes) text reader long is = inr (omega (arith, ap length is, length-take (limit + 1) bytes))

pub file_whole : (limit : ℕ) (old : Option (List ℕ)) (text file : List ℕ) → file ≡ text → length text ≤ limit → IfSome old (λ bytes. text ≡ take (limit + 1) bytes) → IfSome old (λ bytes. (file ≡ bytes) × (length bytes ≤ limit))
file_whole limit None text file same short is = tt
file_whole limit (Some bytes) text file same short is =
    let few : length bytes ≤ limit = omega (arith, ap length is, length-take (limit + 1) bytes) in
    (same ∙ is ∙ take_all (limit + 1) bytes (omega arith), few)

abbrev pub IsReadAs : List ℕ → Result (List Command) ScriptFault → Type 0
IsReadAs text result = (result ≡ reading text) ⊎ (result ≡ Err OutOfMemory)

-- a script that was assembled from what was read
pub script_read : (old : Option (List ℕ)) (text seen : List ℕ) (commands : List Command) → IfSome old (λ bytes. text ≡ take (script_limit + 1) bytes) → seen ≡ text → IsReadAs seen (Ok commands) → IfSome old (λ bytes. reading bytes ≡ Ok commands)
script_read None text seen commands is same found = tt
script_read (Some bytes) text seen commands is same (inl found) = sym (read_of_front bytes) ∙ ap reading (sym (same ∙ is)) ∙ sym found
script_read (Some bytes) text seen commands is same (inr other) = cc

pub script_refused : (old : Option (List ℕ)) (text seen : List ℕ) (fault : ScriptFault) → IfSome old (λ bytes. text ≡ take (script_limit + 1) bytes) → seen ≡ text → IsReadAs seen (Err fault) → IfSome old (λ bytes. (reading bytes ≡ Err fault) ⊎ (fault ≡ OutOfMemory))
script_refused None text seen fault is same found = tt
script_refused (Some bytes) text seen fault is same (inl found) = inl (sym (read_of_front bytes) ∙ ap reading (sym (same ∙ is)) ∙ sym found)
script_refused (Some bytes) text seen fault is same (inr other) = inr (cc)
