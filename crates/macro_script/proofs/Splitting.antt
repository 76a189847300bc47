-- Texts cut into lines, and the commands of lines.
use Rattle.macro_script.proofs.Names.{◌≡◌, inl, inr, ℕ, ◌+◌, ◌<◌, ◌≤◌, List, [], ◌∷◌, ◌++◌, length, get_or, take, drop, refl, sym, ◌∙◌, ap, subst, arith, Result, Ok, Err, append_assoc, length-drop, ◌==◌, slice_split, position_or_len, false_from_ne_true, get_or_default, take_rest, position_or_len_is, Command, ScriptFault, line_feed, ◌>>=◌, at_line, read_command, read_lines, read_from, read_first, read_lines-first, OrMemory}
use Rattle.std.proofs.lemmas.List.Splits.{slice_split_none, slice_split_first}
use Rattle.memchr.specs.Find.{Nowhere, NoneBefore, Passes, is_byte}
use Rattle.ed_types.specs.declared.script.ScriptFault.TheVariants.{OutOfMemory}
use Rattle.macro_script.proofs.Plain.{tail}

pub no_line : (text : List ℕ) → Nowhere (Passes (is_byte 10) text) 0 (length text) → slice_split (λ b. b == line_feed) text ≡ text ∷ []
no_line text nowhere = slice_split_none (λ b. b == line_feed) text (λ k d low.
    let same = get_or_default text k d 0 low in
    ap (λ b. b == line_feed) same ∙ false_from_ne_true (get_or text k 0 == line_feed) (nowhere k (omega arith) low))

pub one_line : (text : List ℕ) (end : ℕ) → NoneBefore (Passes (is_byte 10) text) 0 (length text) end → Passes (is_byte 10) text end → (slice_split (λ b. b == line_feed) text ≡ take end text ∷ slice_split (λ b. b == line_feed) (tail text (end + 1))) × (length (tail text (end + 1)) < length text)
one_line text end before here =
    let high = before.high in
    let place = position_or_len_is (λ b. b == line_feed) text end 0 (omega arith) (λ k low. false_from_ne_true (get_or text k 0 == line_feed) (before.before k (omega arith) low)) (λ low. here) in
    let some : position_or_len (λ b. b == line_feed) text < length text = omega arith in
    let rest = take_rest text (end + 1) in
    let P : List ℕ → Type 0 = λ bs. (slice_split (λ b. b == line_feed) text ≡ take end text ∷ slice_split (λ b. b == line_feed) bs) × (length bs < length text) in
    subst P (sym rest) (
      slice_split_first (λ b. b == line_feed) text 0 some ∙ ap (λ n. take n text ∷ slice_split (λ b. b == line_feed) (drop (n + 1) text)) place,
      omega (arith, length-drop (end + 1) text),
    )

-- commands before those that are read
abbrev pub after_commands : List Command → Result (List Command) ScriptFault → Result (List Command) ScriptFault
after_commands done (Ok commands) = Ok (done ++ commands)
after_commands done (Err fault) = Err fault

-- The state of reading a text: the lines before `rest` gave these commands.
pub record IsReadTo (version : ℕ) (text : List ℕ) (number : ℕ) (rest : List ℕ) (done : List Command) : Type 0 where
  pub read : read_from version 2 text ≡ after_commands done (read_from version number rest)
  pub room : number + length rest ≤ length text + 2

more_commands : (done : List Command) (command : Command) (read : Result (List Command) ScriptFault) → after_commands done (read >>= (λ commands. Ok (command ∷ commands))) ≡ after_commands (done ++ command ∷ []) read
more_commands done command (Ok commands) = ap Ok (sym (append_assoc done (command ∷ []) commands))
more_commands done command (Err fault) = refl

-- the first line of the rest is read
cut : (version number : ℕ) (rest line after : List ℕ) → slice_split (λ b. b == line_feed) rest ≡ line ∷ slice_split (λ b. b == line_feed) after → read_from version number rest ≡ read_first version number line (slice_split (λ b. b == line_feed) after)
cut version number rest line after split = ap (read_lines version number) split ∙ read_lines-first version number line after

pub read_one : (version : ℕ) (text : List ℕ) (number : ℕ) (rest line after : List ℕ) (done pushed : List Command) (command : Command) → IsReadTo version text number rest done → (slice_split (λ b. b == line_feed) rest ≡ line ∷ slice_split (λ b. b == line_feed) after) × (length after < length rest) → at_line number line (read_command version line) ≡ Ok command → pushed ≡ done ++ command ∷ [] → IsReadTo version text (number + 1) after pushed
read_one version text number rest line after done pushed command so_far split here is =
    let more : Command → Result (List Command) ScriptFault = λ c. read_from version (number + 1) after >>= (λ cs. Ok (c ∷ cs)) in
    subst (IsReadTo version text (number + 1) after) (sym is) (record {
      read = so_far.read ∙ ap (after_commands done) (cut version number rest line after split.0 ∙ ap (λ r. r >>= more) here) ∙ more_commands done command (read_from version (number + 1) after);
      room = omega (arith, so_far.room, split.1);
    })

pub read_fault : (version : ℕ) (text : List ℕ) (number : ℕ) (rest line after : List ℕ) (done : List Command) (fault : ScriptFault) → IsReadTo version text number rest done → (slice_split (λ b. b == line_feed) rest ≡ line ∷ slice_split (λ b. b == line_feed) after) × (length after < length rest) → at_line number line (read_command version line) ≡ Err fault → read_from version 2 text ≡ Err fault
read_fault version text number rest line after done fault so_far split here =
    let more : Command → Result (List Command) ScriptFault = λ c. read_from version (number + 1) after >>= (λ cs. Ok (c ∷ cs)) in
    so_far.read ∙ ap (after_commands done) (cut version number rest line after split.0 ∙ ap (λ r. r >>= more) here)

-- How the result of reading a line, or a failed allocation, decides that of the whole.
pub fault_found : (version : ℕ) (text : List ℕ) (number : ℕ) (rest line after : List ℕ) (done : List Command) (fault : ScriptFault) → IsReadTo version text number rest done → (slice_split (λ b. b == line_feed) rest ≡ line ∷ slice_split (λ b. b == line_feed) after) × (length after < length rest) → OrMemory (at_line number line (read_command version line)) (Err fault) → OrMemory (read_from version 2 text) (Err fault)
fault_found version text number rest line after done fault so_far split (inl is) = inl (sym (read_fault version text number rest line after done fault so_far split (sym is)))
fault_found version text number rest line after done fault so_far split (inr refused) = let same : fault ≡ OutOfMemory = cc in inr (ap Err same)

pub found : (version number : ℕ) (line : List ℕ) (command : Command) → OrMemory (at_line number line (read_command version line)) (Ok command) → at_line number line (read_command version line) ≡ Ok command
found version number line command (inl is) = sym is
found version number line command (inr refused) = cc
