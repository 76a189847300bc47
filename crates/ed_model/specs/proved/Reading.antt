-- Scripts are read line by line.
use Rattle.std.proofs.Common.{◌≡◌, ℕ, ◌+◌, ◌<◌, ◌⊎◌, inl, inr, true, List, [], ◌∷◌, length, refl, sym, ◌∙◌, subst, arith, Result, Ok, Err}
use Rattle.std.specs.Prelude.{◌==◌, ◌&&◌, not}
use Rattle.std.specs.List.{list_all, slice_split, onto_first}
use Rattle.std.proofs.lemmas.Bool.{and_parts, eqb-true, or_cases, cases_Bool, cond-true, cond-false}
use Rattle.ed_types.specs.declared.script.Command.{Command}
use Rattle.ed_types.specs.declared.script.ScriptFault.{ScriptFault}
use Rattle.ed_types.specs.declared.script.ScriptFault.TheVariants.{TooLong}
use Rattle.ed_model.specs.Text.{line_feed}
use Rattle.ed_model.specs.Listing.{is_expect, speaks, fits_script}
use Rattle.ed_model.specs.Reading.{◌>>=◌, not_empty, read_command, read_version, at_line, read_lines, read_script, reading}

-- adding a byte to the first part leaves a first part
onto_first-some : (b : ℕ) (parts : List (List ℕ)) → (first : List ℕ) × (rest : List (List ℕ)) × (onto_first b parts ≡ first ∷ rest)
onto_first-some b [] = (b ∷ [], [], refl)
onto_first-some b (part ∷ parts) = (b ∷ part, parts, refl)

-- a text that is split at its line ends has a first part
pub split-some : (text : List ℕ) → (first : List ℕ) × (rest : List (List ℕ)) × (slice_split (λ b. b == line_feed) text ≡ first ∷ rest)
split-some [] = ([], [], refl)
split-some (b ∷ bs) =
    let parts = slice_split (λ b. b == line_feed) bs in
    elim (cases_Bool (b == line_feed)) [
      | inl ends ↦ ([], parts, cond-true (b == line_feed) ([] ∷ parts) (onto_first b parts) ends)
      | inr other ↦ let some = onto_first-some b parts in (some.0, some.1, cond-false (b == line_feed) ([] ∷ parts) (onto_first b parts) other ∙ some.2)
    ]

-- the commands of the text that begins with line `number`
abbrev pub read_from : ℕ → ℕ → List ℕ → Result (List Command) ScriptFault
read_from version number text = read_lines version number (slice_split (λ b. b == line_feed) text)

-- the command of the first line, and then those of the lines after it
abbrev pub read_first : ℕ → ℕ → List ℕ → List (List ℕ) → Result (List Command) ScriptFault
read_first version number line parts = at_line number line (read_command version line) >>= (λ command. read_lines version (number + 1) parts >>= (λ commands. Ok (command ∷ commands)))

-- lines are read from the first on
pub read_lines-first : (version number : ℕ) (line text : List ℕ) → read_lines version number (line ∷ slice_split (λ b. b == line_feed) text) ≡ read_first version number line (slice_split (λ b. b == line_feed) text)
read_lines-first version number line text =
    let some = split-some text in
    let P : List (List ℕ) → Type 0 = λ parts. read_lines version number (line ∷ parts) ≡ read_first version number line parts in
    subst P (sym some.2) refl

-- a script is read from its first line on, which names the version
pub read_script-first : (line text : List ℕ) → read_script (line ∷ slice_split (λ b. b == line_feed) text) ≡ (at_line 1 line (read_version line) >>= (λ version. read_from version 2 text))
read_script-first line text =
    let some = split-some text in
    let P : List (List ℕ) → Type 0 = λ parts. read_script (line ∷ parts) ≡ (at_line 1 line (read_version line) >>= (λ version. read_lines version 2 parts)) in
    subst P (sym some.2) refl

-- a text within the limit of scripts is read as its lines are
pub reads_within : (text : List ℕ) (read : Result (List Command) ScriptFault) → fits_script text ≡ true → read_script (slice_split (λ b. b == line_feed) text) ≡ read → reading text ≡ read
reads_within text read fits h = cond-true (fits_script text) (read_script (slice_split (λ b. b == line_feed) text)) (Err TooLong) fits ∙ h

-- there are versions 1 and 2
pub versions : (version : ℕ) (commands : List Command) → speaks version commands ≡ true → (version ≡ 2) ⊎ (version ≡ 1)
versions version commands h =
    elim (or_cases (version == 2) (version == 1 && list_all (λ c. not (is_expect c)) commands) h) [
      | inl second ↦ inl (eqb-true version 2 second)
      | inr first ↦ inr (eqb-true version 1 (and_parts (version == 1) (list_all (λ c. not (is_expect c)) commands) first).0)
    ]

-- a word that has a byte is a field
pub not_empty-some : (word : List ℕ) → 0 < length word → not_empty word ≡ Ok word
not_empty-some [] h = absurd (omega arith)
not_empty-some (b ∷ bs) h = refl
