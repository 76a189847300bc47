-- How whole scripts are listed, and read back.
use Rattle.ed_model.proofs.Names.{◌≡◌, ℕ, ◌+◌, ◌≤◌, ◌⊎◌, inl, inr, Bool, true, false, cond, List, [], ◌∷◌, ◌++◌, refl, sym, ◌∙◌, ap, subst, arith, Result, Ok, Err, append_assoc, codes, flat_map, nat_le, ◌==◌, not, bytes_eq, slice_index, AllByRecursion, list_all, slice_split, onto_first, join_with_byte, and_parts, and_from, leb-true, ne_eqb, cases_Bool, cond-true, cond-false, agree_below_at, Command, OpenView, CloseView, LoadFile, SendMessage, Expect, Cause, LineTooLong, BadVersion, line_feed, space, spelled, spelled_int, spelled_byte, spelled_bytes, spelled_text, quote, listed_command, listing, ended_line, version_line, FitsTypes, is_expect, speaks, fits_line, fits_script, ◌>>=◌, read_command, read_version, at_line, read_lines, read_script, reading, bytes_eq-true, read_from, read_first, read_lines-first, read_script-first, reads_within, versions}
use Rattle.std.proofs.lemmas.List.Splits.{join_with_byte-slice_split}
use Rattle.ed_types.specs.declared.script.ScriptFault.{ScriptFault}
use Rattle.ed_types.specs.declared.script.ScriptFault.TheVariants.{BadLine, TooLong}
use Rattle.ed_model.specs.ScriptLaws.{IsScript, ListingsAreRead, OnlyListingsAreRead, ScriptsHaveOneSpelling, ListingsKeepLimits, first_line}
use Rattle.ed_model.proofs.lemmas.Spelling.{AreWordBytes, AreWordBytes-spelled, AreWordBytes-spelled_int}
use Rattle.ed_model.proofs.lemmas.Texts.{AreBytes}
use Rattle.ed_model.proofs.lemmas.Fields.{bind-is}
use Rattle.ed_model.proofs.lemmas.Commands.{read_command-listed, read_command-is, IsLineOf}

-- bytes of a line: none is below the space, so none is a line feed
abbrev pub AreLineBytes : List ℕ → Type 0
AreLineBytes bytes = AllByRecursion (λ b. 32 ≤ b) bytes

joined : (front rest : List ℕ) → AreLineBytes front → AreLineBytes rest → AreLineBytes (front ++ rest)
joined [] rest here there = there
joined (b ∷ bs) rest here there = (here.0, joined bs rest here.1 there)

of_word : (word : List ℕ) → AreWordBytes word → AreLineBytes word
of_word [] all = tt
of_word (b ∷ bs) all = (omega (arith, all.0), of_word bs all.1)

of_test : (bytes : List ℕ) → list_all (λ b. nat_le 32 b) bytes ≡ true → AreLineBytes bytes
of_test [] h = tt
of_test (b ∷ bs) h = let tests = and_parts (nat_le 32 b) (list_all (λ b. nat_le 32 b) bs) h in (leb-true 32 b tests.0, of_test bs tests.1)

spelled_in_line : (text : List ℕ) → AreBytes text → AreLineBytes (spelled_bytes text)
spelled_in_line [] all = tt
spelled_in_line (b ∷ bs) all = joined (spelled_byte b) (spelled_bytes bs)
    (of_test (spelled_byte b) (agree_below_at (λ c. list_all (λ d. nat_le 32 d) (spelled_byte c)) (λ c. true) 256 b refl all.0))
    (spelled_in_line bs all.1)

-- a space, a field, and the fields after it
then_field : (word rest : List ℕ) → AreWordBytes word → AreLineBytes rest → AreLineBytes (space ∷ word ++ rest)
then_field word rest here there = (omega arith, joined word rest (of_word word here) there)

last_field : (word : List ℕ) → AreWordBytes word → AreLineBytes (space ∷ word)
last_field word here = (omega arith, of_word word here)

pub AreLineBytes-listed : (command : Command) → FitsTypes command → AreLineBytes (listed_command command)
AreLineBytes-listed OpenView fits = of_test (codes "open") refl
AreLineBytes-listed (CloseView view) fits = joined (codes "close") (space ∷ spelled view) (of_test (codes "close") refl) (last_field (spelled view) (AreWordBytes-spelled view (omega arith)))
AreLineBytes-listed (LoadFile view file) fits =
    joined (codes "load") (space ∷ spelled view ++ (space ∷ spelled file)) (of_test (codes "load") refl)
    (then_field (spelled view) (space ∷ spelled file) (AreWordBytes-spelled view (omega (arith, fits.0))) (last_field (spelled file) (AreWordBytes-spelled file (omega (arith, fits.1)))))
AreLineBytes-listed (SendMessage view message) fits =
    let text = space ∷ spelled_text message.text in
    let l = space ∷ spelled_int message.l ++ text in
    let w = space ∷ spelled_int message.w ++ l in
    let number = space ∷ spelled message.number ++ w in
    let text-in : AreLineBytes text = (omega arith, (omega arith, joined (spelled_bytes message.text) (quote ∷ []) (spelled_in_line message.text fits.4) (omega arith, tt))) in
    joined (codes "send") (space ∷ spelled view ++ number) (of_test (codes "send") refl)
    (then_field (spelled view) number (AreWordBytes-spelled view (omega (arith, fits.0)))
    (then_field (spelled message.number) w (AreWordBytes-spelled message.number (omega (arith, fits.1)))
    (then_field (spelled_int message.w) l (AreWordBytes-spelled_int message.w fits.2)
    (then_field (spelled_int message.l) text (AreWordBytes-spelled_int message.l fits.3) text-in))))
AreLineBytes-listed (Expect value) fits = joined (codes "expect") (space ∷ spelled_int value) (of_test (codes "expect") refl) (last_field (spelled_int value) (AreWordBytes-spelled_int value fits))

-- splitting cuts off the first line
pub split_line : (line rest : List ℕ) → AreLineBytes line → slice_split (λ b. b == line_feed) (line ++ line_feed ∷ rest) ≡ line ∷ slice_split (λ b. b == line_feed) rest
split_line [] rest all = refl
split_line (b ∷ bs) rest all =
    let parts = slice_split (λ b. b == line_feed) (bs ++ line_feed ∷ rest) in
    let other : b == line_feed ≡ false = ne_eqb b line_feed (λ e. absurd (omega (arith, all.0))) in
    cond-false (b == line_feed) ([] ∷ parts) (onto_first b parts) other ∙ ap (onto_first b) (split_line bs rest all.1)

pub read_from-line : (version number : ℕ) (line rest : List ℕ) → AreLineBytes line → read_from version number (line ++ line_feed ∷ rest) ≡ read_first version number line (slice_split (λ b. b == line_feed) rest)
read_from-line version number line rest all = ap (read_lines version number) (split_line line rest all) ∙ read_lines-first version number line rest

abbrev pub lines_of : List Command → List ℕ
lines_of commands = flat_map (λ command. ended_line (listed_command command)) commands

-- a line within the limit is read as the command on it
at_line-fits : {T : Type 0} (number : ℕ) (line : List ℕ) (value : T) → fits_line line ≡ true → at_line number line (Ok value) ≡ Ok value
at_line-fits number line value h = cond-true (fits_line line) (Ok value) _ h

said : (version : ℕ) (command : Command) (commands : List Command) → (version == 2 ≡ true) ⊎ (list_all (λ c. not (is_expect c)) (command ∷ commands) ≡ true) → is_expect command ≡ true → version == 2 ≡ true
said version command commands (inl second) h = second
said version command commands (inr none) h =
    let tests = and_parts (not (is_expect command)) (list_all (λ c. not (is_expect c)) commands) none in
    let never : not true ≡ true = ap not (sym h) ∙ tests.0 in cc

says_rest : (version : ℕ) (command : Command) (commands : List Command) → (version == 2 ≡ true) ⊎ (list_all (λ c. not (is_expect c)) (command ∷ commands) ≡ true) → (version == 2 ≡ true) ⊎ (list_all (λ c. not (is_expect c)) commands ≡ true)
says_rest version command commands (inl second) = inl second
says_rest version command commands (inr none) = inr (and_parts (not (is_expect command)) (list_all (λ c. not (is_expect c)) commands) none).1

pub read_from-listed : (version number : ℕ) (commands : List Command) → (version == 2 ≡ true) ⊎ (list_all (λ command. not (is_expect command)) commands ≡ true) → AllByRecursion FitsTypes commands → list_all (λ command. fits_line (listed_command command)) commands ≡ true → read_from version number (lines_of commands) ≡ Ok commands
read_from-listed version number [] says fits within = refl
read_from-listed version number (command ∷ commands) says fits within =
    let tests = and_parts (fits_line (listed_command command)) (list_all (λ c. fits_line (listed_command c)) commands) within in
    let line = listed_command command in
    let rest = lines_of commands in
    let more : Command → Result (List Command) ScriptFault = λ c. read_from version (number + 1) rest >>= (λ cs. Ok (c ∷ cs)) in
    ap (read_from version number) (append_assoc line (line_feed ∷ []) rest) ∙
    read_from-line version number line rest (AreLineBytes-listed command fits.0) ∙
    ap (λ r. at_line number line r >>= more) (read_command-listed version command fits.0 (said version command commands says)) ∙
    ap (λ r. r >>= more) (at_line-fits number line command tests.0) ∙
    ap (λ r. r >>= (λ cs. Ok (command ∷ cs))) (read_from-listed version (number + 1) commands (says_rest version command commands says) fits.1 tests.1)

-- How the commands of some lines were read.
pub record AreLinesOf (version : ℕ) (text : List ℕ) (commands : List Command) : Type 0 where
  pub listed : text ≡ lines_of commands
  pub typed : AllByRecursion FitsTypes commands
  pub within : list_all (λ command. fits_line (listed_command command)) commands ≡ true
  pub spoken : version == 2 ≡ false → list_all (λ command. not (is_expect command)) commands ≡ true

at_line-is_by : {T : Type 0} (fits : Bool) (fault : ScriptFault) (found value : T) → cond fits (Ok found) (Err fault) ≡ Ok value → (◌≡◌ {A = Result T Cause} (Ok found) (Ok value)) × (fits ≡ true)
at_line-is_by true fault found value h = let same : found ≡ value = cc in (ap Ok same, refl)
at_line-is_by false fault found value h = cc

no_expect : (version : ℕ) (line : List ℕ) (command : Command) → IsLineOf version line command → version == 2 ≡ false → not (is_expect command) ≡ true
no_expect version line command is first = elim (cases_Bool (is_expect command)) [
  | inl expects ↦ let second = is.said expects in cc
  | inr other ↦ ap not other
]

at_line-is : {T : Type 0} (number : ℕ) (line : List ℕ) (read : Result T Cause) (value : T) → at_line number line read ≡ Ok value → (read ≡ Ok value) × (fits_line line ≡ true)
at_line-is number line (Ok found) value h = at_line-is_by (fits_line line) (BadLine number LineTooLong) found value h
at_line-is number line (Err cause) value h = cc

pub read_lines-is : (version number : ℕ) (parts : List (List ℕ)) (commands : List Command) → read_lines version number parts ≡ Ok commands → AreLinesOf version (join_with_byte line_feed parts) commands
read_lines-is version number [] commands h =
    let none : [] ≡ commands = cc in
    subst (AreLinesOf version []) none (record { listed = refl; typed = tt; within = refl; spoken = λ _. refl })
read_lines-is version number ([] ∷ []) commands h =
    let none : [] ≡ commands = cc in
    subst (AreLinesOf version []) none (record { listed = refl; typed = tt; within = refl; spoken = λ _. refl })
read_lines-is version number ((b ∷ bs) ∷ []) commands h = cc
read_lines-is version number (line ∷ next ∷ parts) commands h =
    let command = bind-is (at_line number line (read_command version line)) _ commands h in
    let others = bind-is (read_lines version (number + 1) (next ∷ parts)) _ commands command.2 in
    let here = at_line-is number line (read_command version line) command.0 command.1 in
    let read = read_command-is version line command.0 here.0 in
    let rest = read_lines-is version (number + 1) (next ∷ parts) others.0 others.1 in
    let whole : command.0 ∷ others.0 ≡ commands = cc in
    subst (AreLinesOf version (line ++ (line_feed ∷ join_with_byte line_feed (next ∷ parts)))) whole (record {
      listed = ap (λ bs. bs ++ (line_feed ∷ join_with_byte line_feed (next ∷ parts))) read.listed ∙ ap (λ bs. listed_command command.0 ++ (line_feed ∷ bs)) rest.listed ∙ sym (append_assoc (listed_command command.0) (line_feed ∷ []) (lines_of others.0));
      typed = (read.fits, rest.typed);
      within = and_from _ _ (ap fits_line (sym read.listed) ∙ here.1) rest.within;
      spoken = λ first. and_from _ _ (no_expect version line command.0 read first) (rest.spoken first);
    })

listing_2_is_read : (commands : List Command) → IsScript 2 commands → reading (listing 2 commands) ≡ Ok commands
listing_2_is_read commands script =
    let tests = and_parts (list_all (λ c. fits_line (listed_command c)) commands) (fits_script (listing 2 commands)) script.within in
    reads_within (listing 2 commands) (Ok commands) tests.1 (read_script-first (codes "sci 2") (lines_of commands) ∙ read_from-listed 2 2 commands (inl refl) script.typed tests.0)

listing_1_is_read : (commands : List Command) → IsScript 1 commands → reading (listing 1 commands) ≡ Ok commands
listing_1_is_read commands script =
    let tests = and_parts (list_all (λ c. fits_line (listed_command c)) commands) (fits_script (listing 2 commands)) script.within in
    reads_within (listing 1 commands) (Ok commands) tests.1 (read_script-first (codes "sci 1") (lines_of commands) ∙ read_from-listed 1 2 commands (inr script.spoken) script.typed tests.0)

pub listings_are_read : ListingsAreRead
listings_are_read version commands script =
    let P : ℕ → Type 0 = λ v. IsScript v commands → reading (listing v commands) ≡ Ok commands in
    elim (versions version commands script.spoken) [
      | inl second ↦ subst P (sym second) (listing_2_is_read commands) script
      | inr first ↦ subst P (sym first) (listing_1_is_read commands) script
    ]

-- How a whole script was read.
read_version-is_by : (first second : Bool) (version : ℕ) → cond first (Ok 1) (cond second (Ok 2) (Err BadVersion)) ≡ Ok version → ((first ≡ true) × (version ≡ 1)) ⊎ ((second ≡ true) × (version ≡ 2))
read_version-is_by true second version h = let same : 1 ≡ version = cc in inl (refl, sym same)
read_version-is_by false true version h = let same : 2 ≡ version = cc in inr (refl, sym same)
read_version-is_by false false version h = cc

-- a script that was read from a text in a version
record IsReadAs (text : List ℕ) (commands : List Command) (version : ℕ) : Type 0 where
  listed : text ≡ listing version commands
  spoken : speaks version commands ≡ true
  typed : AllByRecursion FitsTypes commands
  within : list_all (λ command. fits_line (listed_command command)) commands ≡ true

with_first : (text line rest : List ℕ) (version : ℕ) (commands : List Command) → text ≡ line ++ (line_feed ∷ rest) → line ≡ version_line version → AreLinesOf version rest commands → text ≡ listing version commands
with_first text line rest version commands whole first read =
    whole ∙ ap (λ bs. bs ++ (line_feed ∷ rest)) first ∙ ap (λ bs. version_line version ++ (line_feed ∷ bs)) read.listed ∙ sym (append_assoc (version_line version) (line_feed ∷ []) (lines_of commands))

as_version : (text line rest : List ℕ) (version : ℕ) (commands : List Command) → text ≡ line ++ (line_feed ∷ rest) → read_version line ≡ Ok version → AreLinesOf version rest commands → IsReadAs text commands version
as_version text line rest version commands whole named read =
    elim (read_version-is_by (bytes_eq line (version_line 1)) (bytes_eq line (version_line 2)) version named) [
      | inl first ↦
          let P : ℕ → Type 0 = λ v. AreLinesOf v rest commands → IsReadAs text commands v in
          let one : P 1 = λ is. record { listed = with_first text line rest 1 commands whole (bytes_eq-true line (version_line 1) first.0) is; spoken = is.spoken refl; typed = is.typed; within = is.within } in
          subst P (sym first.1) one read
      | inr second ↦
          let P : ℕ → Type 0 = λ v. AreLinesOf v rest commands → IsReadAs text commands v in
          let two : P 2 = λ is. record { listed = with_first text line rest 2 commands whole (bytes_eq-true line (version_line 2) second.0) is; spoken = refl; typed = is.typed; within = is.within } in
          subst P (sym second.1) two read
    ]

read_script-is : (parts : List (List ℕ)) (commands : List Command) → read_script parts ≡ Ok commands → (version : ℕ) × IsReadAs (join_with_byte line_feed parts) commands version
read_script-is [] commands h = cc
read_script-is (line ∷ []) commands h = cc
read_script-is (line ∷ next ∷ parts) commands h =
    let version = bind-is (at_line 1 line (read_version line)) _ commands h in
    let first = at_line-is 1 line (read_version line) version.0 version.1 in
    let rest = read_lines-is version.0 2 (next ∷ parts) commands version.2 in
    (version.0, as_version _ line (join_with_byte line_feed (next ∷ parts)) version.0 commands refl first.0 rest)

reading-is_by : (fits : Bool) (read : Result (List Command) ScriptFault) (commands : List Command) → cond fits read (Err TooLong) ≡ Ok commands → (fits ≡ true) × (read ≡ Ok commands)
reading-is_by true read commands h = (refl, h)
reading-is_by false read commands h = cc

fits_either : (version : ℕ) (commands : List Command) → (version ≡ 2) ⊎ (version ≡ 1) → fits_script (listing version commands) ≡ fits_script (listing 2 commands)
fits_either version commands (inl second) = ap (λ v. fits_script (listing v commands)) second
fits_either version commands (inr first) = ap (λ v. fits_script (listing v commands)) first

pub only_listings_are_read : OnlyListingsAreRead
only_listings_are_read text commands h =
    let within = reading-is_by (fits_script text) (read_script (slice_split (λ b. b == line_feed) text)) commands h in
    let read = read_script-is (slice_split (λ b. b == line_feed) text) commands within.1 in
    let is : text ≡ listing read.0 commands = sym (join_with_byte-slice_split line_feed text) ∙ read.1.listed in
    let fits : fits_script (listing 2 commands) ≡ true = sym (fits_either read.0 commands (versions read.0 commands read.1.spoken)) ∙ sym (ap fits_script is) ∙ within.0 in
    (read.0, is, record { spoken = read.1.spoken; typed = read.1.typed; within = and_from _ _ read.1.within fits })

-- Two texts of the same version that are read as the same script are equal.
versions_differ : codes "sci 2" ≡ codes "sci 1" → ⊥
versions_differ h = let digits : ◌≡◌ {A = ℕ} 50 49 = ap (λ bs. slice_index bs 4) h in omega arith

one_version : (v w : ℕ) (commands : List Command) → (v ≡ 2) ⊎ (v ≡ 1) → (w ≡ 2) ⊎ (w ≡ 1) → first_line (listing v commands) ≡ first_line (listing w commands) → v ≡ w
one_version v w commands (inl a) (inl b) h = a ∙ sym b
one_version v w commands (inr a) (inr b) h = a ∙ sym b
one_version v w commands (inl a) (inr b) h = absurd (versions_differ (sym (ap (λ n. first_line (listing n commands)) a) ∙ h ∙ ap (λ n. first_line (listing n commands)) b))
one_version v w commands (inr a) (inl b) h = absurd (versions_differ (sym (sym (ap (λ n. first_line (listing n commands)) a) ∙ h ∙ ap (λ n. first_line (listing n commands)) b)))

pub scripts_have_one_spelling : ScriptsHaveOneSpelling
scripts_have_one_spelling text other commands h k first =
    let a = only_listings_are_read text commands h in
    let b = only_listings_are_read other commands k in
    let same = one_version a.0 b.0 commands (versions a.0 commands a.2.spoken) (versions b.0 commands b.2.spoken) (sym (ap first_line a.1) ∙ first ∙ ap first_line b.1) in
    a.1 ∙ ap (λ v. listing v commands) same ∙ sym b.1

lines_fit : (commands : List Command) → AllByRecursion FitsTypes commands → list_all (λ command. fits_line (listed_command command)) commands ≡ true → list_all fits_line (slice_split (λ b. b == line_feed) (lines_of commands)) ≡ true
lines_fit [] typed h = refl
lines_fit (command ∷ commands) typed h =
    let tests = and_parts (fits_line (listed_command command)) (list_all (λ c. fits_line (listed_command c)) commands) h in
    let rest = lines_of commands in
    ap (λ bs. list_all fits_line (slice_split (λ b. b == line_feed) bs)) (append_assoc (listed_command command) (line_feed ∷ []) rest) ∙
    ap (list_all fits_line) (split_line (listed_command command) rest (AreLineBytes-listed command typed.0)) ∙
    and_from (fits_line (listed_command command)) (list_all fits_line (slice_split (λ b. b == line_feed) rest)) tests.0 (lines_fit commands typed.1 tests.1)

pub listings_keep_limits : ListingsKeepLimits
listings_keep_limits version commands script =
    let which = versions version commands script.spoken in
    let tests = and_parts (list_all (λ c. fits_line (listed_command c)) commands) (fits_script (listing 2 commands)) script.within in
    let P : ℕ → Type 0 = λ v. list_all fits_line (slice_split (λ b. b == line_feed) (listing v commands)) ≡ true in
    let lines = lines_fit commands script.typed tests.0 in
    (fits_either version commands which ∙ tests.1, elim which [ inl second ↦ subst P (sym second) lines | inr first ↦ subst P (sym first) lines ])
