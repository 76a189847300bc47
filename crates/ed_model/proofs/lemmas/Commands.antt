-- How commands are listed, and read back.
use Rattle.ed_model.proofs.Names.{◌≡◌, ℕ, ◌^◌, ◌<◌, inl, inr, Bool, true, false, List, [], ◌∷◌, ◌++◌, length, refl, sym, ◌∙◌, ap, subst, arith, ℤ, pos, negsuc, Option, Some, Result, Ok, append-nil, ok_or, codes, ◌==◌, nat_lt, bytes_eq, AllByRecursion, list_all, cond_both, and_parts, ltb-true, cases_Bool, cond-true, cond-false, Command, OpenView, CloseView, LoadFile, SendMessage, Expect, Cause, UnknownCommand, space, quote, spelled, spelled_int, spelled_bytes, spelled_text, is_64_bits, listed_command, FitsTypes, is_expect, ◌>>=◌, natural, integer, behind, word_of, behind_word, number_field, text_field, ended, Verb, opens, closes, loads, sends, expects, verb_in, verbs, verbs_of, command_of, read_command, length-spelled-pos, natural-spelled, natural-is, integer-spelled, integer-is, bytes_eq-true}
use Rattle.ed_model.proofs.lemmas.Spelling.{AreWordBytes, AreWordBytes-spelled, AreWordBytes-spelled_int}
use Rattle.ed_model.proofs.lemmas.Texts.{AreBytes, text_past-spelled, text_past-is}
use Rattle.ed_model.proofs.lemmas.Fields.{EndsWord, Spells, word_of-word, behind_word-word, word_and_rest, bind-is, behind-is, ok_or-is, number_field-spelled, number_field-is}

some_int : (z : ℤ) → is_64_bits z ≡ true → 0 < length (spelled_int z)
some_int (pos n) h = length-spelled-pos n (omega (arith, ltb-true n (2 ^ 63) h))
some_int (negsuc n) h = omega arith

pub naturals : Spells natural spelled (λ n. n < 2 ^ 32)
naturals = record {
  word_bytes = λ n h. AreWordBytes-spelled n (omega arith);
  some = λ n h. length-spelled-pos n (omega arith);
  reads = natural-spelled;
  only = natural-is;
}

pub integers : Spells integer spelled_int (λ z. is_64_bits z ≡ true)
integers = record {
  word_bytes = AreWordBytes-spelled_int;
  some = some_int;
  reads = integer-spelled;
  only = integer-is;
}

-- the last field of a line
last_number : {T : Type 0} {number : List ℕ → Option T} {spelling : T → List ℕ} {IsOne : T → Type 0} → Spells number spelling IsOne → (v : T) → IsOne v → number_field number (space ∷ spelling v) ≡ Ok (v, [])
last_number {number} {spelling} spells v one = ap (λ bs. number_field number (space ∷ bs)) (sym (append-nil (spelling v))) ∙ number_field-spelled spells v [] one tt

pub text_field-spelled : (text : List ℕ) → AreBytes text → text_field (space ∷ spelled_text text) ≡ Ok (text, [])
text_field-spelled text all = text_past-spelled text [] all

pub text_field-is : (line text rest : List ℕ) → text_field line ≡ Ok (text, rest) → (line ≡ space ∷ quote ∷ (spelled_bytes text ++ quote ∷ rest)) × AreBytes text
text_field-is line text rest h =
    let first = bind-is (behind space line) _ (text, rest) h in
    let second = bind-is (behind quote first.0) _ (text, rest) first.2 in
    let read = text_past-is 0 second.0 text rest second.2 in
    let whole = behind-is space line first.0 first.1 in
    let quoted = behind-is quote first.0 second.0 second.1 in
    (whole ∙ ap (λ bs. space ∷ bs) (quoted ∙ ap (λ bs. quote ∷ bs) read.0), read.1)

-- the bytes of a literal are bytes of words
are_word_bytes : (word : List ℕ) → list_all (λ b. nat_lt 32 b) word ≡ true → AreWordBytes word
are_word_bytes [] h = tt
are_word_bytes (b ∷ bs) h = let tests = and_parts (nat_lt 32 b) (list_all (λ b. nat_lt 32 b) bs) h in (ltb-true 32 b tests.0, are_word_bytes bs tests.1)

abbrev pub verb_word : Verb → List ℕ
verb_word opens = codes "open"
verb_word closes = codes "close"
verb_word loads = codes "load"
verb_word sends = codes "send"
verb_word expects = codes "expect"

abbrev pub is_expects : Verb → Bool
is_expects opens = false
is_expects closes = false
is_expects loads = false
is_expects sends = false
is_expects expects = true

-- the command that a word names
names_verb : (word : List ℕ) (verb : Verb) (entries : List (List ℕ × Verb)) → AllByRecursion (λ (entry : List ℕ × Verb). entry.0 ≡ verb_word entry.1) entries → verb_in entries word ≡ Some verb → word ≡ verb_word verb
names_verb word verb [] all h = cc
names_verb word verb (entry ∷ entries) all h =
    elim (cases_Bool (bytes_eq word entry.0)) [
      | inl same ↦
          let is : Some entry.1 ≡ Some verb = sym (cond-true (bytes_eq word entry.0) (Some entry.1) (verb_in entries word) same) ∙ h in
          let named : entry.1 ≡ verb = cc in
          bytes_eq-true word entry.0 same ∙ all.0 ∙ ap verb_word named
      | inr other ↦ names_verb word verb entries all.1 (sym (cond-false (bytes_eq word entry.0) (Some entry.1) (verb_in entries word) other) ∙ h)
    ]

never_expects : (word : List ℕ) (verb : Verb) (entries : List (List ℕ × Verb)) → AllByRecursion (λ (entry : List ℕ × Verb). is_expects entry.1 ≡ false) entries → verb_in entries word ≡ Some verb → is_expects verb ≡ false
never_expects word verb [] all h = cc
never_expects word verb (entry ∷ entries) all h =
    elim (cases_Bool (bytes_eq word entry.0)) [
      | inl same ↦
          let is : Some entry.1 ≡ Some verb = sym (cond-true (bytes_eq word entry.0) (Some entry.1) (verb_in entries word) same) ∙ h in
          let named : entry.1 ≡ verb = cc in
          ap is_expects (sym named) ∙ all.0
      | inr other ↦ never_expects word verb entries all.1 (sym (cond-false (bytes_eq word entry.0) (Some entry.1) (verb_in entries word) other) ∙ h)
    ]

pub verb_in-is : (version : ℕ) (word : List ℕ) (verb : Verb) → verb_in (verbs_of version) word ≡ Some verb → (word ≡ verb_word verb) × (is_expects verb ≡ true → version == 2 ≡ true)
verb_in-is version word verb h =
    elim (cases_Bool (version == 2)) [
      | inl second ↦
          let P : List (List ℕ × Verb) → Type 0 = λ entries. verb_in entries word ≡ Some verb in
          let h' : verb_in ((codes "expect", expects) ∷ verbs) word ≡ Some verb = subst P (cond-true (version == 2) ((codes "expect", expects) ∷ verbs) verbs second) h in
          (names_verb word verb ((codes "expect", expects) ∷ verbs) (refl, (refl, (refl, (refl, (refl, tt))))) h', λ _. second)
      | inr first ↦
          let P : List (List ℕ × Verb) → Type 0 = λ entries. verb_in entries word ≡ Some verb in
          let h' : verb_in verbs word ≡ Some verb = subst P (cond-false (version == 2) ((codes "expect", expects) ∷ verbs) verbs first) h in
          (names_verb word verb verbs (refl, (refl, (refl, (refl, tt)))) h', λ is. let never = never_expects word verb verbs (refl, (refl, (refl, (refl, tt)))) h' in cc)
    ]

pub ended-is : (command whole : Command) (rest : List ℕ) → ended command rest ≡ Ok whole → (rest ≡ []) × (command ≡ whole)
ended-is command whole [] h = (refl, cc)
ended-is command whole (b ∷ bs) h = cc

-- A command that was read after its verb is listed as it was read, and its numbers fit their types.
pub record IsReadFrom (verb : Verb) (rest : List ℕ) (command : Command) : Type 0 where
  pub listed : verb_word verb ++ rest ≡ listed_command command
  pub fits : FitsTypes command
  pub expecting : is_expect command ≡ is_expects verb

-- the end of a command: nothing follows its last field
last_field : (verb : Verb) (command whole : Command) (rest left : List ℕ) → ended command left ≡ Ok whole → FitsTypes command → is_expect command ≡ is_expects verb → (left ≡ [] → verb_word verb ++ rest ≡ listed_command command) → IsReadFrom verb rest whole
last_field verb command whole rest left h fits expecting listed =
    let parts = ended-is command whole left h in
    subst (IsReadFrom verb rest) parts.1 (record { listed = listed parts.0; fits = fits; expecting = expecting })

pub command_of-is : (verb : Verb) (rest : List ℕ) (command : Command) → command_of verb rest ≡ Ok command → IsReadFrom verb rest command
command_of-is opens rest command h = last_field opens OpenView command rest rest h tt refl (λ e. ap (λ bs. codes "open" ++ bs) e)
command_of-is closes rest command h =
    let view = bind-is (number_field natural rest) _ command h in
    let view-is = number_field-is naturals rest view.0.0 view.0.1 view.1 in
    last_field closes (CloseView view.0.0) command rest view.0.1 view.2 view-is.1 refl
    (λ e. ap (λ bs. codes "close" ++ bs) (view-is.0 ∙ ap (λ bs. space ∷ spelled view.0.0 ++ bs) e ∙ append-nil (space ∷ spelled view.0.0)))
command_of-is loads rest command h =
    let view = bind-is (number_field natural rest) _ command h in
    let file = bind-is (number_field natural view.0.1) _ command view.2 in
    let view-is = number_field-is naturals rest view.0.0 view.0.1 view.1 in
    let file-is = number_field-is naturals view.0.1 file.0.0 file.0.1 file.1 in
    last_field loads (LoadFile view.0.0 file.0.0) command rest file.0.1 file.2 (view-is.1, file-is.1) refl
    (λ e. ap (λ bs. codes "load" ++ bs) (view-is.0 ∙ ap (λ bs. space ∷ spelled view.0.0 ++ bs) (file-is.0 ∙ ap (λ bs. space ∷ spelled file.0.0 ++ bs) e ∙ append-nil (space ∷ spelled file.0.0))))
command_of-is sends rest command h =
    let view = bind-is (number_field natural rest) _ command h in
    let number = bind-is (number_field natural view.0.1) _ command view.2 in
    let w = bind-is (number_field integer number.0.1) _ command number.2 in
    let l = bind-is (number_field integer w.0.1) _ command w.2 in
    let text = bind-is (text_field l.0.1) _ command l.2 in
    let view-is = number_field-is naturals rest view.0.0 view.0.1 view.1 in
    let number-is = number_field-is naturals view.0.1 number.0.0 number.0.1 number.1 in
    let w-is = number_field-is integers number.0.1 w.0.0 w.0.1 w.1 in
    let l-is = number_field-is integers w.0.1 l.0.0 l.0.1 l.1 in
    let text-is = text_field-is l.0.1 text.0.0 text.0.1 text.1 in
    last_field sends (SendMessage view.0.0 (record { number = number.0.0; w = w.0.0; l = l.0.0; text = text.0.0 })) command rest text.0.1 text.2 (view-is.1, number-is.1, w-is.1, l-is.1, text-is.1) refl
    (λ e. ap (λ bs. codes "send" ++ bs) (view-is.0 ∙ ap (λ bs. space ∷ spelled view.0.0 ++ bs) (number-is.0 ∙ ap (λ bs. space ∷ spelled number.0.0 ++ bs) (w-is.0 ∙ ap (λ bs. space ∷ spelled_int w.0.0 ++ bs) (l-is.0 ∙ ap (λ bs. space ∷ spelled_int l.0.0 ++ bs)
    (text-is.0 ∙ ap (λ bs. space ∷ quote ∷ (spelled_bytes text.0.0 ++ quote ∷ bs)) e))))))
command_of-is expects rest command h =
    let value = bind-is (number_field integer rest) _ command h in
    let value-is = number_field-is integers rest value.0.0 value.0.1 value.1 in
    last_field expects (Expect value.0.0) command rest value.0.1 value.2 value-is.1 refl
    (λ e. ap (λ bs. codes "expect" ++ bs) (value-is.0 ∙ ap (λ bs. space ∷ spelled_int value.0.0 ++ bs) e ∙ append-nil (space ∷ spelled_int value.0.0)))

-- A line that is read is the listing of its command; only version 2 has `expect`.
pub record IsLineOf (version : ℕ) (line : List ℕ) (command : Command) : Type 0 where
  pub listed : line ≡ listed_command command
  pub fits : FitsTypes command
  pub said : is_expect command ≡ true → version == 2 ≡ true

pub read_command-is : (version : ℕ) (line : List ℕ) (command : Command) → read_command version line ≡ Ok command → IsLineOf version line command
read_command-is version line command h =
    let verb = bind-is (ok_or (verb_in (verbs_of version) (word_of line)) UnknownCommand) _ command h in
    let named = verb_in-is version (word_of line) verb.0 (ok_or-is (verb_in (verbs_of version) (word_of line)) UnknownCommand verb.0 verb.1) in
    let read = command_of-is verb.0 (behind_word line) command verb.2 in
    record {
      listed = sym (word_and_rest line) ∙ ap (λ bs. bs ++ behind_word line) named.0 ∙ read.listed;
      fits = read.fits;
      said = λ is. named.1 (sym read.expecting ∙ is);
    }

-- The listing of a command is read.
either_version : (version : ℕ) (verb : Verb) → verb_in ((codes "expect", expects) ∷ verbs) (verb_word verb) ≡ Some verb → verb_in verbs (verb_word verb) ≡ Some verb → verb_in (verbs_of version) (verb_word verb) ≡ Some verb
either_version version verb second first = cond_both (version == 2) ((codes "expect", expects) ∷ verbs) verbs (λ entries. verb_in entries (verb_word verb) ≡ Some verb) (λ _. second) (λ _. first)

known_verb : (version : ℕ) (verb : Verb) → (is_expects verb ≡ true → version == 2 ≡ true) → verb_in (verbs_of version) (verb_word verb) ≡ Some verb
known_verb version opens says = either_version version opens refl refl
known_verb version closes says = either_version version closes refl refl
known_verb version loads says = either_version version loads refl refl
known_verb version sends says = either_version version sends refl refl
known_verb version expects says =
    let P : List (List ℕ × Verb) → Type 0 = λ entries. verb_in entries (codes "expect") ≡ Some expects in
    subst P (sym (cond-true (version == 2) ((codes "expect", expects) ∷ verbs) verbs (says refl))) refl

AreWordBytes-verb : (verb : Verb) → AreWordBytes (verb_word verb)
AreWordBytes-verb opens = are_word_bytes (codes "open") refl
AreWordBytes-verb closes = are_word_bytes (codes "close") refl
AreWordBytes-verb loads = are_word_bytes (codes "load") refl
AreWordBytes-verb sends = are_word_bytes (codes "send") refl
AreWordBytes-verb expects = are_word_bytes (codes "expect") refl

pub read_command-verb : (version : ℕ) (verb : Verb) (rest : List ℕ) (command : Command) → EndsWord rest → (is_expects verb ≡ true → version == 2 ≡ true) → command_of verb rest ≡ Ok command → read_command version (verb_word verb ++ rest) ≡ Ok command
read_command-verb version verb rest command ends says h =
    let line = verb_word verb ++ rest in
    let read : Verb → Result Command Cause = λ v. command_of v (behind_word line) in
    ap (λ word. ok_or (verb_in (verbs_of version) word) UnknownCommand >>= read) (word_of-word (verb_word verb) rest (AreWordBytes-verb verb) ends) ∙
    ap (λ o. ok_or o UnknownCommand >>= read) (known_verb version verb says) ∙
    ap (command_of verb) (behind_word-word (verb_word verb) rest (AreWordBytes-verb verb) ends) ∙ h

pub read_command-listed : (version : ℕ) (command : Command) → FitsTypes command → (is_expect command ≡ true → version == 2 ≡ true) → read_command version (listed_command command) ≡ Ok command
read_command-listed version OpenView fits says = read_command-verb version opens [] OpenView tt says refl
read_command-listed version (CloseView view) fits says =
    read_command-verb version closes (space ∷ spelled view) (CloseView view) refl says (ap (λ r. r >>= (λ (p : ℕ × List ℕ). ended (CloseView p.0) p.1)) (last_number naturals view fits))
read_command-listed version (LoadFile view file) fits says =
    read_command-verb version loads (space ∷ spelled view ++ (space ∷ spelled file)) (LoadFile view file) refl says (
    ap (λ r. r >>= (λ (p : ℕ × List ℕ). number_field natural p.1 >>= (λ (q : ℕ × List ℕ). ended (LoadFile p.0 q.0) q.1))) (number_field-spelled naturals view (space ∷ spelled file) fits.0 refl) ∙
    ap (λ r. r >>= (λ (q : ℕ × List ℕ). ended (LoadFile view q.0) q.1)) (last_number naturals file fits.1))
read_command-listed version (SendMessage view message) fits says =
    let text = space ∷ spelled_text message.text in
    let l = space ∷ spelled_int message.l ++ text in
    let w = space ∷ spelled_int message.w ++ l in
    let number = space ∷ spelled message.number ++ w in
    let made : ℕ → ℕ → ℤ → ℤ → List ℕ × List ℕ → Result Command Cause = λ v n x y p. ended (SendMessage v (record { number = n; w = x; l = y; text = p.0 })) p.1 in
    read_command-verb version sends (space ∷ spelled view ++ number) (SendMessage view message) refl says (
    ap (λ r. r >>= (λ (p : ℕ × List ℕ). number_field natural p.1 >>= (λ (q : ℕ × List ℕ). number_field integer q.1 >>= (λ (x : ℤ × List ℕ). number_field integer x.1 >>= (λ (y : ℤ × List ℕ). text_field y.1 >>= made p.0 q.0 x.0 y.0))))) (number_field-spelled naturals view number fits.0 refl) ∙
    ap (λ r. r >>= (λ (q : ℕ × List ℕ). number_field integer q.1 >>= (λ (x : ℤ × List ℕ). number_field integer x.1 >>= (λ (y : ℤ × List ℕ). text_field y.1 >>= made view q.0 x.0 y.0)))) (number_field-spelled naturals message.number w fits.1 refl) ∙
    ap (λ r. r >>= (λ (x : ℤ × List ℕ). number_field integer x.1 >>= (λ (y : ℤ × List ℕ). text_field y.1 >>= made view message.number x.0 y.0))) (number_field-spelled integers message.w l fits.2 refl) ∙
    ap (λ r. r >>= (λ (y : ℤ × List ℕ). text_field y.1 >>= made view message.number message.w y.0)) (number_field-spelled integers message.l text fits.3 refl) ∙
    ap (λ r. r >>= made view message.number message.w message.l) (text_field-spelled message.text fits.4))
read_command-listed version (Expect value) fits says =
    read_command-verb version expects (space ∷ spelled_int value) (Expect value) refl says (ap (λ r. r >>= (λ (p : ℤ × List ℕ). ended (Expect p.0) p.1)) (last_number integers value fits))
