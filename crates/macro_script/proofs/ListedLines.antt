-- Lines as they are listed.
use Rattle.macro_script.proofs.Names.{◌≡◌, ℕ, ℤ, pos, List, [], ◌∷◌, ◌++◌, length, take, refl, sym, ◌∙◌, ap, append_assoc, codes, map, Some, Ok, ◌≤◌, join_with_byte, with_text, printed_note, Message, Command, SendMessage, space, spelled_int, spelled_text, listed_command, ended_line, listing, ListingsAreRead, IsScript, reading, line_of, number_fields}
use Rattle.std.proofs.Common.{take_all}
use Rattle.ed_types.specs.declared.reply.Note.{Note}
use Rattle.macro_script.specs.Notes.{numbers_of_note}

-- the listing of the first commands
abbrev pub listed_so_far : List Command → List ℕ
listed_so_far commands = listing 2 commands

-- fields with single spaces between, the last of them a text
joined_fields : (word text : List ℕ) (numbers : List ℤ) → join_with_byte space (word ∷ (map spelled_int numbers ++ text ∷ [])) ≡ word ++ (number_fields numbers ++ (space ∷ text))
joined_fields word text [] = refl
joined_fields word text (z ∷ zs) =
    ap (λ bs. word ++ (space ∷ bs)) (joined_fields (spelled_int z) text zs) ∙
    ap (λ bs. word ++ bs) (sym (append_assoc (space ∷ spelled_int z) (number_fields zs) (space ∷ text)))

pub line_with_text : (word text : List ℕ) (numbers : List ℤ) → line_of word numbers (Some text) ≡ ended_line (join_with_byte space (word ∷ (map spelled_int numbers ++ spelled_text text ∷ [])))
line_with_text word text numbers =
    sym (ap (λ bs. bs ++ 10 ∷ []) (joined_fields word (spelled_text text) numbers) ∙
    append_assoc word (number_fields numbers ++ (space ∷ spelled_text text)) (10 ∷ []) ∙
    ap (λ bs. word ++ bs) (append_assoc (number_fields numbers) (space ∷ spelled_text text) (10 ∷ [])))

pub send_line : (view : ℕ) (message : Message) → line_of (codes "send") (pos view ∷ pos message.number ∷ message.w ∷ message.l ∷ []) (Some message.text) ≡ ended_line (listed_command (SendMessage view message))
send_line view message = line_with_text (codes "send") message.text (pos view ∷ pos message.number ∷ message.w ∷ message.l ∷ [])

pub note_line : (note : Note) (text : List ℕ) → line_of (codes "@") (numbers_of_note note) (Some text) ≡ printed_note (with_text note text)
note_line note text = line_with_text (codes "@") text (numbers_of_note note)

-- a whole listing is read back
pub whole_read_back : ListingsAreRead → (text : List ℕ) (items commands : List Command) (i : ℕ) → text ≡ listing 2 (take i items) → length items ≤ i → items ≡ commands → IsScript 2 commands → reading text ≡ Ok commands
whole_read_back law text items commands i is done same script =
    ap reading (is ∙ ap (listing 2) (take_all i items done ∙ same)) ∙ law 2 commands script
