-- Texts appended piece by piece.
use Rattle.macro_script.proofs.Names.{◌≡◌, ℕ, zero, suc, ◌+◌, ◌<◌, ◌≤◌, ℤ, List, [], ◌∷◌, ◌++◌, length, take, drop, refl, sym, ◌∙◌, ap, subst, arith, Result, Ok, Err, append_assoc, append-nil, take-append-drop, get_or, pos, IsErr, take-add, length-drop, ◌-◌, slice_get, Some, flat_map, take_more, drop_more, take_rest, flat_map-append, line_feed, space, quote, spelled_int, spelled_byte, spelled_bytes, spelled_text, Appends, AppendsPart, AppendsSome, number_fields}
use Rattle.macro_script.proofs.Plain.{ArePlainBefore, tail}
use Rattle.std.specs.declared.alloc.AllocError.{AllocError}

-- a first piece, and then another
pub then_part : (old mid new first second : List ℕ) → mid ≡ old ++ first → AppendsPart mid new second → AppendsPart old new (first ++ second)
then_part old mid new first second is more = record {
  part = first ++ more.part;
  left = more.left;
  split = ap (λ bs. first ++ bs) more.split ∙ sym (append_assoc first more.part more.left);
  appended = more.appended ∙ ap (λ bs. bs ++ more.part) is ∙ append_assoc old first more.part;
}

pub then_piece : (old mid new first second : List ℕ) → mid ≡ old ++ first → new ≡ mid ++ second → new ≡ old ++ (first ++ second)
then_piece old mid new first second is more = more ∙ ap (λ bs. bs ++ second) is ∙ append_assoc old first second

pub then_all : (old mid new first second : List ℕ) (r : Result (Unit {0}) AllocError) → mid ≡ old ++ first → Appends second mid new r → Appends (first ++ second) old new r
then_all old mid new first second (Ok done) is more = then_piece old mid new first second is more
then_all old mid new first second (Err refused) is more = then_part old mid new first second is more

-- a part of the first piece is a part of both
pub first_part : (old new first second : List ℕ) → AppendsPart old new first → AppendsPart old new (first ++ second)
first_part old new first second some = record {
  part = some.part;
  left = some.left ++ second;
  split = ap (λ bs. bs ++ second) some.split ∙ append_assoc some.part some.left second;
  appended = some.appended;
}

-- the same for an equal text
pub in_words : (first second old new : List ℕ) (r : Result (Unit {0}) AllocError) → first ≡ second → Appends first old new r → Appends second old new r
in_words first second old new r same h = subst (λ text. Appends text old new r) same h

-- the end of a line as the pieces that are appended: a space and a quote, the text, and a quote and the LF
pub text_end : (text : List ℕ) → (space ∷ spelled_text text) ++ line_feed ∷ [] ≡ (space ∷ quote ∷ []) ++ (spelled_bytes text ++ quote ∷ line_feed ∷ [])
text_end text = ap (λ bs. space ∷ quote ∷ bs) (append_assoc (spelled_bytes text) (quote ∷ []) (line_feed ∷ []))

-- A run of bytes that stand for themselves is its own spelling.
pub plain_run : (n : ℕ) (text : List ℕ) → n ≤ length text → ArePlainBefore text n → spelled_bytes (take n text) ≡ take n text
plain_run zero text h plain = refl
plain_run (suc n) [] h plain = absurd (omega arith)
plain_run (suc n) (b ∷ bs) h plain =
    ap (λ front. front ++ spelled_bytes (take n bs)) (plain 0 (omega arith)) ∙ ap (λ rest. b ∷ rest) (plain_run n bs (omega arith) (λ k low. plain (suc k) (omega arith)))

-- the spelling in two parts
pub spelled_split : (n : ℕ) (text : List ℕ) → spelled_bytes text ≡ spelled_bytes (take n text) ++ spelled_bytes (drop n text)
spelled_split n text = ap spelled_bytes (sym (take-append-drop n text)) ∙ flat_map-append spelled_byte (take n text) (drop n text)

pub part_of_front : (n : ℕ) (text old new : List ℕ) → AppendsPart old new (spelled_bytes (take n text)) → AppendsPart old new (spelled_bytes text)
part_of_front n text old new some = subst (AppendsPart old new) (sym (spelled_split n text)) (first_part old new (spelled_bytes (take n text)) (spelled_bytes (drop n text)) some)

pub part_of_rest : (n : ℕ) (text old mid new : List ℕ) → mid ≡ old ++ spelled_bytes (take n text) → AppendsPart mid new (spelled_bytes (drop n text)) → AppendsPart old new (spelled_bytes text)
part_of_rest n text old mid new is some = subst (AppendsPart old new) (sym (spelled_split n text)) (then_part old mid new (spelled_bytes (take n text)) (spelled_bytes (drop n text)) is some)

-- numbers in two parts
pub fields_split : (n : ℕ) (numbers : List ℤ) → number_fields numbers ≡ number_fields (take n numbers) ++ number_fields (drop n numbers)
fields_split n numbers = ap number_fields (sym (take-append-drop n numbers)) ∙ flat_map-append (λ z. space ∷ spelled_int z) (take n numbers) (drop n numbers)

-- a step after which an allocation had failed
pub stopped : (text old new : List ℕ) (r : Result (Unit {0}) AllocError) → IsErr r → AppendsPart old new text → Appends text old new r
stopped text old new (Ok done) is some = cc
stopped text old new (Err refused) is some = some

pub stopped_some : (text old new : List ℕ) (r : Result ℕ AllocError) → IsErr r → AppendsPart old new (spelled_bytes text) → AppendsSome text old new r
stopped_some text old new (Ok n) is some = cc
stopped_some text old new (Err refused) is some = some

-- one more number
pub one_field_more : (numbers : List ℤ) (i : ℕ) (old mid new : List ℕ) → i < length numbers → mid ≡ old ++ number_fields (take i numbers) → new ≡ mid ++ (space ∷ spelled_int (get_or numbers i (pos 0))) → new ≡ old ++ number_fields (take (i + 1) numbers)
one_field_more numbers i old mid new h so_far more =
    let z = get_or numbers i (pos 0) in
    let split : number_fields (take (i + 1) numbers) ≡ number_fields (take i numbers) ++ (space ∷ spelled_int z) =
    ap number_fields (take_more numbers i (pos 0) h) ∙ flat_map-append (λ y. space ∷ spelled_int y) (take i numbers) (z ∷ []) ∙ ap (λ bs. number_fields (take i numbers) ++ bs) (append-nil (space ∷ spelled_int z)) in
    then_piece old mid new (number_fields (take i numbers)) (space ∷ spelled_int z) so_far more ∙ ap (λ bs. old ++ bs) (sym split)

pub field_stopped : (numbers : List ℤ) (i : ℕ) (old mid new : List ℕ) → i < length numbers → mid ≡ old ++ number_fields (take i numbers) → AppendsPart mid new (space ∷ spelled_int (get_or numbers i (pos 0))) → AppendsPart old new (number_fields numbers)
field_stopped numbers i old mid new h so_far some =
    let z = get_or numbers i (pos 0) in
    let rest = drop (i + 1) numbers in
    let split : number_fields (drop i numbers) ≡ (space ∷ spelled_int z) ++ number_fields rest = ap number_fields (drop_more numbers i (pos 0) h) in
    let P : List ℕ → Type 0 = λ text. AppendsPart mid new text in
    let there : AppendsPart mid new (number_fields (drop i numbers)) = subst P (sym split) (first_part mid new (space ∷ spelled_int z) (number_fields rest) some) in
    subst (AppendsPart old new) (sym (fields_split i numbers)) (then_part old mid new (number_fields (take i numbers)) (number_fields (drop i numbers)) so_far there)

-- a run or a byte of a text
pub some_is_run : (text old new : List ℕ) (n : ℕ) → n ≤ length text → ArePlainBefore text n → AppendsPart old new (take n text) → AppendsPart old new (spelled_bytes text)
some_is_run text old new n h plain some = part_of_front n text old new (subst (AppendsPart old new) (sym (plain_run n text h plain)) some)

pub run_appended : (text old new : List ℕ) (n : ℕ) → n ≤ length text → ArePlainBefore text n → new ≡ old ++ take n text → new ≡ old ++ spelled_bytes (take n text)
run_appended text old new n h plain is = is ∙ ap (λ bs. old ++ bs) (sym (plain_run n text h plain))

pub byte_at_front : (text : List ℕ) → 0 < length text → spelled_bytes (take 1 text) ≡ spelled_byte (get_or text 0 0)
byte_at_front [] h = absurd (omega arith)
byte_at_front (b ∷ bs) h = append-nil (spelled_byte b)

-- the rest of a text
pub rest_appended : (text old mid new : List ℕ) (at n : ℕ) → mid ≡ old ++ spelled_bytes (take at text) → (n ≤ length (tail text at)) → new ≡ mid ++ spelled_bytes (take n (tail text at)) → new ≡ old ++ spelled_bytes (take (at + n) text)
rest_appended text old mid new at n so_far h more =
    let rest = ap (take n) (take_rest text at) in
    let split : take (at + n) text ≡ take at text ++ take n (drop at text) = take-add at n text in
    then_piece old mid new (spelled_bytes (take at text)) (spelled_bytes (take n (tail text at))) so_far more ∙
    ap (λ bs. old ++ (spelled_bytes (take at text) ++ spelled_bytes bs)) rest ∙
    ap (λ bs. old ++ bs) (sym (ap spelled_bytes split ∙ flat_map-append spelled_byte (take at text) (take n (drop at text))))

pub rest_stopped : (text old mid new : List ℕ) (at : ℕ) → mid ≡ old ++ spelled_bytes (take at text) → AppendsPart mid new (spelled_bytes (tail text at)) → AppendsPart old new (spelled_bytes text)
rest_stopped text old mid new at so_far some = part_of_rest at text old mid new so_far (subst (λ bs. AppendsPart mid new (spelled_bytes bs)) (take_rest text at) some)

pub tail_length : (text : List ℕ) (at : ℕ) → length (tail text at) ≡ length text - at
tail_length text at = ap length (take_rest text at) ∙ length-drop at text

-- the byte at the front, spelled
pub byte_stopped : (text bytes old new : List ℕ) → 0 < length text → bytes ≡ spelled_byte (get_or text 0 0) → AppendsPart old new bytes → AppendsPart old new (spelled_bytes text)
byte_stopped text bytes old new h is some = part_of_front 1 text old new (subst (AppendsPart old new) (is ∙ sym (byte_at_front text h)) some)

-- an allocation failed at the byte at the front
pub byte_refused : (text old new : List ℕ) (r : Result ℕ AllocError) → IsErr r → 0 < length text → AppendsPart old new (spelled_byte (get_or text 0 0)) → AppendsSome text old new r
byte_refused text old new r refused h some = stopped_some text old new r refused (byte_stopped text (spelled_byte (get_or text 0 0)) old new h refl some)

-- Successive pieces of a list.
take_item : {X : Type 0} (xs : List X) (i : ℕ) (x : X) → slice_get xs i ≡ Some x → (take (i + 1) xs ≡ take i xs ++ x ∷ []) × (drop i xs ≡ x ∷ drop (i + 1) xs)
take_item [] i x h = cc
take_item (y ∷ ys) zero x h = let same : y ≡ x = cc in (ap (λ z. z ∷ []) same, ap (λ z. z ∷ ys) same)
take_item (y ∷ ys) (suc i) x h =
    let rest = take_item ys i x h in
    let count : suc i + 1 ≡ suc (i + 1) = omega arith in
    (ap (λ n. take n (y ∷ ys)) count ∙ ap (λ zs. y ∷ zs) rest.0, rest.1 ∙ ap (λ n. x ∷ drop n (y ∷ ys)) (sym count))

pub one_item_more : {X : Type 0} (f : X → List ℕ) (xs : List X) (i : ℕ) (x : X) (old mid new : List ℕ) → slice_get xs i ≡ Some x → mid ≡ old ++ flat_map f (take i xs) → new ≡ mid ++ f x → new ≡ old ++ flat_map f (take (i + 1) xs)
one_item_more f xs i x old mid new h so_far more =
    let split = ap (flat_map f) (take_item xs i x h).0 ∙ flat_map-append f (take i xs) (x ∷ []) ∙ ap (λ bs. flat_map f (take i xs) ++ bs) (append-nil (f x)) in
    then_piece old mid new (flat_map f (take i xs)) (f x) so_far more ∙ ap (λ bs. old ++ bs) (sym split)

pub item_stopped : {X : Type 0} (f : X → List ℕ) (xs : List X) (i : ℕ) (x : X) (old mid new : List ℕ) → slice_get xs i ≡ Some x → mid ≡ old ++ flat_map f (take i xs) → AppendsPart mid new (f x) → AppendsPart old new (flat_map f xs)
item_stopped f xs i x old mid new h so_far some =
    let whole : flat_map f xs ≡ flat_map f (take i xs) ++ (f x ++ flat_map f (drop (i + 1) xs)) =
    ap (flat_map f) (sym (take-append-drop i xs)) ∙ flat_map-append f (take i xs) (drop i xs) ∙ ap (λ ys. flat_map f (take i xs) ++ flat_map f ys) (take_item xs i x h).1 in
    subst (AppendsPart old new) (sym whole) (then_part old mid new (flat_map f (take i xs)) (f x ++ flat_map f (drop (i + 1) xs)) so_far (first_part mid new (f x) (flat_map f (drop (i + 1) xs)) some))
