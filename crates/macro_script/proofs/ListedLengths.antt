-- Lengths of spelled texts and of listed commands.
use Rattle.macro_script.proofs.Names.{◌≡◌, ℕ, suc, ◌+◌, ◌<◌, ◌≤◌, List, [], ◌∷◌, ◌++◌, length, get_or, take, drop, sym, ◌∙◌, ap, arith, take-append-drop, length-append, append-nil, flat_map-append, AllByRecursion, take_more, Message, SendMessage, listed_command, space, quote, spelled, spelled_int, spelled_byte, spelled_bytes, spelled_text}

-- the length of the spelling of the first bytes, within the limit of a line
pub record IsLengthSoFar (text : List ℕ) (i len : ℕ) : Type 0 where
  pub is : len ≡ length (spelled_bytes (take i text))
  pub within : len ≤ 65536

pub one_byte_more : (text : List ℕ) (i len more : ℕ) → i < length text → IsLengthSoFar text i len → more ≡ length (spelled_byte (get_or text i 0)) → len + more ≡ length (spelled_bytes (take (i + 1) text))
one_byte_more text i len more h so_far is =
    let split = ap (λ bytes. length (spelled_bytes bytes)) (take_more text i 0 h) ∙ ap length (flat_map-append spelled_byte (take i text) (get_or text i 0 ∷ [])) ∙ length-append (spelled_bytes (take i text)) (spelled_byte (get_or text i 0) ++ []) in
    let last = ap length (append-nil (spelled_byte (get_or text i 0))) in
    omega (arith, so_far.is, split, last, is)

-- a part's spelling is no longer than the whole's
pub part_is_shorter : (text : List ℕ) (i : ℕ) → length (spelled_bytes (take i text)) ≤ length (spelled_bytes text)
part_is_shorter text i =
    let whole = ap (λ bytes. length (spelled_bytes bytes)) (sym (take-append-drop i text)) ∙ ap length (flat_map-append spelled_byte (take i text) (drop i text)) in
    omega (arith, whole, length-append (spelled_bytes (take i text)) (spelled_bytes (drop i text)))

pub length-send : (view : ℕ) (message : Message) → length (listed_command (SendMessage view message)) ≡ 4 + (length (spelled view) + 1) + (length (spelled message.number) + 1) + (length (spelled_int message.w) + 1) + (length (spelled_int message.l) + 1) + 3 + length (spelled_bytes message.text)
length-send view message =
    let text = space ∷ spelled_text message.text in
    let l = space ∷ spelled_int message.l ++ text in
    let w = space ∷ spelled_int message.w ++ l in
    let number = space ∷ spelled message.number ++ w in
    omega (arith, length-append (spelled view) number, length-append (spelled message.number) w, length-append (spelled_int message.w) l, length-append (spelled_int message.l) text, length-append (spelled_bytes message.text) (quote ∷ []))

-- the items of a slice of bytes are bytes
pub are_bytes : (bytes : List ℕ) → ((k : ℕ) → get_or bytes k 0 < 256) → AllByRecursion (λ b. b < 256) bytes
are_bytes [] all = tt
are_bytes (b ∷ bs) all = (all 0, are_bytes bs (λ k. all (suc k)))
