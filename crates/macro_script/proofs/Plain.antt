-- Bytes that are spelled by themselves, and their reading.
use Rattle.macro_script.proofs.Names.{◌≡◌, ◌≢◌, ℕ, zero, suc, ◌+◌, ◌<◌, ◌≤◌, List, [], ◌∷◌, ◌++◌, length, get_or, take, drop, refl, sym, ◌∙◌, ap, subst, arith, Result, Ok, Err, append_assoc, append-nil, length-drop, drop-drop, get_or-drop, slice_range, ◌-◌, take_rest, ◌==◌, ◌&&◌, ◌||◌, nat_le, eq-eqb, ne_eqb, le-leb, or_from, and_from, cond-true, cond-false, Cause, quote, backslash, spelled_byte, text_past, with_byte}
use Rattle.ed_types.specs.declared.script.Cause.TheVariants.{BadText}
use Rattle.macro_script.specs.Fronts.{IsFront}
use Rattle.macro_script.specs.declared.texts.Front.TheVariants.{Closing, Byte, Wrong}
use Rattle.ed_model.specs.proved.Texts.{text_past-spelled_byte}

abbrev pub ArePlainBefore : List ℕ → ℕ → Type 0
ArePlainBefore text i = (k : ℕ) → k < i → spelled_byte (get_or text k 0) ≡ get_or text k 0 ∷ []

pub plain_byte : (b : ℕ) → 0x20 ≤ b → b ≤ 0x7E → b ≢ quote → b ≢ backslash → spelled_byte b ≡ b ∷ []
plain_byte b low high a c =
    cond-false (b == quote || b == backslash) _ _ (or_from _ _ (ne_eqb b quote a) (ne_eqb b backslash c)) ∙
    cond-true (nat_le 0x20 b && nat_le b 0x7E) _ _ (and_from _ _ (le-leb 0x20 b low) (le-leb b 0x7E high))

-- bytes before what is read
abbrev pub with_bytes : List ℕ → Result (List ℕ × List ℕ) Cause → Result (List ℕ × List ℕ) Cause
with_bytes bytes (Ok read) = Ok (bytes ++ read.0, read.1)
with_bytes bytes (Err cause) = Err cause

pub with_bytes-append : (xs ys : List ℕ) (read : Result (List ℕ × List ℕ) Cause) → with_bytes xs (with_bytes ys read) ≡ with_bytes (xs ++ ys) read
with_bytes-append xs ys (Ok read) = ap (λ text. Ok (text, read.1)) (sym (append_assoc xs ys read.0))
with_bytes-append xs ys (Err cause) = refl

pub with_byte-one : (b : ℕ) (read : Result (List ℕ × List ℕ) Cause) → with_byte b read ≡ with_bytes (b ∷ []) read
with_byte-one b (Ok read) = refl
with_byte-one b (Err cause) = refl

with_bytes-none : (read : Result (List ℕ × List ℕ) Cause) → with_bytes [] read ≡ read
with_bytes-none (Ok read) = refl
with_bytes-none (Err cause) = refl

-- a run of bytes that are spelled by themselves
pub run_is_read : (n : ℕ) (text : List ℕ) → n ≤ length text → ArePlainBefore text n → ((k : ℕ) → get_or text k 0 < 256) → text_past 0 text ≡ with_bytes (take n text) (text_past 0 (drop n text))
run_is_read zero text h plain bytes = sym (with_bytes-none (text_past 0 text))
run_is_read (suc n) [] h plain bytes = absurd (omega arith)
run_is_read (suc n) (b ∷ bs) h plain bytes =
    ap (λ front. text_past 0 (front ++ bs)) (sym (plain 0 (omega arith))) ∙ text_past-spelled_byte b bs (bytes 0) ∙
    ap (with_byte b) (run_is_read n bs (omega arith) (λ k low. plain (suc k) (omega arith)) (λ k. bytes (suc k))) ∙
    with_byte-one b (with_bytes (take n bs) (text_past 0 (drop n bs))) ∙ with_bytes-append (b ∷ []) (take n bs) (text_past 0 (drop n bs))

-- The state of reading a spelling: the first `at` bytes of it gave these bytes.
pub record IsReadSoFar (spelling : List ℕ) (at : ℕ) (bytes : List ℕ) : Type 0 where
  pub within : at ≤ length spelling
  pub read : text_past 0 spelling ≡ with_bytes bytes (text_past 0 (drop at spelling))

-- the run at the front, if nothing else has been read
pub read_first_run : (spelling : List ℕ) (n : ℕ) (copied : List ℕ) → n ≤ length spelling → ArePlainBefore spelling n → ((k : ℕ) → get_or spelling k 0 < 256) → copied ≡ take n spelling → IsReadSoFar spelling n copied
read_first_run spelling n copied h plain all is = subst (IsReadSoFar spelling n) (sym is) (record { within = h; read = run_is_read n spelling h plain all })

pub read_run : (spelling : List ℕ) (at n : ℕ) (bytes : List ℕ) → IsReadSoFar spelling at bytes → n ≤ length (drop at spelling) → ArePlainBefore (drop at spelling) n → ((k : ℕ) → get_or (drop at spelling) k 0 < 256) → IsReadSoFar spelling (at + n) (bytes ++ take n (drop at spelling))
read_run spelling at n bytes so_far h plain all = record {
  within = omega (arith, length-drop at spelling, so_far.within);
  read = so_far.read ∙ ap (with_bytes bytes) (run_is_read n (drop at spelling) h plain all) ∙ with_bytes-append bytes (take n (drop at spelling)) (text_past 0 (drop n (drop at spelling))) ∙
      ap (λ rest. with_bytes (bytes ++ take n (drop at spelling)) (text_past 0 rest)) (drop-drop n at spelling);
}

pub read_byte : (spelling : List ℕ) (at n b : ℕ) (bytes : List ℕ) → IsReadSoFar spelling at bytes → n ≤ length (drop at spelling) → text_past 0 (drop at spelling) ≡ with_byte b (text_past 0 (drop n (drop at spelling))) → IsReadSoFar spelling (at + n) (bytes ++ b ∷ [])
read_byte spelling at n b bytes so_far h front = record {
  within = omega (arith, length-drop at spelling, so_far.within);
  read = so_far.read ∙ ap (with_bytes bytes) (front ∙ with_byte-one b (text_past 0 (drop n (drop at spelling)))) ∙ with_bytes-append bytes (b ∷ []) (text_past 0 (drop n (drop at spelling))) ∙
      ap (λ rest. with_bytes (bytes ++ b ∷ []) (text_past 0 rest)) (drop-drop n at spelling);
}

pub read_close : (spelling : List ℕ) (at : ℕ) (bytes : List ℕ) → IsReadSoFar spelling at bytes → 0 < length (drop at spelling) → text_past 0 (drop at spelling) ≡ Ok ([], drop 1 (drop at spelling)) → (text_past 0 spelling ≡ Ok (bytes, drop (at + 1) spelling)) × (at + 1 ≤ length spelling)
read_close spelling at bytes so_far h front = (
  so_far.read ∙ ap (with_bytes bytes) front ∙ ap (λ text. Ok (text, drop 1 (drop at spelling))) (append-nil bytes) ∙ ap (λ rest. Ok (bytes, rest)) (drop-drop 1 at spelling),
  omega (arith, length-drop at spelling, so_far.within),
)

-- what `&spelling[at..]` is
abbrev pub tail : List ℕ → ℕ → List ℕ
tail spelling at = slice_range spelling at (length spelling)

-- behind a run that was copied
pub read_copied : (spelling : List ℕ) (at n : ℕ) (bytes copied : List ℕ) → IsReadSoFar spelling at bytes → n ≤ length (tail spelling at) → ArePlainBefore (tail spelling at) n → ((k : ℕ) → get_or spelling k 0 < 256) → copied ≡ bytes ++ slice_range spelling at (at + n) → IsReadSoFar spelling (at + n) copied
read_copied spelling at n bytes copied so_far h plain all is =
    let count : at + n - at ≡ n = omega arith in
    let rest = take_rest spelling at in
    let P : List ℕ → Type 0 = λ bs. IsReadSoFar spelling (at + n) bs in
    let Short : List ℕ → Type 0 = λ bs. n ≤ length bs in
    let IsByte : ℕ → Type 0 = λ b. b < 256 in
    let so : IsReadSoFar spelling (at + n) (bytes ++ take n (drop at spelling)) =
    read_run spelling at n bytes so_far (subst Short rest h) (subst (λ bs. ArePlainBefore bs n) rest plain) (λ k. subst IsByte (sym (get_or-drop at spelling k 0)) (all (at + k))) in
    subst P (sym (is ∙ ap (λ m. bytes ++ take m (drop at spelling)) count)) so

pub read_front : (spelling : List ℕ) (at n b : ℕ) (bytes pushed : List ℕ) → IsReadSoFar spelling at bytes → IsFront (tail spelling at) (Byte b n) → pushed ≡ bytes ++ b ∷ [] → IsReadSoFar spelling (at + n) pushed
read_front spelling at n b bytes pushed so_far front is =
    let at-front : IsFront (drop at spelling) (Byte b n) = subst (λ bs. IsFront bs (Byte b n)) (take_rest spelling at) front in
    subst (IsReadSoFar spelling (at + n)) (sym is) (read_byte spelling at n b bytes so_far at-front.1 at-front.2)

pub read_closing : (spelling : List ℕ) (at : ℕ) (bytes text : List ℕ) → IsReadSoFar spelling at bytes → IsFront (tail spelling at) Closing → text ≡ bytes → (text_past 0 spelling ≡ Ok (text, drop (at + 1) spelling)) × (at + 1 ≤ length spelling)
read_closing spelling at bytes text so_far front is =
    let at-front : IsFront (drop at spelling) Closing = subst (λ bs. IsFront bs Closing) (take_rest spelling at) front in
    let P : List ℕ → Type 0 = λ t. (text_past 0 spelling ≡ Ok (t, drop (at + 1) spelling)) × (at + 1 ≤ length spelling) in
    subst P (sym is) (read_close spelling at bytes so_far at-front.0 at-front.1)

pub read_wrong : (spelling : List ℕ) (at : ℕ) (bytes : List ℕ) → IsReadSoFar spelling at bytes → IsFront (tail spelling at) Wrong → text_past 0 spelling ≡ Err BadText
read_wrong spelling at bytes so_far front =
    let at-front : IsFront (drop at spelling) Wrong = subst (λ bs. IsFront bs Wrong) (take_rest spelling at) front in
    so_far.read ∙ ap (with_bytes bytes) at-front

-- a text that is one run, with its closing quote
closed : (text : List ℕ) → get_or text 0 0 ≡ quote → (0 < length text) × (text_past 0 text ≡ Ok ([], drop 1 text))
closed [] is = cc
closed (b ∷ bs) is = (omega arith, cond-true (b == quote) _ _ (eq-eqb b quote is))

pub read_plain : (spelling : List ℕ) (n : ℕ) (text : List ℕ) → n ≤ length spelling → ArePlainBefore spelling n → ((k : ℕ) → get_or spelling k 0 < 256) → get_or spelling n 0 ≡ quote → text ≡ take n spelling → (text_past 0 spelling ≡ Ok (text, drop (n + 1) spelling)) × (n + 1 ≤ length spelling)
read_plain spelling n text h plain all is copied =
    let place : n + 0 ≡ n = omega arith in
    let end = closed (drop n spelling) (get_or-drop n spelling 0 0 ∙ ap (λ k. get_or spelling k 0) place ∙ is) in
    read_close spelling n text (read_first_run spelling n text h plain all copied) end.0 end.1
