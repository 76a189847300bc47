-- How the bytes of texts are spelled, and read back one after another.
use Rattle.std.proofs.Common.{◌≡◌, ℕ, zero, suc, ◌-◌, ◌<◌, Bool, true, false, cond, List, [], ◌∷◌, ◌++◌, length, drop, refl, sym, ◌∙◌, ap, subst, arith, Err, drop_at, length-append, ◌/◌, ◌%◌, ◌||◌}
use Rattle.std.specs.Prelude.{nat_le, ◌==◌, ◌&&◌, not, slice_index}
use Rattle.std.proofs.lemmas.Bool.{cond-true, cond-false, eqb-true, agree_below_at, not-true}
use Rattle.ed_types.specs.declared.script.Cause.TheVariants.{BadText}
use Rattle.ed_model.specs.Spelling.{quote, backslash, spelled_byte, hex_digit}
use Rattle.ed_model.specs.Reading.{front_byte, spells_front, with_byte, text_past}

-- the byte that is read from the front of a spelling is the byte that is spelled
pub front_byte-spelled : (b : ℕ) (rest : List ℕ) → b < 256 → front_byte (spelled_byte b ++ rest) ≡ b
front_byte-spelled b rest h = eqb-true _ _ (agree_below_at (λ c. front_byte (spelled_byte c ++ rest) == c) (λ c. true) 256 b refl h)

-- a spelling passes the test of being the spelling of its byte
pub spells_front-spelled : (b : ℕ) (rest : List ℕ) → b < 256 → spells_front (spelled_byte b ++ rest) b ≡ true
spells_front-spelled b rest h = agree_below_at (λ c. spells_front (spelled_byte c ++ rest) c) (λ c. true) 256 b refl h

-- no spelling of a byte begins with a quote
pub spelled_byte_is_no_quote : (b : ℕ) (rest : List ℕ) → b < 256 → slice_index (spelled_byte b ++ rest) 0 == quote ≡ false
spelled_byte_is_no_quote b rest h = not-true _ (agree_below_at (λ c. not (slice_index (spelled_byte c ++ rest) 0 == quote)) (λ c. true) 256 b refl h)

-- if P holds for each of three values, it holds for the one that two tests choose
chosen : {X : Type 0} (P : X → Type 0) (t u : Bool) (x y z : X) → P x → P y → P z → P (cond t x (cond u y z))
chosen P true u x y z first second third = first
chosen P false true x y z first second third = second
chosen P false false x y z first second third = third

-- no spelling is empty
pub length-spelled_byte-pos : (b : ℕ) → 0 < length (spelled_byte b)
length-spelled_byte-pos b = chosen (λ bytes. 0 < length bytes) (b == quote || b == backslash) (nat_le 0x20 b && nat_le b 0x7E) (backslash ∷ b ∷ []) (b ∷ []) (backslash ∷ 0x78 ∷ hex_digit (b / 16) ∷ hex_digit (b % 16) ∷ []) (omega arith) (omega arith) (omega arith)

-- the bytes that were read already are skipped
pub text_past-drop : (passed : ℕ) (bs : List ℕ) → text_past passed bs ≡ text_past 0 (drop passed bs)
text_past-drop zero [] = refl
text_past-drop zero (b ∷ bs) = refl
text_past-drop (suc passed) [] = refl
text_past-drop (suc passed) (b ∷ bs) = text_past-drop passed bs

-- reading a byte: the byte at the front is read, and then the text after its spelling
pub text_past-step : (bs : List ℕ) (b : ℕ) → 0 < length bs → slice_index bs 0 == quote ≡ false → front_byte bs ≡ b → spells_front bs b ≡ true → text_past 0 bs ≡ with_byte b (text_past 0 (drop (length (spelled_byte b)) bs))
text_past-step [] b some other front spells = absurd (omega arith)
text_past-step (c ∷ cs) b some other front spells =
    let P : ℕ → Type 0 = λ v. cond (spells_front (c ∷ cs) v) (with_byte v (text_past (length (spelled_byte v) - 1) cs)) (Err BadText) ≡ with_byte b (text_past 0 (drop (length (spelled_byte b)) (c ∷ cs))) in
    let positive = length-spelled_byte-pos b in
    let count : length (spelled_byte b) ≡ suc (length (spelled_byte b) - 1) = omega arith in
    let rest : text_past (length (spelled_byte b) - 1) cs ≡ text_past 0 (drop (length (spelled_byte b)) (c ∷ cs)) =
    text_past-drop (length (spelled_byte b) - 1) cs ∙ ap (λ n. text_past 0 (drop n (c ∷ cs))) (sym count) in
    cond-false _ _ _ other ∙ subst P (sym front) (cond-true _ _ _ spells ∙ ap (with_byte b) rest)

-- the spelling of a byte is read as that byte, and then the text after it
pub text_past-spelled_byte : (b : ℕ) (rest : List ℕ) → b < 256 → text_past 0 (spelled_byte b ++ rest) ≡ with_byte b (text_past 0 rest)
text_past-spelled_byte b rest h =
    let some : 0 < length (spelled_byte b ++ rest) = omega (arith, length-append (spelled_byte b) rest, length-spelled_byte-pos b) in
    text_past-step _ b some (spelled_byte_is_no_quote b rest h) (front_byte-spelled b rest h) (spells_front-spelled b rest h) ∙ ap (λ bs. with_byte b (text_past 0 bs)) (drop_at (spelled_byte b) rest _ refl)
