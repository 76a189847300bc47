-- How texts are spelled, and read back.
use Rattle.ed_model.proofs.Names.{◌≡◌, ℕ, zero, suc, ◌-◌, ◌<◌, true, cond, List, [], ◌∷◌, ◌++◌, length, drop, refl, sym, ◌∙◌, ap, subst, arith, Result, Ok, Err, append_assoc, inl, inr, nat_lt, nat_eq, ◌==◌, AllByRecursion, starts_with, cond-true, cond-false, and_parts, ltb-true, eqb-true, cases_Bool, Decides-eqb, Cause, BadText, quote, spelled_byte, spelled_bytes, front_byte, spells_front, with_byte, text_past}
use Rattle.std.proofs.lemmas.Slice.Eq.{starts_is}
use Rattle.ed_model.specs.proved.Texts.{length-spelled_byte-pos, text_past-spelled_byte}

abbrev pub AreBytes : List ℕ → Type 0
AreBytes bytes = AllByRecursion (λ b. b < 256) bytes

pub text_past-spelled : (text rest : List ℕ) → AreBytes text → text_past 0 (spelled_bytes text ++ quote ∷ rest) ≡ Ok (text, rest)
text_past-spelled [] rest all = refl
text_past-spelled (b ∷ bs) rest all =
    ap (text_past 0) (append_assoc (spelled_byte b) (spelled_bytes bs) (quote ∷ rest)) ∙ text_past-spelled_byte b (spelled_bytes bs ++ quote ∷ rest) all.0 ∙ ap (with_byte b) (text_past-spelled bs rest all.1)

-- the text that was read, and its spelling
with_byte-is : (b : ℕ) (read : Result (List ℕ × List ℕ) Cause) (text rest : List ℕ) → with_byte b read ≡ Ok (text, rest) → (tail : List ℕ) × (read ≡ Ok (tail, rest)) × (text ≡ b ∷ tail)
with_byte-is b (Ok (tail, left)) text rest h =
    let same : ◌≡◌ {A = List ℕ × List ℕ} (b ∷ tail, left) (text, rest) = cc in
    let follows = ap (λ (p : List ℕ × List ℕ). p.1) same in
    (tail, ap (λ bytes. Ok (tail, bytes)) follows, sym (ap (λ (p : List ℕ × List ℕ). p.0) same))
with_byte-is b (Err cause) text rest h = cc

closed : (b : ℕ) (bs text rest : List ℕ) → b ≡ quote → ◌≡◌ {A = Result (List ℕ × List ℕ) Cause} (Ok ([], bs)) (Ok (text, rest)) → (b ∷ bs ≡ spelled_bytes text ++ quote ∷ rest) × AreBytes text
closed b bs text rest is h =
    let same : ◌≡◌ {A = List ℕ × List ℕ} ([], bs) (text, rest) = cc in
    let P : List ℕ × List ℕ → Type 0 = λ p. (b ∷ bs ≡ spelled_bytes p.0 ++ quote ∷ p.1) × AreBytes p.0 in
    subst P same (ap (λ c. c ∷ bs) is, tt)

-- a spelling that is read is at the front
pub spells_front-is : (bs : List ℕ) (b : ℕ) → spells_front bs b ≡ true → (b < 256) × (bs ≡ spelled_byte b ++ drop (length (spelled_byte b)) bs)
spells_front-is bs b h =
    let tests = and_parts (nat_lt b 256) (starts_with nat_eq bs (spelled_byte b)) h in
    (ltb-true b 256 tests.0, (starts_is Decides-eqb bs (spelled_byte b) _ refl).0 tests.1)

stepped : (b : ℕ) (bs text tail rest : List ℕ) (front : ℕ) → spells_front (b ∷ bs) front ≡ true → text ≡ front ∷ tail → (drop (length (spelled_byte front) - 1) bs ≡ spelled_bytes tail ++ quote ∷ rest) × AreBytes tail → (b ∷ bs ≡ spelled_bytes text ++ quote ∷ rest) × AreBytes text
stepped b bs text tail rest front spells is ih =
    let here = spells_front-is (b ∷ bs) front spells in
    let positive = length-spelled_byte-pos front in
    let count : length (spelled_byte front) ≡ suc (length (spelled_byte front) - 1) = omega arith in
    let after : drop (length (spelled_byte front)) (b ∷ bs) ≡ spelled_bytes tail ++ quote ∷ rest = ap (λ n. drop n (b ∷ bs)) count ∙ ih.0 in
    let P : List ℕ → Type 0 = λ bytes. (b ∷ bs ≡ spelled_bytes bytes ++ quote ∷ rest) × AreBytes bytes in
    subst P (sym is) (here.1 ∙ ap (λ bytes. spelled_byte front ++ bytes) after ∙ sym (append_assoc (spelled_byte front) (spelled_bytes tail) (quote ∷ rest)), (here.0, ih.1))

pub text_past-is : (passed : ℕ) (bs text rest : List ℕ) → text_past passed bs ≡ Ok (text, rest) → (drop passed bs ≡ spelled_bytes text ++ quote ∷ rest) × AreBytes text
text_past-is zero [] text rest h = cc
text_past-is (suc passed) [] text rest h = cc
text_past-is (suc passed) (b ∷ bs) text rest h = text_past-is passed bs text rest h
text_past-is zero (b ∷ bs) text rest h =
    let front = front_byte (b ∷ bs) in
    let read = with_byte front (text_past (length (spelled_byte front) - 1) bs) in
    elim (cases_Bool (b == quote)) [
      | inl quoted ↦ closed b bs text rest (eqb-true b quote quoted) (sym (cond-true (b == quote) (Ok ([], bs)) _ quoted) ∙ h)
      | inr other ↦
          let h' : cond (spells_front (b ∷ bs) front) read (Err BadText) ≡ Ok (text, rest) = sym (cond-false (b == quote) (Ok ([], bs)) _ other) ∙ h in
          elim (cases_Bool (spells_front (b ∷ bs) front)) [
            | inl spells ↦
                let parts = with_byte-is front (text_past (length (spelled_byte front) - 1) bs) text rest (sym (cond-true (spells_front (b ∷ bs) front) read (Err BadText) spells) ∙ h') in
                stepped b bs text parts.0 rest front spells parts.2 (text_past-is (length (spelled_byte front) - 1) bs parts.0 rest parts.1)
            | inr wrong ↦ let never : ◌≡◌ {A = Result (List ℕ × List ℕ) Cause} (Err BadText) (Ok (text, rest)) = sym (cond-false (spells_front (b ∷ bs) front) read (Err BadText) wrong) ∙ h' in cc
          ]
    ]
