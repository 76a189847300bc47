-- A script with one command more.
use Rattle.macro_script.proofs.Names.{◌≡◌, ℕ, ◌+◌, ◌-◌, ◌≤◌, Bool, true, false, nat_lt, List, [], ◌∷◌, ◌++◌, length, refl, ap, sym, ◌∙◌, arith, length-append, append-nil, nat_le, ◌&&◌, flat_map, list_all, and_parts, ltb-true, ltb-false, lt-ltb, le-ltb, le-leb, lt-leb, flat_map-append, Command, listing, listed_command, ended_line, version_line, fits_line, fits_script, keeps_limits}
use Rattle.std.proofs.lemmas.List.Folds.{list_all-append}

-- the length of its listing
length_with : (commands : List Command) (c : Command) → length (listing 2 (commands ++ c ∷ [])) ≡ length (listing 2 commands) + (length (listed_command c) + 1)
length_with commands c =
    let lines = λ (cs : List Command). flat_map (λ command. ended_line (listed_command command)) cs in
    let first = ended_line (version_line 2) in
    let split = flat_map-append (λ command. ended_line (listed_command command)) commands (c ∷ []) in
    let whole = length-append first (lines (commands ++ c ∷ [])) ∙ ap (λ text. length first + length text) split in
    let before = length-append first (lines commands) in
    let both = length-append (lines commands) (lines (c ∷ [])) in
    let last = ap length (append-nil (ended_line (listed_command c))) ∙ length-append (listed_command c) (10 ∷ []) in
    omega (arith, whole, before, both, last)

all_with : (commands : List Command) (c : Command) → list_all (λ command. fits_line (listed_command command)) (commands ++ c ∷ []) ≡ (list_all (λ command. fits_line (listed_command command)) commands && (fits_line (listed_command c) && true))
all_with commands c = list_all-append (λ command. fits_line (listed_command command)) commands (c ∷ [])

and_true : (a b : Bool) → a ≡ true → b ≡ true → (a && (b && true)) ≡ true
and_true true true x y = refl
and_true true false x y = absurd (cc)
and_true false b x y = absurd (cc)

and_false : (a b : Bool) → b ≡ false → (a && (b && true)) ≡ false
and_false true false x = refl
and_false true true x = absurd (cc)
and_false false b x = refl

-- the script keeps the limits if the line keeps its own and fits in
pub line_added : (commands : List Command) (c : Command) → keeps_limits commands ≡ true → length (listed_command c) ≤ 65536
    → keeps_limits (commands ++ c ∷ []) ≡ nat_lt (length (listing 2 commands) + length (listed_command c)) 16777216
line_added commands c keeps short =
    let before = and_parts (list_all (λ command. fits_line (listed_command command)) commands) (fits_script (listing 2 commands)) keeps in
    let lines = all_with commands c ∙ and_true _ (fits_line (listed_command c)) before.0 (le-leb (length (listed_command c)) 65536 short) in
    ap (λ b. b && fits_script (listing 2 (commands ++ c ∷ []))) lines
    ∙ ap (λ n. nat_le n 16777216) (length_with commands c)
    ∙ same (nat_lt (length (listing 2 commands) + length (listed_command c)) 16777216) refl
  where
    same : (b : Bool) → nat_lt (length (listing 2 commands) + length (listed_command c)) 16777216 ≡ b → nat_le (length (listing 2 commands) + (length (listed_command c) + 1)) 16777216 ≡ nat_lt (length (listing 2 commands) + length (listed_command c)) 16777216
    same true e = let l = ltb-true (length (listing 2 commands) + length (listed_command c)) 16777216 e in le-leb (length (listing 2 commands) + (length (listed_command c) + 1)) 16777216 (omega arith) ∙ sym e
    same false e = let g = ltb-false (length (listing 2 commands) + length (listed_command c)) 16777216 e in lt-leb (length (listing 2 commands) + (length (listed_command c) + 1)) 16777216 (omega arith) ∙ sym e

-- the script does not keep the limits if the line is too long
pub line_too_long : (commands : List Command) (c : Command) → (length (listed_command c) ≤ 65536 → ⊥) → keeps_limits (commands ++ c ∷ []) ≡ false
line_too_long commands c long =
    let line = lt-leb (length (listed_command c)) 65536 (omega arith) in
    ap (λ b. b && fits_script (listing 2 (commands ++ c ∷ []))) (all_with commands c ∙ and_false (list_all (λ command. fits_line (listed_command command)) commands) (fits_line (listed_command c)) line)

-- the test of the code for that
pub room_is : (listed len : ℕ) → nat_lt len (16777216 - listed) ≡ nat_lt (listed + len) 16777216
room_is listed len = go (nat_lt len (16777216 - listed)) refl
  where
    go : (b : Bool) → nat_lt len (16777216 - listed) ≡ b → b ≡ nat_lt (listed + len) 16777216
    go true e = let l = ltb-true len (16777216 - listed) e in sym (lt-ltb (listed + len) 16777216 (omega arith))
    go false e = let g = ltb-false len (16777216 - listed) e in sym (le-ltb (listed + len) 16777216 (omega arith))
