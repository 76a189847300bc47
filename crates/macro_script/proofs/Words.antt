-- The ends of words.
use Rattle.macro_script.proofs.Names.{◌≡◌, ℕ, ◌<◌, ◌≤◌, List, length, get_or, take, sym, ◌∙◌, ap, arith, length-take, ◌==◌, position_or_len, eq-eqb, ne_eqb, position_or_len_is, word_of}

-- no space stands before this place
abbrev pub NoSpaceBefore : List ℕ → ℕ → Type 0
NoSpaceBefore line i = (k : ℕ) → k < i → get_or line k 0 ≡ 32 → ⊥

-- the word ends at the first space, or with the line
pub ends_at : (line : List ℕ) (i : ℕ) → i ≤ length line → NoSpaceBefore line i → (i < length line → get_or line i 0 ≡ 32) → (i ≡ position_or_len (λ b. b == 32) line) × (i ≡ length (word_of line))
ends_at line i within before here =
    let place = position_or_len_is (λ b. b == 32) line i 0 within (λ k low. ne_eqb (get_or line k 0) 32 (before k low)) (λ low. eq-eqb (get_or line i 0) 32 (here low)) in
    (sym place, sym (ap (λ n. length (take n line)) place ∙ (omega (arith, length-take i line))))
