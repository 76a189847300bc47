-- Numbers of few digits, digit by digit.
use Rattle.macro_script.proofs.Names.{◌≡◌, ℕ, ◌<◌, ◌≤◌, ◌+◌, ◌/◌, ◌%◌, [], ◌∷◌, ◌++◌, sym, ◌∙◌, ap, arith, decimal_step, decimal_digit, spelled, spelled-decimal}

pub one_digit : (n : ℕ) → n < 10 → spelled n ≡ (48 + n % 10) ∷ []
one_digit n h = spelled-decimal n (omega arith) ∙ decimal_digit n h ∙ ap (λ d. (48 + d) ∷ []) (omega arith)

-- all digits but the last, and the last
more_digits : (n : ℕ) → 10 ≤ n → n < 10000 → spelled n ≡ spelled (n / 10) ++ (48 + n % 10) ∷ []
more_digits n h small =
    spelled-decimal n (omega arith) ∙ decimal_step n h (omega arith) ∙ ap (λ front. front ++ (48 + n % 10) ∷ []) (sym (spelled-decimal (n / 10) (omega arith)))

pub two_digits : (n : ℕ) → 10 ≤ n → n < 100 → spelled n ≡ (48 + n / 10 % 10) ∷ (48 + n % 10) ∷ []
two_digits n h small = more_digits n h (omega arith) ∙ ap (λ front. front ++ (48 + n % 10) ∷ []) (one_digit (n / 10) (omega arith))

-- a tenth of a tenth is a hundredth
tenth : (n : ℕ) → n < 10000 → n / 10 / 10 ≡ n / 100
tenth n h = omega arith

pub three_digits : (n : ℕ) → 100 ≤ n → n < 1000 → spelled n ≡ (48 + n / 100 % 10) ∷ (48 + n / 10 % 10) ∷ (48 + n % 10) ∷ []
three_digits n h small =
    more_digits n (omega arith) (omega arith) ∙ ap (λ front. front ++ (48 + n % 10) ∷ []) (two_digits (n / 10) (omega arith) (omega arith)) ∙
    ap (λ d. (48 + d % 10) ∷ (48 + n / 10 % 10) ∷ (48 + n % 10) ∷ []) (tenth n (omega arith))

pub four_digits : (n : ℕ) → 1000 ≤ n → n < 10000 → spelled n ≡ (48 + n / 1000) ∷ (48 + n / 100 % 10) ∷ (48 + n / 10 % 10) ∷ (48 + n % 10) ∷ []
four_digits n h small =
    let hundreds = tenth n small in
    let thousands : n / 10 / 100 % 10 ≡ n / 1000 = omega arith in
    more_digits n (omega arith) small ∙ ap (λ front. front ++ (48 + n % 10) ∷ []) (three_digits (n / 10) (omega arith) (omega arith)) ∙
    ap (λ d. (48 + n / 10 / 100 % 10) ∷ (48 + d % 10) ∷ (48 + n / 10 % 10) ∷ (48 + n % 10) ∷ []) hundreds ∙
    ap (λ d. (48 + d) ∷ (48 + n / 100 % 10) ∷ (48 + n / 10 % 10) ∷ (48 + n % 10) ∷ []) thousands
