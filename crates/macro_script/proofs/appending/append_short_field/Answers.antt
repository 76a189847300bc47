use Rattle.macro_script.proofs.Names.{◌≡◌, sym, ap, ◌∷◌, [], spelled}
use Rattle.macro_script.proofs.Pieces.{in_words}
use Rattle.macro_script.proofs.ShortNumbers.{two_digits, three_digits, four_digits}
use Rattle.macro_script.proofs.appending.append_short_field.Goals as goal

pub returns-then-number-lt100 : goal.returns-then-number-lt100
returns-then-number-lt100 c =
    let digits : 32 ∷ c.digit-tens.result ∷ c.digit-ones.result ∷ [] ≡ 32 ∷ spelled c.args.number =
    rw (c.digit-tens.ensures, c.digit-ones.ensures) (ap (λ ds. 32 ∷ ds) (sym (two_digits c.args.number c.if-number-lt10.false c.if-number-lt100.true))) in
    in_words _ _ _ _ c.append_bytes-then-number-lt100.result digits c.append_bytes-then-number-lt100.ensures

pub returns-then-number-lt1000 : goal.returns-then-number-lt1000
returns-then-number-lt1000 c =
    let digits : 32 ∷ c.digit-hundreds.result ∷ c.digit-tens.result ∷ c.digit-ones.result ∷ [] ≡ 32 ∷ spelled c.args.number =
    rw (c.digit-hundreds.ensures, c.digit-tens.ensures, c.digit-ones.ensures) (ap (λ ds. 32 ∷ ds) (sym (three_digits c.args.number c.if-number-lt100.false c.if-number-lt1000.true))) in
    in_words _ _ _ _ c.append_bytes-then-number-lt1000.result digits c.append_bytes-then-number-lt1000.ensures

pub returns : goal.returns
returns c =
    let digits : 32 ∷ c.digit-2.result ∷ c.digit-hundreds.result ∷ c.digit-tens.result ∷ c.digit-ones.result ∷ [] ≡ 32 ∷ spelled c.args.number =
    rw (c.digit-2.ensures, c.digit-hundreds.ensures, c.digit-tens.ensures, c.digit-ones.ensures) (ap (λ ds. 32 ∷ ds) (sym (four_digits c.args.number c.if-number-lt1000.false c.requires))) in
    in_words _ _ _ _ c.append_bytes-2.result digits c.append_bytes-2.ensures
