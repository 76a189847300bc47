use Rattle.macro_script.proofs.Names.{◌++◌, ◌∷◌, [], number_fields, text_field, lent_text}
use Rattle.macro_script.proofs.Pieces.{stopped, first_part, then_all}
use Rattle.macro_script.proofs.appending.append_line.Goals as goal

pub returns-in_err-append_bytes : goal.returns-in_err-append_bytes
returns-in_err-append_bytes c = stopped _ _ _ c.from_residual.result c.from_residual.ensures.0
    (first_part _ _ c.args.word.now (number_fields c.args.numbers.now ++ (text_field (lent_text c.args.text) ++ 10 ∷ [])) c.in_err-append_bytes.ensures)

pub returns : goal.returns
returns c =
    then_all _ _ _ c.args.word.now (number_fields c.args.numbers.now ++ (text_field (lent_text c.args.text) ++ 10 ∷ [])) c.append_behind_word.result c.in_ok-append_bytes.ensures c.append_behind_word.ensures
