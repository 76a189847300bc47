use Rattle.macro_script.proofs.Names.{◌++◌, ◌∷◌, [], number_fields, text_field, lent_text}
use Rattle.macro_script.proofs.Pieces.{stopped, first_part, then_all}
use Rattle.macro_script.proofs.appending.append_behind_word.Goals as goal

pub returns-in_err-append_fields : goal.returns-in_err-append_fields
returns-in_err-append_fields c = stopped _ _ _ c.from_residual.result c.from_residual.ensures.0
    (first_part _ _ (number_fields c.args.numbers.now) (text_field (lent_text c.args.text) ++ 10 ∷ []) c.in_err-append_fields.ensures)

pub returns : goal.returns
returns c =
    then_all _ _ _ (number_fields c.args.numbers.now) (text_field (lent_text c.args.text) ++ 10 ∷ []) c.append_end.result c.in_ok-append_fields.ensures c.append_end.ensures
