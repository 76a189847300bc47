use Rattle.macro_script.proofs.Names.{◌∷◌, [], ◌++◌, quote, spelled_bytes}
use Rattle.macro_script.proofs.Pieces.{stopped, first_part, then_all}
use Rattle.macro_script.proofs.appending.append_text.Goals as goal

pub returns-in_err-append_bytes : goal.returns-in_err-append_bytes
returns-in_err-append_bytes c = stopped _ _ _ c.from_residual.result c.from_residual.ensures.0 (first_part _ _ (quote ∷ []) (spelled_bytes c.args.text.now ++ quote ∷ []) c.in_err-append_bytes.ensures)

pub returns : goal.returns
returns c = then_all _ _ _ (quote ∷ []) (spelled_bytes c.args.text.now ++ quote ∷ []) c.append_bytes-2.result c.in_ok-append_bytes.ensures
    (then_all _ _ _ (spelled_bytes c.args.text.now) (quote ∷ []) c.append_bytes-2.result c.in_ok-append_spelled.ensures c.append_bytes-2.ensures)
