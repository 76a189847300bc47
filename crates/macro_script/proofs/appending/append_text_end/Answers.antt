use Rattle.macro_script.proofs.Names.{sym, ◌∷◌, [], ◌++◌, spelled_bytes}
use Rattle.macro_script.proofs.Pieces.{in_words, stopped, first_part, then_part, then_all, text_end}
use Rattle.macro_script.proofs.appending.append_text_end.Goals as goal

pub returns-in_err-append_bytes : goal.returns-in_err-append_bytes
returns-in_err-append_bytes c = in_words _ _ _ _ c.from_residual.result (sym (text_end c.args.text.now))
    (stopped _ _ _ c.from_residual.result c.from_residual.ensures.0
    (first_part _ _ (32 ∷ 34 ∷ []) (spelled_bytes c.args.text.now ++ 34 ∷ 10 ∷ []) c.in_err-append_bytes.ensures))

pub returns-in_err-append_spelled : goal.returns-in_err-append_spelled
returns-in_err-append_spelled c = in_words _ _ _ _ c.from_residual-in_err-append_spelled.result (sym (text_end c.args.text.now))
    (stopped _ _ _ c.from_residual-in_err-append_spelled.result c.from_residual-in_err-append_spelled.ensures.0
    (then_part _ _ _ (32 ∷ 34 ∷ []) (spelled_bytes c.args.text.now ++ 34 ∷ 10 ∷ []) c.in_ok-append_bytes.ensures
    (first_part _ _ (spelled_bytes c.args.text.now) (34 ∷ 10 ∷ []) c.in_err-append_spelled.ensures)))

pub returns : goal.returns
returns c = in_words _ _ _ _ c.append_bytes-3.result (sym (text_end c.args.text.now))
    (then_all _ _ _ (32 ∷ 34 ∷ []) (spelled_bytes c.args.text.now ++ 34 ∷ 10 ∷ []) c.append_bytes-3.result c.in_ok-append_bytes.ensures
    (then_all _ _ _ (spelled_bytes c.args.text.now) (34 ∷ 10 ∷ []) c.append_bytes-3.result c.in_ok-append_spelled.ensures c.append_bytes-3.ensures))
