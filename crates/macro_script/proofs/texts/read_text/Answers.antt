use Rattle.std.proofs.Common.{◌≡◌, arith, rules, slice_index}
use Rattle.macro_script.proofs.Plain.{read_plain}
use Rattle.macro_script.proofs.texts.read_text.Goals as goal

pub returns : goal.returns
returns c =
    let closed : slice_index c.args.spelling.now c.plain_len-run.result ≡ 34 = search rules in
    read_plain c.args.spelling.now c.plain_len-run.result _ c.plain_len-run.ensures.within c.plain_len-run.ensures.plain (λ k. omega (arith, c.type_inv.spelling k)) closed c.in_ok-text.ensures
