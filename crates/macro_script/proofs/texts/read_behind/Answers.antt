use Rattle.std.proofs.Common.{◌+◌, ◌++◌, take, ◌∙◌, ap, arith}
use Rattle.macro_script.proofs.Plain.{read_first_run, read_copied, read_front, read_closing, read_wrong}
use Rattle.macro_script.proofs.texts.read_behind.Goals as goal

pub loop-text-init : goal.loop-text-init
loop-text-init c = read_first_run c.args.spelling.now c.args.run _ c.requires.within c.requires.plain (λ k. omega (arith, c.type_inv.spelling k))
    (c.in_ok-append_run.ensures ∙ ap (λ bs. bs ++ take c.args.run c.args.spelling.now) c.new-text.ensures.items)

pub returns-in-Closing : goal.returns-in-Closing
returns-in-Closing c = read_closing c.args.spelling.now c.loop-text.at _ c.new.result c.loop-text.invariant c.in-Closing.ensures c.new.ensures

pub loop-text-preserved : goal.loop-text-preserved
loop-text-preserved c =
    let front = read_front c.args.spelling.now c.loop-text.at c.in-Byte.len c.in-Byte.byte _ _ c.loop-text.invariant c.in-Byte.ensures c.in_ok-push-in-Byte.ensures.items in
    read_copied c.args.spelling.now (c.loop-text.at + c.in-Byte.len) c.plain_len-run.result _ _ front c.plain_len-run.ensures.within c.plain_len-run.ensures.plain (λ k. omega (arith, c.type_inv.spelling k)) c.in_ok-append_run-2.ensures

pub returns-in-Wrong : goal.returns-in-Wrong
returns-in-Wrong c = read_wrong c.args.spelling.now c.loop-text.at _ c.loop-text.invariant c.in-Wrong.ensures
