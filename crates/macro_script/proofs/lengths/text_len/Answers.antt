use Rattle.std.proofs.Common.{arith, ◌+◌}
use Rattle.macro_script.proofs.ListedLengths.{one_byte_more, part_is_shorter, are_bytes}
use Rattle.macro_script.proofs.lengths.text_len.Goals as goal

pub returns-then-len-gt-LINE_LIMIT-clause-len : goal.returns-then-len-gt-LINE_LIMIT-clause-len
returns-then-len-gt-LINE_LIMIT-clause-len c = λ short.
    let more = one_byte_more c.args.text.now c.loop-byte.byte-index c.loop-byte.len c.spell_byte-len.result.1 c.loop-byte-test.true c.loop-byte.invariant c.spell_byte-len.ensures.len in
    let part = part_is_shorter c.args.text.now (c.loop-byte.byte-index + 1) in
    omega arith

pub returns-then-len-gt-LINE_LIMIT-clause-typed : goal.returns-then-len-gt-LINE_LIMIT-clause-typed
returns-then-len-gt-LINE_LIMIT-clause-typed c = are_bytes c.args.text.now (λ k. omega (arith, c.type_inv.text k))

pub returns-clause-typed : goal.returns-clause-typed
returns-clause-typed c = are_bytes c.args.text.now (λ k. omega (arith, c.type_inv.text k))
