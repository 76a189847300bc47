use Rattle.std.proofs.Common.{arith, length}
use Rattle.macro_script.proofs.Words.{ends_at}
use Rattle.macro_script.proofs.fields.word_len.Goals as goal

pub returns-then-byte-eq32 : goal.returns-then-byte-eq32
returns-then-byte-eq32 c =
    let ends = ends_at c.args.line.now c.loop-i.i (omega arith) c.loop-i.invariant (λ _. c.if-byte-eq32.true) in
    record { place = ends.0; len = ends.1 }

pub returns : goal.returns
returns c =
    let ends = ends_at c.args.line.now (length c.args.line.now) (omega arith) (λ k low. c.loop-i.invariant k (omega arith)) (λ low. absurd (omega arith)) in
    record { place = ends.0; len = ends.1 }
