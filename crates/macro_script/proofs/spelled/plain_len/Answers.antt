use Rattle.std.proofs.Common.{below_more}
use Rattle.macro_script.proofs.Plain.{plain_byte}
use Rattle.macro_script.proofs.spelled.plain_len.Goals as goal

pub loop-i-preserved : goal.loop-i-preserved
loop-i-preserved c = below_more _ _ c.loop-i.invariant (plain_byte _ c.if-byte-lt32.false c.if-byte-gt126.false c.if-byte-eq34.false c.if-byte-eq92.false)
