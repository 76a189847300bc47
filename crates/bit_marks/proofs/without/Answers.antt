use Rattle.std.proofs.Common.{w64}
use Rattle.std.proofs.lemmas.Nat.Bits.{bit_at_clear_same, bit_at_clear_other}
use Rattle.bit_marks.proofs.Clearing.{cleared_smaller}
use Rattle.bit_marks.proofs.without.Goals as goal

pub returns-clause-smaller : goal.returns-clause-smaller
returns-clause-smaller c = cleared_smaller c.args.marks c.args.bit c.ranges.marks.fits c.requires.within c.requires.set

pub returns-clause-gone : goal.returns-clause-gone
returns-clause-gone c = bit_at_clear_same w64 c.args.marks c.args.bit c.requires.within

pub returns-clause-kept : goal.returns-clause-kept
returns-clause-kept c k l apart = bit_at_clear_other w64 c.args.marks c.args.bit c.requires.within k l apart
