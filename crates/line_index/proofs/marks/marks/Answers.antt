use Rattle.line_index.proofs.MarkedBytes.{no_end_unmarked, no_unicode_end_unmarked}
use Rattle.line_index.proofs.marks.marks.Goals as goal

pub returns-in-Default : goal.returns-in-Default
returns-in-Default c =
    no_end_unmarked c.args.types c.args.bytes.now c.args.at c.marks_of.result c.marks_of-2.result c.in-Default.is c.marks_of.ensures c.marks_of-2.ensures

pub returns-in-Unicode : goal.returns-in-Unicode
returns-in-Unicode c =
    no_unicode_end_unmarked c.args.types c.args.bytes.now c.args.at c.marks_of.result c.marks_of-2.result c.marks_of-in-Unicode.result c.marks_of-in-Unicode-2.result c.marks_of-in-Unicode-3.result
    c.marks_of.ensures c.marks_of-2.ensures c.marks_of-in-Unicode.ensures c.marks_of-in-Unicode-2.ensures c.marks_of-in-Unicode-3.ensures
