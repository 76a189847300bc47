use Rattle.std.proofs.Common.{arith}
use Rattle.char_cut.proofs.Reading.{end_about}
use Rattle.char_cut.proofs.cuts.after.Goals as goal

pub overflow_add-result : goal.overflow_add-result
overflow_add-result c =
    omega (arith, end_about c.args.first.now c.args.second.now c.args.place c.character_start-start.result c.character_length.result (omega arith) c.character_start-start.ensures.start c.character_length.ensures)

pub returns-clause-within : goal.returns-clause-within
returns-clause-within c =
    (end_about c.args.first.now c.args.second.now c.args.place c.character_start-start.result c.character_length.result (omega arith) c.character_start-start.ensures.start c.character_length.ensures).within

pub returns-clause-on : goal.returns-clause-on
returns-clause-on c = λ l.
    (end_about c.args.first.now c.args.second.now c.args.place c.character_start-start.result c.character_length.result l c.character_start-start.ensures.start c.character_length.ensures).behind
