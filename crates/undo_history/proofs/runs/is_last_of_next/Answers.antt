use Rattle.undo_history.proofs.Names.{◌+◌, ap, sym, arith, drop_all, entries_in, begins_or_none}
use Rattle.undo_history.proofs.Parts.{entries_length}
use Rattle.undo_history.proofs.Reading.{next_first}
use Rattle.undo_history.proofs.runs.is_last_of_next.Goals as goal

pub returns-then-next-steps : goal.returns-then-next-steps
returns-then-next-steps c = λ bytes.
    ap begins_or_none (sym (drop_all (c.args.place + 1) (entries_in c.args.steps.now bytes) (omega (arith, entries_length 0 c.args.steps.now bytes))))

pub returns : goal.returns
returns c = λ bytes. ap begins_or_none (sym (next_first c.args.steps.now bytes (c.args.place + 1) (omega arith)))
