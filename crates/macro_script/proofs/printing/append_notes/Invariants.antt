use Rattle.macro_script.proofs.Names.{◌≡◌, ◌++◌, take, flat_map, printed_note}
use Rattle.macro_script.proofs.printing.append_notes.Given as goal

abbrev pub invariant-loop-index : goal.invariant-loop-index
invariant-loop-index l = l.out.items ≡ l.fn.out.items ++ flat_map printed_note (take l.index l.reply.notes)
