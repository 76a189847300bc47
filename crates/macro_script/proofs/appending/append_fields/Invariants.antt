use Rattle.macro_script.proofs.Names.{◌≡◌, ◌++◌, take, number_fields}
use Rattle.macro_script.proofs.appending.append_fields.Given as goal

abbrev pub invariant-loop-number : goal.invariant-loop-number
invariant-loop-number l = l.out.items ≡ l.fn.out.items ++ number_fields (take l.number-index l.numbers)
