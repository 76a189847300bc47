use Rattle.macro_script.proofs.Names.{◌≤◌, ◌*◌, length, vec_len, vec_capacity, number_of}
use Rattle.macro_script.proofs.Splitting.{IsReadTo}
use Rattle.macro_script.proofs.lines.read_lines.Given as goal

abbrev pub invariant-loop-line : goal.invariant-loop-line
invariant-loop-line l = record { read : IsReadTo (number_of l.version) l.text l.number l.rest l.commands.items; few : vec_capacity l.commands ≤ 2 * vec_len l.commands }

abbrev pub decreases-loop-line : goal.decreases-loop-line
decreases-loop-line l = length l.rest
