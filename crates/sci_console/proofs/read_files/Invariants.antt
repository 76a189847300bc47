use Rattle.std.proofs.Common.{◌≡◌, length}
use Rattle.sci_console.proofs.read_files.Given as goal

abbrev pub invariant-loop-path : goal.invariant-loop-path
invariant-loop-path l = length l.files.items ≡ l.path-index
