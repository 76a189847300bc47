use Rattle.std.proofs.Common.{◌≡◌, take}
use Rattle.macro_script.proofs.ListedLines.{listed_so_far}
use Rattle.macro_script.proofs.listing.list.Given as goal

abbrev pub invariant-loop-command : goal.invariant-loop-command
invariant-loop-command l = l.text.items ≡ listed_so_far (take l.command-index l.command-items)
