use Rattle.std.proofs.Common.{arith}
use Rattle.macro_script.proofs.ListedLines.{whole_read_back}
use Rattle.macro_script.proofs.listing.list.Goals as goal

pub returns-clause-read_back : goal.returns-clause-read_back
returns-clause-read_back c = whole_read_back c.laws_of_scripts.ensures.listings_are_read c.loop-command.text.items c.commands-command-items.result.now c.args.script.now c.loop-command.command-index c.loop-command.invariant (omega arith) c.commands-command-items.ensures.commands c.commands-command-items.ensures.within
