use Rattle.macro_script.proofs.Names.{ap₂, ◌∙◌, Some, codes, line_of}
use Rattle.macro_script.proofs.ListedLines.{send_line}
use Rattle.macro_script.proofs.Pieces.{in_words}
use Rattle.macro_script.proofs.listing.append_send.Goals as goal

pub returns : goal.returns
returns c = in_words (line_of (codes "send") c.send_numbers-numbers.result (Some c.as_slice.result.now)) _ c.args.out.now.items c.append_line.new.out.items c.append_line.result
    (ap₂ (λ numbers text. line_of (codes "send") numbers (Some text)) c.send_numbers-numbers.ensures c.as_slice.ensures ∙ send_line c.args.view c.args.message.now) c.append_line.ensures
