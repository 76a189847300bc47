use Rattle.macro_script.proofs.Names.{ap, ◌∙◌, Some, codes, line_of}
use Rattle.macro_script.proofs.ListedLines.{note_line}
use Rattle.macro_script.proofs.Pieces.{in_words}
use Rattle.macro_script.proofs.printing.append_note.Goals as goal

pub returns : goal.returns
returns c = in_words (line_of (codes "@") c.note_numbers-numbers.result (Some c.args.text.now)) _ c.args.out.now.items c.append_line.new.out.items c.append_line.result
    (ap (λ numbers. line_of (codes "@") numbers (Some c.args.text.now)) c.note_numbers-numbers.ensures ∙ note_line c.args.note.now c.args.text.now) c.append_line.ensures
