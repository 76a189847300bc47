use Rattle.document.proofs.Names.{replicate, ap, sym, ◌∙◌, Buffer, bytes_of, styles_of, bytes_behind_restyled, nothing_changed}
use Rattle.document.proofs.StyledCells.{parts_restyled}
use Rattle.document.proofs.kept.Document.style_run.Goals as goal

pub returns-then-keeps_none-clause-changed : goal.returns-then-keeps_none-clause-changed
returns-then-keeps_none-clause-changed c = rw (← c.self.view_is) (sym (nothing_changed (styles_of c.self.inside.parts.cells.cells)))

pub invariant_of-self-2 : goal.invariant_of-self-2
invariant_of-self-2 c =
    let d = c.self.inside in
    let is = c.set_style_run.ensures.cells in
    parts_restyled d.options d.parts c.set_style_run.new.self c.self.invariant
    (ap (λ (b : Buffer). bytes_of b.cells) is ∙ bytes_behind_restyled d.end_styled (replicate c.args.count c.args.style) d.parts.cells.cells) c.set_style_run.ensures.len
