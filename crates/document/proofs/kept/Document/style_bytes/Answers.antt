use Rattle.document.proofs.Names.{ap, sym, ◌∙◌, Buffer, bytes_of, styles_of, bytes_behind_restyled, nothing_changed}
use Rattle.document.proofs.StyledCells.{parts_restyled}
use Rattle.document.proofs.kept.Document.style_bytes.Goals as goal

pub returns-then-keeps_none-clause-changed : goal.returns-then-keeps_none-clause-changed
returns-then-keeps_none-clause-changed c = rw (← c.self.view_is) (sym (nothing_changed (styles_of c.self.inside.parts.cells.cells)))

pub invariant_of-self-2 : goal.invariant_of-self-2
invariant_of-self-2 c =
    let d = c.self.inside in
    let is = c.set_styles.ensures.cells in
    parts_restyled d.options d.parts c.set_styles.new.self c.self.invariant
    (ap (λ (b : Buffer). bytes_of b.cells) is ∙ bytes_behind_restyled d.end_styled c.args.styles.now d.parts.cells.cells) c.set_styles.ensures.len
