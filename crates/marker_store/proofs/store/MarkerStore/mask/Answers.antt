use Rattle.marker_store.proofs.Names.{◌-◌, [], length, ap, sym, ◌∙◌, arith, mask_of}
use Rattle.std.proofs.lemmas.List.{get_or_past}
use Rattle.marker_store.proofs.Stores.{at_padded}
use Rattle.marker_store.proofs.store.MarkerStore.mask.Goals as goal

pub returns-then-line-lines : goal.returns-then-line-lines
returns-then-line-lines g c =
    let d = c.self.inside in
    rw (← c.self.view_is) (c.mask.ensures ∙ ap mask_of (sym (at_padded d.chains.rows (d.lines - length d.chains.rows) c.args.line)))

pub returns : goal.returns
returns g c =
    let d = c.self.inside in
    rw (← c.self.view_is)
    (sym (ap mask_of (at_padded d.chains.rows (d.lines - length d.chains.rows) c.args.line ∙ get_or_past d.chains.rows c.args.line [] (omega (arith, c.if-line-lines.false, c.lines.ensures.lines)))))
