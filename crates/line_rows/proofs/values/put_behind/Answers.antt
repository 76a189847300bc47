use Rattle.line_rows.proofs.Names.{◌∷◌, [], ap, sym, ◌∙◌, arith, inserted, padded, HasItems}
use Rattle.line_rows.proofs.Padded.{padded_put, padded_all}
use Rattle.line_rows.proofs.values.put_behind.Goals as goal
use Rattle.line_rows.proofs.values.put_behind.Goals.{then-line-len, else-line-len}

pub returns : goal.returns
returns g c =
    let items = c.args.stored.now.items in
    let line = c.args.line in
    let now : HasItems (padded c.args.default line items) c.args.stored.now c.if-line-len.stored = elim c.if-line-len.branch [
      | then-line-len w ↦ (ap (λ s. s.items) w.stored-is ∙ w.pad.ensures.0, ap (λ s. s.capacity) w.stored-is ∙ w.pad.ensures.1)
      | else-line-len w ↦ (ap (λ s. s.items) w.stored-is ∙ sym (padded_all c.args.default line items (omega (arith, w.if-line-len.false, c.len.ensures.len))), ap (λ s. s.capacity) w.stored-is)
    ] in (
      ap (λ s. s.items) c.insert_reserved.ensures ∙ ap (λ xs. inserted xs line (c.args.value ∷ [])) now.0 ∙ padded_put c.args.default items line c.args.value c.requires.behind,
      ap (λ s. s.capacity) c.insert_reserved.ensures ∙ now.1,
    )
