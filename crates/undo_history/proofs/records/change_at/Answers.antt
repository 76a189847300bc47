use Rattle.undo_history.proofs.Names.{◌∙◌, ap, sym, arith, length, map, length-map, get_or, Some, slice_range, slice_get-get_or, get_or-map, change_in, change_of, entries_in, no_step}
use Rattle.undo_history.proofs.Parts.{part_within, entries_length, entry_at, entry_read}
use Rattle.undo_history.proofs.records.change_at.Goals as goal

pub slice_bounds-part-count : goal.slice_bounds-part-count
slice_bounds-part-count c = let within = part_within c.args.index 0 c.args.steps.now (length c.args.bytes.now) c.requires.in_order c.requires.there in omega (arith, within, c.bytes_before-start.ensures)

pub slice_bounds-part-start : goal.slice_bounds-part-start
slice_bounds-part-start c = let within = part_within c.args.index 0 c.args.steps.now (length c.args.bytes.now) c.requires.in_order c.requires.there in omega (arith, within, c.bytes_before-start.ensures)

pub slice_bounds-part-end : goal.slice_bounds-part-end
slice_bounds-part-end c = let within = part_within c.args.index 0 c.args.steps.now (length c.args.bytes.now) c.requires.in_order c.requires.there in omega (arith, within)

pub returns-clause-change : goal.returns-clause-change
returns-clause-change c =
    let rs = c.args.steps.now in
    let es = entries_in rs c.args.bytes.now in
    let d = entry_at rs c.args.bytes.now c.args.index in
    slice_get-get_or (map change_in es) c.args.index (change_in d) (omega (arith, length-map es change_in, entries_length 0 rs c.args.bytes.now, c.requires.there))
    ∙ ap (λ x. Some x) (get_or-map change_in es c.args.index d (change_in d) (omega (arith, entries_length 0 rs c.args.bytes.now, c.requires.there)) ∙ ap change_in (entry_read rs c.args.bytes.now c.args.index d c.requires.there))
    ∙ ap (λ s. Some (change_of (get_or rs c.args.index no_step).kind (slice_range c.args.bytes.now s (get_or rs c.args.index no_step).bytes_end))) (sym c.bytes_before-start.ensures)
    ∙ ap (λ x. Some x) (sym c.bytes_by_kind.ensures.change)
