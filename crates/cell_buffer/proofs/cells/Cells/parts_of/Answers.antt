use Rattle.cell_buffer.proofs.Names.{◌+◌, ◌-◌, ◌∙◌, ap, sym, arith, length, length-append, length-take-le, append-nil, slice_range}
use Rattle.cell_buffer.proofs.Pairs.{pairs_length}
use Rattle.cell_buffer.proofs.Stored.{text_seen, range_before, range_behind, range_across}
use Rattle.cell_buffer.proofs.cells.Cells.parts_of.Goals as goal

pub slice_bounds-result-end-then-gap-start : goal.slice_bounds-result-end-then-gap-start
slice_bounds-result-end-then-gap-start c =
    let both = simp length-append at (ap length c.halves.ensures.joined) in
    grind (arith, both, ap (λ t. length t.cells) c.self.view_is, pairs_length c.self.inside.bytes.items c.self.inside.styles.items)

pub slice_bounds-result-length-3 : goal.slice_bounds-result-length-3
slice_bounds-result-length-3 c =
    let both = simp length-append at (ap length c.halves.ensures.joined) in
    sym (length-take-le (c.args.start + c.args.count - length c.halves.result.0.now) c.halves.result.1.now
    (omega (arith, both, ap (λ t. length t.cells) c.self.view_is, pairs_length c.self.inside.bytes.items c.self.inside.styles.items, c.requires)))

pub returns-then-end-gap-clause-joined : goal.returns-then-end-gap-clause-joined
returns-then-end-gap-clause-joined c =
    let before = c.halves.result.0.now in
    let past = c.args.start + c.args.count in
    append-nil (slice_range before c.args.start past)
    ∙ range_before before c.halves.result.1.now c.args.start past (omega arith) (omega (arith, c.if-end-gap.true))
    ∙ ap (λ t. slice_range t c.args.start past) (c.halves.ensures.joined ∙ text_seen c.self.inside.bytes.items c.self.inside.styles.items c.args.self.now.cells (ap (λ t. t.cells) c.self.view_is))

pub returns-then-gap-start-clause-joined : goal.returns-then-gap-start-clause-joined
returns-then-gap-start-clause-joined c =
    let before = c.halves.result.0.now in
    let behind = c.halves.result.1.now in
    let past = c.args.start + c.args.count in
    append-nil (slice_range behind (c.args.start - length before) (past - length before))
    ∙ range_behind before behind c.args.start past c.if-gap-start.true (omega arith)
    ∙ ap (λ t. slice_range t c.args.start past) (c.halves.ensures.joined ∙ text_seen c.self.inside.bytes.items c.self.inside.styles.items c.args.self.now.cells (ap (λ t. t.cells) c.self.view_is))

pub returns-clause-joined : goal.returns-clause-joined
returns-clause-joined c =
    let past = c.args.start + c.args.count in
    range_across c.halves.result.0.now c.halves.result.1.now c.args.start past (omega (arith, c.if-gap-start.false)) (omega (arith, c.if-end-gap.false))
    ∙ ap (λ t. slice_range t c.args.start past) (c.halves.ensures.joined ∙ text_seen c.self.inside.bytes.items c.self.inside.styles.items c.args.self.now.cells (ap (λ t. t.cells) c.self.view_is))
