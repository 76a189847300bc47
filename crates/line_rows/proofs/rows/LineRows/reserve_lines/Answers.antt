use Rattle.line_rows.proofs.Names.{ap, ap₂, ◌∙◌, arith, refl, subst, Valued, ℤ, ℕ, MarkedLines, KeptRows, kept_in}
use Rattle.line_rows.specs.Kept.{GrowsTo, most_for_lines}
use Rattle.line_rows.proofs.RowReads.{line_memory}
use Rattle.line_rows.proofs.rows.LineRows.reserve_lines.Goals as goal

pub returns-in_err-reserve-clause-grown : goal.returns-in_err-reserve-clause-grown
returns-in_err-reserve-clause-grown c =
    let d = c.self.inside in
    let m = c.reserve.ensures in
    let states = c.reserve_lines.ensures.grown in
    subst (λ (r : KeptRows). GrowsTo (most_for_lines c.args.count r) r (kept_in c.reserve.new.self d.levels c.reserve_lines.new.self)) c.self.view_is (
      ap₂ (λ (x : MarkedLines) (s : Valued ℤ). kept_in x d.levels s) m.rest states.0,
      (omega arith, states.1, m.grown.0.0, m.grown_lines.0.0),
      (grind arith, states.2, grind (arith, m.grown), line_memory _ _ _ c.self.invariant _ refl c.reserve.new.self c.args.count (λ h. (m.reserved.1 h).1) m.grown.1 m.grown_lines.0.1),
    )

pub returns-clause-grown : goal.returns-clause-grown
returns-clause-grown c =
    let m = c.reserve.ensures in
    let states = c.reserve_lines.ensures.grown in
    let levels = c.reserve_lines-2.ensures.grown in
    subst (λ (r : KeptRows). GrowsTo (most_for_lines c.args.count r) r (kept_in c.reserve.new.self c.reserve_lines-2.new.self c.reserve_lines.new.self)) c.self.view_is (
      ap₂ (λ (x : MarkedLines) (s : Valued ℤ). kept_in x c.reserve_lines-2.new.self s) m.rest states.0 ∙ ap (λ (l : Valued ℕ). record (kept_in c.self.inside.markers l c.self.inside.states) { capacity = (kept_in c.reserve.new.self c.reserve_lines-2.new.self c.reserve_lines.new.self).capacity }) levels.0,
      (levels.1, states.1, m.grown.0.0, m.grown_lines.0.0),
      (levels.2, states.2, grind (arith, m.grown), line_memory _ _ _ c.self.invariant _ refl c.reserve.new.self c.args.count (λ h. (m.reserved.1 h).1) m.grown.1 m.grown_lines.0.1),
    )
