use Rattle.line_rows.proofs.Names.{◌≡◌, ap, sym, ◌∙◌, arith, marker_total, MarkedLines, KeptRows, kept_in}
use Rattle.line_rows.specs.Kept.{row_capacity}
use Rattle.line_rows.proofs.RowReads.{parts_count}
use Rattle.line_rows.proofs.rows.LineRows.reserve_markers.Goals as goal

pub returns-clause-reserved : goal.returns-clause-reserved
returns-clause-reserved c =
    let d = c.self.inside in
    let m = c.reserve.ensures in
    let new = c.reserve.new.self in
    let held = row_capacity d.levels.capacity d.states.capacity new.capacity new.line_capacity in
    let same : kept_in new d.levels d.states ≡ record c.args.self.now { capacity = held }
    = ap (λ (x : MarkedLines). record (kept_in x d.levels d.states) { capacity = held }) m.rest ∙ ap (λ (r : KeptRows). record r { capacity = held }) c.self.view_is in
    let count = parts_count _ _ _ c.self.invariant _ c.self.view_is in
    rw same (
      grind (arith, m.reserved.0, ap (λ (x : MarkedLines). marker_total x.lines) m.rest, count),
      λ fits.
          let stays = m.reserved.1 (omega (arith, fits, count, ap (λ (r : KeptRows). r.capacity.markers) c.self.view_is), m.grown_lines.1) in
          (stays.0, sym same ∙ ap (λ (x : MarkedLines). kept_in x d.levels d.states) stays.1 ∙ c.self.view_is),
    )
