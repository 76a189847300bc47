use Rattle.std.proofs.lemmas.Result.{err_from_is_err_and}
use Rattle.document.proofs.Names.{◌≡◌, true, false, ap, arith, length}
use Rattle.document.proofs.Growth.{all_fit, all_grow, all_same, history_stays, runs_fit}
use Rattle.document.proofs.kept.Document.reserve.Goals as goal

pub returns-in_err-reserve_insertions-clause-reserved : goal.returns-in_err-reserve_insertions-clause-reserved
returns-in_err-reserve_insertions-clause-reserved c =
    let d = c.self.inside in
    let error = err_from_is_err_and c.from_residual-in_err-reserve_insertions.result c.from_residual-in_err-reserve_insertions.ensures.1 in
    rw (error.1, ← c.self.view_is) (
      tt,
      λ room.
          let fit = runs_fit c.args.need d c.reserve.new.self c.reserve_lines.new.self c.reserve_insertions.new.self c.reserve_lines-2.new.self d.history c.self.invariant c.in_ok-reserve_lines.ensures.grown room.0 in
          let none : false ≡ true = (c.in_err-reserve_insertions.ensures.reserved.1 fit).0 in
          absurd (cc),
    )

pub returns-in_err-reserve_insertions-clause-grown : goal.returns-in_err-reserve_insertions-clause-grown
returns-in_err-reserve_insertions-clause-grown c =
    let d = c.self.inside in
    rw (← c.self.view_is) (
    all_grow c.args.need d c.reserve.new.self c.reserve_lines.new.self c.reserve_insertions.new.self c.reserve_lines-2.new.self d.history c.self.invariant c.in_ok-reserve.ensures.grown c.in_ok-reserve_lines.ensures.grown
    c.in_ok-reserve_lines-2.ensures.grown c.in_err-reserve_insertions.ensures.grown (history_stays c.args.need.steps c.args.need.bytes d.history)
    )

pub returns-clause-reserved : goal.returns-clause-reserved
returns-clause-reserved c =
    let d = c.self.inside in
    let cells = c.in_ok-reserve.ensures in
    let lines = c.in_ok-reserve_lines.ensures in
    let rows = c.in_ok-reserve_lines-2.ensures.reserved in
    let runs = c.in_ok-reserve_insertions.ensures in
    let told = c.reserve-2.ensures.reserved in
    let wide = rw (← c.self.view_is) at c.requires.wide in
    let fits = all_fit c.args.need d c.reserve.new.self c.reserve_lines.new.self c.reserve_insertions.new.self c.reserve_lines-2.new.self c.reserve-2.new.self c.self.invariant cells.grown.0 lines.grown runs.grown.0 wide
    cells.reserved.0 lines.reserved.0 rows.0 runs.reserved.0 c.reserve-2.result told.0 in (
      fits,
      rw (← c.self.view_is) (
          λ room. (
            (told.1 room.1).0,
            all_same c.args.need d c.reserve.new.self c.reserve_lines.new.self c.reserve_insertions.new.self c.reserve_lines-2.new.self c.reserve-2.new.self c.self.invariant (cells.reserved.1 (room.0.bytes, room.0.styles)).1
                (lines.reserved.1 (omega (arith, room.0.lines.0, ap length c.self.invariant.indexed.starts))).1 (runs.reserved.1 (runs_fit c.args.need d c.reserve.new.self c.reserve_lines.new.self c.reserve_insertions.new.self c.reserve_lines-2.new.self c.reserve-2.new.self c.self.invariant lines.grown room.0)).1 (rows.1 room.0.lines.1).1 (told.1 room.1).1,
          )
          ),
    )

pub returns-clause-grown : goal.returns-clause-grown
returns-clause-grown c =
    rw (← c.self.view_is) (
    all_grow c.args.need c.self.inside c.reserve.new.self c.reserve_lines.new.self c.reserve_insertions.new.self c.reserve_lines-2.new.self c.reserve-2.new.self c.self.invariant c.in_ok-reserve.ensures.grown
    c.in_ok-reserve_lines.ensures.grown c.in_ok-reserve_lines-2.ensures.grown c.in_ok-reserve_insertions.ensures.grown c.reserve-2.ensures.grown
    )
