use Rattle.line_rows.proofs.Names.{◌≡◌, ◌+◌, ◌≤◌, ◌^◌, length, drop, after_edits, FitLines, fresh_lines, markers_together, HasLineRoom}
use Rattle.line_rows.proofs.rows.carry_markers.Given as goal

-- the edits that are left lead to the same markers
abbrev pub invariant-loop-edit : goal.invariant-loop-edit
invariant-loop-edit l =
    let left = drop l.edit-index l.edits in
    record {
      markers : (record l.markers { lines = after_edits markers_together left l.markers.lines }) ≡ record l.initial.markers { lines = after_edits markers_together l.edits l.initial.markers.lines };
      lines : FitLines (length l.markers.lines) left;
      fits : length l.markers.lines + fresh_lines left ≤ 2 ^ 62;
      room : HasLineRoom (fresh_lines left) l.markers;
    }
