use Rattle.line_rows.proofs.Names.{◌≡◌, ◌+◌, ◌<◌, ◌^◌, length, drop, FitLines, fresh_lines, values_after}
use Rattle.line_rows.specs.Values.{HasRoomForLines}
use Rattle.line_rows.proofs.values.LineValues.carry.Given as goal

-- the edits that are left lead to the same values, and there is room for them
abbrev pub invariant-loop-edit : goal.invariant-loop-edit
invariant-loop-edit g l =
    let left = drop l.edit-index l.edits in
    record {
      values : values_after left l.self ≡ values_after l.edits l.initial.self;
      lines : FitLines (length l.self.values) left;
      fits : length l.self.values + fresh_lines left < 2 ^ 63;
      room : HasRoomForLines (fresh_lines left) l.self;
    }
