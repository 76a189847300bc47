use Rattle.line_index.proofs.Names.{◌≡◌, ◌+◌, ◌-◌, ◌<◌, ◌≤◌, ◌++◌, true, length, Default, is_line_start, line_starts, starts_within, all_inside_edits, lines_inside}
use Rattle.line_index.proofs.settings.all_inside.Given as goal

abbrev pub invariant-adding : goal.invariant-adding
invariant-adding l =
    record {
      rest : l.edits ++ all_inside_edits l.types l.line (lines_inside (l.before ++ l.after) (starts_within Default (l.before ++ l.after) l.start (length (l.before ++ l.after) + 1))) ≡ all_inside_edits l.types 0 (lines_inside (l.before ++ l.after) (line_starts Default (l.before ++ l.after)));
      low : l.line ≤ l.start;
      high : l.start ≤ l.end;
      found : l.start < l.end → is_line_start Default (l.before ++ l.after) l.start ≡ true;
    }

abbrev pub decreases-adding : goal.decreases-adding
decreases-adding l = l.end - l.start
