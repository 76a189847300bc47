use Rattle.line_index.proofs.Names.{◌≡◌, ◌+◌, drop, fresh_lines}
use Rattle.line_index.proofs.settings.fresh_lines.Given as goal

abbrev pub invariant-loop-edit : goal.invariant-loop-edit
invariant-loop-edit l = l.lines + fresh_lines (drop l.edit-index l.edits) ≡ fresh_lines l.edits
