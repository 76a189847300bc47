use Rattle.line_index.proofs.Names.{◌+◌, ◌≤◌, ◌*◌, Default, AreStarts}
use Rattle.line_index.proofs.room.lines_behind_rows.Given as goal

abbrev pub invariant-loop-block : goal.invariant-loop-block
invariant-loop-block l =
    record {
      first : AreStarts Default l.bytes (l.from + 1) (l.from + l.block * 192 + 1) l.first;
      second : AreStarts Default l.bytes (l.from + 12288 + 1) (l.from + 12288 + l.block * 192 + 1) l.second;
      third : AreStarts Default l.bytes (l.from + 24576 + 1) (l.from + 24576 + l.block * 192 + 1) l.third;
      fourth : AreStarts Default l.bytes (l.from + 36864 + 1) (l.from + 36864 + l.block * 192 + 1) l.fourth;
      few : l.first + l.second + l.third + l.fourth ≤ l.block * 768;
    }
