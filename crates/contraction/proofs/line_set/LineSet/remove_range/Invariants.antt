use Rattle.contraction.proofs.Names.{◌≡◌, ◌++◌, take, drop}
use Rattle.std.specs.List.Sorted.{IsStrictlyIncreasing}
use Rattle.contraction.proofs.line_set.LineSet.remove_range.Given as goal

abbrev pub invariant-loop-index : goal.invariant-loop-index
invariant-loop-index g l =
    record {
      lines : l.self-inside.lines.numbers ≡ take l.before l.initial.self-inside.lines.numbers ++ drop l.index l.initial.self-inside.lines.numbers;
      rising : IsStrictlyIncreasing l.self-inside.lines.numbers;
      whole : l.self-inside.lines.length ≡ l.initial.self-inside.lines.length;
      capacity : l.self-inside.lines.capacity ≡ l.initial.self-inside.lines.capacity;
    }
