use Rattle.script_ends.proofs.Names.{◌≡◌, ◌++◌, drop, string_bytes, shown_bytes}
use Rattle.script_ends.proofs.shown.append_bytes.Given as goal

abbrev pub invariant-loop-byte : goal.invariant-loop-byte
invariant-loop-byte l = string_bytes l.out ++ shown_bytes (drop l.byte-index l.bytes) ≡ string_bytes l.fn.out ++ shown_bytes l.bytes
