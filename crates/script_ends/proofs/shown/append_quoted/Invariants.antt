use Rattle.script_ends.proofs.Names.{◌≡◌, ◌++◌, ◌∷◌, [], drop, string_bytes, flat_map, escaped, quoted}
use Rattle.script_ends.proofs.shown.append_quoted.Given as goal

abbrev pub invariant-loop-byte : goal.invariant-loop-byte
invariant-loop-byte l = string_bytes l.out ++ (flat_map escaped (drop l.byte-index l.text) ++ 0x22 ∷ []) ≡ string_bytes l.fn.out ++ quoted l.text
