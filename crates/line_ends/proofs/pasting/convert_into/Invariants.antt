use Rattle.line_ends.proofs.Names.{◌≡◌, ◌+◌, ◌-◌, ◌≤◌, ◌++◌, drop, length, vec_len, vec_capacity, converted}
use Rattle.line_ends.proofs.pasting.convert_into.Given as goal

abbrev pub invariant-pieces : goal.invariant-pieces
invariant-pieces l =
    record {
      within : l.place ≤ length l.bytes;
      items : l.initial.target.items ++ converted l.to l.bytes ≡ l.target.items ++ converted l.to (drop l.place l.bytes);
      room : vec_len l.target + length (converted l.to (drop l.place l.bytes)) ≤ vec_capacity l.target;
    }

abbrev pub decreases-pieces : goal.decreases-pieces
decreases-pieces l = length l.bytes - l.place
