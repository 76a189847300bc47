use Rattle.line_ends.proofs.Names.{◌≡◌, ◌+◌, ◌-◌, ◌*◌, ◌≤◌, drop, length, converted}
use Rattle.line_ends.proofs.pasting.converted_len.Given as goal

abbrev pub invariant-pieces : goal.invariant-pieces
invariant-pieces l =
    record {
      few : l.length ≤ 2 * l.place;
      within : l.place ≤ length l.bytes;
      counted : length (converted l.to l.bytes) ≡ l.length + length (converted l.to (drop l.place l.bytes));
    }

abbrev pub decreases-pieces : goal.decreases-pieces
decreases-pieces l = length l.bytes - l.place
