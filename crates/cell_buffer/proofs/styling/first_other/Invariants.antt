use Rattle.cell_buffer.proofs.Names.{◌≡◌, ◌≤◌, ◌<◌, ℕ, slice_index}
use Rattle.cell_buffer.proofs.styling.first_other.Given as goal

abbrev pub invariant-loop-place : goal.invariant-loop-place
invariant-loop-place l = (k : ℕ) → l.start ≤ k → k < l.place → slice_index l.styles.items k ≡ l.style
