use Rattle.editor_session.proofs.Names.{◌≡◌, ◌≤◌, ◌+◌, ◌-◌, ◌*◌, ◌++◌, slice_range, vec_len, vec_capacity, styled_text}
use Rattle.editor_session.proofs.handing_out.append_styled.Given as goal

abbrev pub invariant-loop-place : goal.invariant-loop-place
invariant-loop-place l = record {
  from : l.fn.start ≤ l.place;
  done : l.target.items ≡ l.fn.target.items ++ styled_text (slice_range l.fn.document.document.cells l.fn.start l.place);
  room : vec_len l.target + 2 * (l.fn.start + l.fn.count - l.place) ≤ vec_capacity l.target;
}
