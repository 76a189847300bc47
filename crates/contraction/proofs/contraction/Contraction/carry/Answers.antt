use Rattle.contraction.proofs.Names.{◌≡◌, ◌+◌, ◌∷◌, List, length, get_or, drop, arith, drop_more, flags_together, LineEdit, Come}
use Rattle.line_index.specs.proved.Edits.{length_after_edit, edit_adds}
use Rattle.contraction.proofs.contraction.Contraction.carry.Goals as goal

pub loop-edit-preserved : goal.loop-edit-preserved
loop-edit-preserved g c =
    let inv = c.loop-edit.invariant in
    let edits : List LineEdit = c.args.edits.now in
    let edit : LineEdit = get_or edits c.loop-edit.edit-index (Come 0 0) in
    let next : drop c.loop-edit.edit-index edits ≡ edit ∷ drop (c.loop-edit.edit-index + 1) edits = drop_more edits c.loop-edit.edit-index (Come 0 0) (omega arith) in
    let fit = rw next at inv.fit in
    let few = rw next at inv.few in
    let size = length_after_edit flags_together c.loop-edit.self.flags edit fit.0 in
    record {
      done = rw c.carry_edit.ensures (rw next at inv.done);
      fit = rw (c.carry_edit.ensures, size) fit.1;
      few = rw c.carry_edit.ensures (omega (arith, few, size, edit_adds (length c.loop-edit.self.flags) edit));
      capacity = rw c.carry_edit.ensures inv.capacity;
    }
