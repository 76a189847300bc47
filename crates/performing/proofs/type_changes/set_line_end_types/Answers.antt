use Rattle.performing.proofs.Names.{◌≡◌, refl, ap, sym, ◌∙◌, append-nil, Kept, rows_together, text_of}
use Rattle.ed_model.specs.Carry.{regrouped}
use Rattle.performing.proofs.type_changes.set_line_end_types.Goals as goal

pub returns-clause-changed : goal.returns-clause-changed
returns-clause-changed c = λ text sender notes.
    let d = c.args.document.now.document in let same : c.reserve_lines.new.self.document ≡ d = ap (λ (k : Kept). k.document) c.reserve_lines.ensures.grown.0 in
    let made = ap (λ (k : Kept). k.document) c.set_line_end_types.ensures.document ∙ rw same refl in let r = c.regroup.ensures in
    record {
      document = made;
      lines = rw same at r.views;
      told = λ v _. sym (append-nil notes.notes);
      watched = rw made (rw same at (r.watched (regrouped rows_together d.line_end_types c.args.types (text_of d) d.rows)));
      stay = r.stay;
    }
