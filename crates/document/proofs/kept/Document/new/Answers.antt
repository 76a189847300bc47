use Rattle.document.proofs.Names.{◌<◌, Bool, true, false, length, ap, sym, ◌∙◌, arith, meets, Decorated, KeptRows, bound_of}
use Rattle.document.proofs.kept.Document.new.Goals as goal

some_bound : (is_large : Bool) → 0 < bound_of is_large
some_bound true = omega arith
some_bound false = omega arith

pub invariant_of-result : goal.invariant_of-result
invariant_of-result c =
    let places = c.in_ok-places.ensures in
    rw c.new-2.ensures
    (record {
      indexed = places.lines.1;
      row_count = ap (λ (k : KeptRows). length k.rows) c.new-rows.ensures ∙ sym (ap length places.lines.1.starts);
      indicator_count = ap (λ (d : Decorated). d.length) places.indicators;
      width = places.width;
      fits = some_bound (meets c.args.options 0x100);
    })
