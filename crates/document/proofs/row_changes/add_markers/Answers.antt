use Rattle.document.proofs.Names.{length, ap, sym, ◌∙◌, ◌+◌, arith, KeptRows, with_more_markers}
use Rattle.document.proofs.MarkerNumbers.{from_the_first, next_is_in, next_is_out, none_from_the_end, one_more, none_more, numbers_from, still_fit}
use Rattle.document.proofs.row_changes.add_markers.Goals.{then-mask-number-eq1, else-mask-number-eq1}
use Rattle.document.proofs.row_changes.add_markers.Goals as goal

pub adding-init : goal.adding-init
adding-init c = record { all = ap (λ ns. with_more_markers c.args.line ns c.args.rows.now) (from_the_first c.args.mask); within = omega arith }

pub add_reserved-requires : goal.add_reserved-requires
add_reserved-requires c =
    let next = next_is_in c.args.mask c.adding.number c.adding-test.true c.if-mask-number-eq1.true in
    let fit = still_fit c.args.line _ _ c.adding.rows c.args.rows.now c.adding.invariant.all c.requires.line c.requires.room c.requires.handles in
    record { line = fit.0; number = omega (arith, c.adding-test.true); room = omega (arith, fit.1, ap length next); handles = omega (arith, fit.2, ap length next) }

pub adding-preserved : goal.adding-preserved
adding-preserved c =
    let was = c.adding.invariant in
    let number = c.adding.number in
    let rest = numbers_from c.args.mask (number + 1) in
    elim c.if-mask-number-eq1.branch [
      | then-mask-number-eq1 w ↦ (
          let next = next_is_in c.args.mask number c.adding-test.true w.if-mask-number-eq1.true in
          let fit = still_fit c.args.line _ _ c.adding.rows c.args.rows.now was.all c.requires.line c.requires.room c.requires.handles in
          record {
            all = ap (λ (k : KeptRows). with_more_markers c.args.line rest k) (w.rows-is ∙ w.add_reserved.ensures.rows)
                ∙ one_more c.args.line number rest c.adding.rows fit.0 ∙ ap (λ ns. with_more_markers c.args.line ns c.adding.rows) (sym next) ∙ was.all;
            within = omega (arith, c.adding-test.true);
          }
          )
      | else-mask-number-eq1 w ↦ (
          let next = next_is_out c.args.mask number c.adding-test.true w.if-mask-number-eq1.false in
          record {
            all = ap (λ (k : KeptRows). with_more_markers c.args.line rest k) w.rows-is ∙ ap (λ ns. with_more_markers c.args.line ns c.adding.rows) (sym next) ∙ was.all;
            within = omega (arith, c.adding-test.true);
          }
          )
    ]

pub returns : goal.returns
returns c =
    let none = none_from_the_end c.args.mask c.adding.number (omega (arith, c.adding-test.false)) in
    sym (none_more c.args.line c.adding.rows) ∙ ap (λ ns. with_more_markers c.args.line ns c.adding.rows) (sym none) ∙ c.adding.invariant.all
