use Rattle.marker_store.proofs.Names.{◌≡◌, ◌+◌, ◌-◌, List, [], length, get_or, set, ap, sym, refl, ◌∙◌, arith, length-set, Chained, Marker}
use Rattle.marker_store.specs.Dropping.{kept}
use Rattle.marker_store.proofs.Changes.{done_from, done_more, done_past, done_all}
use Rattle.marker_store.proofs.chains.Chains.delete_all.Goals as goal

pub deleting-init : goal.deleting-init
deleting-init g c =
    let rows = c.args.self.now.rows in
    let e = c.next_marked-line.ensures in
    let sum : 0 + c.next_marked-line.result ≡ c.next_marked-line.result = omega arith in (
      e.within.1,
      refl,
      ap (λ (rs : List (List Marker)). record c.args.self.now { rows = rs })
          (ap (λ n. done_from (kept c.args.drops) n rows) (sym sum) ∙ done_past (kept c.args.drops) c.next_marked-line.result 0 rows refl (omega (arith, e.within)) (λ i low high. e.bare i low (omega (arith, high)))),
    )

pub deleting-preserved : goal.deleting-preserved
deleting-preserved g c =
    let f = kept c.args.drops in
    let k = c.deleting.line in
    let rows = c.deleting.self.rows in
    let new = c.delete.new.self.rows in
    let next = c.next_marked-line-in-deleting.result in
    let e = c.next_marked-line-in-deleting.ensures in
    let was = c.deleting.invariant in
    let is : new ≡ set rows k (f (get_or rows k [])) = ap (λ (x : Chained). x.rows) c.delete.ensures in
    let size : length new ≡ length rows = ap length is ∙ length-set rows k (f (get_or rows k [])) in
    let sum : k + 1 + (next - (k + 1)) ≡ next = omega (arith, e.within) in (
      omega (arith, e.within, size),
      size ∙ was.1,
      ap (λ (x : Chained). record x { rows = done_from f next new }) c.delete.ensures
          ∙ ap (λ (rs : List (List Marker)). record c.deleting.self { rows = rs })
          (ap (λ n. done_from f n new) (sym sum) ∙ done_past f (next - (k + 1)) (k + 1) new refl (omega (arith, e.within, size)) (λ i low high. e.bare i low (omega (arith, high, sum)))
          ∙ ap (done_from f (k + 1)) is ∙ done_more f k rows (omega (arith, c.deleting-test.true, c.lines-lines.ensures.lines, was.1)))
          ∙ was.2,
    )

pub returns : goal.returns
returns g c =
    let rows = c.deleting.self.rows in
    sym (ap (λ (rs : List (List Marker)). record c.deleting.self { rows = rs }) (done_all (kept c.args.drops) c.deleting.line rows (omega (arith, c.deleting-test.false, c.lines-lines.ensures.lines, c.deleting.invariant.1)))) ∙ c.deleting.invariant.2
