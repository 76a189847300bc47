use Rattle.marker_store.proofs.Names.{◌≡◌, inr, ◌+◌, ◌≤◌, List, [], ap, sym, ◌∙◌, arith, nil_from_length, Chained, Marker, marked_lines, with_fresh}
use Rattle.marker_store.specs.Store.{all_lines}
use Rattle.marker_store.proofs.Stores.{lines_length, fresh_none, fresh_full, total_wider, length-wider, is_full, room_is}
use Rattle.marker_store.proofs.store.MarkerStore.shift.Goals as goal

pub invariant_of-self : goal.invariant_of-self
invariant_of-self g c =
    let d = c.self.inside in
    let i = c.self.invariant in
    let fits = rw (← c.self.view_is) at c.requires.fits in
    let line = rw (← c.self.view_is) at c.requires.line in
    let size = lines_length d.lines d.chains.rows i.headed in
    let n = is_full d.lines d.chains.rows i.headed (omega (arith, c.if-lines-gt0.true, c.lines.ensures.lines)) in
    rw c.insert.ensures (record {
      some = omega (arith, i.some);
      few = omega (arith, size, fits);
      headed = inr (length-wider c.args.line c.args.count d.chains.rows (omega (arith, line, size, n)) ∙ ap (λ k. k + c.args.count) n);
      held = λ h. i.held (omega (arith, n, i.some));
      fits = room_is d.chains d.lines d.next_handle i _ c.self.view_is c.args.count c.requires.room;
      fewer = omega (arith, total_wider c.args.line c.args.count d.chains.rows, i.fewer);
      none_aside = i.none_aside;
    })

pub returns-then-lines-gt0 : goal.returns-then-lines-gt0
returns-then-lines-gt0 g c =
    let d = c.self.inside in
    let line = rw (← c.self.view_is) at c.requires.line in
    let size = lines_length d.lines d.chains.rows c.self.invariant.headed in
    let n = is_full d.lines d.chains.rows c.self.invariant.headed (omega (arith, c.if-lines-gt0.true, c.lines.ensures.lines)) in
    rw (← c.self.view_is)
    (ap (λ (x : Chained). marked_lines (all_lines (d.lines + c.args.count) x.rows) d.next_handle x.capacity x.line_capacity) c.insert.ensures
    ∙ ap (λ (ls : List (List Marker)). marked_lines ls d.next_handle d.chains.capacity d.chains.line_capacity) (fresh_full d.lines c.args.line c.args.count d.chains.rows (omega (arith, line, size)) n))

pub returns-else-lines-gt0 : goal.returns-else-lines-gt0
returns-else-lines-gt0 g c =
    let d = c.self.inside in
    let none : d.chains.rows ≡ [] = nil_from_length d.chains.rows (omega (arith, c.if-lines-gt0.false, c.lines.ensures.lines)) in
    let line = rw (← c.self.view_is) at c.requires.line in
    let inside : c.args.line ≤ d.lines = omega (arith, line, lines_length d.lines d.chains.rows c.self.invariant.headed) in
    rw (← c.self.view_is)
    (ap (λ (ls : List (List Marker)). marked_lines ls d.next_handle d.chains.capacity d.chains.line_capacity)
    (ap (all_lines (d.lines + c.args.count)) none ∙ fresh_none d.lines c.args.line c.args.count inside ∙ ap (λ (rs : List (List Marker)). with_fresh c.args.line c.args.count (all_lines d.lines rs)) (sym none)))
