use Rattle.marker_store.proofs.Names.{◌≡◌, inl, inr, ◌+◌, ◌-◌, List, [], ap, sym, refl, ◌∙◌, arith, nil_from_length, Chained, Marker, marked_lines, with_joined}
use Rattle.marker_store.proofs.Joins.{joined, joined_are, joined_one, joined_next, length-joined, total_joined}
use Rattle.marker_store.proofs.Stores.{lines_are, joined_bare, is_full, full}
use Rattle.marker_store.proofs.store.MarkerStore.merge.Goals as goal

pub invariant_of-self : goal.invariant_of-self
invariant_of-self g c =
    let d = c.self.inside in
    let i = c.self.invariant in
    let n = lines_are d.chains d.lines d.next_handle i _ c.self.view_is in
    record {
      some = omega (arith, n);
      few = omega (arith, i.few);
      headed = inl (nil_from_length d.chains.rows (omega (arith, c.if-lines-eq0.true, c.lines.ensures.lines)));
      held = i.held;
      fits = λ some. omega (arith, i.fits some);
      fewer = i.fewer;
      none_aside = i.none_aside;
    }

pub returns-then-lines-eq0 : goal.returns-then-lines-eq0
returns-then-lines-eq0 g c =
    let d = c.self.inside in
    let n = lines_are d.chains d.lines d.next_handle c.self.invariant _ c.self.view_is in
    let none : d.chains.rows ≡ [] = nil_from_length d.chains.rows (omega (arith, c.if-lines-eq0.true, c.lines.ensures.lines)) in
    rw (← c.self.view_is) (ap (λ (ls : List (List Marker)). marked_lines ls d.next_handle d.chains.capacity d.chains.line_capacity) (rw none (joined_bare d.lines c.args.line c.args.count (omega (arith, n)))))

pub loop-joined-init : goal.loop-joined-init
loop-joined-init g c =
    let d = c.self.inside in
    let n = lines_are d.chains d.lines d.next_handle c.self.invariant _ c.self.view_is in
    let all = is_full d.lines d.chains.rows c.self.invariant.headed (omega (arith, c.if-lines-eq0.false, c.lines.ensures.lines)) in
    (ap (λ (rs : List (List Marker)). record d.chains { rows = rs }) (sym (joined_one c.args.line d.chains.rows (omega (arith, n, all)))), refl, refl)

pub invariant_of-self-in-loop-joined : goal.invariant_of-self-in-loop-joined
invariant_of-self-in-loop-joined g c =
    let d = c.self.inside in
    let i = c.self.invariant in
    let k = c.loop-joined._joined in
    let w = c.loop-joined.invariant in
    let n = lines_are d.chains d.lines d.next_handle i _ c.self.view_is in
    let all = is_full d.lines d.chains.rows i.headed (omega (arith, c.if-lines-eq0.false, c.lines.ensures.lines)) in
    let short = length-joined c.args.line (k + 1) d.chains.rows (omega (arith, n, all, c.loop-joined.auto)) in
    rw (w.0, w.1, w.2) (record {
      some = omega (arith, n);
      few = omega (arith, i.few);
      headed = inr (omega (arith, short, all, c.loop-joined.auto, c.loop-joined-test.false));
      held = λ some. i.held (omega (arith, all, i.some));
      fits = λ some. omega (arith, i.fits some);
      fewer = omega (arith, total_joined c.args.line (k + 1) d.chains.rows (omega (arith, n, all)), i.fewer);
      none_aside = i.none_aside;
    })

pub loop-joined-preserved : goal.loop-joined-preserved
loop-joined-preserved g c =
    let d = c.self.inside in
    let k = c.loop-joined._joined in
    let w = c.loop-joined.invariant in
    let n = lines_are d.chains d.lines d.next_handle c.self.invariant _ c.self.view_is in
    let all = is_full d.lines d.chains.rows c.self.invariant.headed (omega (arith, c.if-lines-eq0.false, c.lines.ensures.lines)) in (
      c.join.ensures ∙ ap (λ (x : Chained). record x { rows = with_joined c.args.line 1 x.rows }) w.0
          ∙ ap (λ (rs : List (List Marker)). record d.chains { rows = rs })
          (joined_are c.args.line 1 (joined c.args.line (k + 1) d.chains.rows) ∙ joined_next c.args.line (k + 1) d.chains.rows (omega (arith, n, all, c.loop-joined-test.true))),
      w.1,
      w.2,
    )

pub returns : goal.returns
returns g c =
    let d = c.self.inside in
    let w = c.loop-joined.invariant in
    let count = c.args.count in
    let n = lines_are d.chains d.lines d.next_handle c.self.invariant _ c.self.view_is in
    let all = is_full d.lines d.chains.rows c.self.invariant.headed (omega (arith, c.if-lines-eq0.false, c.lines.ensures.lines)) in
    let k : c.loop-joined._joined ≡ count = omega (arith, c.loop-joined.auto, c.loop-joined-test.false) in
    let short = length-joined c.args.line (count + 1) d.chains.rows (omega (arith, n, all)) in
    rw (w.0, w.1, w.2, k, ← c.self.view_is)
    (ap (λ (ls : List (List Marker)). marked_lines ls d.next_handle d.chains.capacity d.chains.line_capacity)
    (full (d.lines - count) (joined c.args.line (count + 1) d.chains.rows) (omega (arith, short, all)) ∙ sym (joined_are c.args.line count d.chains.rows)
    ∙ ap (with_joined c.args.line count) (sym (full d.lines d.chains.rows all))))
