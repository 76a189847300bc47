use Rattle.contraction.proofs.Names.{◌+◌, ◌≤◌, ap, ◌∙◌, arith, last_child, lines_shown, ViewLines}
use Rattle.contraction.proofs.Expanding.{size_now, passed_start, passed_next, passed_over, passed_all}
use Rattle.contraction.proofs.Kept.{with_its_flags}
use Rattle.contraction.proofs.contraction.Contraction.expand.Goals as goal

pub children-init : goal.children-init
children-init g c =
    let levels = c.args.levels.now in
    let flags = c.args.self.now.flags in
    let first = c.next_contracted-line.result in
    let start = passed_start levels flags c.args.header c.last_child-last.result c.show.new.self.flags c.last_child-last.ensures.last
    (ap (λ (v : ViewLines). v.flags) c.show.ensures.flags
    ∙ ap (λ (v : ViewLines). lines_shown (c.args.header + 1) (c.last_child-last.result + 1) v.flags) c.set_expanded.ensures.flags) in
    record {
      flags = passed_over levels flags c.args.header (c.args.header + 1) first c.show.new.self.flags (omega arith) c.next_contracted-line.ensures.from start c.next_contracted-line.ensures.expanded;
      behind = omega (arith, c.next_contracted-line.ensures.from);
      lines = size_now levels flags c.args.header (c.args.header + 1) c.show.new.self.flags start;
      capacity = ap (λ (v : ViewLines). v.capacity) c.show.ensures.flags ∙ ap (λ (v : ViewLines). v.capacity) c.set_expanded.ensures.flags;
    }

pub children-smaller : goal.children-smaller
children-smaller g c =
    let inv = c.children.invariant in
    let under : c.children.line ≤ last_child c.args.levels.now c.args.header = omega (arith, c.last_child-last.ensures.last) in
    let next = passed_next c.args.levels.now c.args.self.now.flags c.args.header c.children.line c.close-next.result c.children.self.flags c.close-next.new.self.flags
    inv.behind (omega (arith, c.requires.1, c.requires.0)) under c.requires.0 inv.flags c.close-next.ensures.next (ap (λ (v : ViewLines). v.flags) c.close-next.ensures.flags) in
    omega (arith, next.1, c.next_contracted-line-in-children.ensures.from)

pub children-preserved : goal.children-preserved
children-preserved g c =
    let inv = c.children.invariant in
    let levels = c.args.levels.now in
    let flags = c.args.self.now.flags in
    let then = c.next_contracted-line-in-children in
    let under : c.children.line ≤ last_child levels c.args.header = omega (arith, c.last_child-last.ensures.last) in
    let next = passed_next levels flags c.args.header c.children.line c.close-next.result c.children.self.flags c.close-next.new.self.flags
    inv.behind (omega (arith, c.requires.1, c.requires.0)) under c.requires.0 inv.flags c.close-next.ensures.next (ap (λ (v : ViewLines). v.flags) c.close-next.ensures.flags) in
    record {
      flags = passed_over levels flags c.args.header c.close-next.result then.result c.close-next.new.self.flags (omega (arith, next.1, inv.behind)) then.ensures.from next.0 then.ensures.expanded;
      behind = omega (arith, next.1, inv.behind, then.ensures.from);
      lines = size_now levels flags c.args.header c.close-next.result c.close-next.new.self.flags next.0;
      capacity = ap (λ (v : ViewLines). v.capacity) c.close-next.ensures.flags ∙ inv.capacity;
    }

pub returns-clause-flags : goal.returns-clause-flags
returns-clause-flags g c =
    let inv = c.children.invariant in
    with_its_flags c.args.self.now c.children.self _
    (passed_all c.args.levels.now c.args.self.now.flags c.args.header c.children.line c.children.self.flags (omega (arith, c.last_child-last.ensures.last)) inv.flags)
    inv.capacity
