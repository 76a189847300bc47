use Rattle.contraction.proofs.Names.{sym, ap, ◌∙◌, arith, ViewLines}
use Rattle.contraction.proofs.Kept.{with_its_flags}
use Rattle.contraction.proofs.AnyOrder.{opened_up, up_none, up_some, any_order}
use Rattle.contraction.proofs.contraction.Contraction.open_parents.Goals as goal

pub parents-preserved : goal.parents-preserved
parents-preserved g c =
    let inv = c.parents.invariant in
    let o = c.open.ensures in
    let levels = c.args.levels.now in
    record {
      flags =
          ap (λ (v : ViewLines). opened_up levels c.in-Some.parent v.flags) o.flags
          ∙ sym (up_some levels c.parents.inner c.in-Some.parent c.parents.self.flags c.in-Some.ensures.parent)
          ∙ inv.flags;
      within = omega (arith, inv.within, c.in-Some.ensures.before);
      lines = o.lines ∙ inv.lines;
      capacity = ap (λ (v : ViewLines). v.capacity) o.flags ∙ inv.capacity;
    }

pub returns-clause-flags : goal.returns-clause-flags
returns-clause-flags g c =
    let inv = c.parents.invariant in
    let levels = c.args.levels.now in
    with_its_flags c.args.self.now c.parents.self _
    (sym (up_none levels c.parents.inner c.parents.self.flags (sym c.in_default.is ∙ c.fold_parent.ensures.parent))
    ∙ inv.flags
    ∙ sym (any_order levels c.args.line c.args.self.now.flags (omega (arith, c.requires.0, c.requires.1)) (sym c.requires.0)))
    inv.capacity
