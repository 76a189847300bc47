use Rattle.line_rows.proofs.Names.{ℕ, sym, ap, subst, ◌∙◌, HeadFrom, after_edits, first_or, Valued}
use Rattle.line_rows.proofs.LeastHeading.{edits_fine}
use Rattle.line_rows.proofs.fold_levels.FoldLevels.carry.Goals as goal

pub invariant_of-self : goal.invariant_of-self
invariant_of-self c =
    let d = c.self.inside in
    let edits = c.args.edits.now in
    record {
      base = ap (λ (v : Valued ℕ). v.default) c.carry.ensures ∙ c.self.invariant.base;
      least = subst (HeadFrom d.least) (sym (ap (λ (v : Valued ℕ). v.values) c.carry.ensures ∙ ap (λ base. after_edits (first_or base) edits d.values.values) c.self.invariant.base)) (edits_fine d.least edits d.values.values c.self.invariant.least);
    }
