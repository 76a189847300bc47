use Rattle.decorations.proofs.Names.{◌≡◌, ℕ, List, Option, Some, None, ap, sym, ◌∙◌, subst, arith, Runs, Decorated, run_about, IsKept}
use Rattle.decorations.proofs.Shown.{values_are}
use Rattle.decorations.proofs.RunEnds.{run_is, whole_run}
use Rattle.decorations.proofs.decorations.Decorations.run.Goals as goal

pub returns-in-Some : goal.returns-in-Some
returns-in-Some g c =
    let d = c.self.inside in
    let k = c.args.indicator in
    let runs = c.in-Some.runs.now in
    let size_is : d.size ≡ c.args.self.now.length = ap (λ (v : Decorated). v.length) c.self.view_is in
    let values = values_are c.args.self.now d.size d.slots.items k (Some runs) c.requires.indicator c.self.view_is c.in-Some.ensures.runs in
    let Q : Option (Runs ℕ) → Type 0 = IsKept d.size in
    let kept = subst Q (sym c.in-Some.ensures.runs) (c.self.invariant.kept k) in
    run_is runs.values c.args.place c.run.result.0 c.run.result.1 (omega (arith, kept.sized)) c.run.ensures.start c.run.ensures.end
    ∙ sym (ap (λ (vs : List ℕ). run_about vs c.args.place) values)

pub returns-in-None : goal.returns-in-None
returns-in-None g c =
    let d = c.self.inside in
    let size_is : d.size ≡ c.args.self.now.length = ap (λ (v : Decorated). v.length) c.self.view_is in
    let values = values_are c.args.self.now d.size d.slots.items c.args.indicator None c.requires.indicator c.self.view_is c.in-None.ensures.runs in
    whole_run d.size c.args.place (omega arith) ∙ sym (ap (λ (vs : List ℕ). run_about vs c.args.place) values)
