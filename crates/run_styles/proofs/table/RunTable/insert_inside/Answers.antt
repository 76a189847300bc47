use Rattle.run_styles.proofs.Names.{◌≢◌, ◌≡◌, ◌⊎◌, ◌∙◌, ◌-◌, sym, inl, inr, arith, Some, slice_get, true≢false}
use Rattle.run_styles.specs.Table.{start_of_run}
use Rattle.run_styles.proofs.Becoming.{grown_becomes}
use Rattle.run_styles.proofs.Inserting.{space_before, space_in}
use Rattle.run_styles.proofs.table.RunTable.insert_inside.Goals as goal
use Rattle.run_styles.proofs.table.RunTable.insert_inside.Goals.{else-start_of-place-via-then-start_of-place+else-not-has, else-start_of-place-via-else-start_of-place}

pub returns-then-not-has-clause-becomes : goal.returns-then-not-has-clause-becomes
returns-then-not-has-clause-becomes g c =
    let run = c.run_about-run.ensures in
    rw c.grow.ensures (grown_becomes 0 (c.run_about-run.result - 1) c.args.count (omega (arith, run.within))
    (space_before c.args.count c.args.default run c.requires.inside.0 c.requires.inside.1 (sym c.start_of.ensures ∙ c.if-start_of-place.true)
    (λ found. true≢false (sym (c.has.ensures.1 found) ∙ c.if-not-has.true))))

pub returns-else-start_of-place-clause-becomes : goal.returns-else-start_of-place-clause-becomes
returns-else-start_of-place-clause-becomes g c =
    let t = c.args.self.now in
    let run = c.run_about-run.ensures in
    let cause : (start_of_run t c.run_about-run.result ≢ c.args.place) ⊎ (slice_get t.values c.run_about-run.result ≡ Some c.args.default) =
    elim c.else-start_of-place.branch [
      | else-start_of-place-via-then-start_of-place+else-not-has w ↦ inr (w.has.ensures.0 w.if-not-has.false)
      | else-start_of-place-via-else-start_of-place w ↦ inl (λ e. w.if-start_of-place.false (c.start_of.ensures ∙ e))
    ] in
    rw c.grow-else-start_of-place.ensures (grown_becomes 0 c.run_about-run.result c.args.count run.within
    (space_in c.args.count c.args.default g.met.V.Eq.laws run c.requires.inside.0 c.requires.inside.1 cause))
