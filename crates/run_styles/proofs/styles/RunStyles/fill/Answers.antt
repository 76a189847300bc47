use Rattle.run_styles.proofs.Names.{refl}
use Rattle.run_styles.specs.Table.{list_of}
use Rattle.run_styles.proofs.Filling.{filled-none, changed_is}
use Rattle.run_styles.proofs.styles.RunStyles.fill.Goals as goal

pub returns-then-count-eq0-clause-filled : goal.returns-then-count-eq0-clause-filled
returns-then-count-eq0-clause-filled g c = rw (c.if-count-eq0.true, filled-none c.args.self.now.values c.args.place c.args.value) refl

pub returns-clause-changed : goal.returns-clause-changed
returns-clause-changed g c =
    rw (← c.self.view_is, c.overwrite.ensures.becomes.list) (changed_is (list_of c.self.inside.table) c.args.place c.args.count c.in_ok-low.low c.in_ok-low.high c.args.value c.in_ok-low.ensures.some)
