use Rattle.line_index.proofs.Names.{◌≡◌, ◌+◌, ◌++◌, sym, ◌∙◌, arith}
use Rattle.line_index.proofs.Added.{added_none, added_here}
use Rattle.line_index.proofs.adding.add_at.Goals as goal

pub returns-then-starts_at : goal.returns-then-starts_at
returns-then-starts_at g c =
    added_here c.args.text.types (c.args.text.before.now ++ c.args.text.after.now) c.args.base c.args.place c.args.first c.args.starts.now c.insert_reserved.new.self _ (sym c.starts_at.ensures ∙ c.if-starts_at.true) c.insert_reserved.ensures.inserted

pub returns : goal.returns
returns g c =
    added_none c.args.text.types (c.args.text.before.now ++ c.args.text.after.now) c.args.base c.args.place (c.args.place + 1) c.args.first c.args.starts.now
    (λ k a b. let same : k ≡ c.args.place = omega arith in rw same (sym c.starts_at.ensures ∙ c.if-starts_at.false))
