use Rattle.std.proofs.Common.{refl}
use Rattle.ed_model.specs.Steps.{Insert}
use Rattle.line_tests.proofs.line_index_tests.follow.Goals as goal

pub inserted-requires-clause-was : goal.inserted-requires-clause-was
inserted-requires-clause-was g c = record { old = c.args._old.now; step = Insert c.args.place c.args.bytes.now; made = (refl, refl); is = c.requires.was }

pub returns : goal.returns
returns g c = c.inserted.ensures.index (Insert c.args.place c.args.bytes.now) c.args._old.now (refl, refl) c.requires.was
