use Rattle.std.proofs.Common.{min, ap, ◌∙◌}
use Rattle.rising_numbers.proofs.Halving.{found_at}
use Rattle.rising_numbers.proofs.lookups.last_at_most.Goals as goal

pub returns-clause-last : goal.returns-clause-last
returns-clause-last g c =
    found_at c.args.numbers.now.numbers c.args.numbers.now.length c.args.place (g.P.Place.number c.from_usize-wanted.result) c.last_among.result
    c.length.ensures.sound (c.from_usize-wanted.ensures ∙ c.min.ensures ∙ ap (min c.args.place) c.length.ensures.length) c.last_among.ensures.last
