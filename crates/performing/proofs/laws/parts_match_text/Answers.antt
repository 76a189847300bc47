use Rattle.performing.proofs.laws.parts_match_text.Goals as goal

pub returns-clause-indicators : goal.returns-clause-indicators
returns-clause-indicators c = rw (c.indicators.ensures.values, c.indicators.ensures.length) at c.length.ensures.each
