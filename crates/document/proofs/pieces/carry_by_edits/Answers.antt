use Rattle.document.proofs.Names.{◌∙◌}
use Rattle.document.proofs.pieces.carry_by_edits.Goals as goal

pub carry-requires : goal.carry-requires
carry-requires c = rw (c.as_slice.ensures ∙ c.edits.ensures) (record { lines = c.requires.lines; fits = c.requires.fits; room = c.requires.room })

pub returns : goal.returns
returns c = rw (← (c.as_slice.ensures ∙ c.edits.ensures)) (c.carry.ensures.rows, c.carry.ensures.room)
