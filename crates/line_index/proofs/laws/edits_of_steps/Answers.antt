use Rattle.line_index.proofs.StepCarries.{steps_move}
use Rattle.line_index.proofs.laws.edits_of_steps.Goals as goal

pub returns-clause-moves : goal.returns-clause-moves
returns-clause-moves c = steps_move
