-- Lemmas.
pub mod Names
pub mod LineSteps
pub mod PieceLemmas
pub mod TextRoom
pub mod Growth
pub mod SteppedParts
pub mod LentSteps
pub mod StyledCells
pub mod MarkerLines
pub mod MarkerNumbers
pub mod Masks
