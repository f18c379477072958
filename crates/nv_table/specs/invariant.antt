-- The table's invariant, and what is so of a pass between its steps.
pub mod TableInvariant
pub mod Drawn
pub mod BetweenSteps
pub mod CoreLaws
pub mod Idle
