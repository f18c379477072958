-- Draws: in which order the calls of a run drew their numbers.
pub mod DrawnSums
pub mod DrawSteps
pub mod DrawRuns
pub mod DrawMoments
pub mod DrawTimes
pub mod DrawOrder
