-- Steps: when a step of a pass may come, and what it tells.
pub mod SeatSteps
pub mod Moving
pub mod StepContracts
pub mod CallSteps
pub mod Exchanges
