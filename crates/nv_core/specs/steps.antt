-- Steps: the operations, what each of them does, and which may come when; events and runs.
pub mod CleanerSteps
pub mod Ops
pub mod ControlSteps
pub mod PassSteps
pub mod Order
pub mod StepKinds
pub mod OrderLaws
pub mod Refusals
pub mod Events
pub mod Opening
pub mod Frames
